-- What an instant shows, as sources.
use Rattle.std.proofs.Common.{◌≡◌, ℕ, ◌+◌, List, [], ◌∷◌, ◌++◌, refl, sym, subst, arith, Option, inl, inr}
use Rattle.std.proofs.lemmas.Bool.{cases_lt}
use Rattle.std.proofs.lemmas.List.{get_or_append_left, get_or_push, length_push}
use Rattle.base_types.specs.declared.indices.WireId.{WireId}
use Rattle.est_kernel.specs.Plain.{program_of}
use Rattle.grc_graph.specs.declared.graph.Graph.{Graph}
use Rattle.grc_graph.specs.declared.neighbours.Neighbours.{Neighbours}
use Rattle.grc_graph.specs.Layers.{Resumed, Started}
use Rattle.grc_graph.specs.Neighbouring.{names_in}
use Rattle.grc_graph.specs.PlainGraphs.{names_of}
use Rattle.grc_graph.specs.WireTables.{HasName}
use Rattle.grc_graph.specs.Wires.{Out, End}
use Rattle.grc_formulas.specs.declared.table.Source.{Source}
use Rattle.grc_formulas.specs.declared.table.Row.{Row}
use Rattle.grc_formulas.specs.Building.{Says, RowsFit, with_either, either_source}
use Rattle.grc_formulas.specs.EndLists.{OutputsSaid, PausedMade}
use Rattle.grc_formulas.specs.Testing.{wire_source}
use Rattle.grc_formulas.specs.WordLaws.{late_bounds}
use Rattle.grc_formulas.proofs.RowCounts.{either-few}
use Rattle.grc_formulas.proofs.Saying.{makes-either}
use Rattle.grc_formulas.proofs.TestSteps.{wire-says}

pub outputs-begun : (g : Graph) → OutputsSaid g 0 []
outputs-begun g = record { each = refl; says = λ k d rs h. absurd (omega arith) }

pub outputs-step : (g : Graph) (near : Neighbours) (count s : ℕ) (outputs : List Source) (r : Option WireId) (x : Source) → names_in near ≡ names_of g
    → OutputsSaid g count outputs → s ≡ (program_of g.program).inputs + count → HasName (names_in near) r (Out s) → x ≡ wire_source r
    → OutputsSaid g (count + 1) (outputs ++ x ∷ [])
outputs-step g near count s outputs r x names m number found is = record {
  each = omega (arith, m.each, length_push outputs x);
  says = λ k d rs h. elim (cases_lt k count) [
    | inl less ↦
        subst (λ y. Says g (late_bounds g 0) rs y (λ t. t.valuation (Out ((program_of g.program).inputs + k))))
        (sym (get_or_append_left outputs (x ∷ []) d k (omega (arith, m.each)))) (m.says k d rs less)
    | inr more ↦
        let same : s ≡ (program_of g.program).inputs + k = omega arith in
        subst (λ y. Says g (late_bounds g 0) rs y (λ t. t.valuation (Out ((program_of g.program).inputs + k))))
        (sym (get_or_push outputs x d k (omega (arith, m.each))))
        (subst (λ y. Says g (late_bounds g 0) rs y (λ t. t.valuation (Out ((program_of g.program).inputs + k)))) (sym is)
        (subst (λ n. Says g (late_bounds g 0) rs (wire_source r) (λ t. t.valuation (Out n))) same (wire-says g near r (Out s) rs names found)))
  ];
}

pub paused-made : (g : Graph) (near : Neighbours) (q r : Option WireId) (a b paused : Source) (old new : List Row) → names_in near ≡ names_of g
    → RowsFit (late_bounds g 0) old → HasName (names_in near) q (End 0 Resumed 1) → HasName (names_in near) r (End 0 (Started 0) 1)
    → a ≡ wire_source q → b ≡ wire_source r → new ≡ with_either old a b → paused ≡ either_source old a b → PausedMade g old new paused
paused-made g near q r a b paused old new names f h k at bt grown fresh =
    let e = late_bounds g 0 in
    let first : Says g e old a (λ t. t.valuation (End 0 Resumed 1)) =
    subst (λ s. Says g e old s (λ t. t.valuation (End 0 Resumed 1))) (sym at) (wire-says g near q (End 0 Resumed 1) old names h) in
    let second : Says g e old b (λ t. t.valuation (End 0 (Started 0) 1)) =
    subst (λ s. Says g e old s (λ t. t.valuation (End 0 (Started 0) 1))) (sym bt) (wire-says g near r (End 0 (Started 0) 1) old names k) in
    let made = makes-either g e old a b (λ t. t.valuation (End 0 Resumed 1)) (λ t. t.valuation (End 0 (Started 0) 1)) f first second in
    let whole = with_either old a b in
    let done : PausedMade g old whole (either_source old a b) = record { extends = made.extends; few = either-few old a b; says = made.says } in
    subst (λ rs. PausedMade g old rs paused) (sym grown) (subst (λ s. PausedMade g old whole s) (sym fresh) done)
