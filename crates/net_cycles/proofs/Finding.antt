-- The least solution of a graph's system is that of the graph.
use Rattle.std.proofs.Common.{◌≡◌, ℕ, suc, ◌<◌, Bool, false, List, [], ◌∷◌, length, refl, ap, ◌∙◌, subst, arith, inl, inr}
use Rattle.std.proofs.lemmas.Bool.{cases_Bool, cond-false, cond-true}
use Rattle.std.proofs.lemmas.List.{length-append}
use Rattle.est_kernel.specs.Statuses.{Status, known}
use Rattle.grc_graph.specs.PlainGraphs.{names_of}
use Rattle.grc_graph.specs.Wires.{Wire, same_wire}
use Rattle.grc_graph.proofs.Exports.{length-names}
use Rattle.grc_ternary.proofs.Exports.{plus_known}
use Rattle.grc_ternary.specs.LeastSolutions.{is_plus}
use Rattle.grc_ternary_gates.specs.Systems.{IsLeastSolution}
use Rattle.grc_ternary_gates.proofs.Exports.{least-of-wires}
use Rattle.grc_ternary_run.specs.Instants.{status_named}
use Rattle.grc_ternary_run.specs.Meanings.{meaning_in}
use Rattle.grc_ternary_run.specs.Numbers.{shape}
use Rattle.grc_ternary_run.specs.Systems.{equation_at}
use Rattle.grc_ternary_run.proofs.Exports.{least-named, named-there}
use Rattle.net_unroll.specs.Laws.{KnownSchedulesSettle}
use Rattle.net_unroll.specs.Schedules.{all_false, nothing_known, statuses_along, truths_along}
use Rattle.net_cycles.specs.Found.{SchedulesFindLeast}

-- a wire that is named has the status of its number, any other is false
named : (ws : List Wire) (V : ℕ → Status) (u : Wire) → ((v : ℕ) → v < length ws → (b : Bool) × (V v ≡ known b))
    → (b : Bool) × (status_named ws V u ≡ known b)
named [] V u k = (false, refl)
named (w ∷ ws) V u k = elim (cases_Bool (same_wire u w)) [
  | inl here ↦
      let first = k 0 (omega arith) in
      (first.0, cond-true (same_wire u w) (V 0) (status_named ws (λ n. V (suc n)) u) here ∙ first.1)
  | inr other ↦
      let rest = named ws (λ n. V (suc n)) u (λ v low. k (suc v) (omega arith)) in
      (rest.0, cond-false (same_wire u w) (V 0) (status_named ws (λ n. V (suc n)) u) other ∙ rest.1)
]

pub schedules_find_least_lem : KnownSchedulesSettle → SchedulesFindLeast
schedules_find_least_lem law g w y t q sources schedule words differ plain_all is are fits whole =
    let V = statuses_along y.gates.items sources nothing_known schedule in
    let B = truths_along y.gates.items sources all_false schedule in
    let s = law y.gates.items sources schedule fits whole in
    let front = subst (λ gs. IsLeastSolution gs sources V) is.whole s.least in
    let low : (v : ℕ) → v < length g.wires.items → v < length y.gates.items = λ v h.
    (let e = is.gates.each in omega (arith, ap length is.whole, length-append is.front is.table)) in
    let names = length-names g in
    record {
      least = least-named g w is.counts t sources q V words differ plain_all are
          (least-of-wires (shape g is.counts) is.front is.table (λ v. meaning_in g w is.counts (equation_at g v)) sources V is.gates are.fixed front);
      known = λ u. named (names_of g) V u (λ v h. (B v, s.truths v (low v (omega arith))));
      truths = λ v h. ap is_plus (named-there (names_of g) V differ v (omega arith) ∙ s.truths v (low v h)) ∙ plus_known (B v);
    }
