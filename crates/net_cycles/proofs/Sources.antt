-- The nets of a system's sources have the values of the instant.
use Rattle.std.proofs.Common.{◌≡◌, ℕ, ◌+◌, ◌-◌, ◌<◌, ◌≤◌, Bool, true, false, nat_lt, if◌then◌else◌, min, List, [], ◌∷◌, ◌++◌, length, map}
use Rattle.std.proofs.Common.{slice_index_or}
use Rattle.std.proofs.Common.{refl, sym, ap, ◌∙◌, arith, IsTrue}
use Rattle.std.proofs.lemmas.Bool.{ltb-false, ltb-true, lt-ltb}
use Rattle.std.proofs.lemmas.List.{get_or-append-add, get_or-map, get_or_append_left, get_or_past, length-append, length-map}
use Rattle.std.proofs.lemmas.List.FromFn.{get_or-map-range_with_len}
use Rattle.base_types.specs.declared.indices.NetId.{NetId}
use Rattle.est_kernel.specs.Reactions.{is_given}
use Rattle.grc_graph.specs.declared.graph.Graph.{Graph}
use Rattle.grc_graph.specs.PlainGraphs.{plain_graph}
use Rattle.grc_graph.specs.Readings.{state_holds_at}
use Rattle.grc_evaluate.proofs.Exports.{boot-is}
use Rattle.grc_formulas.specs.declared.table.Source.{Source}
use Rattle.grc_formulas.specs.declared.table.Source.TheVariants as sources
use Rattle.grc_formulas.specs.declared.table.Words.{Words}
use Rattle.grc_formulas.specs.Occasions.{Occasion, state_of}
use Rattle.grc_formulas.specs.Rows.{source_fits}
use Rattle.grc_formulas.specs.WordLaws.{early_bounds, selected_source}
use Rattle.net_ir.specs.Gates.{value_in}
use Rattle.net_ir.proofs.Exports.{value_in-gate_values}
use Rattle.grc_ternary_run.proofs.Exports.{behind}
use Rattle.net_cycles.proofs.Fitting.{length-numbered}
use Rattle.net_cycles.specs.declared.base.Base.{Base}
use Rattle.net_cycles.specs.Bases.{CarryWires, IsReady, bounds_of, numbered_nets, source_net, sources_of}
use Rattle.net_cycles.proofs.RowSteps.{source-says}
use Rattle.grc_ternary_gates.specs.declared.gates.System.{System}
use Rattle.grc_ternary_run.specs.Instants.{AreSources, Instant}
use Rattle.grc_ternary_run.specs.Numbers.{input_number, selected_number}
use Rattle.grc_ternary_run.specs.Systems.{IsSystemOf}
use Rattle.net_unroll.specs.declared.growing.Growing.{Growing}
use Rattle.net_unroll.specs.Copies.{values_at, values_of}
use Rattle.net_cycles.specs.Found.{SourceNetsAreSources}
use Rattle.net_gen.proofs.Exports.{length-start}

abbrev net_of : ℕ → NetId
net_of n = record { 0 = n }

module _ (g : Graph) (w : Words) (y : System) (is : IsSystemOf g w y) (b : Base) (rs : List NetId) (d : Growing) (t : Instant g) (ready : IsReady g w b [] rs d)
    (early : w.early ≤ length rs) where
  -- the instant, with no wire true
  o : Occasion g
  o = record {
    boot = t.boot;
    bits = t.bits;
    event = t.event;
    valuation = λ u. false;
    one_per_leaf = t.one_per_leaf;
    one_per_given = t.one_per_given;
    unselected = t.unselected;
  }

  abbrev front : List Bool
  front = t.event ++ (t.boot ∷ t.bits)

  abbrev V : NetId → Bool
  V n = value_in (values_of d front) n.0

  abbrev N : List NetId
  N = numbered_nets b.given

  abbrev R : List NetId
  R = map (source_net b [] rs) w.selected.items

  given : b.given ≡ length t.event
  given = ready.base.given ∙ sym t.one_per_given

  before : (k : ℕ) → k < length front → V (net_of k) ≡ slice_index_or front k false
  before k low = value_in-gate_values front d.list.items k low

  wide : length front ≡ d.first
  unfolding o
  wide = length-start g o ∙ sym ready.base.first

  boot-value : V (net_of b.given) ≡ t.boot
  boot-value =
      let place : b.given ≡ length t.event + 0 = let e = given in omega arith in
      before b.given (let e = given in omega (arith, length-append t.event (t.boot ∷ t.bits)))
      ∙ ap (λ k. slice_index_or front k false) place ∙ get_or-append-add t.event (t.boot ∷ t.bits) 0 false

  -- the place after the first three
  third : (k : ℕ) (n : NetId) → k < length (N ++ R) → slice_index_or (N ++ R) k (net_of 0) ≡ n
      → slice_index_or (values_at d (sources_of b w rs) front) (3 + k) false ≡ V n
  third k n low at =
      behind (V b.no) (V b.yes) (V (net_of b.given)) (map V (N ++ R)) k
      ∙ get_or-map V (N ++ R) k (net_of 0) false low ∙ ap V at

  many : length (N ++ R) ≡ b.given + length w.selected.items
  many = length-append N R ∙ (let n = length-numbered b.given in let r = length-map w.selected.items (source_net b [] rs) in omega arith)

  inputs-are : (s : ℕ) → slice_index_or (values_at d (sources_of b w rs) front) (input_number is.counts s) false ≡ is_given t.event s
  inputs-are s = by (nat_lt s is.counts.given) refl where
    by : (x : Bool) → nat_lt s is.counts.given ≡ x
        → slice_index_or (values_at d (sources_of b w rs) front) (if x then 3 + s else 0) false ≡ is_given t.event s
    by true e =
        let low = ltb-true s is.counts.given e in
        let counted = is.counted.given in
        let base = ready.base.given in
        let g1 = given in
        let n = length-numbered b.given in
        let m = many in
        let at = get_or_append_left N R (net_of 0) s (omega arith)
        ∙ get_or-map-range_with_len net_of 0 b.given s s (net_of 0) (omega arith) (omega arith) in
        third s (net_of s) (omega arith) at
        ∙ before s (omega (arith, length-append t.event (t.boot ∷ t.bits)))
        ∙ get_or_append_left t.event (t.boot ∷ t.bits) false s (omega arith)
    by false e =
        let high = ltb-false s is.counts.given e in
        let counted = is.counted.given in
        let all = t.one_per_given in
        ready.base.no.never front wide ∙ sym (get_or_past t.event s false (omega arith))

  early-fits : (s : Source) → IsTrue (source_fits (early_bounds g w.early) s) → IsTrue (source_fits (bounds_of b 0 (length rs)) s)
  early-fits (sources.Const c) fits = refl
  early-fits (sources.Leaf k) fits = let l = ltb-true k (length g.next.items) fits in let e = ready.base.leaves in lt-ltb k b.leaves (omega arith)
  early-fits (sources.Input s) fits = let l = ltb-true s.0 0 fits in absurd (omega arith)
  early-fits (sources.Wire v) fits = let l = ltb-true v.0 0 fits in absurd (omega arith)
  early-fits (sources.Row r) fits = let l = ltb-true r w.early fits in let e = early in lt-ltb r (length rs) (omega arith)

  carries : CarryWires g [] d o
  unfolding o
  carries = record { off = λ u h. refl; says = λ v low. absurd (omega arith) }

  selected-are : (n : ℕ) → slice_index_or (values_at d (sources_of b w rs) front) (selected_number is.counts n) false
      ≡ state_holds_at (state_of (plain_graph g).leaves t.boot t.bits) (plain_graph g).body n
  unfolding o
  selected-are n =
      let at = min n (length w.selected.items - 1) in
      let some = ready.words.one_per_statement in
      let low : at < length w.selected.items = omega arith in
      let place : selected_number is.counts n ≡ 3 + (length N + at) =
      (λ i. 3 + (is.counted.given ∙ sym ready.base.given ∙ sym (length-numbered b.given)) i + min n (is.counted.statements i - 1)) ∙ omega arith in
      let s = selected_source w n in
      let l = length-numbered b.given in
      let m = many in
      let here = get_or-append-add N R at (net_of 0) ∙ get_or-map (source_net b [] rs) w.selected.items at (sources.Const false) (net_of 0) low in
      ap (λ k. slice_index_or (values_at d (sources_of b w rs) front) k false) place
      ∙ third (length N + at) (source_net b [] rs s) (omega arith) here
      ∙ source-says g w b [] rs d ready.base ready.row_nets o carries s (early-fits s (ready.words.fit.selected at (sources.Const false) low))
      ∙ ready.words.selected o n carries.off

  pub sources-are : AreSources g is.counts (state_of (plain_graph g).leaves t.boot t.bits) t (values_at d (sources_of b w rs) front)
  sources-are = record {
    fixed = record { zero = ready.base.no.never front wide; one = ready.base.yes.always front wide };
    boot = boot-value ∙ boot-is (plain_graph g).leaves t.boot t.bits;
    input = inputs-are;
    selected = selected-are;
  }

pub source_nets_are_sources_lem : SourceNetsAreSources
source_nets_are_sources_lem g w y is b rows d t ready early = sources-are g w y is b rows d t ready early
