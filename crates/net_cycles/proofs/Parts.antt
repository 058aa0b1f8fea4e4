-- The parts of a circuit, one after another.
use Rattle.std.proofs.Common.{◌≡◌, ℕ, suc, ◌+◌, ◌<◌, ◌≤◌, ◌^◌, Bool, false, List, [], ◌∷◌, ◌++◌, length, map, take, slice_index_or, refl, sym}
use Rattle.std.proofs.Common.{ap, ◌∙◌, subst, arith}
use Rattle.std.proofs.Common.{IsTrue, All}
use Rattle.std.proofs.lemmas.List.{get_or-take, length-append, length-map, length-take-le}
use Rattle.base_types.specs.declared.indices.NetId.{NetId}
use Rattle.grc_graph.specs.declared.formulas.Formula.{Formula}
use Rattle.grc_graph.specs.declared.graph.Graph.{Graph}
use Rattle.grc_graph.specs.PlainGraphs.{names_of, plain_graph}
use Rattle.grc_ternary.specs.LeastSolutions.{Statuses, is_plus, true_wires}
use Rattle.grc_formulas.specs.declared.table.Source.{Source}
use Rattle.grc_formulas.specs.declared.table.Words.{Words}
use Rattle.grc_formulas.specs.Occasions.{FalseOffWires, Occasion, state_of}
use Rattle.grc_formulas.specs.Rows.{source_fits}
use Rattle.grc_formulas.specs.WordLaws.{AreWordsOf, early_bounds, late_bounds, value_of}
use Rattle.net_gen.specs.Senses.{start_of}
use Rattle.net_ir.specs.Gates.{value_in}
use Rattle.net_cycles.specs.declared.base.Base.{Base}
use Rattle.grc_ternary_gates.specs.Systems.{gate_fits}
use Rattle.net_cycles.specs.Bases.{numbered_nets, CarryWires, GrowsOn, IsBase, IsReady, RowsAdded, RowsFit, bounds_of, form_value}
use Rattle.net_cycles.specs.Bases.{source_net, sources_of}
use Rattle.net_cycles.proofs.RowSteps.{base-stays, source-low, source-says}
use Rattle.grc_ternary_gates.specs.declared.gates.System.{System}
use Rattle.grc_ternary_run.proofs.Exports.{named-off}
use Rattle.grc_ternary_run.specs.Instants.{AreSources, Instant}
use Rattle.net_unroll.specs.declared.growing.Growing.{Growing}
use Rattle.net_unroll.specs.Copies.{AreNets, CanUnroll, Grows, IsUnrolled, net_at, next_number, values_at, values_of}
use Rattle.net_unroll.specs.Schedules.{all_false, nothing_known, statuses_along, truths_along}
use Rattle.net_unroll.proofs.Exports.{grows-both, grows-value, nets-stay}
use Rattle.grc_graph.specs.Walk.{State}
use Rattle.net_cycles.specs.Found.{FindsLeast, SchedulesFindLeast, SourceNetsAreSources, wires_along}
use Rattle.net_cycles.specs.Drawings.{CanDraw, IsWhollyKnown, SaysLeast, front_of, occasion_of}
use Rattle.net_cycles.proofs.Fitting.{append-nets, cons-nets, length-numbered, mapped-are, no-nets, numbered-are, row-more, source-more, values-stay}
use Rattle.net_gen.proofs.Exports.{length-start}

-- ---- before the first row

pub ready-first : (g : Graph) (w : Words) (b : Base) (d : Growing) → AreWordsOf g w → IsBase g b d → IsReady g w b [] [] d
ready-first g w b d words base = record {
  words = words;
  base = base;
  wire_nets = no-nets d;
  row_nets = record { nets = no-nets d; says = λ t c r low. absurd (omega arith) };
}

pub early-rows : (g : Graph) (w : Words) (b : Base) (d : Growing) → AreWordsOf g w → IsBase g b d → RowsFit b w 0 0 w.early
early-rows g w b d words base k row from low =
    let l = base.leaves in
    let e = base.given in
    row-more (early_bounds g k) (bounds_of b 0 k) (slice_index_or w.rows.items k row)
    (record { leaves = omega arith; given = omega arith; wires = omega arith; rows = omega arith }) (words.fit.early_rows k row low)

pub selected-fit : (g : Graph) (w : Words) (b : Base) (d : Growing) (rows : ℕ) → AreWordsOf g w → IsBase g b d → w.early ≤ rows
    → All (λ (s : Source). IsTrue (source_fits (bounds_of b 0 rows) s)) w.selected.items
selected-fit g w b d rows words base few = λ k s low.
    let l = base.leaves in
    source-more (early_bounds g w.early) (bounds_of b 0 rows) (slice_index_or w.selected.items k s)
    (record { leaves = omega arith; given = omega arith; wires = omega arith; rows = few }) (words.fit.selected k s low)

pub few-before : (g : Graph) (b : Base) (d : Growing) → IsBase g b d → b.given + 1 + b.leaves < 2 ^ 32
few-before g b d base = let e = base.given in let l = base.leaves in let f = base.few in omega arith

-- ---- the copies

pub can-unroll : (g : Graph) (w : Words) (y : System) (b : Base) (schedule : List ℕ) (rs : List NetId) (d : Growing) → CanDraw g w y schedule
    → IsReady g w b [] rs d → w.early ≤ length rs → CanUnroll d y.gates.items (sources_of b w rs) b.no schedule
can-unroll g w y b schedule rs d can ready early = record {
  growing = ready.base.growing;
  fit = subst (λ n. All (λ x. IsTrue (gate_fits (length y.gates.items) n x)) y.gates.items) many y.fit;
  source_nets = cons-nets d b.no (b.yes ∷ (record { 0 = b.given } ∷ others)) ready.base.no.low
      (cons-nets d b.yes (record { 0 = b.given } ∷ others) ready.base.yes.low
      (cons-nets d (record { 0 = b.given }) others
      (let e = ready.base.given in let f = ready.base.first in omega arith)
      (append-nets d (numbered_nets b.given) (map (source_net b [] rs) w.selected.items)
      (numbered-are d b.given (let e = ready.base.given in let f = ready.base.first in omega arith))
      (mapped-are d (source_net b [] rs) w.selected.items (λ k s low.
      source-low g w b [] rs d ready (slice_index_or w.selected.items k s) (selected-fit g w b d (length rs) ready.words ready.base early k s low))))));
  never = ready.base.no;
  nodes = can.schedule_fits;
}
  where
    others : List NetId
    others = numbered_nets b.given ++ map (source_net b [] rs) w.selected.items

    many : y.sources ≡ length (sources_of b w rs)
    many =
        let is = can.system in
        let s = is.sources in
        let given = is.counted.given in
        let statements = is.counted.statements in
        let e = ready.base.given in
        let n = length-numbered b.given in
        let m = length-map w.selected.items (source_net b [] rs) in
        let a = length-append (numbered_nets b.given) (map (source_net b [] rs) w.selected.items) in
        omega arith

-- the copies of the wires
pub ready-copies : (g : Graph) (w : Words) (y : System) (b : Base) (schedule : List ℕ) (rs ss nodes copies : List NetId) (old new : Growing)
    → IsReady g w b [] rs old → IsUnrolled old new y.gates.items ss nodes schedule → copies ≡ take (length g.wires.items) nodes
    → length g.wires.items ≤ length nodes → IsReady g w b copies rs new
ready-copies g w y b schedule rs ss nodes copies old new ready u is few = record {
  words = ready.words;
  base = base-stays g b old new (length schedule) ready.base u.grows;
  wire_nets = λ i x low.
      let n = length-take-le (length g.wires.items) nodes few in
      let m = ap length is in
      subst (λ (y : NetId). y.0 < next_number new) (sym (ap (λ l. slice_index_or l i x) is ∙ get_or-take (length g.wires.items) nodes i x (omega arith)))
      (u.made.nets i x (omega arith));
  row_nets = record {
    nets = nets-stay old new (length schedule) rs u.grows ready.row_nets.nets;
    says = λ t c r low.
        grows-value old new (length schedule) (start_of g t) (net_at rs r).0 u.grows (length-start g t ∙ sym ready.base.first)
        (ready.row_nets.nets r (record { 0 = 0 }) low)
        ∙ ready.row_nets.says t (record { off = c.off; says = λ v h. absurd (omega arith) }) r low;
  };
}

pub late-rows : (g : Graph) (w : Words) (b : Base) (d : Growing) (wires from : ℕ) → AreWordsOf g w → IsBase g b d → length g.wires.items ≤ wires
    → RowsFit b w wires from (length w.rows.items)
late-rows g w b d wires from words base few k row above low =
    let l = base.leaves in
    let e = base.given in
    row-more (late_bounds g k) (bounds_of b wires k) (slice_index_or w.rows.items k row)
    (record { leaves = omega arith; given = omega arith; wires = few; rows = omega arith }) (words.fit.rows k row low)

-- ---- the whole

map-same : (f h : Source → Bool) (ss : List Source) → ((k : ℕ) (d : Source) → k < length ss → f (slice_index_or ss k d) ≡ h (slice_index_or ss k d))
    → map f ss ≡ map h ss
map-same f h [] same = refl
map-same f h (s ∷ ss) same =
    let here = same 0 s (omega arith) in
    let rest = map-same f h ss (λ k d low. same (suc k) d (omega arith)) in
    λ i. here i ∷ rest i

module _ (find : SchedulesFindLeast) (given : SourceNetsAreSources) (g : Graph) (w : Words) (y : System) (b : Base) (schedule : List ℕ)
    (can : CanDraw g w y schedule)
    (d1 d2 d3 d4 : Growing) (rs1 ss nodes copies rs3 next : List NetId) (one : IsReady g w b [] rs1 d1) (early : w.early ≤ length rs1)
    (same : ss ≡ sources_of b w rs1) (u : IsUnrolled d1 d2 y.gates.items ss nodes schedule) (taken : copies ≡ take (length g.wires.items) nodes)
    (late : RowsAdded g w b d2 d3 copies rs3 (length w.rows.items)) (last : GrowsOn d3 d4)
    (following : (t : Occasion g) → CarryWires g copies d3 t → (k : ℕ) (f : Formula) → k < length g.next.items
    → value_in (values_of d4 (start_of g t)) (net_at next k).0 ≡ form_value g t (slice_index_or g.next.items k f)) where
  nets-one : AreNets d1 ss
  nets-one = subst (AreNets d1) (sym same) (can-unroll g w y b schedule rs1 d1 can one early).source_nets

  more : Grows d1 d4 (length schedule + (late.grew.count + last.count))
  more = grows-both d1 d2 d4 (length schedule) (late.grew.count + last.count) u.grows
      (grows-both d2 d3 d4 late.grew.count last.count late.grew.grows last.grows)

  wires-many : length g.wires.items ≤ length y.gates.items
  wires-many = let is = can.system in let e = is.gates.each in omega (arith, ap length is.whole, length-append is.front is.table)

  copies-many : length copies ≡ length g.wires.items
  copies-many = ap length taken ∙ length-take-le (length g.wires.items) nodes (let e = u.made.each in let m = wires-many in omega arith)

  pub late-fit : (s : Source) → IsTrue (source_fits (late_bounds g (length w.rows.items)) s) → IsTrue (source_fits (bounds_of b (length copies) (length rs3)) s)
  late-fit s fits =
      let l = one.base.leaves in
      let e = one.base.given in
      let c = copies-many in
      let m = late.many in
      source-more (late_bounds g (length w.rows.items)) (bounds_of b (length copies) (length rs3)) s
      (record { leaves = omega arith; given = omega arith; wires = omega arith; rows = omega arith }) fits

  pub drawn-base : IsBase g b d4
  drawn-base = base-stays g b d1 d4 (length schedule + (late.grew.count + last.count)) one.base more

  pub drawn-reads : (s : Source) → IsTrue (source_fits (late_bounds g (length w.rows.items)) s) → (source_net b copies rs3 s).0 < next_number d4
  drawn-reads s fits =
      let low = source-low g w b copies rs3 d3 late.ready s (late-fit s fits) in
      let m = last.grows.many in
      omega arith

  pub drawn-can : CanUnroll d4 y.gates.items ss b.no schedule
  drawn-can =
      let c = can-unroll g w y b schedule rs1 d1 can one early in
      record {
        growing = drawn-base.growing;
        fit = subst (λ l. All (λ x. IsTrue (gate_fits (length y.gates.items) (length l) x)) y.gates.items) (sym same) c.fit;
        source_nets = nets-stay d1 d4 (length schedule + (late.grew.count + last.count)) ss more nets-one;
        never = drawn-base.no;
        nodes = can.schedule_fits;
      }

  pub drawn-says : (t : Instant g) → IsWhollyKnown g y d4 ss schedule t → SaysLeast g w b d4 copies rs3 next t
  drawn-says t known = record {
    statuses = T;
    least = finds.least;
    known = finds.known;
    outputs = map-same (λ s. value_in (values_of d4 front) (source_net b copies rs3 s).0) (value_of g w o) w.outputs.items
        (λ k x low. source-value (slice_index_or w.outputs.items k x) (late-fit (slice_index_or w.outputs.items k x) (can.words.fit.outputs k x low)))
        ∙ can.words.outputs o off;
    paused = source-value w.paused (late-fit w.paused can.words.fit.paused) ∙ can.words.paused o off;
    next_is = λ k f low. following o carry-three k f low;
  }
    where
      front : List Bool
      front = front_of g t

      wide : length front ≡ d1.first
      wide = length-start g (occasion_of g t (λ x. false)) ∙ sym one.base.first

      S : List Bool
      S = values_at d4 ss front

      S-is : S ≡ values_at d1 ss front
      S-is = values-stay d1 d4 (length schedule + (late.grew.count + last.count)) ss front more wide nets-one

      q : State
      q = state_of (plain_graph g).leaves t.boot t.bits

      are : AreSources g can.system.counts q t S
      are = subst (AreSources g can.system.counts q t) (sym (S-is ∙ ap (λ l. values_at d1 l front) same))
          (given g w y can.system b rs1 d1 t one early)

      finds : FindsLeast g y q t.event S schedule
      finds = find g w y t q S schedule can.words can.differ can.plain can.system are can.schedule_fits known

      T : Statuses
      T = wires_along g y S schedule

      o : Occasion g
      o = occasion_of g t (true_wires T)

      off : FalseOffWires g (true_wires T)
      off = λ x h. ap is_plus (named-off (names_of g) (statuses_along y.gates.items S nothing_known schedule) x h)

      carry-three : CarryWires g copies d3 o
      carry-three = record {
        off = off;
        says = λ v low.
            let c = copies-many in
            let m = wires-many in
            let each = u.made.each in
            let place : net_at copies v ≡ net_at nodes v = ap (λ l. net_at l v) taken
            ∙ get_or-take (length g.wires.items) nodes v (record { 0 = 0 }) (omega arith) in
            grows-value d2 d3 late.grew.count front (net_at copies v).0 late.grew.grows (wide ∙ sym u.grows.first)
            (subst (λ (n : NetId). n.0 < next_number d2) (sym place) (u.made.nets v (record { 0 = 0 }) (omega arith)))
            ∙ ap (λ (n : NetId). value_in (values_of d2 front) n.0) place
            ∙ u.made.truths front wide v (omega arith)
            ∙ ap (λ l. truths_along y.gates.items l all_false schedule v) (sym S-is)
            ∙ sym (finds.truths v (omega arith));
      }

      source-value : (s : Source) → IsTrue (source_fits (bounds_of b (length copies) (length rs3)) s)
          → value_in (values_of d4 front) (source_net b copies rs3 s).0 ≡ value_of g w o s
      source-value s fits =
          let r = late.ready in
          grows-value d3 d4 last.count front (source_net b copies rs3 s).0 last.grows (wide ∙ sym u.grows.first ∙ sym late.grew.grows.first)
          (source-low g w b copies rs3 d3 r s fits)
          ∙ source-says g w b copies rs3 d3 r.base r.row_nets o carry-three s fits
