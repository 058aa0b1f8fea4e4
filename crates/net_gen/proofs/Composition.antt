-- The whole circuit: from the constants over the rows and wires to the next values.
use Rattle.std.proofs.Common.{◌≡◌, ℕ, ◌+◌, ◌<◌, ◌≤◌, List, [], ◌∷◌, ◌++◌, length, map, take, slice_index_or, refl, sym, ap, ◌∙◌, subst, arith}
use Rattle.std.specs.List.{sum_by}
use Rattle.std.proofs.lemmas.List.{take_all}
use Rattle.base_types.specs.declared.indices.NetId.{NetId}
use Rattle.base_types.specs.declared.indices.WireId.{WireId}
use Rattle.grc_graph.specs.Formulas.{Formula}
use Rattle.grc_graph.specs.declared.graph.Graph.{Graph}
use Rattle.grc_graph.specs.PlainGraphs.{names_of}
use Rattle.grc_graph.specs.Reads.{IsReadingOrder}
use Rattle.grc_graph.specs.WireOrders.{wire_at}
use Rattle.grc_graph.proofs.Exports.{length-names, place-of}
use Rattle.grc_formulas.specs.declared.table.Words.{Words}
use Rattle.grc_formulas.specs.WordLaws.{AreWordsOf}
use Rattle.net_ir.specs.Gates.{carried}
use Rattle.net_gen.specs.Costs.{wire_cost, gates_at_most}
use Rattle.grc_graph.specs.GateCosts.{cost_of}
use Rattle.net_gen.specs.Drawings.{Drawing, Placed}
use Rattle.net_gen.specs.Growing.{spent}
use Rattle.net_gen.specs.Making.{Begun, RowsMade, WiresMade, NextMade, CircuitMade}
use Rattle.net_gen.specs.Readiness.{RowsPlaced, WiresPlaced}
use Rattle.net_gen.proofs.Lowering.{placed-stays}

-- all wires have their nets once the whole order has
pub wires-placed : (g : Graph) (w : Words) (old new : Drawing) (forms : List Formula) (order : List WireId) → WiresMade g w old new order (length order)
    → IsReadingOrder (names_of g) forms order → WiresPlaced new (length g.wires.items)
wires-placed g w old new forms order m o = λ v low.
    let once = o.each_once v (omega (arith, length-names g)) in
    let at = place-of order v (omega arith) in
    subst (Placed new.wires) at.2 (m.placed at.0 at.1)

pub early-stay : (g : Graph) (w : Words) (one two : Drawing) (order : List WireId) (count early : ℕ) → RowsPlaced one early → WiresMade g w one two order count
    → RowsPlaced two early
early-stay g w one two order count early p m = λ k h. placed-stays one.rows two.rows k m.rows (p k h)

pub wires-stay : (g : Graph) (w : Words) (two three : Drawing) (from to count : ℕ) → WiresPlaced two count → RowsMade g w two three from to →
    WiresPlaced three count
wires-stay g w two three from to count p m = λ v h. placed-stays two.wires three.wires v m.wires (p v h)

pub circuit-made : (g : Graph) (w : Words) (d0 d1 d2 d3 d4 : Drawing) (forms : List Formula) (order : List WireId) (nets : List NetId)
    → IsReadingOrder (names_of g) forms order → AreWordsOf g w → Begun g w d0 → RowsMade g w d0 d1 0 w.early
    → WiresMade g w d1 d2 order (length order) → RowsMade g w d2 d3 w.early (length w.rows.items) → NextMade g w d3 d4 nets (length g.next.items)
    → CircuitMade g w order d4 nets
circuit-made g w d0 d1 d2 d3 d4 forms order nets o a b early wires late next =
    let placed = wires-stay g w d2 d3 w.early (length w.rows.items) (length g.wires.items) (wires-placed g w d1 d2 forms order wires o) late in
    let whole_order = take_all (length order) order (omega arith) in
    let whole_next = take_all (length g.next.items) g.next.items (omega arith) in
    let costs = ap (sum_by (wire_cost g)) whole_order in
    let nexts = ap (sum_by cost_of) whole_next in
    let few = a.fit.early in
    record {
      sound = next.grew.sound;
      wires = λ v h. placed-stays d3.wires d4.wires v next.grew.wires (placed v h);
      rows = λ r h. placed-stays d3.rows d4.rows r next.grew.rows (late.placed r h);
      carries = next.grew.carries ∙ late.carries ∙ wires.carries
          ∙ ap (λ (xs : List ℕ). xs ++ map (λ (v : WireId). v.0) (take (length order) order)) (early.carries ∙ b.carries)
          ∙ ap (map (λ (v : WireId). v.0)) whole_order;
      many = next.many;
      says = next.says;
      within = omega (arith, b.within, early.within, wires.within, late.within, next.within);
    }
