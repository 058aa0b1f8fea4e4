-- The numbers of gates stay small while a circuit grows.
use Rattle.std.proofs.Common.{◌≡◌, ℕ, ◌+◌, ◌-◌, ◌<◌, ◌≤◌, ◌^◌, zero, suc, true, List, length, take, get_or, ap, arith, Option, Some, None}
use Rattle.std.specs.List.{sum_by}
use Rattle.std.proofs.lemmas.List.{length-take-le, take_all}
use Rattle.std.proofs.lemmas.List.Sums.{sum_by_more_le}
use Rattle.base_types.specs.declared.indices.NetId.{NetId}
use Rattle.base_types.specs.declared.indices.WireId.{WireId}
use Rattle.grc_graph.specs.declared.formulas.Formula.{Formula}
use Rattle.grc_graph.specs.declared.formulas.Formula.TheVariants as formulas
use Rattle.grc_graph.specs.declared.graph.Graph.{Graph}
use Rattle.grc_graph.specs.GateCosts.{any_cost, cost_of}
use Rattle.grc_formulas.specs.declared.table.Words.{Words}
use Rattle.net_ir.specs.declared.netlist.Op.{Op}
use Rattle.net_gen.specs.Costs.{gates_at_most, wire_cost}
use Rattle.net_gen.specs.Drawings.{Drawing, gates_for, next_number}
use Rattle.net_gen.specs.Growing.{HasRoom, Joins, Lowers, Places, spent}
use Rattle.net_gen.specs.Making.{Begun, NextMade, RowsMade, WiresMade}
use Rattle.net_gen.specs.Senses.{Sense, Sound, first_of}

-- room for what is left once some of it is spent
pub room-later : (g : Graph) (w : Words) (old new : Drawing) (more cost : ℕ) → Sound g w old → Sound g w new → spent new + more ≤ spent old + cost
    → HasRoom old cost → HasRoom new more
room-later g w old new more cost s t few room = omega (arith, s.first, t.first)

pub next-small : (d : Drawing) (more : ℕ) → HasRoom d more → next_number d < 2 ^ 32
next-small d more room = omega arith

-- after a formula
pub room-lowered : (g : Graph) (w : Words) (old new : Drawing) (op : Op) (m : Sense g) (cost most : ℕ) → Sound g w old → Lowers g w old new op m cost
    → cost ≤ most → HasRoom old most → next_number new < 2 ^ 32
room-lowered g w old new op m cost most s l few room = next-small new 0 (room-later g w old new 0 most s l.grew.sound (omega (arith, l.within)) room)

-- after the net of a formula, for another
pub room-placed : (g : Graph) (w : Words) (old new : Drawing) (n : ℕ) (m : Sense g) (cost more most : ℕ) → Sound g w old → Places g w old new n m cost
    → cost + more ≤ most → HasRoom old most → HasRoom new more
room-placed g w old new n m cost more most s p few room = room-later g w old new more most s p.grew.sound (omega (arith, p.within)) room

-- ---- the or of wires

any-less : (m n : ℕ) → m ≤ n → any_cost m ≤ any_cost n
any-less zero n h = omega arith
any-less (suc m) zero h = absurd (omega arith)
any-less (suc m) (suc n) h = omega arith

pub room-joined : (g : Graph) (w : Words) (old now : Drawing) (so_far : Option Op) (list : List WireId) (at : ℕ) → Sound g w old
    → Joins g w old now so_far (take at list) → at < length list → HasRoom old (any_cost (length list)) → next_number now < 2 ^ 32
room-joined g w old now None list at s j low room =
    let same = ap next_number j.1 in
    omega (arith, same, next-small old (any_cost (length list)) room)
room-joined g w old now (Some op) list at s j low room =
    let many = length-take-le at list (omega arith) in
    let l = j.1 in
    room-lowered g w old now op _ _ (any_cost (length list)) s l (any-less (length (take at list)) (length list) (omega (arith, many))) room

-- ---- the loops

pub room-row : (g : Graph) (w : Words) (old now : Drawing) (from row to : ℕ) → Sound g w old → RowsMade g w old now from row → from ≤ row → row < to
    → HasRoom old (to - from) → next_number now < 2 ^ 32
room-row g w old now from row to s m low high room =
    next-small now 0 (room-later g w old now 0 (to - from) s m.sound (omega (arith, m.within)) room)

pub room-wire : (g : Graph) (w : Words) (old now : Drawing) (order : List WireId) (f : Formula) (j : ℕ) → Sound g w old → WiresMade g w old now order j
    → j < length order → get_or g.equations.items (get_or order j (record { 0 = 0 })).0 (formulas.Const true) ≡ f
    → HasRoom old (sum_by (wire_cost g) order) → HasRoom now (cost_of f + 1)
room-wire g w old now order f j s m h e room =
    let none : WireId = record { 0 = 0 } in
    let more = sum_by_more_le (wire_cost g) order j none h in
    let cost = ap cost_of e in
    room-later g w old now (cost_of f + 1) (sum_by (wire_cost g) order) s m.sound (omega (arith, m.within, more, cost)) room

pub room-next : (g : Graph) (w : Words) (old now : Drawing) (nets : List NetId) (f : Formula) (j : ℕ) → Sound g w old → NextMade g w old now nets j
    → j < length g.next.items → f ≡ get_or g.next.items j f → HasRoom old (sum_by cost_of g.next.items) → HasRoom now (cost_of f)
room-next g w old now nets f j s m h e room =
    let more = sum_by_more_le cost_of g.next.items j f h in
    let cost = ap cost_of e in
    room-later g w old now (cost_of f) (sum_by cost_of g.next.items) s m.grew.sound (omega (arith, m.within, more, cost)) room
