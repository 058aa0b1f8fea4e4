-- One more wire, and one more leaf.
use Rattle.std.proofs.Common.{◌≡◌, ℕ, ◌+◌, ◌<◌, ◌≤◌, ◌^◌, true, List, [], ◌∷◌, ◌++◌, length, map, take, slice_index_or, slice_set, refl, sym, ap, ◌∙◌, subst}
use Rattle.std.proofs.Common.{arith, Option, Some, None, inl, inr, IsTrue}
use Rattle.std.proofs.Common.{append_assoc, append-nil}
use Rattle.std.specs.List.{sum_by}
use Rattle.std.proofs.lemmas.Bool.{cases_lt}
use Rattle.std.proofs.lemmas.List.{length-set, length_push, map_more, take_more, get_or_append_left, get_or_push, get_or-map, get_or_default}
use Rattle.std.proofs.lemmas.List.Sums.{sum_by-append}
use Rattle.base_types.specs.declared.indices.NetId.{NetId}
use Rattle.base_types.specs.declared.indices.WireId.{WireId}
use Rattle.grc_graph.specs.declared.formulas.Formula.{Formula}
use Rattle.grc_graph.specs.declared.formulas.Formula.TheVariants as formulas
use Rattle.grc_graph.specs.declared.graph.Graph.{Graph}
use Rattle.grc_graph.specs.Formulas as plain
use Rattle.grc_graph.specs.GraphShapes.{formula_fits}
use Rattle.grc_graph.specs.PlainGraphs as graphs
use Rattle.grc_graph.specs.PlainGraphs.{formula_of, instances_of, names_of}
use Rattle.grc_graph.specs.Reads.{IsReadingOrder, ReadsOnly, StandsBefore}
use Rattle.grc_graph.specs.Wires.{Wire}
use Rattle.grc_graph.specs.WireOrders.{wire_at}
use Rattle.grc_graph.proofs.Exports.{equations-all, length-names}
use Rattle.grc_formulas.specs.declared.table.Words.{Words}
use Rattle.grc_formulas.specs.WordLaws.{AreWordsOf}
use Rattle.net_ir.specs.declared.netlist.Gate.{Gate}
use Rattle.net_ir.specs.declared.netlist.Op.{Op}
use Rattle.net_ir.specs.Gates.{carried}
use Rattle.net_ir.proofs.Exports.{ReadsLower-push, carried-push}
use Rattle.net_gen.specs.Costs.{wire_cost}
use Rattle.grc_graph.specs.GateCosts.{cost_of}
use Rattle.net_gen.specs.Drawings.{Drawing, Placed, next_number, with_gate, with_wire, with_net, net_number}
use Rattle.net_gen.specs.Growing.{Grew, Lowers, Places, spent}
use Rattle.net_gen.specs.Making.{WiresMade, NextMade}
use Rattle.net_gen.specs.Readiness.{FormulaReady, RowsPlaced}
use Rattle.net_gen.specs.Senses.{Sense, Sound, Stands, OpStands, net_sense, op_sense, wire_sense, form_sense, first_of}
use Rattle.net_gen.proofs.GraphValues.{wire_sense-formula}
use Rattle.net_gen.proofs.Growth.{stands-more, stands-new, grew-refl, grew-trans, places-lowered}
use Rattle.net_gen.proofs.Lowering.{placed-stays}
use Rattle.net_gen.proofs.Reading.{ready-along}
use Rattle.net_gen.proofs.Sensing.{net_sense-old, net_sense-new, op-is}
use Rattle.net_gen.proofs.Tables.{table-set, placed-here, placed-set}

wire-stands : (g : Graph) (d : Drawing) (op : Op) (v : WireId) (n : ℕ) (m : Sense g) → Stands g (with_gate d op (Some v)) n m → Stands g (with_wire d op v) n m
wire-stands g d op v n m s = record { below = s.below; says = s.says }

more-stands : (g : Graph) (d : Drawing) (op : Op) (v : WireId) (n : ℕ) (m : Sense g) → d.first ≡ first_of g → Stands g d n m → Stands g (with_wire d op v) n m
more-stands g d op v n m first s = wire-stands g d op v n m (stands-more g d op (Some v) n m first s)

carrying-wire : (g : Graph) (w : Words) (d : Drawing) (op : Op) (u : WireId) → Sound g w d → OpStands g d op (wire_sense g u.0)
    → (k : ℕ) (x : Gate) (v : WireId) → k < length d.gates + 1 → (slice_index_or (d.gates ++ record { op = op; wire = Some u } ∷ []) k x).wire ≡ Some v
    → net_sense g (d.gates ++ record { op = op; wire = Some u } ∷ []) (d.first + k) ≡ wire_sense g v.0
carrying-wire g w d op u s o k x v h e =
    let y : Gate = record { op = op; wire = Some u } in
    elim (cases_lt k (length d.gates)) [
      | inl low ↦
          let same = get_or_append_left d.gates (y ∷ []) x k low in
          net_sense-old g d.gates (y ∷ []) (d.first + k) (omega (arith, s.first))
          ∙ s.carrying k x v low (ap (λ (z : Gate). z.wire) (sym same) ∙ e)
      | inr high ↦
          let last = get_or_push d.gates y x k (omega arith) in
          let is : Some u ≡ Some v = ap (λ (z : Gate). z.wire) (sym last) ∙ e in
          let same : u ≡ v = cc in
          let at : d.first + k ≡ first_of g + length d.gates = omega (arith, s.first) in
          ap (net_sense g (d.gates ++ y ∷ [])) at ∙ net_sense-new g d.gates y ∙ o.says ∙ ap (λ (z : WireId). wire_sense g z.0) same
    ]

sound-wire : (g : Graph) (w : Words) (d : Drawing) (op : Op) (v : WireId) → Sound g w d → OpStands g d op (wire_sense g v.0) → v.0 < length d.wires
    → next_number d < 2 ^ 32 → Sound g w (with_wire d op v)
sound-wire g w d op v s o low room =
    let y : Gate = record { op = op; wire = Some v } in
    let longer = length_push d.gates y in
    let new = with_wire d op v in
    let a : NetId = record { 0 = next_number d } in
    let h = wire-stands g d op v (next_number d) _ (stands-new g d op (Some v) _ s.first o) in
    record {
      given = s.given;
      first = s.first;
      numbered = omega arith;
      reads = ReadsLower-push d.first d.gates y s.reads o.below;
      no = more-stands g d op v d.no.0 _ s.first s.no;
      yes = more-stands g d op v d.yes.0 _ s.first s.yes;
      wires = table-set g new d.wires (wire_sense g) v.0 a (λ k n e. more-stands g d op v n.0 _ s.first (s.wires k n e)) h low;
      ends = λ k n e. more-stands g d op v n.0 _ s.first (s.ends k n e);
      rows = λ k n e. more-stands g d op v n.0 _ s.first (s.rows k n e);
      carrying = λ k x u h e. carrying-wire g w d op v s o k x u (omega (arith, longer)) e;
      wires_all = length-set d.wires v.0 (Some a) ∙ s.wires_all;
      ends_all = s.ends_all;
      rows_all = s.rows_all;
    }

sum-more : {X : Type 0} (f : X → ℕ) (xs : List X) (j : ℕ) (d : X) → j < length xs →
    sum_by f (take (j + 1) xs) ≡ sum_by f (take j xs) + f (slice_index_or xs j d)
sum-more f xs j d low =
    let x = slice_index_or xs j d in
    let one : sum_by f (x ∷ []) ≡ f x = omega arith in
    ap (sum_by f) (take_more xs j d low) ∙ sum_by-append f (take j xs) (x ∷ []) ∙ ap (λ n. sum_by f (take j xs) + n) one

pub wires-begun : (g : Graph) (w : Words) (d : Drawing) (order : List WireId) → Sound g w d → WiresMade g w d d order 0
wires-begun g w d order s = record {
  sound = s;
  stays = λ n m h. h;
  rows = refl;
  carries = sym (append-nil (carried d.gates));
  placed = λ j h. absurd (omega arith);
  within = omega arith;
}

-- one more wire
pub wires-step : (g : Graph) (w : Words) (old now mid new : Drawing) (op : Op) (f : Formula) (order : List WireId) (j : ℕ) → WiresMade g w old now order j
    → j < length order → (slice_index_or order j (record { 0 = 0 })).0 < length g.wires.items
    → slice_index_or g.equations.items (slice_index_or order j (record { 0 = 0 })).0 (formulas.Const true) ≡ f
    → Lowers g w now mid op (form_sense g f) (cost_of f) → new ≡ with_wire mid op (slice_index_or order j (record { 0 = 0 })) → next_number mid < 2 ^ 32
    → WiresMade g w old new order (j + 1)
wires-step g w old now mid new op f order j m h low e l drawn room =
    let none : WireId = record { 0 = 0 } in
    let v = slice_index_or order j none in
    let s = l.grew.sound in
    let says = ap (form_sense g) (sym e) ∙ wire_sense-formula g v.0 (formulas.Const true) low in
    let o = op-is g mid op _ _ says l.stands in
    let here : v.0 < length mid.wires = omega (arith, s.wires_all) in
    let a : NetId = record { 0 = next_number mid } in
    let y : Gate = record { op = op; wire = Some v } in
    let longer = length_push mid.gates y in
    let cost = ap cost_of e in
    let made : WiresMade g w old (with_wire mid op v) order (j + 1) = record {
      sound = sound-wire g w mid op v s o here room;
      stays = λ n x k. more-stands g mid op v n x s.first (l.grew.stays n x (m.stays n x k));
      rows = l.grew.rows ∙ m.rows;
      carries = carried-push mid.gates y v refl ∙ ap (λ xs. xs ++ v.0 ∷ []) (l.grew.carries ∙ m.carries)
          ∙ append_assoc (carried old.gates) (map (λ (u : WireId). u.0) (take j order)) (v.0 ∷ [])
          ∙ ap (λ xs. carried old.gates ++ xs) (sym (map_more (λ (u : WireId). u.0) order j none h));
      placed = λ i k. elim (cases_lt i j) [
        | inl less ↦ placed-set mid.wires (wire_at order i) v.0 a here (placed-stays now.wires mid.wires (wire_at order i) l.grew.wires (m.placed i less))
        | inr more ↦
            let same : i ≡ j = omega arith in
            subst (λ n. Placed (slice_set mid.wires v.0 (Some a)) (wire_at order n)) (sym same) (placed-here mid.wires v.0 a here)
      ];
      within = omega (arith, l.within, m.within, sum-more (wire_cost g) order j none h);
    } in
    subst (λ d. WiresMade g w old d order (j + 1)) (sym drawn) made

-- the formula of the next wire of a reading order is ready
pub order-ready : (g : Graph) (w : Words) (old now : Drawing) (f : Formula) (order : List WireId) (j : ℕ) → AreWordsOf g w → WiresMade g w old now order j
    → RowsPlaced old w.early → IsReadingOrder (names_of g) (map (formula_of (instances_of g) (names_of g)) g.equations.items) order → j < length order
    → slice_index_or g.equations.items (slice_index_or order j (record { 0 = 0 })).0 (formulas.Const true) ≡ f → FormulaReady g w now f
order-ready g w old now f order j a m p order_is h e =
    let none : WireId = record { 0 = 0 } in
    let F = formula_of (instances_of g) (names_of g) in
    let v = slice_index_or order j none in
    let P = λ (u : Wire). (n : ℕ) → n < length (names_of g) → graphs.wire_at (names_of g) n ≡ u → StandsBefore order n j in
    let low : v.0 < length (names_of g) = order_is.in_range j none h in
    let many = equations-all g in
    let names = length-names g in
    let at = get_or-map F g.equations.items v.0 (formulas.Const true) plain.Boot (omega arith) ∙ ap F e in
    let reads = subst (ReadsOnly P) at (order_is.along j plain.Boot h) in
    let placed = λ (n : ℕ) (k : n < length g.wires.items) (q : P (graphs.wire_at (names_of g) n)).
    let before = q n (omega arith) refl in
    subst (Placed now.wires) before.2 (m.placed before.0 before.1) in
    let fits = subst (λ x. IsTrue (formula_fits (length g.instances.list.items) (length g.wires.items) x)) e
    (g.indices.equations_fit v.0 (formulas.Const true) (omega arith)) in
    ready-along g w now P f m.sound a (λ k q. placed-stays old.rows now.rows k m.rows (p k q)) placed fits reads

pub next-begun : (g : Graph) (w : Words) (d : Drawing) → Sound g w d → NextMade g w d d [] 0
next-begun g w d s = record { grew = grew-refl g w d s; many = refl; says = λ k n f h. absurd (omega arith); within = omega arith }

-- one more leaf
pub next-step : (g : Graph) (w : Words) (old now mid new : Drawing) (op : Op) (net : NetId) (f : Formula) (nets : List NetId) (j : ℕ)
    → NextMade g w old now nets j → j < length g.next.items → f ≡ slice_index_or g.next.items j f → Lowers g w now mid op (form_sense g f) (cost_of f)
    → new ≡ with_net mid op → net.0 ≡ net_number mid op → net_number mid op < 2 ^ 32 → NextMade g w old new (nets ++ net ∷ []) (j + 1)
next-step g w old now mid new op net f nets j m h e l drawn number room =
    let p = places-lowered g w now mid new op net.0 _ (cost_of f) l drawn number room in
    record {
      grew = grew-trans g w old now new m.grew p.grew;
      many = omega (arith, m.many, length_push nets net);
      says = λ k n x low. elim (cases_lt k j) [
        | inl less ↦
            let same = get_or_append_left nets (net ∷ []) n k (omega (arith, m.many)) in
            subst (λ (y : NetId). Stands g new y.0 (form_sense g (slice_index_or g.next.items k x))) (sym same) (p.grew.stays _ _ (m.says k n x less))
        | inr more ↦
            let last = get_or_push nets net n k (omega (arith, m.many)) in
            let at : k ≡ j = omega arith in
            let form : f ≡ slice_index_or g.next.items k x = e ∙ get_or_default g.next.items j f x h ∙ ap (λ i. slice_index_or g.next.items i x) (sym at) in
            subst (λ (y : NetId). Stands g new y.0 (form_sense g (slice_index_or g.next.items k x))) (sym last)
            (subst (λ y. Stands g new net.0 (form_sense g y)) form p.stands)
      ];
      within = omega (arith, m.within, p.within, sum-more cost_of g.next.items j f h, ap cost_of e);
    }
