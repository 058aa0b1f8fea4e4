-- A circuit grows by one gate at a time.
use Rattle.std.proofs.Common.{◌≡◌, ℕ, ◌+◌, ◌<◌, ◌≤◌, ◌^◌, suc, Bool, List, [], ◌∷◌, ◌++◌, length, slice_index_or, refl, sym, ap, ◌∙◌, subst, arith, Option}
use Rattle.std.proofs.Common.{Some, None, inl, inr}
use Rattle.std.proofs.lemmas.List.{get_or_append_left, get_or_push, length_push}
use Rattle.std.proofs.lemmas.Bool.{cases_lt}
use Rattle.base_types.specs.declared.indices.NetId.{NetId}
use Rattle.base_types.specs.declared.indices.WireId.{WireId}
use Rattle.grc_graph.specs.declared.graph.Graph.{Graph}
use Rattle.grc_formulas.specs.declared.table.Words.{Words}
use Rattle.net_ir.specs.declared.netlist.Gate.{Gate}
use Rattle.net_ir.specs.declared.netlist.Op.{Op}
use Rattle.net_ir.specs.declared.netlist.Op.TheVariants.{Const, Copy, Not, And, Or}
use Rattle.net_ir.specs.Gates.{ReadsLower, operand_end, carried}
use Rattle.net_ir.proofs.Exports.{ReadsLower-push, carried-silent}
use Rattle.net_gen.specs.Drawings.{Drawing, next_number, with_gate, with_net, net_number, gates_for}
use Rattle.net_gen.specs.Senses.{Sense, first_of, net_sense, op_sense, wire_sense, Stands, OpStands, Table, Sound}
use Rattle.net_gen.specs.Growing.{Grew, Lowers, Places, spent}
use Rattle.net_gen.proofs.Sensing.{net_sense-old, op_sense-old, net_sense-new, op-net}

-- what stands, stands beside one more gate
pub stands-more : (g : Graph) (d : Drawing) (op : Op) (wire : Option WireId) (n : ℕ) (m : Sense g) → d.first ≡ first_of g → Stands g d n m
    → Stands g (with_gate d op wire) n m
stands-more g d op wire n m first s =
    let longer = length_push d.gates (record { op = op; wire = wire }) in
    record {
      below = omega (arith, s.below);
      says = net_sense-old g d.gates (record { op = op; wire = wire } ∷ []) n (omega (arith, s.below)) ∙ s.says;
    }

-- the new gate says what its operator does
pub stands-new : (g : Graph) (d : Drawing) (op : Op) (wire : Option WireId) (m : Sense g) → d.first ≡ first_of g → OpStands g d op m
    → Stands g (with_gate d op wire) (next_number d) m
stands-new g d op wire m first s =
    let x : Gate = record { op = op; wire = wire } in
    let longer = length_push d.gates x in
    let at : next_number d ≡ first_of g + length d.gates = omega arith in
    record {
      below = omega arith;
      says = ap (net_sense g (d.gates ++ x ∷ [])) at ∙ net_sense-new g d.gates x ∙ s.says;
    }

carrying-more : (g : Graph) (w : Words) (d : Drawing) (op : Op) → Sound g w d → (k : ℕ) (x : Gate) (v : WireId) → k < length d.gates + 1
    → (slice_index_or (d.gates ++ record { op = op; wire = None } ∷ []) k x).wire ≡ Some v
    → net_sense g (d.gates ++ record { op = op; wire = None } ∷ []) (d.first + k) ≡ wire_sense g v.0
carrying-more g w d op s k x v h e = elim (cases_lt k (length d.gates)) [
  | inl low ↦
      let same = get_or_append_left d.gates (record { op = op; wire = None } ∷ []) x k low in
      net_sense-old g d.gates (record { op = op; wire = None } ∷ []) (d.first + k) (omega (arith, s.first))
      ∙ s.carrying k x v low (ap (λ (y : Gate). y.wire) (sym same) ∙ e)
  | inr high ↦
      let last = get_or_push d.gates (record { op = op; wire = None }) x k (omega arith) in
      let none : None ≡ Some v = ap (λ (y : Gate). y.wire) (sym last) ∙ e in cc
]

-- a silent gate over nets that there are
pub sound-gate : (g : Graph) (w : Words) (d : Drawing) (op : Op) → Sound g w d → operand_end op ≤ next_number d → next_number d < 2 ^ 32
    → Sound g w (with_gate d op None)
sound-gate g w d op s low room =
    let longer = length_push d.gates (record { op = op; wire = None }) in
    record {
      given = s.given;
      first = s.first;
      numbered = omega arith;
      reads = ReadsLower-push d.first d.gates (record { op = op; wire = None }) s.reads low;
      no = stands-more g d op None d.no.0 _ s.first s.no;
      yes = stands-more g d op None d.yes.0 _ s.first s.yes;
      wires = λ k n e. stands-more g d op None n.0 _ s.first (s.wires k n e);
      ends = λ k n e. stands-more g d op None n.0 _ s.first (s.ends k n e);
      rows = λ k n e. stands-more g d op None n.0 _ s.first (s.rows k n e);
      carrying = λ k x v h e. carrying-more g w d op s k x v (omega (arith, longer)) e;
      wires_all = s.wires_all;
      ends_all = s.ends_all;
      rows_all = s.rows_all;
    }

pub grew-refl : (g : Graph) (w : Words) (d : Drawing) → Sound g w d → Grew g w d d
grew-refl g w d s = record { sound = s; stays = λ n m h. h; wires = refl; rows = refl; carries = refl }

pub grew-trans : (g : Graph) (w : Words) (a b c : Drawing) → Grew g w a b → Grew g w b c → Grew g w a c
grew-trans g w a b c p q = record {
  sound = q.sound;
  stays = λ n m h. q.stays n m (p.stays n m h);
  wires = q.wires ∙ p.wires;
  rows = q.rows ∙ p.rows;
  carries = q.carries ∙ p.carries;
}

pub grew-gate : (g : Graph) (w : Words) (d : Drawing) (op : Op) → Sound g w d → operand_end op ≤ next_number d → next_number d < 2 ^ 32
    → Grew g w d (with_gate d op None)
grew-gate g w d op s low room = record {
  sound = sound-gate g w d op s low room;
  stays = λ n m h. stands-more g d op None n m s.first h;
  wires = refl;
  rows = refl;
  carries = carried-silent d.gates (record { op = op; wire = None }) refl;
}

pub op-stays : (g : Graph) (w : Words) (d : Drawing) (op : Op) (x : Op) (m : Sense g) → d.first ≡ first_of g → OpStands g d op m
    → OpStands g (with_gate d x None) op m
op-stays g w d op x m first s =
    let longer = length_push d.gates (record { op = x; wire = None }) in
    record {
      below = omega (arith, s.below);
      says = op_sense-old g d.gates (record { op = x; wire = None } ∷ []) op (omega (arith, s.below)) ∙ s.says;
    }

places-gate : (g : Graph) (w : Words) (d : Drawing) (op : Op) (m : Sense g) → Sound g w d → OpStands g d op m → next_number d < 2 ^ 32
    → Places g w d (with_gate d op None) (next_number d) m 1
places-gate g w d op m s o room = record {
  grew = grew-gate g w d op s o.below room;
  stands = stands-new g d op None m s.first o;
  within = omega (arith, length_push d.gates (record { op = op; wire = None }));
}

places-net-here : (g : Graph) (w : Words) (d : Drawing) (op : Op) (m : Sense g) → Sound g w d → OpStands g d op m → net_number d op < 2 ^ 32
    → Places g w d (with_net d op) (net_number d op) m (gates_for op)
places-net-here g w d (Const b) m s o room = places-gate g w d (Const b) m s o room
places-net-here g w d (Copy n) m s o room = record { grew = grew-refl g w d s; stands = op-net g d n m o; within = omega arith }
places-net-here g w d (Not n) m s o room = places-gate g w d (Not n) m s o room
places-net-here g w d (And a b) m s o room = places-gate g w d (And a b) m s o room
places-net-here g w d (Or a b) m s o room = places-gate g w d (Or a b) m s o room

-- a net of an operator
pub places-net : (g : Graph) (w : Words) (old new : Drawing) (op : Op) (n : ℕ) (m : Sense g) → Sound g w old → OpStands g old op m
    → new ≡ with_net old op → n ≡ net_number old op → net_number old op < 2 ^ 32 → Places g w old new n m (gates_for op)
places-net g w old new op n m s o drawn number room =
    subst (λ d. Places g w old d n m (gates_for op)) (sym drawn)
    (subst (λ k. Places g w old (with_net old op) k m (gates_for op)) (sym number) (places-net-here g w old op m s o room))

-- a net of an operator that a circuit grew by
pub places-lowered : (g : Graph) (w : Words) (old mid new : Drawing) (op : Op) (n : ℕ) (m : Sense g) (cost : ℕ) → Lowers g w old mid op m cost
    → new ≡ with_net mid op → n ≡ net_number mid op → net_number mid op < 2 ^ 32 → Places g w old new n m cost
places-lowered g w old mid new op n m cost l drawn number room =
    let p = places-net g w mid new op n m l.grew.sound l.stands drawn number room in
    record {
      grew = grew-trans g w old mid new l.grew p.grew;
      stands = p.stands;
      within = omega (arith, l.within, p.within);
    }
