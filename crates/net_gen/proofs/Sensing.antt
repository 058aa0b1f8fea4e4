-- What nets and operators say while gates are added.
use Rattle.std.proofs.Common.{◌≡◌, ℕ, ◌+◌, ◌-◌, ◌<◌, ◌≤◌, Bool, true, false, not, ◌&&◌, ◌||◌, List, [], ◌∷◌, ◌++◌, length, slice_index_or, refl, sym, ap, ◌∙◌}
use Rattle.std.proofs.Common.{subst, arith}
use Rattle.std.proofs.Common.{length-append, add_assoc}
use Rattle.std.proofs.lemmas.List.{get_or_append_left, get_or_push, length_push}
use Rattle.base_types.specs.declared.indices.NetId.{NetId}
use Rattle.est_kernel.specs.Plain.{program_of, given_count}
use Rattle.grc_graph.specs.declared.graph.Graph.{Graph}
use Rattle.grc_formulas.specs.Occasions.{Occasion}
use Rattle.net_ir.specs.declared.netlist.Gate.{Gate}
use Rattle.net_ir.specs.declared.netlist.Op.{Op}
use Rattle.net_ir.specs.declared.netlist.Op.TheVariants.{Const, Copy, Not, And, Or}
use Rattle.net_ir.specs.Gates.{operand_end, op_value, value_in, gate_values}
use Rattle.net_ir.proofs.Exports.{length-gate_values, gate_values-append, value_in-gate_values, op_value-same}
use Rattle.net_gen.specs.Drawings.{Drawing, next_number}
use Rattle.net_gen.specs.Senses.{Instant, Sense, start_of, first_of, net_sense, op_sense, Stands, OpStands}

pub length-start : (g : Graph) (t : Occasion g) → length (start_of g t) ≡ first_of g
length-start g t = omega (arith, length-append t.event (t.boot ∷ t.bits), t.one_per_leaf, t.one_per_given)

length-values : (g : Graph) (gates : List Gate) (t : Occasion g) → length (gate_values (start_of g t) gates) ≡ first_of g + length gates
length-values g gates t = omega (arith, length-gate_values (start_of g t) gates, length-start g t)

value-old : (g : Graph) (gates others : List Gate) (n : ℕ) → n < first_of g + length gates → (t : Occasion g)
    → value_in (gate_values (start_of g t) (gates ++ others)) n ≡ value_in (gate_values (start_of g t) gates) n
value-old g gates others n low t =
    let many = length-values g gates t in
    ap (λ vs. value_in vs n) (gate_values-append (start_of g t) gates others)
    ∙ value_in-gate_values (gate_values (start_of g t) gates) others n (omega arith)

-- a net that there is says the same whatever gates follow
pub net_sense-old : (g : Graph) (gates others : List Gate) (n : ℕ) → n < first_of g + length gates → net_sense g (gates ++ others) n ≡ net_sense g gates n
unfolding net_sense
net_sense-old g gates others n low = λ i t. value-old g gates others n low t.occasion i

op_value-old : (g : Graph) (gates others : List Gate) (op : Op) → operand_end op ≤ first_of g + length gates → (t : Occasion g)
    → op_value (value_in (gate_values (start_of g t) (gates ++ others))) op ≡ op_value (value_in (gate_values (start_of g t) gates)) op
op_value-old g gates others op low t =
    op_value-same _ _ op (first_of g + length gates) low (λ n h. value-old g gates others n h t)

-- so does an operator
pub op_sense-old : (g : Graph) (gates others : List Gate) (op : Op) → operand_end op ≤ first_of g + length gates →
    op_sense g (gates ++ others) op ≡ op_sense g gates op
unfolding op_sense
op_sense-old g gates others op low = λ i t. op_value-old g gates others op low t.occasion i

value-new : (g : Graph) (gates : List Gate) (x : Gate) (t : Occasion g)
    → value_in (gate_values (start_of g t) (gates ++ x ∷ [])) (first_of g + length gates) ≡ op_value (value_in (gate_values (start_of g t) gates)) x.op
value-new g gates x t =
    let values = gate_values (start_of g t) gates in
    ap (λ vs. value_in vs (first_of g + length gates)) (gate_values-append (start_of g t) gates (x ∷ []))
    ∙ get_or_push values (op_value (value_in values) x.op) false (first_of g + length gates) (length-values g gates t)

-- the last gate says what its operator does
pub net_sense-new : (g : Graph) (gates : List Gate) (x : Gate) → net_sense g (gates ++ x ∷ []) (first_of g + length gates) ≡ op_sense g gates x.op
unfolding net_sense op_sense
net_sense-new g gates x = λ i t. value-new g gates x t.occasion i

-- a net that copies, negates or joins others
pub op-copy : (g : Graph) (d : Drawing) (n : NetId) (m : Sense g) → Stands g d n.0 m → OpStands g d (Copy n) m
unfolding op_sense net_sense
op-copy g d n m s = record { below = omega (arith, s.below); says = s.says }

pub op-net : (g : Graph) (d : Drawing) (n : NetId) (m : Sense g) → OpStands g d (Copy n) m → Stands g d n.0 m
unfolding op_sense net_sense
op-net g d n m s = record { below = omega (arith, s.below); says = s.says }

pub op-not : (g : Graph) (d : Drawing) (n : NetId) (m : Sense g) → Stands g d n.0 m → OpStands g d (Not n) (λ t. not (m t))
unfolding op_sense net_sense
op-not g d n m s = record { below = omega (arith, s.below); says = ap (λ (f : Sense g). λ t. not (f t)) s.says }

pub op-and : (g : Graph) (d : Drawing) (a b : NetId) (m n : Sense g) → Stands g d a.0 m → Stands g d b.0 n → OpStands g d (And a b) (λ t. m t && n t)
unfolding op_sense net_sense
op-and g d a b m n s u = record { below = omega (arith, s.below, u.below); says = λ i t. s.says i t && u.says i t }

pub op-or : (g : Graph) (d : Drawing) (a b : NetId) (m n : Sense g) → Stands g d a.0 m → Stands g d b.0 n → OpStands g d (Or a b) (λ t. m t || n t)
unfolding op_sense net_sense
op-or g d a b m n s u = record { below = omega (arith, s.below, u.below); says = λ i t. s.says i t || u.says i t }

pub op-const : (g : Graph) (d : Drawing) (b : Bool) → OpStands g d (Const b) (λ t. b)
unfolding op_sense
op-const g d b = record { below = omega arith; says = refl }

-- the same said otherwise
pub stands-is : (g : Graph) (d : Drawing) (n : ℕ) (m k : Sense g) → m ≡ k → Stands g d n m → Stands g d n k
stands-is g d n m k e s = record { below = s.below; says = s.says ∙ e }

pub op-is : (g : Graph) (d : Drawing) (op : Op) (m k : Sense g) → m ≡ k → OpStands g d op m → OpStands g d op k
op-is g d op m k e s = record { below = s.below; says = s.says ∙ e }
