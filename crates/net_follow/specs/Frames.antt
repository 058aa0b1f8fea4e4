-- Inner: what holds of two netlists in an instant, in the first one, and in one after another, as equations.
use Rattle.std.specs.Prelude.{ℕ, Bool, true, false, List, [], ◌∷◌, ◌++◌, length, map}
use Rattle.net_ir.specs.declared.netlist.Op.{Op}
use Rattle.net_ir.specs.declared.netlist.Op.TheVariants.{Const, Copy, Not, And, Or}
use Rattle.net_ir.specs.declared.netlist.Gate.{Gate}
use Rattle.net_ir.specs.declared.netlist.Latch.{Latch}
use Rattle.net_ir.specs.declared.netlist.NetOut.{NetOut}
use Rattle.net_ir.specs.Gates.{value_in}
use Rattle.net_ir.specs.Numbered.{numbered}
use Rattle.net_ir.specs.Netlists.{Netlist, first_gate}
use Rattle.net_follow.specs.declared.literals.Side.{Side}
use Rattle.net_follow.specs.declared.literals.Side.TheVariants.{Always, Old, New}
use Rattle.net_follow.specs.declared.literals.Literal.{Literal}
use Rattle.net_follow.specs.declared.literals.Equation.{Equation}
use Rattle.net_follow.specs.Literals.{constant, opposite, moved_equation}

abbrev pub net_literal : Bool → Side → ℕ → Literal
net_literal late side n = record { late = late; side = side; number = n; positive = true }

abbrev pub copy_equation : Literal → Literal → Equation
copy_equation out from = record { out = out; left = from; right = constant true }

-- what a gate computes
abbrev pub gate_equation : Bool → Side → ℕ → Op → Equation
gate_equation late side n (Const true) = copy_equation (net_literal late side n) (constant true)
gate_equation late side n (Const false) = copy_equation (opposite (net_literal late side n)) (constant true)
gate_equation late side n (Copy a) = copy_equation (net_literal late side n) (net_literal late side a.0)
gate_equation late side n (Not a) = copy_equation (net_literal late side n) (opposite (net_literal late side a.0))
gate_equation late side n (And a b) = record {
  out = net_literal late side n;
  left = net_literal late side a.0;
  right = net_literal late side b.0;
}
gate_equation late side n (Or a b) = record {
  out = opposite (net_literal late side n);
  left = opposite (net_literal late side a.0);
  right = opposite (net_literal late side b.0);
}

abbrev pub gate_equations : Bool → Side → ℕ → List Gate → List Equation
gate_equations late side first gates = numbered (λ n g. gate_equation late side n g.op) first gates

-- the inputs of the two have the same values
abbrev pub input_equations : Bool → List (List ℕ) → List Equation
input_equations late inputs = numbered (λ n x. copy_equation (net_literal late New n) (net_literal late Old n)) 0 inputs

-- latches have their initial values
abbrev pub init_equations : Side → ℕ → List Latch → List Equation
init_equations side first latches = numbered (λ n l. gate_equation false side n (Const l.init)) first latches

-- latches have the values that their nets had one instant before
abbrev pub link_equations : Side → ℕ → List Latch → List Equation
link_equations side first latches =
    numbered (λ n l. copy_equation (net_literal true side n) (net_literal false side l.from.0)) first latches

-- a net of the new netlist shows what one of the given netlist shows
abbrev pub shows_equation : ℕ → ℕ → Equation
shows_equation new old = copy_equation (net_literal false New new) (net_literal false Old old)

abbrev pub output_equations : List NetOut → List NetOut → List Equation
output_equations [] new = []
output_equations (o ∷ old) [] = []
output_equations (o ∷ old) (p ∷ new) = shows_equation p.net.0 o.net.0 ∷ output_equations old new

-- what the gates of a netlist compute
abbrev pub net_equations : Bool → Side → Netlist → List Equation
net_equations late side net = gate_equations late side (first_gate net) net.gates

-- what holds in every instant
abbrev pub instant_equations : Bool → Netlist → Netlist → List Equation
instant_equations late old new = input_equations late old.inputs
    ++ net_equations late Old old ++ net_equations late New new

-- what holds in the first instant
abbrev pub first_equations : Netlist → Netlist → List Equation
first_equations old new = instant_equations false old new
    ++ init_equations Old (length old.inputs) old.latches ++ init_equations New (length new.inputs) new.latches

-- what holds in two instants, one after the other, where the facts hold in the first one
abbrev pub step_equations : Netlist → Netlist → List Equation → List Equation
step_equations old new facts = instant_equations false old new ++ map (moved_equation false) facts
    ++ instant_equations true old new
    ++ link_equations Old (length old.inputs) old.latches ++ link_equations New (length new.inputs) new.latches

-- what is claimed: facts, and that the two show the same, which may rest on them
abbrev pub all_claims : Netlist → Netlist → List Equation → List Equation
all_claims old new claims =
    claims ++ output_equations old.outputs new.outputs ++ shows_equation new.paused old.paused ∷ []

-- values of the nets in an instant
abbrev pub frame : List Bool → List Bool → Side → ℕ → Bool
frame v w Always n = true
frame v w Old n = value_in v n
frame v w New n = value_in w n

-- values in two instants
abbrev pub in_two : (Side → ℕ → Bool) → (Side → ℕ → Bool) → Bool → Side → ℕ → Bool
in_two now later false side n = now side n
in_two now later true side n = later side n
