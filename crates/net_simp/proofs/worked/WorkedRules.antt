-- Worked rules, by hand: what is made of an operator over two inputs and a gate of each kind.
use Rattle.std.proofs.Common.{◌≡◌, ℕ, true, false, None, List, [], ◌∷◌, refl}
use Rattle.base_types.specs.declared.indices.NetId.{NetId}
use Rattle.net_ir.specs.declared.netlist.Op.{Op}
use Rattle.net_ir.specs.declared.netlist.Op.TheVariants.{Const, Copy, Not, And, Or}
use Rattle.net_ir.specs.declared.netlist.Gate.{Gate}
use Rattle.net_simp.specs.Rules.{op_at, reduced_op}
use Rattle.net_simp.specs.SimpleNets.{turned}

abbrev net : ℕ → NetId
net n = record { 0 = n }

abbrev gate : Op → Gate
gate op = record { op = op; wire = None }

-- the nets 0 and 1 are inputs, and those from 2 on are gates
abbrev gates : List Gate
gates =
    gate (Not (net 0)) ∷ gate (And (net 0) (net 1)) ∷ gate (Or (net 0) (net 1)) ∷ gate (Const false) ∷ gate (Const true) ∷ gate (Copy (net 0)) ∷ []

abbrev reduced : Op → Op
reduced op = reduced_op 2 gates op

not_of_an_input : reduced (Not (net 0)) ≡ Not (net 0)
not_of_an_input = refl

not_of_a_not : reduced (Not (net 2)) ≡ Copy (net 0)
not_of_a_not = refl

not_of_an_and : reduced (Not (net 3)) ≡ Not (net 3)
not_of_an_and = refl

not_of_an_or : reduced (Not (net 4)) ≡ Not (net 4)
not_of_an_or = refl

not_of_false : reduced (Not (net 5)) ≡ Const true
not_of_false = refl

not_of_true : reduced (Not (net 6)) ≡ Const false
not_of_true = refl

not_of_a_copy : reduced (Not (net 7)) ≡ Not (net 7)
not_of_a_copy = refl

constant_as_it_is : reduced (Const true) ≡ Const true
constant_as_it_is = refl

copy_as_it_is : reduced (Copy (net 5)) ≡ Copy (net 5)
copy_as_it_is = refl

and_of_two_inputs : reduced (And (net 0) (net 1)) ≡ And (net 0) (net 1)
and_of_two_inputs = refl

and_of_one_net : reduced (And (net 0) (net 0)) ≡ Copy (net 0)
and_of_one_net = refl

and_of_opposite_nets : reduced (And (net 0) (net 2)) ≡ Const false
and_of_opposite_nets = refl

and_of_opposite_nets_turned : reduced (And (net 2) (net 0)) ≡ Const false
and_of_opposite_nets_turned = refl

and_of_a_not_of_another : reduced (And (net 1) (net 2)) ≡ And (net 1) (net 2)
and_of_a_not_of_another = refl

and_of_an_and_and_its_first : reduced (And (net 3) (net 0)) ≡ Copy (net 3)
and_of_an_and_and_its_first = refl

and_of_an_and_and_its_first_turned : reduced (And (net 0) (net 3)) ≡ Copy (net 3)
and_of_an_and_and_its_first_turned = refl

and_of_an_and_and_its_last : reduced (And (net 3) (net 1)) ≡ Copy (net 3)
and_of_an_and_and_its_last = refl

and_of_an_and_and_its_last_turned : reduced (And (net 1) (net 3)) ≡ Copy (net 3)
and_of_an_and_and_its_last_turned = refl

and_of_an_or_and_its_first : reduced (And (net 0) (net 4)) ≡ Copy (net 0)
and_of_an_or_and_its_first = refl

and_of_an_or_and_its_first_turned : reduced (And (net 4) (net 0)) ≡ Copy (net 0)
and_of_an_or_and_its_first_turned = refl

and_of_an_or_and_its_last : reduced (And (net 1) (net 4)) ≡ Copy (net 1)
and_of_an_or_and_its_last = refl

and_of_an_or_and_its_last_turned : reduced (And (net 4) (net 1)) ≡ Copy (net 1)
and_of_an_or_and_its_last_turned = refl

and_of_false_and_an_input : reduced (And (net 5) (net 0)) ≡ Copy (net 5)
and_of_false_and_an_input = refl

and_of_false_and_an_input_turned : reduced (And (net 0) (net 5)) ≡ Copy (net 5)
and_of_false_and_an_input_turned = refl

and_of_true_and_an_input : reduced (And (net 0) (net 6)) ≡ Copy (net 0)
and_of_true_and_an_input = refl

and_of_true_and_an_input_turned : reduced (And (net 6) (net 0)) ≡ Copy (net 0)
and_of_true_and_an_input_turned = refl

and_of_an_and_and_a_not : reduced (And (net 2) (net 3)) ≡ And (net 2) (net 3)
and_of_an_and_and_a_not = refl

and_of_a_copy_and_its_net : reduced (And (net 7) (net 0)) ≡ And (net 7) (net 0)
and_of_a_copy_and_its_net = refl

or_of_two_inputs : reduced (Or (net 0) (net 1)) ≡ Or (net 0) (net 1)
or_of_two_inputs = refl

or_of_one_net : reduced (Or (net 0) (net 0)) ≡ Copy (net 0)
or_of_one_net = refl

or_of_opposite_nets : reduced (Or (net 0) (net 2)) ≡ Const true
or_of_opposite_nets = refl

or_of_opposite_nets_turned : reduced (Or (net 2) (net 0)) ≡ Const true
or_of_opposite_nets_turned = refl

or_of_a_not_of_another : reduced (Or (net 1) (net 2)) ≡ Or (net 1) (net 2)
or_of_a_not_of_another = refl

or_of_an_and_and_its_first : reduced (Or (net 3) (net 0)) ≡ Copy (net 0)
or_of_an_and_and_its_first = refl

or_of_an_and_and_its_first_turned : reduced (Or (net 0) (net 3)) ≡ Copy (net 0)
or_of_an_and_and_its_first_turned = refl

or_of_an_and_and_its_last : reduced (Or (net 3) (net 1)) ≡ Copy (net 1)
or_of_an_and_and_its_last = refl

or_of_an_and_and_its_last_turned : reduced (Or (net 1) (net 3)) ≡ Copy (net 1)
or_of_an_and_and_its_last_turned = refl

or_of_an_or_and_its_first : reduced (Or (net 0) (net 4)) ≡ Copy (net 4)
or_of_an_or_and_its_first = refl

or_of_an_or_and_its_first_turned : reduced (Or (net 4) (net 0)) ≡ Copy (net 4)
or_of_an_or_and_its_first_turned = refl

or_of_an_or_and_its_last : reduced (Or (net 1) (net 4)) ≡ Copy (net 4)
or_of_an_or_and_its_last = refl

or_of_an_or_and_its_last_turned : reduced (Or (net 4) (net 1)) ≡ Copy (net 4)
or_of_an_or_and_its_last_turned = refl

or_of_false_and_an_input : reduced (Or (net 5) (net 0)) ≡ Copy (net 0)
or_of_false_and_an_input = refl

or_of_false_and_an_input_turned : reduced (Or (net 0) (net 5)) ≡ Copy (net 0)
or_of_false_and_an_input_turned = refl

or_of_true_and_an_input : reduced (Or (net 0) (net 6)) ≡ Copy (net 6)
or_of_true_and_an_input = refl

or_of_true_and_an_input_turned : reduced (Or (net 6) (net 0)) ≡ Copy (net 6)
or_of_true_and_an_input_turned = refl

or_of_an_and_and_a_not : reduced (Or (net 2) (net 3)) ≡ Or (net 2) (net 3)
or_of_an_and_and_a_not = refl

or_of_a_copy_and_its_net : reduced (Or (net 7) (net 0)) ≡ Or (net 7) (net 0)
or_of_a_copy_and_its_net = refl

turned_and : turned (And (net 3) (net 4)) ≡ And (net 4) (net 3)
turned_and = refl

turned_or : turned (Or (net 3) (net 4)) ≡ Or (net 4) (net 3)
turned_or = refl

turned_not : turned (Not (net 3)) ≡ Not (net 3)
turned_not = refl
