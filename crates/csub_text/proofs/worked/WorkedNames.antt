-- Worked faults of names of C programs, by hand: which of several names is the fault, and which rule comes first.
use Rattle.std.proofs.Common.{◌≡◌, ℕ, false, List, [], ◌∷◌, None, Some, Option, codes, refl}
use Rattle.csub_text.specs.Trees.{Expr, Name, Const, Not, And, Or, NoExprs, MoreExprs, StateVariable, Assign}
use Rattle.csub_text.specs.Names.{NameFault, name_fault, Twice, Undeclared, Unset}

abbrev state : List ℕ → StateVariable
state name = record { name = name; init = false }

abbrev assign : List ℕ → Expr → Assign
assign target value = record { target = target; value = value }

abbrev fault : List StateVariable → List (List ℕ) → List (List ℕ) → List Assign → Expr → Option NameFault
fault states globals locals body answer =
    name_fault (record { states = states; globals = globals; locals = locals; body = body; answer = answer })

abbrev no : Expr
no = Const false

-- ---- of names that are declared twice the one whose second declaration comes first: states, then globals, then locals

second_declaration : fault [] (codes "I_A" ∷ codes "O_B" ∷ codes "O_B" ∷ codes "I_A" ∷ []) [] [] no ≡ Some (Twice (codes "O_B"))
second_declaration = refl

state_and_local : fault (state (codes "s0") ∷ state (codes "s1") ∷ []) [] (codes "s1" ∷ codes "s0" ∷ []) [] no ≡ Some (Twice (codes "s1"))
state_and_local = refl

global_before_local : fault (state (codes "s0") ∷ []) (codes "O_A" ∷ codes "s0" ∷ []) (codes "O_A" ∷ []) [] no ≡ Some (Twice (codes "s0"))
global_before_local = refl

two_states : fault (state (codes "s0") ∷ state (codes "s0") ∷ []) (codes "O_A" ∷ codes "O_A" ∷ []) [] [] no ≡ Some (Twice (codes "s0"))
two_states = refl

-- ---- then a name that is not declared, or an input that is assigned: the first use in the text

target_before_value : fault [] [] [] (assign (codes "x") (Name (codes "y")) ∷ []) (Name (codes "z")) ≡ Some (Undeclared (codes "x"))
target_before_value = refl

value_before_the_next : fault [] (codes "O_A" ∷ []) [] (assign (codes "O_A") (Not (Name (codes "y"))) ∷ assign (codes "x") no ∷ []) no
    ≡ Some (Undeclared (codes "y"))
value_before_the_next = refl

answer_last : fault [] (codes "O_A" ∷ []) [] (assign (codes "O_A") no ∷ []) (Name (codes "z")) ≡ Some (Undeclared (codes "z"))
answer_last = refl

from_the_left : fault [] (codes "O_A" ∷ []) []
    (assign (codes "O_A") (Or (MoreExprs (And (MoreExprs no (MoreExprs (Name (codes "y")) NoExprs))) (MoreExprs (Name (codes "x")) NoExprs))) ∷ []) no
    ≡ Some (Undeclared (codes "y"))
from_the_left = refl

input_assigned : fault [] (codes "I_A" ∷ codes "O_A" ∷ []) [] (assign (codes "I_A") (Name (codes "x")) ∷ []) no ≡ Some (Undeclared (codes "I_A"))
input_assigned = refl

input_read : fault [] (codes "I_A" ∷ codes "O_A" ∷ []) [] (assign (codes "O_A") (Name (codes "I_A")) ∷ []) (Name (codes "O_A")) ≡ None
input_read = refl

-- ---- then a local that is read before it is set

read_by_itself : fault [] [] (codes "g0" ∷ []) (assign (codes "g0") (Name (codes "g0")) ∷ []) no ≡ Some (Unset (codes "g0"))
read_by_itself = refl

read_by_another : fault [] [] (codes "g0" ∷ codes "g1" ∷ []) (assign (codes "g1") (Name (codes "g0")) ∷ assign (codes "g0") no ∷ []) (Name (codes "g1"))
    ≡ Some (Unset (codes "g0"))
read_by_another = refl

read_by_the_answer : fault [] [] (codes "g0" ∷ codes "g1" ∷ []) (assign (codes "g0") no ∷ []) (Name (codes "g1")) ≡ Some (Unset (codes "g1"))
read_by_the_answer = refl

set_before : fault (state (codes "s0") ∷ []) [] (codes "g0" ∷ []) (assign (codes "g0") (Name (codes "s0")) ∷ []) (Name (codes "g0")) ≡ None
set_before = refl

-- ---- the rules in their order

twice_before_undeclared : fault [] (codes "O_A" ∷ codes "O_A" ∷ []) [] (assign (codes "x") no ∷ []) no ≡ Some (Twice (codes "O_A"))
twice_before_undeclared = refl

undeclared_before_unset : fault [] [] (codes "g0" ∷ []) (assign (codes "g0") (Name (codes "g0")) ∷ []) (Name (codes "x")) ≡ Some (Undeclared (codes "x"))
undeclared_before_unset = refl
