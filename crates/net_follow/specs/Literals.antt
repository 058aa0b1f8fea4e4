-- Inner: literals, clauses and equations over the nets of two netlists in two instants, and which values meet them.
use Rattle.std.specs.Prelude.{◌≡◌, ℕ, Bool, true, false, not, ◌&&◌, ◌||◌, List, All}
use Rattle.net_follow.specs.declared.literals.Side.{Side}
use Rattle.net_follow.specs.declared.literals.Side.TheVariants.{Always}
use Rattle.net_follow.specs.declared.literals.Literal.{Literal}
use Rattle.net_follow.specs.declared.literals.Equation.{Equation}
use Rattle.net_follow.specs.declared.literals.Clause.{Clause}

-- the constant that is always true, or its negation
abbrev pub constant : Bool → Literal
constant positive = record { late = false; side = Always; number = 0; positive = positive }

-- the negation of a literal
abbrev pub opposite : Literal → Literal
opposite l = record { late = l.late; side = l.side; number = l.number; positive = not l.positive }

-- the literal, in the first of two instants or in the second one
abbrev pub moved : Bool → Literal → Literal
moved late l = record { late = late; side = l.side; number = l.number; positive = l.positive }

abbrev pub moved_equation : Bool → Equation → Equation
moved_equation late e = record { out = moved late e.out; left = moved late e.left; right = moved late e.right }

-- values of the nets, by instant, side and number: what is always true is true
abbrev pub IsSteady : (Bool → Side → ℕ → Bool) → Type 0
IsSteady V = (late : Bool) (n : ℕ) → V late Always n ≡ true

abbrev pub signed : Bool → Bool → Bool
signed true x = x
signed false x = not x

-- whether a literal is true
abbrev pub holds : (Bool → Side → ℕ → Bool) → Literal → Bool
holds V l = signed l.positive (V l.late l.side l.number)

abbrev pub meets_clause : (Bool → Side → ℕ → Bool) → Clause → Bool
meets_clause V c = holds V c.first || holds V c.second || holds V c.third

abbrev pub Meets : (Bool → Side → ℕ → Bool) → Equation → Type 0
Meets V e = holds V e.out ≡ (holds V e.left && holds V e.right)

abbrev pub MeetsAll : (Bool → Side → ℕ → Bool) → List Equation → Type 0
MeetsAll V es = All (λ e. Meets V e) es

-- the clauses of an equation, the one that says when it is true first
abbrev pub from_parts : Equation → Clause
from_parts e = record { first = e.out; second = opposite e.left; third = opposite e.right }

abbrev pub to_left : Equation → Clause
to_left e = record { first = opposite e.out; second = e.left; third = constant false }

abbrev pub to_right : Equation → Clause
to_right e = record { first = opposite e.out; second = e.right; third = constant false }
