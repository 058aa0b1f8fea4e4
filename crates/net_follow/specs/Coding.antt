-- Inner: nets of two netlists in two instants as variables, and clauses over them.
use Rattle.std.specs.Prelude.{ℕ, zero, suc, ◌+◌, ◌*◌, ◌/◌, ◌%◌, Bool, true, false, List, [], ◌∷◌, ◌++◌}
use Rattle.sat_kernel.specs.declared.literals.Literal as kernel
use Rattle.net_follow.specs.declared.literals.Side.{Side}
use Rattle.net_follow.specs.declared.literals.Side.TheVariants.{Always, Old, New}
use Rattle.net_follow.specs.declared.literals.Literal.{Literal}
use Rattle.net_follow.specs.declared.literals.Clause.{Clause}

-- each net has four variables, by instant and side
abbrev pub kind : Bool → Side → ℕ
kind false Always = 0
kind true Always = 1
kind false Old = 0
kind true Old = 1
kind false New = 2
kind true New = 3

abbrev pub kind_value : (Bool → Side → ℕ → Bool) → ℕ → ℕ → Bool
kind_value V zero n = V false Old n
kind_value V (suc zero) n = V true Old n
kind_value V (suc (suc zero)) n = V false New n
kind_value V (suc (suc (suc k))) n = V true New n

-- the values of the variables where these are the values of the nets
abbrev pub valuation : (Bool → Side → ℕ → Bool) → ℕ → Bool
valuation V x = kind_value V (x % 4) (x / 4)

-- A clause with a constant that is true is a tautology. A constant that is false is left out.
abbrev pub coded_constant : Bool → List kernel.Literal
coded_constant true = record { variable = 0; positive = true } ∷ record { variable = 0; positive = false } ∷ []
coded_constant false = []

abbrev pub coded_net : Literal → kernel.Literal
coded_net l = record { variable = l.number * 4 + kind l.late l.side; positive = l.positive }

abbrev pub coded_by : Side → Literal → List kernel.Literal
coded_by Always l = coded_constant l.positive
coded_by Old l = coded_net l ∷ []
coded_by New l = coded_net l ∷ []

abbrev pub coded_literal : Literal → List kernel.Literal
coded_literal l = coded_by l.side l

-- the literals in the order in which a question denies them
abbrev pub coded_clause : Clause → List kernel.Literal
coded_clause c = (coded_literal c.third ++ coded_literal c.second) ++ coded_literal c.first
