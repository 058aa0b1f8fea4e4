-- Statuses: negation, and, or, and the order in which one knows less than another.
use Rattle.std.proofs.Common.{Bool, ap, cond, false, not, refl, subst, sym, true, ℕ, ◌&&◌, ◌==◌, ◌||◌, ◌∙◌, ◌≡◌}
use Rattle.est_kernel.specs.Laws.{IsBelow, KnowsMore}
use Rattle.est_kernel.specs.Statuses.{Environment, Minus, Plus, Status, Unknown, conjunction, disjunction, known, opposite, value, with_status}
use Rattle.est_kernel.specs.Terms.{And, Expression, Not, Or, Sig, Tick}

-- statuses
pub below_self : (v : Status) → IsBelow v v
below_self Plus = refl
below_self Minus = refl
below_self Unknown = tt

pub conjunction-minus : (v : Status) → conjunction v Minus ≡ Minus
conjunction-minus Plus = refl
conjunction-minus Minus = refl
conjunction-minus Unknown = refl

pub disjunction-minus : (v : Status) → disjunction v Minus ≡ v
disjunction-minus Plus = refl
disjunction-minus Minus = refl
disjunction-minus Unknown = refl

pub disjunction-plus : (v : Status) → disjunction v Plus ≡ Plus
disjunction-plus Plus = refl
disjunction-plus Minus = refl
disjunction-plus Unknown = refl

pub opposite_below : (v w : Status) → IsBelow v w → IsBelow (opposite v) (opposite w)
opposite_below Plus w h = ap opposite h
opposite_below Minus w h = ap opposite h
opposite_below Unknown w h = tt

pub knows_self : (E : Environment) → KnowsMore E E
knows_self E = record { statuses = λ t. below_self (E t) }

pub conjunction_below : (v v' w w' : Status) → IsBelow v v' → IsBelow w w' → IsBelow (conjunction v w) (conjunction v' w')
conjunction_below Minus v' w w' h g = ap (λ x. conjunction x w') h
conjunction_below Plus v' w w' h g = subst (λ x. IsBelow w (conjunction x w')) (sym h) g
conjunction_below Unknown v' Plus w' h g = tt
conjunction_below Unknown v' Minus w' h g = ap (λ x. conjunction v' x) g ∙ conjunction-minus v'
conjunction_below Unknown v' Unknown w' h g = tt

pub disjunction_below : (v v' w w' : Status) → IsBelow v v' → IsBelow w w' → IsBelow (disjunction v w) (disjunction v' w')
disjunction_below Plus v' w w' h g = ap (λ x. disjunction x w') h
disjunction_below Minus v' w w' h g = subst (λ x. IsBelow w (disjunction x w')) (sym h) g
disjunction_below Unknown v' Plus w' h g = ap (λ x. disjunction v' x) g ∙ disjunction-plus v'
disjunction_below Unknown v' Minus w' h g = tt
disjunction_below Unknown v' Unknown w' h g = tt

pub value_below : (e : Expression) (E F : Environment) → KnowsMore E F → IsBelow (value e E) (value e F)
value_below Tick E F m = refl
value_below (Sig s) E F m = m.statuses s
value_below (Not a) E F m = opposite_below (value a E) (value a F) (value_below a E F m)
value_below (And a b) E F m =
    conjunction_below (value a E) (value a F) (value b E) (value b F) (value_below a E F m) (value_below b E F m)
value_below (Or a b) E F m =
    disjunction_below (value a E) (value a F) (value b E) (value b F) (value_below a E F m) (value_below b E F m)

pub cond_below : (c : Bool) (v w x y : Status) → IsBelow v w → IsBelow x y → IsBelow (cond c v x) (cond c w y)
cond_below true v w x y h g = h
cond_below false v w x y h g = g

-- two statuses of which each is below the other are one
pub below_meets : (v w : Status) → IsBelow v w → IsBelow w v → v ≡ w
below_meets Plus w h g = sym h
below_meets Minus w h g = sym h
below_meets Unknown Plus h g = g
below_meets Unknown Minus h g = g
below_meets Unknown Unknown h g = refl

pub below_trans : (v w x : Status) → IsBelow v w → IsBelow w x → IsBelow v x
below_trans Plus w x h g = subst (λ y. IsBelow y x) h g
below_trans Minus w x h g = subst (λ y. IsBelow y x) h g
below_trans Unknown w x h g = tt

pub with_status-more : {E F : Environment} (s : ℕ) (v w : Status) → KnowsMore E F → IsBelow v w → KnowsMore (with_status E s v) (with_status F s w)
with_status-more {E} {F} s v w m h =
    record { statuses = λ t. cond_below (t == s) v w (E t) (F t) h (m.statuses t) }

pub below_known : (b : Bool) → IsBelow (known b) (known b)
below_known true = refl
below_known false = refl

pub opposite-known : (b : Bool) → opposite (known b) ≡ known (not b)
opposite-known true = refl
opposite-known false = refl

pub conjunction-known : (a b : Bool) → conjunction (known a) (known b) ≡ known (a && b)
conjunction-known true b = refl
conjunction-known false b = refl

pub disjunction-known : (a b : Bool) → disjunction (known a) (known b) ≡ known (a || b)
disjunction-known true b = refl
disjunction-known false b = refl
