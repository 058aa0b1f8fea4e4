-- Why an implication holds.
use Rattle.std.proofs.Common.{◌≡◌, Bool, true, false, not, ◌&&◌, ◌||◌, if◌then◌else◌, List, refl, sym, ◌∙◌}
use Rattle.std.proofs.lemmas.Bool.{true≢false}
use Rattle.net_ir.specs.Gates.{value_in}
use Rattle.net_ir.specs.Netlists.{Netlist}
use Rattle.net_relations.specs.Implications.{Entails, Holds, IsJoined, opposite, signed_value}
use Rattle.net_relations.specs.declared.implications.Implication.{Implication}
use Rattle.net_relations.specs.declared.implications.Signed.{Signed}

not-once : (b x : Bool) → (if not b then not x else x) ≡ not (if b then not x else x)
not-once true true = refl
not-once true false = refl
not-once false x = refl

pub value-opposite : (v : List Bool) (s : Signed) → signed_value v (opposite s) ≡ not (signed_value v s)
value-opposite v s = not-once s.negated (value_in v s.net.0)

turned-back : (a b : Bool) → (not b ≡ true → not a ≡ true) → a ≡ true → b ≡ true
turned-back a true h is = refl
turned-back true false h is = absurd (true≢false (sym (h refl)))
turned-back false false h is = is

-- an implication holds where its contrapositive does
pub contrapositive : (v : List Bool) (a b : Signed) → Holds v (record { cause = opposite b; effect = opposite a }) → Holds v (record { cause = a; effect = b })
contrapositive v a b h =
    turned-back (signed_value v a) (signed_value v b)
    (λ e. sym (value-opposite v a) ∙ h (value-opposite v b ∙ e))

and-parts : (c x y : Bool) → c ≡ (x && y) → c ≡ true → (x ≡ true) × (y ≡ true)
and-parts c true y e is = (refl, sym e ∙ is)
and-parts c false y e is = absurd (true≢false (sym is ∙ e))

or-cases : (x y c : Bool) → (x ≡ true → c ≡ true) → (y ≡ true → c ≡ true) → (x || y) ≡ true → c ≡ true
or-cases true y c l r h = l refl
or-cases false y c l r h = r h

-- ---- a cause that is two signed nets, joined

pub cause-left : (net : Netlist) (known : List Implication) (s a b e : Signed) → IsJoined net (λ x y. x && y) s a b
    → Entails net known (record { cause = a; effect = e }) → Entails net known (record { cause = s; effect = e })
cause-left net known s a b e joined h = λ v solved all is.
    h v solved all (and-parts (signed_value v s) (signed_value v a) (signed_value v b) (joined.value v solved) is).0

pub cause-right : (net : Netlist) (known : List Implication) (s a b e : Signed) → IsJoined net (λ x y. x && y) s a b
    → Entails net known (record { cause = b; effect = e }) → Entails net known (record { cause = s; effect = e })
cause-right net known s a b e joined h = λ v solved all is.
    h v solved all (and-parts (signed_value v s) (signed_value v a) (signed_value v b) (joined.value v solved) is).1

pub cause-either : (net : Netlist) (known : List Implication) (s a b e : Signed) → IsJoined net (λ x y. x || y) s a b
    → Entails net known (record { cause = a; effect = e }) → Entails net known (record { cause = b; effect = e })
    → Entails net known (record { cause = s; effect = e })
cause-either net known s a b e joined h g = λ v solved all is.
    or-cases (signed_value v a) (signed_value v b) (signed_value v e) (h v solved all) (g v solved all) (sym (joined.value v solved) ∙ is)

-- ---- an effect that is two signed nets, joined

both-true : (x y : Bool) → x ≡ true → y ≡ true → (x && y) ≡ true
both-true x y h g = cc

left-true : (x y : Bool) → x ≡ true → (x || y) ≡ true
left-true x y h = cc

right-true : (x y : Bool) → y ≡ true → (x || y) ≡ true
right-true true y h = refl
right-true false y h = h

pub effect-both : (net : Netlist) (known : List Implication) (c s a b : Signed) → IsJoined net (λ x y. x && y) s a b
    → Entails net known (record { cause = c; effect = a }) → Entails net known (record { cause = c; effect = b })
    → Entails net known (record { cause = c; effect = s })
effect-both net known c s a b joined h g = λ v solved all is.
    joined.value v solved ∙ both-true (signed_value v a) (signed_value v b) (h v solved all is) (g v solved all is)

pub effect-left : (net : Netlist) (known : List Implication) (c s a b : Signed) → IsJoined net (λ x y. x || y) s a b
    → Entails net known (record { cause = c; effect = a }) → Entails net known (record { cause = c; effect = s })
effect-left net known c s a b joined h = λ v solved all is.
    joined.value v solved ∙ left-true (signed_value v a) (signed_value v b) (h v solved all is)

pub effect-right : (net : Netlist) (known : List Implication) (c s a b : Signed) → IsJoined net (λ x y. x || y) s a b
    → Entails net known (record { cause = c; effect = b }) → Entails net known (record { cause = c; effect = s })
effect-right net known c s a b joined h = λ v solved all is.
    joined.value v solved ∙ right-true (signed_value v a) (signed_value v b) (h v solved all is)
