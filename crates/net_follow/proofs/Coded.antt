-- Clauses over variables say what clauses over nets say.
use Rattle.std.proofs.Common.{◌≡◌, ℕ, ◌+◌, ◌*◌, ◌/◌, ◌<◌, Bool, true, false, not, ◌||◌, List, [], ◌∷◌, ◌++◌, refl}
use Rattle.std.proofs.Common.{sym, ap, ◌∙◌, arith, map}
use Rattle.std.specs.Prelude.{if◌then◌else◌}
use Rattle.std.specs.List.{list_all}
use Rattle.std.proofs.lemmas.Bool.{and_from}
use Rattle.std.proofs.lemmas.Nat.{div-mul-add, mod-mul-add}
use Rattle.std.proofs.lemmas.List.Folds.{list_all-append, list_any-append}
use Rattle.sat_kernel.specs.Clauses.{IsModel, clause_value, literal_value, opposite as kernel_opposite}
use Rattle.sat_kernel.specs.declared.literals.Literal as kernel
use Rattle.net_follow.specs.declared.literals.Side.{Side}
use Rattle.net_follow.specs.declared.literals.Side.TheVariants.{Always, Old, New}
use Rattle.net_follow.specs.declared.literals.Literal.{Literal}
use Rattle.net_follow.specs.declared.literals.Clause.{Clause}
use Rattle.net_follow.specs.Literals.{IsSteady, signed, holds, opposite, meets_clause}
use Rattle.net_follow.specs.Coding.{kind, kind_value, valuation, coded_constant, coded_by, coded_literal, coded_clause}

-- ---- signs

signed-not : (p x : Bool) → signed (not p) x ≡ not (signed p x)
signed-not true x = refl
signed-not false true = refl
signed-not false false = refl

pub opposite-value : (V : Bool → Side → ℕ → Bool) (l : Literal) → holds V (opposite l) ≡ not (holds V l)
opposite-value V l = signed-not l.positive (V l.late l.side l.number)

sign-value : (p x y : Bool) → x ≡ y → ((if p then x else not x) || false) ≡ signed p y
sign-value true true y e = e
sign-value true false y e = e
sign-value false true y e = ap not e
sign-value false false y e = ap not e

-- ---- variables

number-value : (V : Bool → Side → ℕ → Bool) (n k : ℕ) → k < 4 → valuation V (n * 4 + k) ≡ kind_value V k n
number-value V n k low =
    ap (λ m. kind_value V m ((n * 4 + k) / 4)) (mod-mul-add n 4 k low) ∙ ap (kind_value V k) (div-mul-add n 4 k low)

old-value : (V : Bool → Side → ℕ → Bool) (late : Bool) (n : ℕ) → valuation V (n * 4 + kind late Old) ≡ V late Old n
old-value V false n = number-value V n 0 (omega arith)
old-value V true n = number-value V n 1 (omega arith)

new-value : (V : Bool → Side → ℕ → Bool) (late : Bool) (n : ℕ) → valuation V (n * 4 + kind late New) ≡ V late New n
new-value V false n = number-value V n 2 (omega arith)
new-value V true n = number-value V n 3 (omega arith)

-- ---- literals

either-way : (b : Bool) → (b || (not b || false)) ≡ true
either-way true = refl
either-way false = refl

constant-value : (v : ℕ → Bool) (p x : Bool) → x ≡ true → clause_value v (coded_constant p) ≡ signed p x
constant-value v true x e = either-way (v 0) ∙ sym e
constant-value v false x e = sym (ap not e)

value-by : (V : Bool → Side → ℕ → Bool) (l : Literal) (s : Side) → IsSteady V → l.side ≡ s
    → clause_value (valuation V) (coded_by s l) ≡ signed l.positive (V l.late s l.number)
value-by V l Always steady is = constant-value (valuation V) l.positive (V l.late Always l.number) (steady l.late l.number)
value-by V l Old steady is =
    sign-value l.positive (valuation V (l.number * 4 + kind l.late l.side)) (V l.late Old l.number)
    (ap (λ s. valuation V (l.number * 4 + kind l.late s)) is ∙ old-value V l.late l.number)
value-by V l New steady is =
    sign-value l.positive (valuation V (l.number * 4 + kind l.late l.side)) (V l.late New l.number)
    (ap (λ s. valuation V (l.number * 4 + kind l.late s)) is ∙ new-value V l.late l.number)

literal-value : (V : Bool → Side → ℕ → Bool) (l : Literal) → IsSteady V → clause_value (valuation V) (coded_literal l) ≡ holds V l
literal-value V l steady = value-by V l l.side steady refl

-- ---- clauses

or-turned : (x y z : Bool) → ((x || y) || z) ≡ (z || y || x)
or-turned true true true = refl
or-turned true true false = refl
or-turned true false true = refl
or-turned true false false = refl
or-turned false true true = refl
or-turned false true false = refl
or-turned false false true = refl
or-turned false false false = refl

or-both : (a b x y : Bool) → a ≡ x → b ≡ y → (a || b) ≡ (x || y)
or-both a b x y p q = λ i. p i || q i

pub coded-value : (V : Bool → Side → ℕ → Bool) (c : Clause) → IsSteady V → clause_value (valuation V) (coded_clause c) ≡ meets_clause V c
coded-value V c steady =
    let value = literal_value (valuation V) in
    let first = literal-value V c.first steady in
    let second = literal-value V c.second steady in
    let third = literal-value V c.third steady in
    list_any-append value (coded_literal c.third ++ coded_literal c.second) (coded_literal c.first)
    ∙ or-both _ _ (holds V c.third || holds V c.second) (holds V c.first)
    (list_any-append value (coded_literal c.third) (coded_literal c.second) ∙ or-both _ _ (holds V c.third) (holds V c.second) third second) first
    ∙ or-turned (holds V c.third) (holds V c.second) (holds V c.first)

pub model-more : (v : ℕ → Bool) (clauses : List (List kernel.Literal)) (c : List kernel.Literal) → IsModel v clauses → clause_value v c ≡ true
    → IsModel v (clauses ++ c ∷ [])
model-more v clauses c model holds =
    list_all-append (clause_value v) clauses (c ∷ []) ∙ and_from (list_all (clause_value v) clauses) (list_all (clause_value v) (c ∷ [])) model
    (and_from (clause_value v c) true holds refl)

-- ---- negations

not-twice : (b : Bool) → not (not b) ≡ b
not-twice true = refl
not-twice false = refl

pub opposites-twice : (literals : List kernel.Literal) → map kernel_opposite (map kernel_opposite literals) ≡ literals
opposites-twice [] = refl
opposites-twice (l ∷ ls) =
    let here : kernel_opposite (kernel_opposite l) ≡ l = ap (λ p. record { variable = l.variable; positive = p }) (not-twice l.positive) in
    ap (λ m. m ∷ map kernel_opposite (map kernel_opposite ls)) here ∙ ap (λ ms. l ∷ ms) (opposites-twice ls)
