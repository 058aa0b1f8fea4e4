-- Lists of equations that grow by one.
use Rattle.std.proofs.Common.{◌≡◌, ℕ, ◌+◌, ◌<◌, zero, suc, List, [], ◌∷◌, ◌++◌, length, take, get_or, refl, sym, ap, ◌∙◌, arith, append_assoc}
use Rattle.net_ir.specs.declared.netlist.NetOut.{NetOut}
use Rattle.net_ir.specs.Numbered.{numbered}
use Rattle.net_follow.specs.declared.literals.Equation.{Equation}
use Rattle.net_follow.specs.Frames.{output_equations, shows_equation}

numbered-suc : {X Y : Type 0} (f : ℕ → X → Y) (n : ℕ) (xs : List X) (k : ℕ) (d : X) → k < length xs
    → numbered f n (take (suc k) xs) ≡ numbered f n (take k xs) ++ f (n + k) (get_or xs k d) ∷ []
numbered-suc f n [] k d low = absurd (omega arith)
numbered-suc f n (x ∷ xs) zero d low = let e : n ≡ n + 0 = omega arith in ap (λ m. f m x ∷ []) e
numbered-suc f n (x ∷ xs) (suc k) d low =
    let e : n + 1 + k ≡ n + suc k = omega arith in
    ap (λ ys. f n x ∷ ys) (numbered-suc f (n + 1) xs k d (omega arith)
    ∙ ap (λ m. numbered f (n + 1) (take k xs) ++ f m (get_or xs k d) ∷ []) e)

numbered-more : {X Y : Type 0} (f : ℕ → X → Y) (n : ℕ) (xs : List X) (k : ℕ) (d : X) → k < length xs
    → numbered f n (take (k + 1) xs) ≡ numbered f n (take k xs) ++ f (n + k) (get_or xs k d) ∷ []
numbered-more f n xs k d low = let on : k + 1 ≡ suc k = omega arith in ap (λ m. numbered f n (take m xs)) on ∙ numbered-suc f n xs k d low

-- one more number
pub pushed : {X Y : Type 0} (f : ℕ → X → Y) (n : ℕ) (xs : List X) (k : ℕ) (d : X) (start before after : List Y) → k < length xs
    → before ≡ start ++ numbered f n (take k xs) → after ≡ before ++ f (n + k) (get_or xs k d) ∷ [] → after ≡ start ++ numbered f n (take (k + 1) xs)
pushed f n xs k d start before after low was is =
    is ∙ ap (λ l. l ++ f (n + k) (get_or xs k d) ∷ []) was ∙ append_assoc start (numbered f n (take k xs)) (f (n + k) (get_or xs k d) ∷ [])
    ∙ ap (λ l. start ++ l) (sym (numbered-more f n xs k d low))

outputs-suc : (old new : List NetOut) (k : ℕ) (c d : NetOut) → k < length old → length new ≡ length old
    → output_equations (take (suc k) old) (take (suc k) new)
    ≡ output_equations (take k old) (take k new) ++ shows_equation (get_or new k d).net.0 (get_or old k c).net.0 ∷ []
outputs-suc [] new k c d low same = absurd (omega arith)
outputs-suc (o ∷ old) [] k c d low same = absurd (omega arith)
outputs-suc (o ∷ old) (p ∷ new) zero c d low same = refl
outputs-suc (o ∷ old) (p ∷ new) (suc k) c d low same =
    ap (λ l. shows_equation p.net.0 o.net.0 ∷ l) (outputs-suc old new k c d (omega arith) (omega arith))

outputs-more : (old new : List NetOut) (k : ℕ) (c d : NetOut) → k < length old → length new ≡ length old
    → output_equations (take (k + 1) old) (take (k + 1) new)
    ≡ output_equations (take k old) (take k new) ++ shows_equation (get_or new k d).net.0 (get_or old k c).net.0 ∷ []
outputs-more old new k c d low same =
    let on : k + 1 ≡ suc k = omega arith in ap (λ m. output_equations (take m old) (take m new)) on ∙ outputs-suc old new k c d low same

pub outputs-pushed : (old new : List NetOut) (k : ℕ) (c d : NetOut) (start before after : List Equation) → k < length old → length new ≡ length old
    → before ≡ start ++ output_equations (take k old) (take k new)
    → after ≡ before ++ shows_equation (get_or new k d).net.0 (get_or old k c).net.0 ∷ []
    → after ≡ start ++ output_equations (take (k + 1) old) (take (k + 1) new)
outputs-pushed old new k c d start before after low same was is =
    let e = shows_equation (get_or new k d).net.0 (get_or old k c).net.0 in
    is ∙ ap (λ l. l ++ e ∷ []) was ∙ append_assoc start (output_equations (take k old) (take k new)) (e ∷ [])
    ∙ ap (λ l. start ++ l) (sym (outputs-more old new k c d low same))
