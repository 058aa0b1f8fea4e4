-- Inner: lists from an element on, and lists that are taken from their end.
use Rattle.std.proofs.Common.{◌≡◌, ℕ, zero, suc, ◌+◌, ◌<◌, List, [], ◌∷◌, ◌++◌, length, map, get_or, take, drop, refl, sym, ◌∙◌, ap, append_assoc, append-nil}
use Rattle.std.proofs.Common.{arith}
use Rattle.std.proofs.lemmas.List.{take_more, map-append}
use Rattle.base_facts.proofs.Lists.{drop-at}
use Rattle.est_kernel.specs.Terms as terms
use Rattle.est_kernel.specs.Terms.{Term, Expression}
use Rattle.est_dismantle.specs.Choices.{chosen_of}
use Rattle.est_dismantle.specs.Kernels.{nested, times, locals}

-- the element at a place, whatever stands for one outside
pub get_or-same : {X : Type 0} (xs : List X) (i : ℕ) (d : X) → i < length xs → get_or xs i d ≡ get_or xs i (get_or xs i d)
get_or-same [] i d h = absurd (omega (arith, h))
get_or-same (x ∷ xs) zero d h = refl
get_or-same (x ∷ xs) (suc i) d h = get_or-same xs i d (omega (arith, h))

-- the last two parts are joined first
nested-popped : {A : Type 0} (join : A → A → A) (none : A) (l : List A) (a b : A) → nested join none (l ++ join a b ∷ []) ≡ nested join none (l ++ a ∷ (b ∷ []))
nested-popped join none [] a b = refl
nested-popped join none (p ∷ []) a b = refl
nested-popped join none (p ∷ (q ∷ l)) a b = ap (join p) (nested-popped join none (q ∷ l) a b)

pub nested-pop : {X A : Type 0} (f : X → A) (join : A → A → A) (none : A) (old new : List X) (x : X) (b : A) → old ≡ new ++ x ∷ [] →
    nested join none (map f new ++ join (f x) b ∷ []) ≡ nested join none (map f old ++ b ∷ [])
nested-pop f join none old new x b is =
    nested-popped join none (map f new) (f x) b
    ∙ ap (nested join none) (sym (append_assoc (map f new) (f x ∷ []) (b ∷ [])) ∙ ap (λ l. l ++ b ∷ []) (sym (ap (map f) is ∙ map-append f new (x ∷ []))))

pub nested-first : {X A : Type 0} (f : X → A) (join : A → A → A) (none : A) (old new : List X) (x : X) → old ≡ new ++ x ∷ [] →
    nested join none (map f new ++ f x ∷ []) ≡ nested join none (map f old)
nested-first f join none old new x is = ap (nested join none) (sym (ap (map f) is ∙ map-append f new (x ∷ [])))

pub nested-end : {X A : Type 0} (f : X → A) (join : A → A → A) (none : A) (old : List X) (b : A) → old ≡ [] → nested join none (map f old ++ b ∷ []) ≡ b
nested-end f join none old b is = ap (λ l. nested join none (map f l ++ b ∷ [])) is

chosen-back : (l : List (Expression × Term)) (c : Expression × Term) (r : Term) → chosen_of (l ++ c ∷ []) r ≡ chosen_of l (terms.Present c.0 c.1 r)
chosen-back [] c r = refl
chosen-back (d ∷ l) c r = ap (terms.Present d.0 d.1) (chosen-back l c r)

pub chosen-pop : {X : Type 0} (f : X → Expression × Term) (old new : List X) (x : X) (r : Term) → old ≡ new ++ x ∷ [] →
    chosen_of (map f new) (terms.Present (f x).0 (f x).1 r) ≡ chosen_of (map f old) r
chosen-pop f old new x r is = sym (chosen-back (map f new) (f x) r) ∙ ap (λ l. chosen_of l r) (sym (ap (map f) is ∙ map-append f new (x ∷ [])))

pub times-more : (n : ℕ) (p : Term) → times n p ++ p ∷ [] ≡ times (n + 1) p
times-more zero p = refl
times-more (suc n) p = ap (λ l. p ∷ l) (times-more n p) ∙ ap (λ k. times k p) (let e : suc (n + 1) ≡ suc n + 1 = omega arith in e)

pub locals-at : {X : Type 0} (f : X → ℕ) (l : List X) (i k m : ℕ) (x : X) (p : Term) → i < length l → k ≡ i → m ≡ i + 1 → x ≡ get_or l i x →
    locals (map f (drop k l)) p ≡ terms.Local (f x) (locals (map f (drop m l)) p)
locals-at f l i k m x p h same next is =
    ap (λ j. locals (map f (drop j l)) p) same ∙ ap (λ s. locals (map f s) p) (drop-at l i x h is)
    ∙ ap (λ j. terms.Local (f x) (locals (map f (drop j l)) p)) (sym next)

pub times-pushed : {X : Type 0} (f : X → Term) (new old : List X) (x : X) (n m : ℕ) (p : Term) → new ≡ old ++ x ∷ [] → f x ≡ p → map f old ≡ times n p →
    m ≡ n + 1 → map f new ≡ times m p
times-pushed f new old x n m p is same copies next =
    ap (map f) is ∙ map-append f old (x ∷ []) ∙ ap (λ l. l ++ f x ∷ []) copies ∙ ap (λ q. times n p ++ q ∷ []) same ∙ times-more n p
    ∙ ap (λ k. times k p) (sym next)

pub map-pushed : {X Y Z : Type 0} (f : X → Z) (g : Y → Z) (new old : List X) (x : X) (l : List Y) (i : ℕ) (y : Y) → new ≡ old ++ x ∷ [] →
    map f old ≡ map g (take i l) → i < length l → y ≡ get_or l i y → f x ≡ g y → map f new ≡ map g (take (i + 1) l)
map-pushed f g new old x l i y is front h at same =
    ap (map f) is ∙ map-append f old (x ∷ []) ∙ ap (λ s. s ++ f x ∷ []) front ∙ ap (λ z. map g (take i l) ++ z ∷ []) (same ∙ ap g at)
    ∙ sym (map-append g (take i l) (get_or l i y ∷ [])) ∙ ap (map g) (sym (take_more l i y h))

-- one more element in front of what is left
pub joined-on : {X Z : Type 0} (f : X → Z) (new old : List X) (x : X) (z : Z) (left rest whole : List Z) → new ≡ old ++ x ∷ [] → f x ≡ z → left ≡ z ∷ rest →
    map f old ++ left ≡ whole → map f new ++ rest ≡ whole
joined-on f new old x z left rest whole is same next before =
    ap (λ l. map f l ++ rest) is ∙ ap (λ l. l ++ rest) (map-append f old (x ∷ [])) ∙ append_assoc (map f old) (f x ∷ []) rest
    ∙ ap (λ l. map f old ++ l) (ap (λ y. y ∷ rest) same ∙ sym next) ∙ before

pub joined-end : {Z : Type 0} (all left whole : List Z) → left ≡ [] → all ++ left ≡ whole → all ≡ whole
joined-end all left whole none before = sym (append-nil all) ∙ ap (λ l. all ++ l) (sym none) ∙ before
