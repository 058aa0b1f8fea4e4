-- Inner: tokens of the C subset that become tokens of a guarded text, one by one.
use Rattle.std.proofs.Common.{◌≡◌, ℕ, zero, suc, ◌+◌, ◌<◌, ◌≤◌, List, [], ◌∷◌, ◌++◌, length, map, take, drop, set, get_or, refl, ◌∙◌, ap, arith}
use Rattle.std.proofs.lemmas.List.{get_or_default}
use Rattle.csub_guard.specs.Tokens as guarded
use Rattle.csub_read.specs.Tokens.{kind_of}
use Rattle.csub_read.specs.declared.tokens.Kind.{Kind as CodeKind}
use Rattle.csub_text.specs.Tokens.{Kind, Token}
use Rattle.net_expressions.specs.Plain.{token_by}
use Rattle.net_expressions.specs.declared.kinds.Token.{Token as CodeToken}

module _ {X Y : Type 0} (f : X → Y) (g : Y → Y) where
  -- one more is put in its place
  pub placed-next : (xs : List X) (k : ℕ) (ys : List Y) (x d : X) → k < length xs → map f xs ≡ map g (take k ys) ++ drop k ys
      → f x ≡ g (f (get_or xs k d)) → map f (set xs k x) ≡ map g (take (k + 1) ys) ++ drop (k + 1) ys
  placed-next [] k ys x d low same is = absurd (omega (arith, low))
  placed-next (y ∷ xs) zero [] x d low same is = cc
  placed-next (y ∷ xs) zero (z ∷ ys) x d low same is =
      let head : f y ≡ z = cc in
      let tail : map f xs ≡ ys = cc in
      ap (λ v. v ∷ map f xs) (is ∙ ap g head) ∙ ap (λ l. g z ∷ l) tail
  placed-next (y ∷ xs) (suc k) [] x d low same is = cc
  placed-next (y ∷ xs) (suc k) (z ∷ ys) x d low same is =
      let head : f y ≡ g z = cc in
      let tail : map f xs ≡ map g (take k ys) ++ drop k ys = cc in
      let e : suc (k + 1) ≡ suc k + 1 = omega arith in
      ap (λ v. v ∷ map f (set xs k x)) head ∙ ap (λ l. g z ∷ l) (placed-next xs k ys x d (omega (arith, low)) tail is)
      ∙ ap (λ n. map g (take n (z ∷ ys)) ++ drop n (z ∷ ys)) e

  -- all of them are
  pub placed-all : (xs : List X) (k : ℕ) (ys : List Y) → length xs ≤ k → map f xs ≡ map g (take k ys) ++ drop k ys → map f xs ≡ map g ys
  placed-all [] zero [] high same = refl
  placed-all [] (suc k) [] high same = refl
  placed-all [] zero (z ∷ ys) high same = cc
  placed-all [] (suc k) (z ∷ ys) high same = cc
  placed-all (y ∷ xs) zero ys high same = absurd (omega (arith, high))
  placed-all (y ∷ xs) (suc k) [] high same = cc
  placed-all (y ∷ xs) (suc k) (z ∷ ys) high same =
      let head : f y ≡ g z = cc in
      let tail : map f xs ≡ map g (take k ys) ++ drop k ys = cc in
      ap (λ v. v ∷ map f xs) head ∙ ap (λ l. g z ∷ l) (placed-all xs k ys (omega (arith, high)) tail)

abbrev token : Kind → ℕ → Token
token kind at = record { kind = kind; at = at }

-- the token that is put
pub word-put : (items : List (CodeToken CodeKind)) (k : ℕ) (kind : CodeKind) (x y : CodeToken CodeKind) → k < length items → x ≡ get_or items k x
    → y ≡ get_or items k y → kind_of kind ≡ guarded.kind_of (kind_of x.kind)
    → token (kind_of kind) y.at ≡ guarded.token_of (token_by kind_of (get_or items k x))
word-put items k kind x y low at own is =
    let z = get_or items k x in
    let kinds : kind_of kind ≡ guarded.kind_of (kind_of z.kind) = is ∙ ap (λ (t : CodeToken CodeKind). guarded.kind_of (kind_of t.kind)) at in
    let places : y.at ≡ z.at = ap (λ (t : CodeToken CodeKind). t.at) (own ∙ get_or_default items k y x low) in
    ap (λ k. token k y.at) kinds ∙ ap (token (guarded.kind_of (kind_of z.kind))) places
