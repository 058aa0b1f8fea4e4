-- Inner: sets of kinds of tokens, as lists of numbers with tests that compute.
use Rattle.std.proofs.Common.{◌≡◌, ℕ, Bool, true, false, IsTrue, cond, eqb, List, [], ◌∷◌, ◌++◌, Option, Some, None, is_some, refl, sym, ◌∙◌, ap}
use Rattle.std.proofs.lemmas.Bool.{eqb-true}

abbrev pub has : List ℕ → ℕ → Bool
has [] k = false
has (j ∷ js) k = cond (eqb j k) true (has js k)

-- each of the first is one of the second
abbrev pub within : List ℕ → List ℕ → Bool
within [] ks = true
within (j ∷ js) ks = cond (has ks j) (within js ks) false

-- none of the first is one of the second
abbrev pub apart : List ℕ → List ℕ → Bool
apart [] ks = true
apart (j ∷ js) ks = cond (has ks j) false (apart js ks)

-- the set, or none of it
abbrev pub those : Bool → List ℕ → List ℕ
those true js = js
those false js = []

-- what the kind of a token takes is taken by this test, and only that
pub record Test {T X : Type 0} (class : T → ℕ) (test : T → Option X) (set : List ℕ) : Type 0 where
  pub hit : (token : T) (value : X) → test token ≡ Some value → has set (class token) ≡ true
  pub sure : (token : T) → has set (class token) ≡ true → (value : X) × (test token ≡ Some value)
  pub token : T
  pub value : X
  pub takes : test token ≡ Some value

-- a test that agrees with a set of kinds
pub test-of : {T X : Type 0} {class : T → ℕ} {test : T → Option X} (set : List ℕ) → ((token : T) → is_some (test token) ≡ has set (class token)) →
    (token : T) (value : X) → test token ≡ Some value → Test class test set
test-of {T} {X} {class} {test} set agrees token value takes = record {
  hit = λ other found is. sym (agrees other) ∙ ap is_some is;
  sure = λ other inside. go (test other) refl (agrees other ∙ inside);
  token = token;
  value = value;
  takes = takes;
}
  where
    go : {other : T} (o : Option X) → test other ≡ o → is_some (test other) ≡ true → (found : X) × (test other ≡ Some found)
    go None is some = let e = ap is_some is in cc
    go (Some found) is some = (found, is)

-- what a test takes is known by the kind alone
pub missed : {T X : Type 0} {class : T → ℕ} {test : T → Option X} {set : List ℕ} → Test class test set → (token : T) →
    has set (class token) ≡ false → test token ≡ None
missed {T} {X} {class} {test} {set} t token out = go (test token) refl
  where
    go : (o : Option X) → test token ≡ o → o ≡ None
    go None is = refl
    go (Some value) is = let taken = t.hit token value is in cc

cond_true : (b : Bool) (other : Bool) → cond b true other ≡ false → (b ≡ false) × (other ≡ false)
cond_true true other is = cc
cond_true false other is = (refl, is)

pub has-front : (js ks : List ℕ) (k : ℕ) → has js k ≡ true → has (js ++ ks) k ≡ true
has-front [] ks k is = cc
has-front (j ∷ js) ks k is = go (eqb j k) is (has-front js ks k)
  where
    go : (b : Bool) → cond b true (has js k) ≡ true → (has js k ≡ true → has (js ++ ks) k ≡ true) → cond b true (has (js ++ ks) k) ≡ true
    go true is more = refl
    go false is more = more is

pub has-back : (js ks : List ℕ) (k : ℕ) → has ks k ≡ true → has (js ++ ks) k ≡ true
has-back [] ks k is = is
has-back (j ∷ js) ks k is = go (eqb j k) (has-back js ks k is)
  where
    go : (b : Bool) → has (js ++ ks) k ≡ true → cond b true (has (js ++ ks) k) ≡ true
    go true more = refl
    go false more = more

-- what is in neither part
pub out-front : (js ks : List ℕ) (k : ℕ) → has (js ++ ks) k ≡ false → has js k ≡ false
out-front js ks k out = go (has js k) refl
  where
    go : (b : Bool) → has js k ≡ b → b ≡ false
    go true is = let e = has-front js ks k is in cc
    go false is = refl

pub out-back : (js ks : List ℕ) (k : ℕ) → has (js ++ ks) k ≡ false → has ks k ≡ false
out-back js ks k out = go (has ks k) refl
  where
    go : (b : Bool) → has ks k ≡ b → b ≡ false
    go true is = let e = has-back js ks k is in cc
    go false is = refl

pub has-within : (js ks : List ℕ) (k : ℕ) → IsTrue (within js ks) → has js k ≡ true → has ks k ≡ true
has-within [] ks k inside is = cc
has-within (j ∷ js) ks k inside is = go (λ h e. has-within js ks k h e) (has ks j) refl inside (eqb j k) refl is
  where
    go : (IsTrue (within js ks) → has js k ≡ true → has ks k ≡ true) → (b : Bool) → has ks j ≡ b → IsTrue (cond b (within js ks) false) → (c : Bool) →
        eqb j k ≡ c → cond c true (has js k) ≡ true → has ks k ≡ true
    go others true at inside true same is = ap (has ks) (sym (eqb-true j k same)) ∙ at
    go others true at inside false same is = others inside is
    go others false at inside c same is = cc

pub out-within : (js ks : List ℕ) (k : ℕ) → IsTrue (within js ks) → has ks k ≡ false → has js k ≡ false
out-within js ks k inside out = go (has js k) refl
  where
    go : (b : Bool) → has js k ≡ b → b ≡ false
    go true is = let e = has-within js ks k inside is in cc
    go false is = refl

-- what is one of the second is none of the first
pub out-apart : (js ks : List ℕ) (k : ℕ) → IsTrue (apart js ks) → has ks k ≡ true → has js k ≡ false
out-apart [] ks k away is = refl
out-apart (j ∷ js) ks k away is = go (λ h. out-apart js ks k h is) (has ks j) refl away (eqb j k) refl
  where
    go : (IsTrue (apart js ks) → has js k ≡ false) → (b : Bool) → has ks j ≡ b → IsTrue (cond b false (apart js ks)) → (c : Bool) → eqb j k ≡ c →
        cond c true (has js k) ≡ false
    go others true at away c same = cc
    go others false at away true same = let e = ap (has ks) (eqb-true j k same) in cc
    go others false at away false same = others away
