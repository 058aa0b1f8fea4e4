-- Inner: the part with a number, by the section that it stands in.
use Rattle.std.proofs.Common.{◌≡◌, ℕ, ◌+◌, ◌-◌, ◌<◌, ◌≤◌, zero, suc, true, false, List, [], ◌∷◌, ◌++◌, length, take, get_or}
use Rattle.std.proofs.Common.{refl, sym, ap, ◌∙◌, subst, arith}
use Rattle.std.specs.Prelude.{flat_map, Result, OnOk}
use Rattle.std.proofs.Math.Seq.{take-suc}
use Rattle.std.proofs.lemmas.List.{length-append, take_all}
use Rattle.std.proofs.lemmas.List.Concat.{flat_map-append}
use Rattle.net_ir.specs.Numbered.{numbered}
use Rattle.net_ir.proofs.Exports.{length-numbered, get_or-numbered}
use Rattle.net_writer.specs.Parts.{PutsPart}
use Rattle.net_writer.proofs.Joined.{puts-here, puts-later}

module _ {S : Type 0} (parts : S → List (List ℕ)) where
  -- a section has a part at this place, behind the parts of the sections before it
  pub part-in : (sections : List S) (i place k : ℕ) (s : S) (old new : List ℕ) → i < length sections → s ≡ get_or sections i s
      → place + length (flat_map parts (take i sections)) ≡ k → place < length (parts s) → new ≡ old ++ get_or (parts s) place []
      → PutsPart (flat_map parts sections) k old new true
  part-in [] i place k s old new low at is within puts = absurd (omega (arith, low))
  part-in (x ∷ sections) zero place k s old new low at is within puts =
      let here : place ≡ k = omega (arith, is) in
      subst (λ n. PutsPart (flat_map parts (x ∷ sections)) n old new true) here
      (puts-here (parts x) (flat_map parts sections) place (get_or (parts x) place []) old new (subst (λ y. place < length (parts y)) at within) refl
      (puts ∙ ap (λ y. old ++ get_or (parts y) place []) at))
  part-in (x ∷ sections) (suc i) place k s old new low at is within puts =
      let wide = length-append (parts x) (flat_map parts (take i sections)) in
      puts-later (parts x) (flat_map parts sections) k old new true (omega (arith, is, wide))
      (part-in sections i place (k - length (parts x)) s old new (omega (arith, low)) at (omega (arith, is, wide)) within puts)

  -- behind all sections there is none
  pub no-part : (sections : List S) (n place k : ℕ) (old : List ℕ) → length sections ≤ n → place + length (flat_map parts (take n sections)) ≡ k
      → PutsPart (flat_map parts sections) k old old false
  no-part sections n place k old all is = let whole = ap (λ xs. length (flat_map parts xs)) (take_all n sections all) in (omega (arith, is, whole), refl)

  one-more : (sections : List S) (i : ℕ) (s : S) → i < length sections → s ≡ get_or sections i s
      → length (flat_map parts (take (suc i) sections)) ≡ length (flat_map parts (take i sections)) + length (parts s)
  one-more sections i s low at =
      let here = get_or sections i s in
      let whole = ap (λ xs. length (flat_map parts xs)) (take-suc sections i s low) ∙ ap length (flat_map-append parts (take i sections) (here ∷ [])) in
      let same = ap (λ y. length (parts y)) at in
      omega (arith, whole, length-append (flat_map parts (take i sections)) (parts here ++ []), length-append (parts here) [], same)

  -- the place behind a section
  pub place-behind : (sections : List S) (i j place k count : ℕ) (s : S) → i < length sections → s ≡ get_or sections i s → j ≡ suc i
      → place + length (flat_map parts (take i sections)) ≡ k → count ≡ length (parts s) → count ≤ place
      → (place - count) + length (flat_map parts (take j sections)) ≡ k
  place-behind sections i j place k count s low at next is wide high =
      let more = ap (λ n. length (flat_map parts (take n sections))) next ∙ one-more sections i s low at in omega (arith, is, more, wide, high)

-- ---- the parts of a section that has one for each element of a list

-- how many they are, and each of them
pub ruleset section_parts = (length-numbered, get_or-numbered)

-- that of an element whose number alone counts
pub counted-part : {X : Type 0} (f : ℕ → List ℕ) (xs : List X) (n k : ℕ) → k < length xs → f (n + k) ≡ get_or (numbered (λ j x. f j) n xs) k []
counted-part f [] n k low = absurd (omega (arith, low))
counted-part f (x ∷ xs) n zero low = let e : n + 0 ≡ n = omega arith in ap f e
counted-part f (x ∷ xs) n (suc k) low = let e : n + suc k ≡ n + 1 + k = omega arith in ap f e ∙ counted-part f xs (n + 1) k (omega (arith, low))

-- what was put behind a text is the part of a section, where it is that one
pub put-counted : {S X E U : Type 0} (parts : S → List (List ℕ)) (s t : S) (f : ℕ → List ℕ) (xs : List X) (k : ℕ) (old new : List ℕ) (r : Result U E)
    → s ≡ t → parts t ≡ numbered (λ j x. f j) 0 xs → k < length (parts s) → OnOk r (new ≡ old ++ f k) → OnOk r (new ≡ old ++ get_or (parts s) k [])
put-counted parts s t f xs k old new r same is low put =
    let z : 0 + k ≡ k = omega arith in
    let whole = ap parts same ∙ is in
    let wide = ap length whole ∙ length-numbered (λ j x. f j) 0 xs in
    subst (λ p. OnOk r (new ≡ old ++ p)) (ap f (sym z) ∙ counted-part f xs 0 k (omega (arith, low, wide)) ∙ ap (λ q. get_or q k []) (sym whole)) put
