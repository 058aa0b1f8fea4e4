-- What a writer holds after several writes, where it tells that.
use Rattle.std.proofs.Common.{◌≡◌, ℕ, ◌-◌, ◌≤◌, ◌<◌, List, [], ◌++◌, length, take, drop, Option, None, Some, IfSome, Vec, sym, ap, ◌∙◌, subst, append_assoc}
use Rattle.std.proofs.Common.{append-nil, arith}
use Rattle.std.proofs.lemmas.List.{take_all, length-take, length-drop, take-append-drop}
use Rattle.std.proofs.Math.Seq.{take-append_seam}
use Rattle.std.specs.Option.{option_map}
use Rattle.std.specs.declared.alloc.Global.{Global}
use Rattle.base_types.specs.Reading.{ReadsWhole}
use Rattle.std.specs.Io.KnownBytes.{Appends, Keeps}

-- a front of the piece was taken, and the rest is left
abbrev pub HeldSoFar : Option (List ℕ) → Option (List ℕ) → List ℕ → List ℕ → Type 0
HeldSoFar before now piece rest = (front : List ℕ) × (piece ≡ front ++ rest) × Appends before now front

pub holds-nothing : (a : Option (List ℕ)) → Appends a a []
holds-nothing None = tt
holds-nothing (Some xs) = sym (append-nil xs)

pub holds-twice : (a b c : Option (List ℕ)) (x y : List ℕ) → Appends a b x → Appends b c y → Appends a c (x ++ y)
holds-twice None b c x y p q = tt
holds-twice (Some a) None c x y p q = absurd p
holds-twice (Some a) (Some b) None x y p q = absurd q
holds-twice (Some a) (Some b) (Some c) x y p q = q ∙ ap (λ t. t ++ y) p ∙ append_assoc a x y

pub keeps-holds : (a b : Option (List ℕ)) → Keeps a b → Appends a b []
keeps-holds None b k = tt
keeps-holds (Some xs) None k = absurd k
keeps-holds (Some xs) (Some ys) k = k ∙ sym (append-nil xs)

-- what is left of a list behind its first n
rest_is : (n : ℕ) (list : List ℕ) → n ≤ length list → take (length list - n) (drop n list) ≡ drop n list
rest_is n list h = take_all (length list - n) (drop n list) (omega (arith, length-drop n list))

-- more was taken of a piece
pub more_held : (a b c : Option (List ℕ)) (piece rest : List ℕ) (n : ℕ) → HeldSoFar a b piece rest → n ≤ length rest → Appends b c (take n rest) →
    HeldSoFar a c piece (take (length rest - n) (drop n rest))
more_held a b c piece rest n h l p =
    let cut : rest ≡ take n rest ++ take (length rest - n) (drop n rest) = sym (take-append-drop n rest)
    ∙ ap (λ t. take n rest ++ t) (sym (rest_is n rest l)) in
    (h.0 ++ take n rest, h.1 ∙ ap (λ t. h.0 ++ t) cut ∙ sym (append_assoc h.0 (take n rest) _), holds-twice a b c h.0 (take n rest) h.2 p)

-- where a write fails, a front of the piece was taken
pub front_held : (a b c : Option (List ℕ)) (piece rest : List ℕ) → HeldSoFar a b piece rest → Appends b c [] → (taken : ℕ) × Appends a c (take taken piece)
front_held a b c piece rest h p =
    let all : Appends a c h.0 = subst (λ t. Appends a c t) (append-nil h.0) (holds-twice a b c h.0 [] h.2 p) in
    (length h.0, subst (λ t. Appends a c t) (sym (ap (take (length h.0)) h.1 ∙ take-append_seam h.0 rest)) all)

-- a read to the end through a limit that it did not reach gave all that was left
pub all_read : {R : Type 0} (remaining : R → Option (List ℕ)) (reader inner : R) (limit cut : ℕ) (old : List ℕ) (bytes : Vec ℕ Global) → inner ≡ reader →
    old ≡ [] → IfSome (option_map (take cut) (remaining inner)) (λ xs. bytes.items ≡ old ++ xs) → length bytes.items < cut →
    ReadsWhole (remaining reader) limit (Some bytes)
all_read remaining reader inner limit cut old bytes is empty h l =
    subst (λ r. ReadsWhole (remaining r) limit (Some bytes)) is (of_left (remaining inner) h)
  where
    of_left : (left : Option (List ℕ)) → IfSome (option_map (take cut) left) (λ xs. bytes.items ≡ old ++ xs) → ReadsWhole left limit (Some bytes)
    of_left None h = tt
    of_left (Some xs) h =
        let e : bytes.items ≡ take cut xs = h ∙ ap (λ o. o ++ take cut xs) empty in
        e ∙ take_all cut xs (omega (arith, l, ap length e, length-take cut xs))
