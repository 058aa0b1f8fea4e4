-- Inner: the text of sections of parts, from a place on.
use Rattle.std.proofs.Common.{◌≡◌, ℕ, ◌+◌, ◌*◌, ◌/◌, ◌%◌, ◌<◌, ◌≤◌, List, [], ◌∷◌, ◌++◌, length, drop, get_or, refl, sym, ap, ◌∙◌, arith, append_assoc}
use Rattle.std.proofs.Common.{inl, inr}
use Rattle.std.specs.List.{flat_map}
use Rattle.std.proofs.lemmas.Bool.{cases_lt}
use Rattle.std.proofs.lemmas.List.{drop_more, drop_all, get_or-map, get_or_past}
use Rattle.std.proofs.lemmas.List.Concat.{flat_map-append}
use Rattle.std.proofs.Math.Nat.{add-mul, lt-div-mul-add}
use Rattle.std.proofs.lemmas.Nat.{div-add-mod', div-mul-add, mod-mul-add}
use Rattle.net_writer.specs.Parts.{joined}
use Rattle.net_ir.specs.Netlists.{Netlist}
use Rattle.vlog_reset.specs.Options.{ModuleOptions}
use Rattle.vlog_reset.specs.Parts.{all_parts, parts_in, text_at}
use Rattle.vlog_reset.specs.declared.parts.ResetSection.{ResetSection}
use Rattle.vlog_reset.specs.declared.parts.TheConstants.{SECTIONS}

-- the parts of the sections from one on
abbrev sections_after : List (List (List ℕ)) → ℕ → List ℕ
sections_after sections n = joined (flat_map (λ parts. parts) (drop n sections))

-- the text begins with its first part
pub text-start : (sections : List (List (List ℕ))) → text_at sections 0 0 ≡ joined (flat_map (λ parts. parts) sections)
text-start [] = refl
text-start (parts ∷ sections) = sym (flat_map-append (λ part. part) parts (flat_map (λ parts. parts) sections))

-- a part of a section, and what follows it
pub text-part : (sections : List (List (List ℕ))) (n k : ℕ) → k < length (get_or sections n [])
    → get_or (get_or sections n []) k [] ++ text_at sections n (k + 1) ≡ text_at sections n k
text-part sections n k low =
    let parts = get_or sections n [] in
    sym (append_assoc (get_or parts k []) (joined (drop (k + 1) parts)) (sections_after sections (n + 1)))
    ∙ ap (λ l. joined l ++ sections_after sections (n + 1)) (sym (drop_more parts k [] low))

-- after the last part of a section the next one begins
pub text-next : (sections : List (List (List ℕ))) (n k : ℕ) → length (get_or sections n []) ≤ k → text_at sections (n + 1) 0 ≡ text_at sections n k
text-next sections n k high =
    begins (n + 1) ∙ ap (λ l. joined l ++ sections_after sections (n + 1)) (sym (drop_all k (get_or sections n []) high))
  where
    begins : (m : ℕ) → text_at sections m 0 ≡ sections_after sections m
    begins m = elim (cases_lt m (length sections)) [
      | inl low ↦
          sym (flat_map-append (λ part. part) (get_or sections m []) (flat_map (λ parts. parts) (drop (m + 1) sections)))
          ∙ ap (λ l. joined (flat_map (λ parts. parts) l)) (sym (drop_more sections m [] low))
      | inr past ↦
          ap (λ l. joined l ++ sections_after sections (m + 1)) (get_or_past sections m [] past)
          ∙ ap (λ l. joined (flat_map (λ parts. parts) l)) (drop_all (m + 1) sections (omega arith) ∙ sym (drop_all m sections past))
    ]

-- after the last section there is nothing
pub text-end : (sections : List (List (List ℕ))) (n k : ℕ) → length sections ≤ n → text_at sections n k ≡ []
text-end sections n k past =
    ap (λ l. joined (drop k l) ++ sections_after sections (n + 1)) (get_or_past sections n [] past)
    ∙ ap (λ l. joined l ++ sections_after sections (n + 1)) (drop_all k [] (omega arith))
    ∙ ap (λ l. joined (flat_map (λ parts. parts) l)) (drop_all (n + 1) sections (omega arith))

-- the parts of a section, by its number
pub part-at : (o : ModuleOptions) (net : Netlist) (n : ℕ) (d : ResetSection) → n < 14 → get_or (all_parts o net) n [] ≡ parts_in o net (get_or SECTIONS n d)
part-at o net n d low = get_or-map (parts_in o net) SECTIONS n d [] (omega arith)

-- a part is put, and the next place is one more
pub part-put : (base : ℕ) (sections : List (List (List ℕ))) (place : ℕ) (old new : List ℕ) → 0 < base → place % base + 1 < base
    → place % base < length (get_or sections (place / base) []) → new ≡ old ++ get_or (get_or sections (place / base) []) (place % base) []
    → new ++ text_at sections ((place + 1) / base) ((place + 1) % base) ≡ old ++ text_at sections (place / base) (place % base)
part-put base sections place old new some room low put =
    let n = place / base in
    let k = place % base in
    let parts = div-add-mod' place base in
    let whole : place + 1 ≡ n * base + (k + 1) = omega arith in
    let first : (place + 1) / base ≡ n = ap (λ m. m / base) whole ∙ div-mul-add n base (k + 1) room in
    let last : (place + 1) % base ≡ k + 1 = ap (λ m. m % base) whole ∙ mod-mul-add n base (k + 1) room in
    rw (first, last) (ap (λ t. t ++ text_at sections n (k + 1)) put ∙ append_assoc old (get_or (get_or sections n []) k []) (text_at sections n (k + 1))
    ∙ ap (λ t. old ++ t) (text-part sections n k low))

-- the start of the next section is a later place
pub section-later : (base place : ℕ) → 0 < base → place < (place / base + 1) * base
section-later base place some =
    let n = place / base in
    let one : 1 * base ≡ base = omega arith in
    let wide = add-mul n 1 base in
    let low : place < n * base + base = lt-div-mul-add some in
    omega arith

-- a section is at its end, and the next place is the start of the next section
pub section-ended : (base : ℕ) (sections : List (List (List ℕ))) (place : ℕ) (text : List ℕ) → 0 < base
    → length (get_or sections (place / base) []) ≤ place % base
    → text ++ text_at sections (((place / base + 1) * base) / base) (((place / base + 1) * base) % base)
    ≡ text ++ text_at sections (place / base) (place % base)
section-ended base sections place text some high =
    let n = place / base in
    let z : (n + 1) * base ≡ (n + 1) * base + 0 = omega arith in
    let first : ((n + 1) * base) / base ≡ n + 1 = ap (λ m. m / base) z ∙ div-mul-add (n + 1) base 0 some in
    let last : ((n + 1) * base) % base ≡ 0 = ap (λ m. m % base) z ∙ mod-mul-add (n + 1) base 0 some in
    rw (first, last) (ap (λ t. text ++ t) (text-next sections n (place % base) high))
