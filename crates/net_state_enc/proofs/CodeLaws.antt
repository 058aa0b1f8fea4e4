-- The code of a well-formed selection gives the selection back.
use Rattle.std.proofs.Common.{◌≡◌, ℕ, ◌+◌, ◌^◌, ◌<◌, ◌≤◌, ◌⊎◌, inl, inr, Bool, true, false, not, ◌==◌, ◌&&◌, ◌||◌, List, [], ◌∷◌, ◌++◌, map}
use Rattle.std.proofs.Common.{refl, ap, sym, ◌∙◌, arith}
use Rattle.std.specs.Prelude.{max}
use Rattle.std.proofs.lemmas.Bool.{false≢true, eqb-true}
use Rattle.std.proofs.Math.Bool.{and-false, or-false}
use Rattle.std.proofs.lemmas.List.{map-append}
use Rattle.net_state_enc.specs.declared.codes.Literal.{Literal}
use Rattle.net_state_enc.specs.declared.codes.Way.{Way}
use Rattle.net_state_enc.specs.declared.codes.Way.TheVariants.{Full, Loose, Part}
use Rattle.net_state_enc.specs.Widths.{Widths, number_width, several_parts, branch_width, all_marked}
use Rattle.net_state_enc.specs.Shapes.{Shape, NoLeaf, OneLeaf, OneOf, AllOf, widths_of, holds_in, formed_in}
use Rattle.net_state_enc.specs.Codes.{LeafCode, number_code, front_code, front_width, width_by, part_way, branch_way, leaf_codes, with_front}
use Rattle.net_state_enc.specs.Codes.{are_met, wants, some_selected, bit_of}
use Rattle.net_state_enc.proofs.CodeValues.{readings, selections, nothing, some_selected-append, bit_of-append, bit_of-front, bit_of-none}
use Rattle.net_state_enc.proofs.CodeValues.{selections-none, selections-front, nothing-front, readings-on, readings-off, wants-out, bit_of-out}
use Rattle.net_state_enc.proofs.NumberCodes.{both-true, number-met, zero-met, same-number, front-within, front-met, width-is-enough}
use Rattle.net_state_enc.proofs.CodeCases.{Coding, second_alone, first_alone, two, coding, no-codes, some-of, holds-none, codes-within, parallel-width}
use Rattle.net_state_enc.proofs.CodeCases.{branch-by}
use Rattle.net_state_enc.proofs.CodeCases.{leaf-width}

-- the bits from one place up to another are these
abbrev pub Like : ℕ → ℕ → (ℕ → Bool) → (ℕ → Bool) → Type 0
Like lo hi B C = (i : ℕ) → lo ≤ i → i < hi → B i ≡ C i

-- ---- a part whose number is not met is read as not selected

nothing-append : (xs ys : List LeafCode) → nothing (xs ++ ys) ≡ nothing xs ++ nothing ys
nothing-append xs ys = map-append (λ (e : LeafCode). false) xs ys

readings-append : (B : ℕ → Bool) (xs ys : List LeafCode) → readings B (xs ++ ys) ≡ readings B xs ++ readings B ys
readings-append B xs ys = map-append (λ (e : LeafCode). are_met B e.needs) xs ys

selections-append : (S : ℕ → Bool) (xs ys : List LeafCode) → selections S (xs ++ ys) ≡ selections S xs ++ selections S ys
selections-append S xs ys = map-append (λ (e : LeafCode). S e.leaf) xs ys

-- what is not one number is another
not-met : (B : ℕ → Bool) (width m j bit : ℕ) → m + 1 ≤ 2 ^ width → j < 2 ^ width → (j < m) ⊎ (m + 1 ≤ j) → are_met B (number_code width j bit) ≡ true
    → are_met B (number_code width m bit) ≡ false
not-met B width m j bit fits low apart met = by (are_met B (number_code width m bit)) refl
  where
    by : (v : Bool) → are_met B (number_code width m bit) ≡ v → v ≡ false
    by false e = refl
    by true e =
        let same = same-number B width m j bit e met (omega arith) low in
        elim apart [ inl h ↦ absurd (omega arith) | inr h ↦ absurd (omega arith) ]

other-coded : (B : ℕ → Bool) (f g : Way → ℕ → List LeafCode) (a b : Widths) (width m j bit : ℕ) (w : Widths) (es : List LeafCode)
    → Coding f g a b (Part width m) bit w es
    → m + w.parts ≤ 2 ^ width → (j < m) ⊎ (m + w.parts ≤ j)
    → ((m : ℕ) → m + a.parts ≤ 2 ^ width → (j < m) ⊎ (m + a.parts ≤ j) → readings B (f (Part width m) bit) ≡ nothing (f (Part width m) bit))
    → ((m : ℕ) → m + b.parts ≤ 2 ^ width → (j < m) ⊎ (m + b.parts ≤ j) → readings B (g (Part width m) bit) ≡ nothing (g (Part width m) bit))
    → readings B es ≡ nothing es
other-coded B f g a b width m j bit w es (second_alone h) fits apart fo go = go m fits apart
other-coded B f g a b width m j bit w es (first_alone h) fits apart fo go = fo m fits apart
other-coded B f g a b width m j bit w es (two h k) fits apart fo go =
    let xs = f (Part width (m + 0)) bit in
    let ys = g (Part width (m + a.parts)) bit in
    let first = fo (m + 0) (omega arith) (elim apart [ inl l ↦ inl (omega arith) | inr l ↦ inr (omega arith) ]) in
    let second = go (m + a.parts) (omega arith) (elim apart [ inl l ↦ inl (omega arith) | inr l ↦ inr (omega arith) ]) in
    readings-append B xs ys ∙ (λ i. first i ++ second i) ∙ sym (nothing-append xs ys)

other : (B : ℕ → Bool) (t : Shape) (width m j bit : ℕ) → m + (widths_of t).parts ≤ 2 ^ width → j < 2 ^ width → (j < m) ⊎ (m + (widths_of t).parts ≤ j)
    → are_met B (number_code width j bit) ≡ true
    → readings B (leaf_codes t (Part width m) bit) ≡ nothing (leaf_codes t (Part width m) bit)
other B NoLeaf width m j bit fits low apart met = refl
other B (OneLeaf k) width m j bit fits low apart met = ap (λ b. b ∷ []) (not-met B width m j bit fits low apart met)
other B (OneOf a b) width m j bit fits low apart met =
    other-coded B (leaf_codes a) (leaf_codes b) (widths_of a) (widths_of b) width m j bit _ _
    (coding (leaf_codes a) (leaf_codes b) (widths_of a) (widths_of b) (Part width m) bit) fits apart
    (λ m f p. other B a width m j bit f low p met) (λ m f p. other B b width m j bit f low p met)
other B (AllOf x y a b) width m j bit fits low apart met =
    readings-off B (number_code width m bit) _ (not-met B width m j bit fits low apart met)

-- ---- the code of a selected part begins with a number of it

record Numbered (B : ℕ → Bool) (width bit lo hi : ℕ) : Type 0 where
  number : ℕ
  from : lo ≤ number
  below : number < hi
  met : are_met B (number_code width number bit) ≡ true

numbered-more : (B : ℕ → Bool) (width bit a b c d : ℕ) → c ≤ a → b ≤ d → Numbered B width bit a b → Numbered B width bit c d
numbered-more B width bit a b c d low high n = record { number = n.number; from = omega (arith, n.from); below = omega (arith, n.below); met = n.met }

-- of two parts of which one alone holds a selected leaf, the other wants no bit
first-like : (S B : ℕ → Bool) (xs ys : List LeafCode) (lo hi : ℕ) → some_selected S ys ≡ false → Like lo hi B (bit_of S (xs ++ ys)) → Like lo hi B (bit_of S xs)
first-like S B xs ys lo hi none like i low high =
    like i low high ∙ bit_of-append S xs ys i ∙ ap (λ b. bit_of S xs i || b) (bit_of-none S ys i none) ∙ or-false (bit_of S xs i)

second-like : (S B : ℕ → Bool) (xs ys : List LeafCode) (lo hi : ℕ) → some_selected S xs ≡ false → Like lo hi B (bit_of S (xs ++ ys))
    → Like lo hi B (bit_of S ys)
second-like S B xs ys lo hi none like i low high =
    like i low high ∙ bit_of-append S xs ys i ∙ ap (λ b. b || bit_of S ys i) (bit_of-none S xs i none)

like-less : (lo hi lo' hi' : ℕ) (B C : ℕ → Bool) → lo ≤ lo' → hi' ≤ hi → Like lo hi B C → Like lo' hi' B C
like-less lo hi lo' hi' B C low high like i l h = like i (omega arith) (omega arith)

not-both : (x y : Bool) → not (x && y) ≡ true → x ≡ true → y ≡ false
not-both true true e h = absurd (false≢true e)
not-both true false e h = refl
not-both false y e h = absurd (false≢true h)

not-both-second : (x y : Bool) → not (x && y) ≡ true → y ≡ true → x ≡ false
not-both-second true true e h = absurd (false≢true e)
not-both-second false true e h = refl
not-both-second x false e h = absurd (false≢true h)

one-holds : (x y : Bool) → (x || y) ≡ true → (x ≡ true) ⊎ (y ≡ true)
one-holds true y e = inl refl
one-holds false y e = inr e

-- what is known of a part: what it says of itself, and its number where it holds a selected leaf
abbrev Numbers : (S B : ℕ → Bool) → (Way → ℕ → List LeafCode) → Widths → Bool → ℕ → ℕ → Type 0
Numbers S B f a holds width bit = (m : ℕ) → holds ≡ true → m + a.parts ≤ 2 ^ width → Like bit (bit + width) B (bit_of S (f (Part width m) bit))
    → Numbered B width bit m (m + a.parts)

numbered-coded : (S B : ℕ → Bool) (f g : Way → ℕ → List LeafCode) (a b : Widths) (width m bit : ℕ) (w : Widths) (es : List LeafCode) (x y : Bool)
    → Coding f g a b (Part width m) bit w es
    → not (x && y) ≡ true → (x || y) ≡ true → m + w.parts ≤ 2 ^ width
    → (a.parts ≡ 0 → x ≡ false) → (b.parts ≡ 0 → y ≡ false)
    → ((m : ℕ) → some_selected S (f (Part width m) bit) ≡ x) → ((m : ℕ) → some_selected S (g (Part width m) bit) ≡ y)
    → Like bit (bit + width) B (bit_of S es)
    → Numbers S B f a x width bit → Numbers S B g b y width bit
    → Numbered B width bit m (m + w.parts)
numbered-coded S B f g a b width m bit w es x y (second_alone h) apart some fits nx ny fx gy like fn gn =
    gn m (ap (λ z. z || y) (sym (nx h)) ∙ some) fits like
numbered-coded S B f g a b width m bit w es x y (first_alone h) apart some fits nx ny fx gy like fn gn =
    elim (one-holds x y some) [ inl hx ↦ fn m hx fits like | inr hy ↦ absurd (false≢true (sym (ny h) ∙ hy)) ]
numbered-coded S B f g a b width m bit w es x y (two h k) apart some fits nx ny fx gy like fn gn =
    let xs = f (Part width (m + 0)) bit in
    let ys = g (Part width (m + a.parts)) bit in
    elim (one-holds x y some) [
      | inl hx ↦
          let none = gy (m + a.parts) ∙ not-both x y apart hx in
          numbered-more B width bit (m + 0) (m + 0 + a.parts) m (m + (a.parts + b.parts)) (omega arith) (omega arith)
          (fn (m + 0) hx (omega arith) (first-like S B xs ys bit (bit + width) none like))
      | inr hy ↦
          let none = fx (m + 0) ∙ not-both-second x y apart hy in
          numbered-more B width bit (m + a.parts) (m + a.parts + b.parts) m (m + (a.parts + b.parts)) (omega arith) (omega arith)
          (gn (m + a.parts) hy (omega arith) (second-like S B xs ys bit (bit + width) none like))
    ]

numbered : (S B : ℕ → Bool) (t : Shape) (width bit : ℕ) → formed_in S t ≡ true → Numbers S B (leaf_codes t) (widths_of t) (holds_in S t) width bit
numbered S B NoLeaf width bit formed m some fits like = absurd (false≢true some)
numbered S B (OneLeaf k) width bit formed m some fits like = record {
  number = m;
  from = omega arith;
  below = omega arith;
  met = number-met B width m bit (λ i low high. like i low high ∙ ap (λ b. (b && wants i (number_code width m bit)) || false) some
      ∙ or-false (wants i (number_code width m bit)));
}
numbered S B (OneOf a b) width bit formed m some fits like =
    let parts = both-true (not (holds_in S a && holds_in S b)) (formed_in S a && formed_in S b) formed in
    let each = both-true (formed_in S a) (formed_in S b) parts.1 in
    numbered-coded S B (leaf_codes a) (leaf_codes b) (widths_of a) (widths_of b) width m bit _ _ (holds_in S a) (holds_in S b)
    (coding (leaf_codes a) (leaf_codes b) (widths_of a) (widths_of b) (Part width m) bit) parts.0 some fits (holds-none S a) (holds-none S b)
    (λ m. some-of S a (Part width m) bit) (λ m. some-of S b (Part width m) bit) like
    (numbered S B a width bit each.0) (numbered S B b width bit each.1)
numbered S B (AllOf x y a b) width bit formed m some fits like =
    let A = widths_of a in
    let base = bit + width in
    let first = leaf_codes a (branch_way x) base in
    let second = leaf_codes b (branch_way y) (base + branch_width x A) in
    let holds : some_selected S (first ++ second) ≡ true = some_selected-append S first second
    ∙ (λ i. some-of S a (branch_way x) base i || some-of S b (branch_way y) (base + branch_width x A) i) ∙ some in
    record {
      number = m;
      from = omega arith;
      below = omega arith;
      met = number-met B width m bit (λ i low high.
          let out = bit_of-append S first second i
          ∙ (λ j. bit_of-out S base (base + width_by (branch_way x) A) i first (codes-within a (branch_way x) base) (inl high) j
          || bit_of-out S (base + branch_width x A) (base + branch_width x A + width_by (branch_way y) (widths_of b)) i second
          (codes-within b (branch_way y) (base + branch_width x A)) (inl (omega arith)) j) in
          like i low high ∙ bit_of-front S (number_code width m bit) (first ++ second) i
          ∙ (λ j. (holds j && wants i (number_code width m bit)) || out j) ∙ or-false (wants i (number_code width m bit)));
    }

-- ---- the code gives the selection back

-- whether a tree must hold a selected leaf to be coded this way, and how many numbers that takes
abbrev pub Given : Way → Bool → Type 0
Given Full holds = holds ≡ true
Given Loose holds = Unit {0}
Given (Part width number) holds = holds ≡ true

abbrev pub Fits : Way → Widths → Type 0
Fits Full a = Unit {0}
Fits Loose a = Unit {0}
Fits (Part width number) a = number + a.parts ≤ 2 ^ width

abbrev Back : (S B : ℕ → Bool) → (Way → ℕ → List LeafCode) → Widths → Bool → Type 0
Back S B f a holds = (way : Way) (bit : ℕ) → Given way holds → Fits way a → Like bit (bit + width_by way a) B (bit_of S (f way bit))
    → readings B (f way bit) ≡ selections S (f way bit)

abbrev Other : (B : ℕ → Bool) → (Way → ℕ → List LeafCode) → Widths → ℕ → ℕ → Type 0
Other B f a width bit = (m j : ℕ) → m + a.parts ≤ 2 ^ width → j < 2 ^ width → (j < m) ⊎ (m + a.parts ≤ j) → are_met B (number_code width j bit) ≡ true
    → readings B (f (Part width m) bit) ≡ nothing (f (Part width m) bit)

-- what is known of a part in so many bits
record PartLaws (S B : ℕ → Bool) (f : Way → ℕ → List LeafCode) (a : Widths) (holds : Bool) (width bit : ℕ) : Type 0 where
  some : (way : Way) (bit : ℕ) → some_selected S (f way bit) ≡ holds
  back : Back S B f a holds
  numbers : Numbers S B f a holds width bit
  other : Other B f a width bit

parts-back : (S B : ℕ → Bool) (f g : Way → ℕ → List LeafCode) (a b : Widths) (width m n bit hi : ℕ) (x y : Bool)
    → PartLaws S B f a x width bit → PartLaws S B g b y width bit
    → not (x && y) ≡ true → ((x || y) ≡ true) ⊎ (0 < m) → n ≡ m + a.parts → n + b.parts ≤ 2 ^ width
    → bit + (width + a.greatest) ≤ hi → bit + (width + b.greatest) ≤ hi
    → Like bit hi B (bit_of S (f (Part width m) bit ++ g (Part width n) bit))
    → readings B (f (Part width m) bit ++ g (Part width n) bit) ≡ selections S (f (Part width m) bit ++ g (Part width n) bit)
parts-back S B f g a b width m n bit hi true y F G apart some next fits ha hb like =
    let xs = f (Part width m) bit in
    let ys = g (Part width n) bit in
    let none : some_selected S ys ≡ false = G.some (Part width n) bit ∙ not-both true y apart refl in
    let here = first-like S B xs ys bit hi none like in
    let first = F.back (Part width m) bit refl (omega arith) (like-less bit hi bit (bit + (width + a.greatest)) B (bit_of S xs) (omega arith) ha here) in
    let number = F.numbers m refl (omega arith) (like-less bit hi bit (bit + width) B (bit_of S xs) (omega arith) (omega arith) here) in
    let second = G.other n number.number fits (let p = number.below in omega arith) (inl (let p = number.below in omega arith)) number.met in
    readings-append B xs ys ∙ (λ i. first i ++ second i) ∙ (λ i. selections S xs ++ sym (selections-none S ys none) i) ∙ sym (selections-append S xs ys)
parts-back S B f g a b width m n bit hi false true F G apart some next fits ha hb like =
    let xs = f (Part width m) bit in
    let ys = g (Part width n) bit in
    let none : some_selected S xs ≡ false = F.some (Part width m) bit in
    let here = second-like S B xs ys bit hi none like in
    let second = G.back (Part width n) bit refl fits (like-less bit hi bit (bit + (width + b.greatest)) B (bit_of S ys) (omega arith) hb here) in
    let number = G.numbers n refl fits (like-less bit hi bit (bit + width) B (bit_of S ys) (omega arith) (omega arith) here) in
    let first = F.other m number.number (omega arith) (let p = number.below in omega arith) (inr (let p = number.from in omega arith)) number.met in
    readings-append B xs ys ∙ (λ i. first i ++ second i) ∙ (λ i. sym (selections-none S xs none) i ++ selections S ys) ∙ sym (selections-append S xs ys)
parts-back S B f g a b width m n bit hi false false F G apart (inl h) next fits ha hb like = absurd (false≢true h)
parts-back S B f g a b width m n bit hi false false F G apart (inr pos) next fits ha hb like =
    let xs = f (Part width m) bit in
    let ys = g (Part width n) bit in
    let nx : some_selected S xs ≡ false = F.some (Part width m) bit in
    let ny : some_selected S ys ≡ false = G.some (Part width n) bit in
    let zero_bits = zero-met B width bit (λ i low high. like i low (omega arith) ∙ bit_of-append S xs ys i
    ∙ (λ j. bit_of-none S xs i nx j || bit_of-none S ys i ny j)) in
    let first = F.other m 0 (omega arith) (omega arith) (inl pos) zero_bits in
    let second = G.other n 0 fits (omega arith) (inl (omega arith)) zero_bits in
    readings-append B xs ys ∙ (λ i. first i ++ second i) ∙ (λ i. sym (selections-none S xs nx) i ++ sym (selections-none S ys ny) i)
    ∙ sym (selections-append S xs ys)

both-back : (S B : ℕ → Bool) (f g : Way → ℕ → List LeafCode) (a b : Widths) (way : Way) (bit : ℕ) (x y : Bool)
    → ((width : ℕ) → PartLaws S B f a x width bit) → ((width : ℕ) → PartLaws S B g b y width bit)
    → not (x && y) ≡ true → Given way (x || y) → Fits way (several_parts a b)
    → Like bit (bit + width_by way (several_parts a b)) B
    (bit_of S (f (part_way way (a.parts + b.parts) 0) bit ++ g (part_way way (a.parts + b.parts) a.parts) bit))
    → readings B (f (part_way way (a.parts + b.parts) 0) bit ++ g (part_way way (a.parts + b.parts) a.parts) bit)
    ≡ selections S (f (part_way way (a.parts + b.parts) 0) bit ++ g (part_way way (a.parts + b.parts) a.parts) bit)
both-back S B f g a b Full bit x y F G apart some fits like =
    let wide = number_width (a.parts + b.parts) in
    let enough = width-is-enough (a.parts + b.parts) in
    parts-back S B f g a b wide 0 a.parts bit (bit + (wide + max a.greatest b.greatest)) x y (F wide) (G wide) apart (inl some) (omega arith) (omega arith)
    (omega arith) (omega arith) like
both-back S B f g a b Loose bit x y F G apart some fits like =
    let wide = number_width (a.parts + b.parts + 1) in
    let enough = width-is-enough (a.parts + b.parts + 1) in
    parts-back S B f g a b wide (1 + 0) (1 + a.parts) bit (bit + (wide + max a.greatest b.greatest)) x y (F wide) (G wide) apart (inr (omega arith)) (omega
    arith)
    (omega arith) (omega arith) (omega arith) like
both-back S B f g a b (Part wide m) bit x y F G apart some fits like =
    parts-back S B f g a b wide (m + 0) (m + a.parts) bit (bit + (wide + max a.greatest b.greatest)) x y (F wide) (G wide) apart (inl some) (omega arith)
    (omega arith) (omega arith) (omega arith) like

given-second : (way : Way) (x y : Bool) → x ≡ false → Given way (x || y) → Given way y
given-second Full x y e h = ap (λ z. z || y) (sym e) ∙ h
given-second Loose x y e h = tt
given-second (Part width number) x y e h = ap (λ z. z || y) (sym e) ∙ h

one-given : (x y : Bool) → y ≡ false → (x || y) ≡ true → x ≡ true
one-given true y e h = refl
one-given false y e h = absurd (false≢true (sym e ∙ h))

given-first : (way : Way) (x y : Bool) → y ≡ false → Given way (x || y) → Given way x
given-first Full x y e h = one-given x y e h
given-first Loose x y e h = tt
given-first (Part width number) x y e h = one-given x y e h

back-coded : (S B : ℕ → Bool) (f g : Way → ℕ → List LeafCode) (a b : Widths) (way : Way) (bit : ℕ) (w : Widths) (es : List LeafCode) (x y : Bool)
    → Coding f g a b way bit w es
    → ((width : ℕ) → PartLaws S B f a x width bit) → ((width : ℕ) → PartLaws S B g b y width bit)
    → (a.parts ≡ 0 → x ≡ false) → (b.parts ≡ 0 → y ≡ false)
    → not (x && y) ≡ true → Given way (x || y) → Fits way w
    → Like bit (bit + width_by way w) B (bit_of S es)
    → readings B es ≡ selections S es
back-coded S B f g a b way bit w es x y (second_alone h) F G nx ny apart some fits like =
    (G 0).back way bit (given-second way x y (nx h) some) fits like
back-coded S B f g a b way bit w es x y (first_alone h) F G nx ny apart some fits like =
    (F 0).back way bit (given-first way x y (ny h) some) fits like
back-coded S B f g a b way bit w es x y (two h k) F G nx ny apart some fits like =
    both-back S B f g a b way bit x y F G apart some fits like

-- a branch: it is marked, or holds a selected leaf, or is no node
abbrev BranchHolds : Bool → Bool → Widths → Type 0
BranchHolds marked holds a = (marked ≡ true) ⊎ ((holds ≡ true) ⊎ (a.parts ≡ 0))

branch-back : (S B : ℕ → Bool) (f : Way → ℕ → List LeafCode) (a : Widths) (holds marked : Bool) (base : ℕ) → Back S B f a holds
    → (a.parts ≡ 0 → (way : Way) (bit : ℕ) → f way bit ≡ [])
    → BranchHolds marked holds a
    → Like base (base + width_by (branch_way marked) a) B (bit_of S (f (branch_way marked) base))
    → readings B (f (branch_way marked) base) ≡ selections S (f (branch_way marked) base)
branch-back S B f a holds true base back none h like = back Loose base tt tt like
branch-back S B f a holds false base back none (inl e) like = absurd (false≢true e)
branch-back S B f a holds false base back none (inr (inl e)) like = back Full base e tt like
branch-back S B f a holds false base back none (inr (inr e)) like =
    ap (readings B) (none e Full base) ∙ sym (ap (selections S) (none e Full base))

-- what is said in front of the branches is met, or no leaf is selected
data FrontCase (B : ℕ → Bool) (front : List Literal) (x y p q : Bool) (a b : Widths) : Type 0 where
  said : are_met B front ≡ true → BranchHolds x p a → BranchHolds y q b → FrontCase B front x y p q a b
  denied : are_met B front ≡ false → (p || q) ≡ false → FrontCase B front x y p q a b

branch-over : (x p : Bool) (a : Widths) → (p || x) ≡ true → BranchHolds x p a
branch-over x true a e = inr (inl refl)
branch-over x false a e = inl e

branch-marked : (x p : Bool) (a : Widths) → (a.parts == 0 || x) ≡ true → BranchHolds x p a
branch-marked x p a e = by (a.parts == 0) refl e
  where
    by : (z : Bool) → (a.parts == 0) ≡ z → (z || x) ≡ true → BranchHolds x p a
    by true k h = inr (inr (eqb-true a.parts 0 k))
    by false k h = inl h

front-held : (B : ℕ → Bool) (way : Way) (bit : ℕ) (x y p q : Bool) (a b : Widths) (h : Bool) → (p || q) ≡ h
    → (not h || ((p || x) && (q || y))) ≡ true → Given way h
    → ((i : ℕ) → bit ≤ i → i < bit + front_width way (all_marked x y a b) → B i ≡ (h && wants i (front_code way (all_marked x y a b) bit)))
    → FrontCase B (front_code way (all_marked x y a b) bit) x y p q a b
front-held B way bit x y p q a b true e over some like =
    let parts = both-true (p || x) (q || y) over in
    said (front-met B way (all_marked x y a b) bit like) (branch-over x p a parts.0) (branch-over y q b parts.1)
front-held B Full bit x y p q a b false e over some like = absurd (false≢true some)
front-held B (Part width number) bit x y p q a b false e over some like = absurd (false≢true some)
front-held B Loose bit x y p q a b false e over some like = by (all_marked x y a b) refl like
  where
    by : (v : Bool) → all_marked x y a b ≡ v
        → ((i : ℕ) → bit ≤ i → i < bit + front_width Loose v → B i ≡ (false && wants i (front_code Loose v bit)))
        → FrontCase B (front_code Loose v bit) x y p q a b
    by true k l =
        let each = both-true (a.parts == 0 || x) (b.parts == 0 || y) k in
        said refl (branch-marked x p a each.0) (branch-marked y q b each.1)
    by false k l = denied (ap (λ v. v && true) (l bit (omega arith) (omega arith))) e

branches-back : (S B : ℕ → Bool) (front : List Literal) (first second : List LeafCode) (x y p q : Bool) (a b : Widths)
    → some_selected S (first ++ second) ≡ (p || q)
    → FrontCase B front x y p q a b
    → (BranchHolds x p a → readings B first ≡ selections S first) → (BranchHolds y q b → readings B second ≡ selections S second)
    → readings B (map (with_front front) (first ++ second)) ≡ selections S (map (with_front front) (first ++ second))
branches-back S B front first second x y p q a b some (said met ha hb) fa fb =
    readings-on B front (first ++ second) met ∙ readings-append B first second ∙ (λ i. fa ha i ++ fb hb i) ∙ sym (selections-append S first second)
    ∙ sym (selections-front S front (first ++ second))
branches-back S B front first second x y p q a b some (denied off none) fa fb =
    readings-off B front (first ++ second) off ∙ nothing-front front (first ++ second)
    ∙ sym (selections-none S (first ++ second) (some ∙ none)) ∙ sym (selections-front S front (first ++ second))

leaf-back : (S B : ℕ → Bool) (way : Way) (bit : ℕ) (v : Bool) → Given way v
    → ((i : ℕ) → bit ≤ i → i < bit + front_width way false → B i ≡ (v && wants i (front_code way false bit)))
    → are_met B (front_code way false bit) ≡ v
leaf-back S B way bit true some like = front-met B way false bit like
leaf-back S B Full bit false some like = absurd (false≢true some)
leaf-back S B (Part width number) bit false some like = absurd (false≢true some)
leaf-back S B Loose bit false some like = ap (λ v. v && true) (like bit (omega arith) (omega arith))

pub back : (S B : ℕ → Bool) (t : Shape) → formed_in S t ≡ true → Back S B (leaf_codes t) (widths_of t) (holds_in S t)
back S B NoLeaf formed way bit some fits like = refl
back S B (OneLeaf k) formed way bit some fits like =
    let e = leaf-width way in
    ap (λ v. v ∷ []) (leaf-back S B way bit (S k) some (λ i low high. like i low (omega arith) ∙ or-false (S k && wants i (front_code way false bit))))
back S B (OneOf a b) formed way bit some fits like =
    let parts = both-true (not (holds_in S a && holds_in S b)) (formed_in S a && formed_in S b) formed in
    let each = both-true (formed_in S a) (formed_in S b) parts.1 in
    let laws = λ (t : Shape) (f : formed_in S t ≡ true) (g : Back S B (leaf_codes t) (widths_of t) (holds_in S t)) (width : ℕ).
    (let l : PartLaws S B (leaf_codes t) (widths_of t) (holds_in S t) width bit = record {
      some = some-of S t;
      back = g;
      numbers = numbered S B t width bit f;
      other = λ m j. other B t width m j bit;
    } in l) in
    back-coded S B (leaf_codes a) (leaf_codes b) (widths_of a) (widths_of b) way bit _ _ (holds_in S a) (holds_in S b)
    (coding (leaf_codes a) (leaf_codes b) (widths_of a) (widths_of b) way bit) (laws a each.0 (back S B a each.0)) (laws b each.1 (back S B b each.1))
    (holds-none S a) (holds-none S b) parts.0 some fits like
back S B (AllOf x y a b) formed way bit some fits like =
    let parts = both-true _ (formed_in S a && formed_in S b) formed in
    let each = both-true (formed_in S a) (formed_in S b) parts.1 in
    let A = widths_of a in
    let C = widths_of b in
    let all = all_marked x y A C in
    let front = front_code way all bit in
    let base = bit + front_width way all in
    let other_base = base + branch_width x A in
    let wide = parallel-width way x y A C in
    let pa = branch-by x A in
    let pb = branch-by y C in
    let first = leaf_codes a (branch_way x) base in
    let second = leaf_codes b (branch_way y) other_base in
    let in_first = codes-within a (branch_way x) base in
    let in_second = codes-within b (branch_way y) other_base in
    let in_front = front-within way all bit in
    let holds : some_selected S (first ++ second) ≡ (holds_in S a || holds_in S b) = some_selected-append S first second
    ∙ (λ i. some-of S a (branch_way x) base i || some-of S b (branch_way y) other_base i) in
    let whole = λ (i : ℕ). bit_of-front S front (first ++ second) i
    ∙ (λ j. (holds j && wants i front) || bit_of-append S first second i j) in
    let out_first = λ (i : ℕ) (h : (i < base) ⊎ (base + width_by (branch_way x) A ≤ i)). bit_of-out S base (base + width_by (branch_way x) A) i first in_first
    h in
    let out_second = λ (i : ℕ) (h : (i < other_base) ⊎ (other_base + width_by (branch_way y) C ≤ i)). bit_of-out S other_base (other_base + width_by
    (branch_way y) C) i second in_second h in
    let front_here = front-held B way bit x y (holds_in S a) (holds_in S b) A C (holds_in S a || holds_in S b) refl parts.0 some
    (λ i low high. like i low (omega arith) ∙ whole i
    ∙ (λ j. ((holds_in S a || holds_in S b) && wants i front) || (out_first i (inl high) j || out_second i (inl (omega arith)) j))
    ∙ or-false ((holds_in S a || holds_in S b) && wants i front)) in
    branches-back S B front first second x y (holds_in S a) (holds_in S b) A C holds front_here
    (λ h. branch-back S B (leaf_codes a) A (holds_in S a) x base (back S B a each.0) (λ none way bit. no-codes a way bit none) h
    (λ i low high. like i (omega arith) (omega arith) ∙ whole i
    ∙ (λ j. ((holds_in S a || holds_in S b) && wants-out bit base i front in_front (inr low) j) || (bit_of S first i || out_second i (inl (omega arith)) j))
    ∙ tidy-first (holds_in S a || holds_in S b) (bit_of S first i)))
    (λ h. branch-back S B (leaf_codes b) C (holds_in S b) y other_base (back S B b each.1) (λ none way bit. no-codes b way bit none) h
    (λ i low high. like i (omega arith) (omega arith) ∙ whole i
    ∙ (λ j. ((holds_in S a || holds_in S b) && wants-out bit base i front in_front (inr (omega arith)) j)
    || (out_first i (inr (omega arith)) j || bit_of S second i))
    ∙ ap (λ v. v || bit_of S second i) (and-false (holds_in S a || holds_in S b))))
  where
    tidy-first : (h v : Bool) → ((h && false) || (v || false)) ≡ v
    tidy-first true true = refl
    tidy-first true false = refl
    tidy-first false true = refl
    tidy-first false false = refl
