-- The code of an exclusive node, by whether each of its parts is there.
use Rattle.std.proofs.Common.{◌≡◌, ℕ, zero, suc, ◌+◌, ◌<◌, ◌≤◌, Bool, true, false, ◌==◌, ◌||◌, List, [], ◌++◌}
use Rattle.std.proofs.Common.{refl, ap, sym, ◌∙◌, arith}
use Rattle.std.specs.Prelude.{if◌then◌else◌}
use Rattle.std.proofs.lemmas.Bool.{eqb-true, eqb-false}
use Rattle.std.proofs.Math.Bool.{or-false}
use Rattle.std.proofs.lemmas.List.Elements.{All-nil, All-append, All-cons}
use Rattle.net_state_enc.specs.declared.codes.Way.{Way}
use Rattle.net_state_enc.specs.declared.codes.Way.TheVariants.{Full, Loose, Part}
use Rattle.net_state_enc.specs.Widths.{Widths, exclusive_widths, several_parts, parallel_widths, branch_width, all_marked}
use Rattle.net_state_enc.specs.Shapes.{Shape, NoLeaf, OneLeaf, OneOf, AllOf, widths_of, holds_in}
use Rattle.net_state_enc.specs.Codes.{LeafCode, both_coded, front_code, front_width, width_by, part_way, branch_way, leaf_codes}
use Rattle.net_state_enc.specs.Codes.{some_selected}
use Rattle.net_state_enc.proofs.CodeValues.{Within, EachWithin, each-wider, each-front, some_selected-append, some_selected-front, wider}
use Rattle.net_state_enc.proofs.NumberCodes.{front-within}

-- an exclusive node is coded as its one part that is there, or as two
pub data Coding (f g : Way → ℕ → List LeafCode) (a b : Widths) (way : Way) (bit : ℕ) : Widths → List LeafCode → Type 0 where
  second_alone : a.parts ≡ 0 → Coding f g a b way bit b (g way bit)
  first_alone : b.parts ≡ 0 → Coding f g a b way bit a (f way bit)
  two : 0 < a.parts → 0 < b.parts → Coding f g a b way bit (several_parts a b)
      (f (part_way way (a.parts + b.parts) 0) bit ++ g (part_way way (a.parts + b.parts) a.parts) bit)

coding-by : (f g : Way → ℕ → List LeafCode) (a b : Widths) (way : Way) (bit : ℕ) (p q : Bool) → (a.parts == 0) ≡ p → (b.parts == 0) ≡ q
    → Coding f g a b way bit (if p then b else if q then a else several_parts a b)
    (if p then g way bit else if q then f way bit
    else f (part_way way (a.parts + b.parts) 0) bit ++ g (part_way way (a.parts + b.parts) a.parts) bit)
coding-by f g a b way bit true q ep eq = second_alone (eqb-true a.parts 0 ep)
coding-by f g a b way bit false true ep eq = first_alone (eqb-true b.parts 0 eq)
coding-by f g a b way bit false false ep eq =
    two (some a.parts (eqb-false a.parts 0 ep)) (some b.parts (eqb-false b.parts 0 eq))
  where
    some : (n : ℕ) → (n ≡ 0 → ⊥) → 0 < n
    some zero h = absurd (h refl)
    some (suc n) h = omega arith

pub coding : (f g : Way → ℕ → List LeafCode) (a b : Widths) (way : Way) (bit : ℕ) → Coding f g a b way bit (exclusive_widths a b) (both_coded f g a b way bit)
coding f g a b way bit = coding-by f g a b way bit (a.parts == 0) (b.parts == 0) refl refl

-- ---- a tree without parts has no leaves

few-coded : (f g : Way → ℕ → List LeafCode) (a b : Widths) (way : Way) (bit : ℕ) (w : Widths) (es : List LeafCode) → Coding f g a b way bit w es → w.parts ≡ 0
    → (a.parts ≡ 0 → f way bit ≡ []) → (b.parts ≡ 0 → g way bit ≡ []) → es ≡ []
few-coded f g a b way bit w es (second_alone h) none fa fb = fb none
few-coded f g a b way bit w es (first_alone h) none fa fb = fa none
few-coded f g a b way bit w es (two h k) none fa fb = absurd (omega arith)

pub no-codes : (t : Shape) (way : Way) (bit : ℕ) → (widths_of t).parts ≡ 0 → leaf_codes t way bit ≡ []
no-codes NoLeaf way bit none = refl
no-codes (OneOf a b) way bit none =
    few-coded (leaf_codes a) (leaf_codes b) (widths_of a) (widths_of b) way bit _ _
    (coding (leaf_codes a) (leaf_codes b) (widths_of a) (widths_of b) way bit) none (no-codes a way bit) (no-codes b way bit)
no-codes _ way bit none = absurd (omega arith)

-- ---- some leaf of the code is selected where one of the tree is

some-coded : (S : ℕ → Bool) (f g : Way → ℕ → List LeafCode) (a b : Widths) (way : Way) (bit : ℕ) (w : Widths) (es : List LeafCode) (x y : Bool)
    → Coding f g a b way bit w es
    → (a.parts ≡ 0 → x ≡ false) → (b.parts ≡ 0 → y ≡ false)
    → ((way : Way) (bit : ℕ) → some_selected S (f way bit) ≡ x) → ((way : Way) (bit : ℕ) → some_selected S (g way bit) ≡ y)
    → some_selected S es ≡ (x || y)
some-coded S f g a b way bit w es x y (second_alone h) nx ny fx gy = gy way bit ∙ ap (λ z. z || y) (sym (nx h))
some-coded S f g a b way bit w es x y (first_alone h) nx ny fx gy =
    fx way bit ∙ sym (or-false x) ∙ ap (λ z. x || z) (sym (ny h))
some-coded S f g a b way bit w es x y (two h k) nx ny fx gy =
    some_selected-append S (f (part_way way (a.parts + b.parts) 0) bit) (g (part_way way (a.parts + b.parts) a.parts) bit)
    ∙ (λ i. fx (part_way way (a.parts + b.parts) 0) bit i || gy (part_way way (a.parts + b.parts) a.parts) bit i)

some-absent : (S : ℕ → Bool) (t : Shape) (x : Bool) → (widths_of t).parts ≡ 0 → some_selected S (leaf_codes t Full 0) ≡ x → x ≡ false
some-absent S t x none e = sym e ∙ ap (some_selected S) (no-codes t Full 0 none)

pub some-of : (S : ℕ → Bool) (t : Shape) (way : Way) (bit : ℕ) → some_selected S (leaf_codes t way bit) ≡ holds_in S t
some-of S NoLeaf way bit = refl
some-of S (OneLeaf k) way bit = or-false (S k)
some-of S (OneOf a b) way bit =
    some-coded S (leaf_codes a) (leaf_codes b) (widths_of a) (widths_of b) way bit _ _ (holds_in S a) (holds_in S b)
    (coding (leaf_codes a) (leaf_codes b) (widths_of a) (widths_of b) way bit)
    (λ none. some-absent S a (holds_in S a) none (some-of S a Full 0)) (λ none. some-absent S b (holds_in S b) none (some-of S b Full 0))
    (some-of S a) (some-of S b)
some-of S (AllOf x y a b) way bit =
    let said = all_marked x y (widths_of a) (widths_of b) in
    let base = bit + front_width way said in
    let first = leaf_codes a (branch_way x) base in
    let second = leaf_codes b (branch_way y) (base + branch_width x (widths_of a)) in
    some_selected-front S (front_code way said bit) (first ++ second) ∙ some_selected-append S first second
    ∙ (λ i. some-of S a (branch_way x) base i || some-of S b (branch_way y) (base + branch_width x (widths_of a)) i)

pub holds-none : (S : ℕ → Bool) (t : Shape) → (widths_of t).parts ≡ 0 → holds_in S t ≡ false
holds-none S t none = some-absent S t (holds_in S t) none (some-of S t Full 0)

-- ---- where the bits of a code lie

pub part-first : (way : Way) (a b : Widths) → width_by (part_way way (a.parts + b.parts) 0) a ≤ width_by way (several_parts a b)
part-first Full a b = omega arith
part-first Loose a b = omega arith
part-first (Part width number) a b = omega arith

pub part-second : (way : Way) (a b : Widths) → width_by (part_way way (a.parts + b.parts) a.parts) b ≤ width_by way (several_parts a b)
part-second Full a b = omega arith
part-second Loose a b = omega arith
part-second (Part width number) a b = omega arith

within-coded : (f g : Way → ℕ → List LeafCode) (a b : Widths) (way : Way) (bit : ℕ) (w : Widths) (es : List LeafCode) → Coding f g a b way bit w es
    → ((way : Way) (bit : ℕ) → EachWithin bit (bit + width_by way a) (f way bit)) → ((way : Way) (bit : ℕ) → EachWithin bit (bit + width_by way b) (g way bit))
    → EachWithin bit (bit + width_by way w) es
within-coded f g a b way bit w es (second_alone h) fa gb = gb way bit
within-coded f g a b way bit w es (first_alone h) fa gb = fa way bit
within-coded f g a b way bit w es (two h k) fa gb =
    let one = part-first way a b in
    let other = part-second way a b in
    All-append (λ (e : LeafCode). Within bit (bit + width_by way (several_parts a b)) e.needs) (f (part_way way (a.parts + b.parts) 0) bit) (g (part_way way
    (a.parts + b.parts) a.parts) bit)
    (each-wider bit (bit + width_by (part_way way (a.parts + b.parts) 0) a) bit (bit + width_by way (several_parts a b)) _ (omega arith) (omega arith)
    (fa (part_way way (a.parts + b.parts) 0) bit))
    (each-wider bit (bit + width_by (part_way way (a.parts + b.parts) a.parts) b) bit (bit + width_by way (several_parts a b)) _ (omega arith) (omega arith)
    (gb (part_way way (a.parts + b.parts) a.parts) bit))

-- the width of a parallel: what is said in front, and its branches
pub parallel-width : (way : Way) (x y : Bool) (a b : Widths)
    → width_by way (parallel_widths x y a b) ≡ front_width way (all_marked x y a b) + (branch_width x a + branch_width y b)
parallel-width Full x y a b = omega arith
parallel-width Loose x y a b = by (all_marked x y a b) (branch_width x a + branch_width y b)
  where
    by : (said : Bool) (n : ℕ) → (if said then n else n + 1) ≡ (if said then 0 else 1) + n
    by true n = omega arith
    by false n = omega arith
parallel-width (Part width number) x y a b = refl

pub branch-by : (marked : Bool) (a : Widths) → width_by (branch_way marked) a ≡ branch_width marked a
branch-by true a = refl
branch-by false a = refl

pub leaf-width : (way : Way) → front_width way false ≡ width_by way (widths_of (OneLeaf 0))
leaf-width Full = refl
leaf-width Loose = refl
leaf-width (Part width number) = omega arith

pub codes-within : (t : Shape) (way : Way) (bit : ℕ) → EachWithin bit (bit + width_by way (widths_of t)) (leaf_codes t way bit)
codes-within NoLeaf way bit = All-nil (λ (e : LeafCode). Within bit (bit + width_by way (widths_of NoLeaf)) e.needs)
codes-within (OneLeaf k) way bit =
    let e = leaf-width way in
    let hi = bit + width_by way (widths_of (OneLeaf k)) in
    All-cons (λ (x : LeafCode). Within bit hi x.needs) (record { leaf = k; needs = front_code way false bit }) []
    (wider bit (bit + front_width way false) bit hi (front_code way false bit) (omega arith) (omega arith) (front-within way false bit))
    (All-nil (λ (x : LeafCode). Within bit hi x.needs))
codes-within (OneOf a b) way bit =
    within-coded (leaf_codes a) (leaf_codes b) (widths_of a) (widths_of b) way bit _ _
    (coding (leaf_codes a) (leaf_codes b) (widths_of a) (widths_of b) way bit) (codes-within a) (codes-within b)
codes-within (AllOf x y a b) way bit =
    let A = widths_of a in
    let C = widths_of b in
    let said = all_marked x y A C in
    let base = bit + front_width way said in
    let wide = parallel-width way x y A C in
    let p = branch-by x A in
    let q = branch-by y C in
    let hi = bit + width_by way (parallel_widths x y A C) in
    let first = leaf_codes a (branch_way x) base in
    let second = leaf_codes b (branch_way y) (base + branch_width x A) in
    each-front bit hi (front_code way said bit) (first ++ second)
    (wider bit (bit + front_width way said) bit hi (front_code way said bit) (omega arith) (omega arith) (front-within way said bit))
    (All-append (λ (e : LeafCode). Within bit hi e.needs) first second
    (each-wider base (base + width_by (branch_way x) A) bit hi first (omega arith) (omega arith) (codes-within a (branch_way x) base))
    (each-wider (base + branch_width x A) (base + branch_width x A + width_by (branch_way y) C) bit hi second (omega arith) (omega arith)
    (codes-within b (branch_way y) (base + branch_width x A))))
