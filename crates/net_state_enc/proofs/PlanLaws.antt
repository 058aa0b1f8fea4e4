-- How the parts of a node are coded.
use Rattle.std.proofs.Common.{◌≡◌, ℕ, zero, suc, ◌+◌, ◌^◌, ◌<◌, ◌≤◌, Bool, true, false, ◌==◌, ◌||◌, List, [], ◌∷◌, ◌++◌, map, refl, sym, ap, ◌∙◌, subst}
use Rattle.std.proofs.Common.{arith, append_assoc, Vec, Global}
use Rattle.std.specs.Prelude.{if◌then◌else◌}
use Rattle.std.proofs.lemmas.List.{append-nil, map-append}
use Rattle.std.proofs.lemmas.Bool.{eqb-true, eqb-false}
use Rattle.net_state_enc.specs.declared.codes.Literal.{Literal}
use Rattle.net_state_enc.specs.declared.codes.Plan.{Plan}
use Rattle.net_state_enc.specs.declared.codes.Way.{Way}
use Rattle.net_state_enc.specs.declared.codes.Way.TheVariants.{Full, Loose, Part}
use Rattle.net_state_enc.specs.Codes.{LeafCode, leaf_codes, with_front, front_code, front_width, part_way, branch_way, width_by}
use Rattle.net_state_enc.specs.Drafts.{literals_of}
use Rattle.net_state_enc.specs.Plans.{codes_behind, needs_of, first_way, second_way, IsShort, IsPlan}
use Rattle.net_state_enc.specs.Shapes.{Shape, NoLeaf, OneOf, AllOf, widths_of}
use Rattle.net_state_enc.specs.Widths.{Widths, no_widths, exclusive_widths, several_parts, parallel_widths, branch_width, all_marked}
use Rattle.net_state_enc.proofs.CodeCases.{Coding, second_alone, first_alone, two, coding, no-codes, part-first, part-second, parallel-width, branch-by}
use Rattle.net_state_enc.proofs.NumberCodes.{width-short}

pub exclusive-parts : (a b : Widths) → (exclusive_widths a b).parts ≡ a.parts + b.parts
exclusive-parts a b = by (a.parts == 0) (b.parts == 0) refl refl
  where
    by : (p q : Bool) → (a.parts == 0) ≡ p → (b.parts == 0) ≡ q → (if p then b else if q then a else several_parts a b).parts ≡ a.parts + b.parts
    by true q ep eq = let e = eqb-true a.parts 0 ep in omega arith
    by false true ep eq = let e = eqb-true b.parts 0 eq in omega arith
    by false false ep eq = refl

no-width-coded : (f g : Way → ℕ → List LeafCode) (a b : Widths) (w : Widths) (es : List LeafCode) → Coding f g a b Full 0 w es → w.parts ≡ 0
    → (a.parts ≡ 0 → a ≡ no_widths) → (b.parts ≡ 0 → b ≡ no_widths) → w ≡ no_widths
no-width-coded f g a b w es (second_alone h) none fa fb = fb none
no-width-coded f g a b w es (first_alone h) none fa fb = fa none
no-width-coded f g a b w es (two h k) none fa fb = absurd (omega arith)

-- a tree without parts takes no bits
no-width : (t : Shape) → (widths_of t).parts ≡ 0 → widths_of t ≡ no_widths
no-width NoLeaf none = refl
no-width (OneOf a b) none =
    no-width-coded (leaf_codes a) (leaf_codes b) (widths_of a) (widths_of b) _ _ (coding (leaf_codes a) (leaf_codes b) (widths_of a) (widths_of b) Full 0) none
    (no-width a) (no-width b)
no-width _ none = absurd (omega arith)

no-bits : (way : Way) (a b : Widths) → a ≡ no_widths → width_by way a ≤ width_by way b
no-bits way a b e = subst (λ w. width_by way w ≤ width_by way b) (sym e) (by way)
  where
    by : (way : Way) → width_by way no_widths ≤ width_by way b
    by Full = omega arith
    by Loose = omega arith
    by (Part width number) = omega arith

short-less : (way : Way) (m n : ℕ) → m ≤ n → IsShort way n → IsShort way m
short-less Full m n h s = tt
short-less Loose m n h s = tt
short-less (Part width number) m n h s = (s.0, (let q = s.1 in omega arith))

short-first : (way : Way) (m n : ℕ) → 0 < n → m + n + 1 < 2 ^ 32 → IsShort way (m + n) → IsShort (part_way way (m + n) 0) m
short-first Full m n some few s = (width-short (m + n) (omega arith), omega arith)
short-first Loose m n some few s = (width-short (m + n + 1) (omega arith), omega arith)
short-first (Part width number) m n some few s = (s.0, (let q = s.1 in omega arith))

short-second : (way : Way) (m n : ℕ) → m + n + 1 < 2 ^ 32 → IsShort way (m + n) → IsShort (part_way way (m + n) m) n
short-second Full m n few s = (width-short (m + n) (omega arith), omega arith)
short-second Loose m n few s = (width-short (m + n + 1) (omega arith), omega arith)
short-second (Part width number) m n few s = (s.0, (let q = s.1 in omega arith))

record PartsCase (f g : Way → ℕ → List LeafCode) (a b : Widths) (bit : ℕ) (u v : Way) (whole : ℕ) (es : List LeafCode) : Type 0 where
  codes : es ≡ f u bit ++ g v bit
  first_short : IsShort u a.parts
  first_fits : width_by u a ≤ whole
  second_short : IsShort v b.parts
  second_fits : width_by v b ≤ whole

parts-case : (f g : Way → ℕ → List LeafCode) (a b : Widths) (way : Way) (bit : ℕ)
    → (a.parts ≡ 0 → (way : Way) (bit : ℕ) → f way bit ≡ []) → (b.parts ≡ 0 → (way : Way) (bit : ℕ) → g way bit ≡ [])
    → (a.parts ≡ 0 → a ≡ no_widths) → (b.parts ≡ 0 → b ≡ no_widths)
    → a.parts + b.parts + 1 < 2 ^ 32 → IsShort way (a.parts + b.parts)
    → (p q : Bool) → (a.parts == 0) ≡ p → (b.parts == 0) ≡ q
    → PartsCase f g a b bit (if p || q then way else part_way way (a.parts + b.parts) 0) (if p || q then way else part_way way (a.parts + b.parts) a.parts)
    (width_by way (if p then b else if q then a else several_parts a b))
    (if p then g way bit else if q then f way bit
    else f (part_way way (a.parts + b.parts) 0) bit ++ g (part_way way (a.parts + b.parts) a.parts) bit)
parts-case f g a b way bit nf ng na nb few short true q ep eq =
    let none = eqb-true a.parts 0 ep in
    record {
      codes = ap (λ es. es ++ g way bit) (sym (nf none way bit));
      first_short = short-less way a.parts (a.parts + b.parts) (omega arith) short;
      first_fits = no-bits way a b (na none);
      second_short = short-less way b.parts (a.parts + b.parts) (omega arith) short;
      second_fits = omega arith;
    }
parts-case f g a b way bit nf ng na nb few short false true ep eq =
    let none = eqb-true b.parts 0 eq in
    record {
      codes = sym (append-nil (f way bit)) ∙ ap (λ es. f way bit ++ es) (sym (ng none way bit));
      first_short = short-less way a.parts (a.parts + b.parts) (omega arith) short;
      first_fits = omega arith;
      second_short = short-less way b.parts (a.parts + b.parts) (omega arith) short;
      second_fits = no-bits way b a (nb none);
    }
parts-case f g a b way bit nf ng na nb few short false false ep eq =
    record {
      codes = refl;
      first_short = short-first way a.parts b.parts (some b.parts (eqb-false b.parts 0 eq)) few short;
      first_fits = part-first way a b;
      second_short = short-second way a.parts b.parts few short;
      second_fits = part-second way a b;
    }
  where
    some : (n : ℕ) → (n ≡ 0 → ⊥) → 0 < n
    some zero h = absurd (h refl)
    some (suc n) h = omega arith

behind-append : (known : List Literal) (xs ys : List LeafCode) → codes_behind known (xs ++ ys) ≡ codes_behind known xs ++ codes_behind known ys
behind-append known xs ys = map-append (λ (e : LeafCode). known ++ e.needs) xs ys

behind-front : (known front : List Literal) (es : List LeafCode) → codes_behind known (map (with_front front) es) ≡ codes_behind (known ++ front) es
behind-front known front [] = refl
behind-front known front (e ∷ es) = (λ i. sym (append_assoc known front e.needs) i ∷ behind-front known front es i)

pub parts-planned : (plan : Plan) (known : List Literal) (p q : Shape) (way : Way) (bit : ℕ)
    → plan.front.items ≡ known → plan.first ≡ first_way way (widths_of p) (widths_of q) → plan.first_bit ≡ bit
    → plan.second ≡ second_way way (widths_of p) (widths_of q) → plan.second_bit ≡ bit
    → (widths_of p).parts + (widths_of q).parts + 1 < 2 ^ 32 → IsShort way ((widths_of p).parts + (widths_of q).parts)
    → bit + width_by way (exclusive_widths (widths_of p) (widths_of q)) < 2 ^ 32
    → IsPlan plan known (OneOf p q) p q way bit
parts-planned plan known p q way bit front first first_bit second second_bit few short fits =
    let a = widths_of p in
    let b = widths_of q in
    let c = parts-case (leaf_codes p) (leaf_codes q) a b way bit (λ none way bit. no-codes p way bit none) (λ none way bit. no-codes q way bit none)
    (no-width p) (no-width q) few short (a.parts == 0) (b.parts == 0) refl refl in
    let u = first_way way a b in
    let v = second_way way a b in
    record {
      codes = ap (codes_behind known) c.codes ∙ behind-append known (leaf_codes p u bit) (leaf_codes q v bit)
          ∙ (λ i. codes_behind (sym front i) (leaf_codes p (sym first i) (sym first_bit i)) ++ codes_behind (sym front i) (leaf_codes q (sym second i) (sym
          second_bit i)));
      first_short = subst (λ w. IsShort w a.parts) (sym first) c.first_short;
      first_fits = let e = ap (λ w. width_by w a) first in let l = c.first_fits in omega (arith, e, l, first_bit, fits);
      second_short = subst (λ w. IsShort w b.parts) (sym second) c.second_short;
      second_fits = let e = ap (λ w. width_by w b) second in let l = c.second_fits in omega (arith, e, l, second_bit, fits);
    }

short-branch : (marked : Bool) (n : ℕ) → IsShort (branch_way marked) n
short-branch true n = tt
short-branch false n = tt

pub branches-planned : (plan : Plan) (known : List Literal) (x y : Bool) (p q : Shape) (way : Way) (bit : ℕ)
    → plan.front.items ≡ known ++ front_code way (all_marked x y (widths_of p) (widths_of q)) bit
    → plan.first ≡ branch_way x → plan.first_bit ≡ bit + front_width way (all_marked x y (widths_of p) (widths_of q))
    → plan.second ≡ branch_way y
    → plan.second_bit ≡ bit + front_width way (all_marked x y (widths_of p) (widths_of q)) + branch_width x (widths_of p)
    → bit + width_by way (parallel_widths x y (widths_of p) (widths_of q)) < 2 ^ 32
    → IsPlan plan known (AllOf x y p q) p q way bit
branches-planned plan known x y p q way bit front first first_bit second second_bit fits =
    let a = widths_of p in
    let b = widths_of q in
    let said = all_marked x y a b in
    let fr = front_code way said bit in
    let base = bit + front_width way said in
    let one = leaf_codes p (branch_way x) base in
    let other = leaf_codes q (branch_way y) (base + branch_width x a) in
    let wide = parallel-width way x y a b in
    record {
      codes = behind-front known fr (one ++ other) ∙ behind-append (known ++ fr) one other
          ∙ (λ i. codes_behind (sym front i) (leaf_codes p (sym first i) (sym first_bit i)) ++ codes_behind (sym front i) (leaf_codes q (sym second i) (sym
          second_bit i)));
      first_short = subst (λ w. IsShort w a.parts) (sym first) (short-branch x a.parts);
      first_fits = let e = ap (λ w. width_by w a) first in let l = branch-by x a in omega (arith, e, l, first_bit, fits, wide);
      second_short = subst (λ w. IsShort w b.parts) (sym second) (short-branch y b.parts);
      second_fits = let e = ap (λ w. width_by w b) second in let l = branch-by y b in omega (arith, e, l, second_bit, fits, wide);
    }

-- ---- codes appended

pub codes-pushed : (old new : List (Vec Literal Global)) (own : Vec Literal Global) (x : List Literal) → new ≡ old ++ own ∷ [] → own.items ≡ x
    → literals_of new ≡ literals_of old ++ x ∷ []
codes-pushed old new own x e is =
    ap literals_of e ∙ map-append (λ (c : Vec Literal Global). c.items) old (own ∷ []) ∙ ap (λ l. literals_of old ++ l ∷ []) is

pub codes-both : (old mid new : List (List Literal)) (plan : Plan) (known : List Literal) (t a b : Shape) (way : Way) (bit : ℕ)
    → IsPlan plan known t a b way bit
    → mid ≡ old ++ codes_behind plan.front.items (leaf_codes a plan.first plan.first_bit)
    → new ≡ mid ++ codes_behind plan.front.items (leaf_codes b plan.second plan.second_bit)
    → new ≡ old ++ codes_behind known (leaf_codes t way bit)
codes-both old mid new plan known t a b way bit p first second =
    second ∙ ap (λ l. l ++ codes_behind plan.front.items (leaf_codes b plan.second plan.second_bit)) first
    ∙ append_assoc old (codes_behind plan.front.items (leaf_codes a plan.first plan.first_bit))
    (codes_behind plan.front.items (leaf_codes b plan.second plan.second_bit))
    ∙ ap (λ l. old ++ l) (sym p.codes)

pub behind-nothing : (es : List LeafCode) → codes_behind [] es ≡ needs_of es
behind-nothing [] = refl
behind-nothing (e ∷ es) = ap (λ l. e.needs ∷ l) (behind-nothing es)
