-- Numbers in bits: the width is enough, and no two have one code.
use Rattle.std.proofs.Common.{◌≡◌, ℕ, zero, suc, ◌+◌, ◌-◌, ◌^◌, ◌<◌, ◌≤◌, inl, inr, Bool, true, false, not, ◌==◌, ◌&&◌, ◌||◌, [], ◌∷◌, length}
use Rattle.std.proofs.Common.{refl, ap, sym, ◌∙◌, subst, arith}
use Rattle.std.specs.Prelude.{nat_le, if◌then◌else◌}
use Rattle.std.proofs.lemmas.Bool.{false≢true, ne_eqb, eq-eqb, le-leb, lt-leb, leb-true, leb-false, cases_lt}
use Rattle.std.proofs.Math.Bool.{and-false, and-true, or-false}
use Rattle.std.proofs.Math.Nat.{two-pow-succ}
use Rattle.std.proofs.lemmas.Nat.{pow_pos}
use Rattle.std.proofs.lemmas.List.Elements.{All-nil, All-cons}
use Rattle.net_state_enc.specs.declared.codes.Literal.{Literal}
use Rattle.net_state_enc.specs.declared.codes.Way.{Way}
use Rattle.net_state_enc.specs.declared.codes.Way.TheVariants.{Full, Loose, Part}
use Rattle.net_state_enc.specs.Widths.{width_from, number_width}
use Rattle.net_state_enc.specs.Codes.{number_code, front_code, front_width, is_met, are_met, wants}
use Rattle.net_state_enc.proofs.CodeValues.{Within, wider, wants-out}

-- ---- the width

below-power : (n : ℕ) → n < 2 ^ n
below-power zero = omega arith
below-power (suc n) = omega (arith, two-pow-succ n, below-power n)

width-from-enough : (tries width count : ℕ) → count ≤ 2 ^ (width + tries) → count ≤ 2 ^ width_from tries width count
width-from-enough zero width count h = let e : width + 0 ≡ width = omega arith in subst (λ w. count ≤ 2 ^ w) e h
width-from-enough (suc tries) width count h =
    let e : width + suc tries ≡ (width + 1) + tries = omega arith in
    let rest = width-from-enough tries (width + 1) count (subst (λ w. count ≤ 2 ^ w) e h) in
    let here = leb-true count (2 ^ width) in
    elim (nat_le count (2 ^ width)) as (λ b. (b ≡ true → count ≤ 2 ^ width) → count ≤ 2 ^ (if b then width else width_from tries (width + 1) count)) [
      | true ↦ λ k. k refl
      | false ↦ λ k. rest
    ] here

-- so many numbers fit
pub width-is-enough : (count : ℕ) → count ≤ 2 ^ number_width count
width-is-enough count =
    let e : 0 + count ≡ count = omega arith in
    width-from-enough count 0 count (subst (λ w. count ≤ 2 ^ w) (sym e) (let b = below-power count in omega arith))

width-from-least : (tries width count b : ℕ) → count ≤ 2 ^ b → ((c : ℕ) → c < b → 2 ^ c < count) → width ≤ b → b ≤ width + tries
    → width_from tries width count ≡ b
width-from-least zero width count b fits less low high = omega arith
width-from-least (suc tries) width count b fits less low high = elim (cases_lt width b) [
  | inl lt ↦
      let l = less width lt in
      let no : nat_le count (2 ^ width) ≡ false = lt-leb count (2 ^ width) l in
      ap (λ t. if t then width else width_from tries (width + 1) count) no ∙ width-from-least tries (width + 1) count b fits less (omega arith) (omega arith)
  | inr ge ↦
      let e : b ≡ width = omega arith in
      let yes : nat_le count (2 ^ width) ≡ true = le-leb count (2 ^ width) (subst (λ w. count ≤ 2 ^ w) e fits) in
      ap (λ t. if t then width else width_from tries (width + 1) count) yes ∙ sym e
]

-- and in no smaller width
pub width-is-least : (count b : ℕ) → count ≤ 2 ^ b → ((c : ℕ) → c < b → 2 ^ c < count) → b ≤ count → number_width count ≡ b
width-is-least count b fits less few = width-from-least count 0 count b fits less (omega arith) (omega arith)

few-bits : (count b : ℕ) → ((c : ℕ) → c < b → 2 ^ c < count) → b ≤ count
few-bits count zero less = omega arith
few-bits count (suc b) less = let l = less b (omega arith) in let s = below-power b in omega arith

-- the width that is enough, where no smaller one is
pub width-is : (count b : ℕ) → count ≤ 2 ^ b → ((c : ℕ) → c < b → 2 ^ c < count) → number_width count ≡ b
width-is count b fits less = width-is-least count b fits less (few-bits count b less)

short-from : (tries width count most : ℕ) → count ≤ 2 ^ most → width ≤ most → width_from tries width count ≤ most
short-from zero width count most fits low = low
short-from (suc tries) width count most fits low =
    let next : nat_le count (2 ^ width) ≡ false → width + 1 ≤ most = λ no.
    elim (cases_lt width most) [
      | inl lt ↦ omega arith
      | inr ge ↦
          let e : most ≡ width = omega arith in
          absurd (false≢true (sym no ∙ le-leb count (2 ^ width) (subst (λ w. count ≤ 2 ^ w) e fits)))
    ] in
    elim (nat_le count (2 ^ width)) as (λ b. (b ≡ false → width + 1 ≤ most) → (if b then width else width_from tries (width + 1) count) ≤ most) [
      | true ↦ λ k. low
      | false ↦ λ k. short-from tries (width + 1) count most fits (k refl)
    ] next

pub width-short : (count : ℕ) → count ≤ 2 ^ 32 → number_width count ≤ 32
width-short count fits = short-from count 0 count 32 fits (omega arith)

-- and fewer bits than there are numbers
pub width-less : (count : ℕ) → 0 < count → number_width count < count
width-less zero some = absurd (omega arith)
width-less (suc n) some =
    let fits : suc n ≤ 2 ^ n = let b = below-power n in omega arith in
    omega (arith, short-from (suc n) 0 (suc n) n fits (omega arith))

pub number-length : (width number bit : ℕ) → length (number_code width number bit) ≡ width
number-length zero number bit = refl
number-length (suc width) number bit =
    ap suc (number-length width (if nat_le (2 ^ width) number then number - 2 ^ width else number) (bit + 1))

-- ---- the code

pub number-within : (width number bit : ℕ) → Within bit (bit + width) (number_code width number bit)
number-within zero number bit = All-nil (λ (l : Literal). (bit ≤ l.bit) × (l.bit < bit + 0))
number-within (suc width) number bit =
    let next = if nat_le (2 ^ width) number then number - 2 ^ width else number in
    All-cons (λ (l : Literal). (bit ≤ l.bit) × (l.bit < bit + suc width)) _ _ (omega arith, omega arith)
    (wider (bit + 1) (bit + 1 + width) bit (bit + suc width) (number_code width next (bit + 1)) (omega arith) (omega arith)
    (number-within width next (bit + 1)))

met-there : (B : ℕ → Bool) (i : ℕ) (v : Bool) → B i ≡ v → is_met B (record { bit = i; value = v }) ≡ true
met-there B i true e = e
met-there B i false e = ap not e

-- bits that are what a number wants meet its code
pub number-met : (B : ℕ → Bool) (width number bit : ℕ) → ((i : ℕ) → bit ≤ i → i < bit + width → B i ≡ wants i (number_code width number bit))
    → are_met B (number_code width number bit) ≡ true
number-met B zero number bit like = refl
number-met B (suc width) number bit like =
    let v = nat_le (2 ^ width) number in
    let next = if nat_le (2 ^ width) number then number - 2 ^ width else number in
    let rest = number_code width next (bit + 1) in
    let inside = number-within width next (bit + 1) in
    let own : (bit == bit) ≡ true = eq-eqb bit bit refl in
    let none : wants bit rest ≡ false = wants-out (bit + 1) (bit + 1 + width) bit rest inside (inl (omega arith)) in
    let here : B bit ≡ v = like bit (omega arith) (omega arith) ∙ (λ j. (v && own j) || none j) ∙ or-false (v && true) ∙ and-true v in
    let more = number-met B width next (bit + 1) (λ i low high.
    let other : (bit == i) ≡ false = ne_eqb bit i (λ e. omega (arith, e)) in
    like i (omega arith) (omega arith) ∙ ap (λ b. (v && b) || wants i rest) other ∙ ap (λ b. b || wants i rest) (and-false v)) in
    (λ j. met-there B bit v here j && more j)

-- no bit is wanted true for the number 0
zero-wants : (width bit i : ℕ) → wants i (number_code width 0 bit) ≡ false
zero-wants zero bit i = refl
zero-wants (suc width) bit i =
    let no : nat_le (2 ^ width) 0 ≡ false = lt-leb (2 ^ width) 0 (pow_pos width) in
    ap (λ b. (b && bit == i) || wants i (number_code width (if b then 0 - 2 ^ width else 0) (bit + 1))) no ∙ zero-wants width (bit + 1) i

pub zero-met : (B : ℕ → Bool) (width bit : ℕ) → ((i : ℕ) → bit ≤ i → i < bit + width → B i ≡ false) → are_met B (number_code width 0 bit) ≡ true
zero-met B width bit off = number-met B width 0 bit (λ i low high. off i low high ∙ sym (zero-wants width bit i))

pub both-true : (a b : Bool) → (a && b) ≡ true → (a ≡ true) × (b ≡ true)
both-true true b e = (refl, e)
both-true false b e = absurd (false≢true e)

-- a number that is met, by its first bit
record FirstBit (B : ℕ → Bool) (width number bit : ℕ) (v : Bool) : Type 0 where
  is : B bit ≡ v
  rest : are_met B (number_code width (if v then number - 2 ^ width else number) (bit + 1)) ≡ true
  high : v ≡ true → 2 ^ width ≤ number
  low : v ≡ false → number < 2 ^ width

first-value : (B : ℕ → Bool) (bit : ℕ) (v : Bool) → is_met B (record { bit = bit; value = v }) ≡ true → B bit ≡ v
first-value B bit true e = e
first-value B bit false e = flipped (B bit) e
  where
    flipped : (b : Bool) → not b ≡ true → b ≡ false
    flipped true h = absurd (false≢true h)
    flipped false h = refl

first-bit : (B : ℕ → Bool) (width number bit : ℕ) → are_met B (number_code (suc width) number bit) ≡ true
    → FirstBit B width number bit (nat_le (2 ^ width) number)
first-bit B width number bit e =
    let v = nat_le (2 ^ width) number in
    let parts = both-true (is_met B (record { bit = bit; value = v })) _ e in
    record {
      is = first-value B bit v parts.0;
      rest = parts.1;
      high = leb-true (2 ^ width) number;
      low = leb-false (2 ^ width) number;
    }

same-first : (B : ℕ → Bool) (width m n bit : ℕ) (u v : Bool) → FirstBit B width m bit u → FirstBit B width n bit v → m < 2 ^ suc width → n < 2 ^ suc width
    → ((m n : ℕ) → are_met B (number_code width m (bit + 1)) ≡ true → are_met B (number_code width n (bit + 1)) ≡ true → m < 2 ^ width → n < 2 ^ width
    → m ≡ n)
    → m ≡ n
same-first B width m n bit true true a b hm hn same =
    let double = two-pow-succ width in
    let am = a.high refl in
    let bn = b.high refl in
    let rest = same (m - 2 ^ width) (n - 2 ^ width) a.rest b.rest (omega arith) (omega arith) in
    omega arith
same-first B width m n bit false false a b hm hn same = same m n a.rest b.rest (a.low refl) (b.low refl)
same-first B width m n bit true false a b hm hn same = absurd (false≢true (sym b.is ∙ a.is))
same-first B width m n bit false true a b hm hn same = absurd (false≢true (sym a.is ∙ b.is))

-- two numbers whose codes are met by one list of bits are one
pub same-number : (B : ℕ → Bool) (width m n bit : ℕ) → are_met B (number_code width m bit) ≡ true → are_met B (number_code width n bit) ≡ true
    → m < 2 ^ width → n < 2 ^ width → m ≡ n
same-number B zero m n bit a b hm hn = omega arith
same-number B (suc width) m n bit a b hm hn =
    same-first B width m n bit (nat_le (2 ^ width) m) (nat_le (2 ^ width) n) (first-bit B width m bit a) (first-bit B width n bit b) hm hn
    (λ m n. same-number B width m n (bit + 1))

-- ---- what is said in front

pub front-within : (way : Way) (said : Bool) (bit : ℕ) → Within bit (bit + front_width way said) (front_code way said bit)
front-within Full said bit = All-nil (λ (l : Literal). (bit ≤ l.bit) × (l.bit < bit + 0))
front-within Loose true bit = All-nil (λ (l : Literal). (bit ≤ l.bit) × (l.bit < bit + 0))
front-within Loose false bit = All-cons (λ (l : Literal). (bit ≤ l.bit) × (l.bit < bit + 1)) _ [] (omega arith, omega arith)
    (All-nil (λ (l : Literal). (bit ≤ l.bit) × (l.bit < bit + 1)))
front-within (Part width number) said bit = number-within width number bit

pub front-met : (B : ℕ → Bool) (way : Way) (said : Bool) (bit : ℕ)
    → ((i : ℕ) → bit ≤ i → i < bit + front_width way said → B i ≡ wants i (front_code way said bit))
    → are_met B (front_code way said bit) ≡ true
front-met B Full said bit like = refl
front-met B Loose true bit like = refl
front-met B Loose false bit like =
    let own : (bit == bit) ≡ true = eq-eqb bit bit refl in
    ap (λ b. b && true) (like bit (omega arith) (omega arith) ∙ ap (λ b. b || false) own)
front-met B (Part width number) said bit like = number-met B width number bit like

pub front-length : (way : Way) (said : Bool) (bit : ℕ) → length (front_code way said bit) ≡ front_width way said
front-length Full said bit = refl
front-length Loose true bit = refl
front-length Loose false bit = refl
front-length (Part width number) said bit = number-length width number bit

-- the code of a number in one bit more
pub number-step : (width number bit : ℕ) → 0 < width → number_code width number bit
    ≡ record { bit = bit; value = nat_le (2 ^ (width - 1)) number }
    ∷ number_code (width - 1) (if nat_le (2 ^ (width - 1)) number then number - 2 ^ (width - 1) else number) (bit + 1)
number-step zero number bit some = absurd (omega arith)
number-step (suc width) number bit some =
    let e : width ≡ suc width - 1 = omega arith in
    ap (λ w. record { bit = bit; value = nat_le (2 ^ w) number } ∷ number_code w (if nat_le (2 ^ w) number then number - 2 ^ w else number) (bit + 1)) e
