-- Gates that are added one after another, and what their nets say.
use Rattle.std.proofs.Common.{◌≡◌, ℕ, suc, ◌+◌, ◌*◌, ◌<◌, ◌≤◌, Bool, true, false, not, ◌&&◌, ◌||◌, ◌==◌, List, [], ◌∷◌, ◌++◌, length, take, refl}
use Rattle.std.proofs.Common.{sym}
use Rattle.std.proofs.Common.{ap, ◌∙◌, subst, arith, All, None, slice_index_or, append_assoc, length-append, set, inl, inr, Vec, Global}
use Rattle.std.specs.Prelude.{if◌then◌else◌, replicate}
use Rattle.std.proofs.lemmas.Nat.{mul-le}
use Rattle.std.proofs.Math.Nat.{mul-le-mul_right, suc-mul}
use Rattle.std.proofs.lemmas.List.{append-nil, take_more, take_all, get_or_push, length_push, get_or_append_left, get_or-set_same, get_or-set_other, length-set}
use Rattle.std.proofs.lemmas.List.{get_or-replicate, get_or_default, get_or-map, length-map, length-take, length-replicate, map_more}
use Rattle.std.proofs.lemmas.List.Elements.{All-append, All-nil, All-cons, All-set, All-weaker}
use Rattle.std.proofs.lemmas.Bool.{cases_lt, cases_eq, eq-eqb, ne_eqb}
use Rattle.std.proofs.Math.Bool.{and-false, and-true, or-false, or_assoc}
use Rattle.base_types.specs.declared.indices.NetId.{NetId}
use Rattle.net_ir.specs.declared.netlist.Op.{Op}
use Rattle.net_ir.specs.declared.netlist.Op.TheVariants.{And, Or}
use Rattle.net_ir.specs.declared.netlist.Gate.{Gate}
use Rattle.net_ir.specs.Gates.{operand_end, ReadsLower, op_value, value_in, gate_values}
use Rattle.net_ir.proofs.Exports.{ReadsLower-push, length-gate_values, gate_values-append, value_in-gate_values}
use Rattle.net_state_enc.specs.declared.codes.Literal.{Literal}
use Rattle.net_state_enc.specs.Codes.{is_met, are_met, wants}
use Rattle.net_state_enc.specs.Drafts.{bits_at, Grew, Says, EachSays, literals_of, literals_at, wanted, values_of}
use Rattle.net_state_enc.proofs.CodeValues.{are_met-append, wants-append}

-- one more gate without a wire
abbrev pub silent_gate : Op → Gate
silent_gate op = record { op = op; wire = None }

-- the values that nets have stay, whatever gates follow
pub values-more : (v : List Bool) (old more : List Gate) (n : ℕ) → n < length v + length old
    → value_in (gate_values v (old ++ more)) n ≡ value_in (gate_values v old) n
values-more v old more n low =
    ap (λ V. value_in V n) (gate_values-append v old more) ∙ value_in-gate_values (gate_values v old) more n (omega (arith, length-gate_values v old))

pub says-as : (first : ℕ) (gates : List Gate) (n : ℕ) (m h : List Bool → Bool) → Says first gates n m → ((v : List Bool) → length v ≡ first → m v ≡ h v)
    → Says first gates n h
says-as first gates n m h s e = record { below = s.below; says = λ v len. s.says v len ∙ e v len }

pub says-later : (first : ℕ) (old new : List Gate) (most n : ℕ) (m : List Bool → Bool) → Grew first old new most → Says first old n m → Says first new n m
says-later first old new most n m g s = record {
  below = omega (arith, ap length g.is, length-append old g.more, s.below);
  says = λ v len. ap (λ gs. value_in (gate_values v gs) n) g.is ∙ values-more v old g.more n (let b = s.below in omega arith) ∙ s.says v len;
}

pub says-given : (first : ℕ) (gates : List Gate) (n : ℕ) → n < first → Says first gates n (λ v. value_in v n)
says-given first gates n low = record {
  below = omega arith;
  says = λ v len. value_in-gate_values v gates n (omega arith);
}

pub says-push : (first : ℕ) (old new : List Gate) (op : Op) (n : ℕ) → new ≡ old ++ silent_gate op ∷ [] → n ≡ first + length old
    → Says first new n (λ v. op_value (value_in (gate_values v old)) op)
says-push first old new op n e at = record {
  below = omega (arith, at, ap length e, length_push old (silent_gate op));
  says = λ v len.
      ap (λ gs. value_in (gate_values v gs) n) e ∙ ap (λ V. value_in V n) (gate_values-append v old (silent_gate op ∷ []))
      ∙ get_or_push (gate_values v old) (op_value (value_in (gate_values v old)) op) false n (omega (arith, at, length-gate_values v old));
}

pub grew-none : (first : ℕ) (gates : List Gate) → ReadsLower first gates → Grew first gates gates 0
grew-none first gates reads = record {
  more = [];
  is = sym (append-nil gates);
  silent = All-nil (λ (g : Gate). g.wire ≡ None);
  few = omega arith;
  reads = reads;
}

pub grew-push : (first : ℕ) (old new : List Gate) (op : Op) → ReadsLower first old → operand_end op ≤ first + length old → new ≡ old ++ silent_gate op ∷ []
    → Grew first old new 1
grew-push first old new op reads low e = record {
  more = silent_gate op ∷ [];
  is = e;
  silent = All-cons (λ (g : Gate). g.wire ≡ None) (silent_gate op) [] refl (All-nil (λ (g : Gate). g.wire ≡ None));
  few = omega arith;
  reads = subst (ReadsLower first) (sym e) (ReadsLower-push first old (silent_gate op) reads low);
}

pub grew-trans : (first : ℕ) (a b c : List Gate) (m n k : ℕ) → Grew first a b m → Grew first b c n → m + n ≤ k → Grew first a c k
grew-trans first a b c m n k g h fit = record {
  more = g.more ++ h.more;
  is = h.is ∙ ap (λ gs. gs ++ h.more) g.is ∙ append_assoc a g.more h.more;
  silent = All-append (λ (x : Gate). x.wire ≡ None) g.more h.more g.silent h.silent;
  few = omega (arith, length-append g.more h.more, g.few, h.few);
  reads = h.reads;
}

pub grew-most : (first : ℕ) (a b : List Gate) (m n : ℕ) → Grew first a b m → m ≤ n → Grew first a b n
grew-most first a b m n g low = record { more = g.more; is = g.is; silent = g.silent; few = omega (arith, g.few); reads = g.reads }

-- how many there are then
pub grew-length : (first : ℕ) (old new : List Gate) (most : ℕ) → Grew first old new most → length new ≤ length old + most
grew-length first old new most g = omega (arith, ap length g.is, length-append old g.more, g.few)

-- so many times a width, and once more, is at most as often as there are
pub times-within : (k n width : ℕ) → k < n → k * width + width ≤ n * width
times-within k n width low = subst (λ x. x ≤ n * width) (suc-mul k width) (mul-le-mul_right {m = suc k} {n = n} width (omega arith))

-- what a code of few leaves comes to
pub coded-few : (leaves width : ℕ) → leaves ≤ 1024 → width < leaves → leaves * width ≤ 1048576
coded-few leaves width few narrow = mul-le leaves width 1024 1024 few (omega arith)

-- ---- a literal

pub literal-true : (base : ℕ) (l : Literal) (v : List Bool) → l.value ≡ true → value_in v (base + l.bit) ≡ is_met (bits_at base v) l
literal-true base l v e = ap (λ b. if b then bits_at base v l.bit else not (bits_at base v l.bit)) (sym e)

pub literal-false : (base : ℕ) (l : Literal) (v : List Bool) → l.value ≡ false → not (value_in v (base + l.bit)) ≡ is_met (bits_at base v) l
literal-false base l v e = ap (λ b. if b then bits_at base v l.bit else not (bits_at base v l.bit)) (sym e)

-- ---- a product

pub record Product (first base : ℕ) (old new : List Gate) (net : NetId) (literals : List Literal) (most : ℕ) : Type 0 where
  pub grew : Grew first old new most
  pub says : Says first new net.0 (λ v. are_met (bits_at base v) literals)

met-more : (B : ℕ → Bool) (ls : List Literal) (k : ℕ) (d : Literal) → k < length ls
    → (are_met B (take k ls) && is_met B (slice_index_or ls k d)) ≡ are_met B (take (k + 1) ls)
met-more B ls k d low =
    ap (λ b. are_met B (take k ls) && b) (sym (and-true (is_met B (slice_index_or ls k d)))) ∙ sym (are_met-append B (take k ls) (slice_index_or ls k d ∷ []))
    ∙ ap (are_met B) (sym (take_more ls k d low))

pub product-step : (first f base k : ℕ) (old now mid new : List Gate) (net own sum : NetId) (literals : List Literal) (d : Literal) → f ≡ first
    → Product first base old now net (take k literals) (2 * k)
    → Grew f now mid 1 → Says f mid own.0 (λ v. is_met (bits_at base v) (slice_index_or literals k d))
    → new ≡ mid ++ silent_gate (And net own) ∷ [] → sum.0 ≡ f + length mid → k < length literals
    → Product first base old new sum (take (k + 1) literals) (2 * (k + 1))
product-step first f base k old now mid new net own sum literals d same p grew says e at low =
    let g = subst (λ x. Grew x now mid 1) same grew in
    let o = subst (λ x. Says x mid own.0 (λ v. is_met (bits_at base v) (slice_index_or literals k d))) same says in
    let n = says-later first now mid 1 net.0 _ g p.says in
    let more = grew-push first mid new (And net own) g.reads (let a = o.below in let b = n.below in omega arith) e in
    record {
      grew = grew-trans first old mid new (2 * k + 1) 1 (2 * (k + 1)) (grew-trans first old now mid (2 * k) 1 (2 * k + 1) p.grew g (omega arith)) more
          (omega arith);
      says = says-as first new sum.0 _ _ (says-push first mid new (And net own) sum.0 e (omega (arith, at, same)))
          (λ v len. (λ i. n.says v len i && o.says v len i) ∙ met-more (bits_at base v) literals k d low);
    }

-- ---- all leaves

pub record Leaves (first base width : ℕ) (old new : List Gate) (nets : List NetId) (codes : List (Vec Literal Global)) (k : ℕ) : Type 0 where
  pub grew : Grew first old new (2 * (k * width))
  pub says : EachSays first new nets (λ k v. are_met (bits_at base v) (literals_at codes k))
  pub count : length nets ≡ k

pub literals-here : (codes : List (Vec Literal Global)) (k : ℕ) (code : Vec Literal Global) → k < length codes → code ≡ slice_index_or codes k code
    → literals_at codes k ≡ code.items
literals-here codes k code low is =
    get_or-map (λ (c : Vec Literal Global). c.items) codes k code [] low ∙ ap (λ (c : Vec Literal Global). c.items) (sym is)

pub all-here : (P : List Literal → Type 0) (codes : List (Vec Literal Global)) (k : ℕ) (code : Vec Literal Global) → k < length codes
    → code ≡ slice_index_or codes k code → All P (literals_of codes) → P code.items
all-here P codes k code low is all =
    subst P (literals-here codes k code low is) (all k [] (omega (arith, length-map codes (λ (c : Vec Literal Global). c.items))))

pub says-each-later : (first : ℕ) (old new : List Gate) (most : ℕ) (nets : List NetId) (ms : ℕ → List Bool → Bool) → Grew first old new most
    → EachSays first old nets ms → EachSays first new nets ms
says-each-later first old new most nets ms g s k d low = says-later first old new most (slice_index_or nets k d).0 (ms k) g (s k d low)

pub says-each-push : (first : ℕ) (gates : List Gate) (nets : List NetId) (net : NetId) (k : ℕ) (ms : ℕ → List Bool → Bool) → length nets ≡ k
    → EachSays first gates nets ms → Says first gates net.0 (ms k) → EachSays first gates (nets ++ net ∷ []) ms
says-each-push first gates nets net k ms count s here j d low = elim (cases_lt j (length nets)) [
  | inl before ↦ subst (λ (n : NetId). Says first gates n.0 (ms j)) (sym (get_or_append_left nets (net ∷ []) d j before)) (s j d before)
  | inr after ↦
      let e : k ≡ j = omega (arith, count, after, low, length_push nets net) in
      subst (λ (n : NetId). Says first gates n.0 (ms j)) (sym (get_or_push nets net d j (count ∙ e))) (subst (λ i. Says first gates net.0 (ms i)) e here)
]

pub leaves-step : (first f base width k : ℕ) (old now new : List Gate) (nets more : List NetId) (net : NetId) (codes : List (Vec Literal Global))
    (code : Vec Literal Global) (literals : List Literal) → f ≡ first
    → Leaves first base width old now nets codes k
    → k < length codes → code ≡ slice_index_or codes k code → literals ≡ code.items → length code.items ≤ width
    → Grew f now new (2 * length literals) → Says f new net.0 (λ v. are_met (bits_at base v) literals)
    → more ≡ nets ++ net ∷ []
    → Leaves first base width old new more codes (k + 1)
leaves-step first f base width k old now new nets more net codes code literals same l low is items short grew says e =
    let here = literals-here codes k code low is in
    let g = subst (λ x. Grew x now new (2 * length literals)) same grew in
    let s = subst (λ x. Says x new net.0 (λ v. are_met (bits_at base v) literals)) same says in
    let own = says-as first new net.0 (λ v. are_met (bits_at base v) literals) (λ v. are_met (bits_at base v) (literals_at codes k)) s
    (λ v len. ap (are_met (bits_at base v)) (items ∙ sym here)) in
    record {
      grew = grew-trans first old now new (2 * (k * width)) (2 * length literals) (2 * ((k + 1) * width)) l.grew g (omega (arith, ap length items, short));
      says = subst (λ ns. EachSays first new ns (λ k v. are_met (bits_at base v) (literals_at codes k))) (sym e)
          (says-each-push first new nets net k _ l.count (says-each-later first now new (2 * length literals) nets _ g l.says) own);
      count = ap length e ∙ length_push nets net ∙ (let c = l.count in omega arith);
    }

-- ---- a leaf and the bits that it wants

pub record Added (first : ℕ) (old new : List Gate) (sums more : List NetId) (net : NetId) (code : List Literal) (most : ℕ) : Type 0 where
  pub grew : Grew first old new most
  pub below : All (λ (n : NetId). n.0 < first + length new) more
  pub says : (ms : ℕ → List Bool → Bool) → EachSays first old sums ms
      → EachSays first new more (λ i v. ms i v || (value_in (gate_values v old) net.0 && wants i code))

wants-more : (i : ℕ) (ls : List Literal) (k : ℕ) (d : Literal) → k < length ls
    → wants i (take (k + 1) ls) ≡ (wants i (take k ls) || ((slice_index_or ls k d).value && (slice_index_or ls k d).bit == i))
wants-more i ls k d low =
    ap (wants i) (take_more ls k d low) ∙ wants-append i (take k ls) (slice_index_or ls k d ∷ [])
    ∙ ap (λ b. wants i (take k ls) || b) (or-false ((slice_index_or ls k d).value && (slice_index_or ls k d).bit == i))

or-and : (m n w x : Bool) → x ≡ false → (m || (n && w)) ≡ (m || (n && (w || x)))
or-and true n w x e = refl
or-and false n w x e = ap (λ b. n && b) (sym (or-false w) ∙ ap (λ b. w || b) (sym e))

or-and-true : (m n w x : Bool) → x ≡ true → ((m || (n && w)) || n) ≡ (m || (n && (w || x)))
or-and-true true n w x e = refl
or-and-true false true true x e = refl
or-and-true false true false x e = sym e
or-and-true false false w x e = refl

pub added-start : (first : ℕ) (old : List Gate) (sums : List NetId) (net : NetId) → ReadsLower first old
    → All (λ (n : NetId). n.0 < first + length old) sums → Added first old old sums sums net [] 0
added-start first old sums net reads below = record {
  grew = grew-none first old reads;
  below = below;
  says = λ ms s k d low. says-as first old (slice_index_or sums k d).0 _ _ (s k d low) (λ v len.
      sym (ap (λ b. ms k v || b) (and-false (value_in (gate_values v old) net.0)) ∙ or-false (ms k v)));
}

pub added-skip : (first k : ℕ) (old now : List Gate) (sums more : List NetId) (net : NetId) (code : List Literal) (d : Literal) → k < length code
    → (slice_index_or code k d).value ≡ false → Added first old now sums more net (take k code) k
    → Added first old now sums more net (take (k + 1) code) (k + 1)
added-skip first k old now sums more net code d low off a = record {
  grew = grew-most first old now k (k + 1) a.grew (omega arith);
  below = a.below;
  says = λ ms s i e h. says-as first now (slice_index_or more i e).0 _ _ (a.says ms s i e h) (λ v len.
      or-and (ms i v) (value_in (gate_values v old) net.0) (wants i (take k code)) ((slice_index_or code k d).value && (slice_index_or code k d).bit == i)
      (ap (λ b. b && (slice_index_or code k d).bit == i) off)
      ∙ ap (λ b. ms i v || (value_in (gate_values v old) net.0 && b)) (sym (wants-more i code k d low)));
}

pub added-step : (first f k place : ℕ) (old now new : List Gate) (sums more : List NetId) (net sum : NetId) (code : List Literal) (d : Literal) (e : NetId)
    → f ≡ first → k < length code → (slice_index_or code k d).value ≡ true → (slice_index_or code k d).bit ≡ place → place < length more
    → net.0 < first + length old
    → Added first old now sums more net (take k code) k
    → new ≡ now ++ silent_gate (Or (slice_index_or more place e) net) ∷ [] → sum.0 ≡ f + length now
    → Added first old new sums (set more place sum) net (take (k + 1) code) (k + 1)
added-step first f k place old now new sums more net sum code d e same low on at within net_low a is number =
    let own = slice_index_or more place e in
    let grown = a.grew in
    let longer : length old ≤ length now = omega (arith, ap length grown.is, length-append old grown.more) in
    let own_low : own.0 < first + length now = a.below place e within in
    let more_gates = grew-push first now new (Or own net) grown.reads (omega arith) is in
    let all = length_push now (silent_gate (Or own net)) in
    let size : length new ≡ length now + 1 = ap length is ∙ (let x : length (now ++ silent_gate (Or own net) ∷ []) ≡ length now + 1 = omega arith in x) in
    let sum_at : sum.0 ≡ first + length now = omega (arith, number, same) in
    let lit = slice_index_or code k d in
    record {
      grew = grew-trans first old now new k 1 (k + 1) grown more_gates (omega arith);
      below = All-set (λ (n : NetId). n.0 < first + length new) more place sum (omega arith)
          (All-weaker (λ (n : NetId). n.0 < first + length now) (λ (n : NetId). n.0 < first + length new) (λ n h. omega arith) more a.below);
      says = λ ms s i d2 h.
          let many = length-set more place sum in
          elim (cases_eq i place) [
            | inl here ↦
                let there : slice_index_or (set more place sum) i d2 ≡ sum
                = ap (λ j. slice_index_or (set more place sum) j d2) here ∙ get_or-set_same more place sum d2 within in
                let own_is : own ≡ slice_index_or more i d2 = get_or_default more place e d2 within ∙ ap (λ j. slice_index_or more j d2) (sym here) in
                let before = a.says ms s i d2 (omega arith) in
                let yes : (lit.value && lit.bit == i) ≡ true = (λ j. on j && (at ∙ sym here) j == i) ∙ eq-eqb i i refl in
                subst (λ (n : NetId). Says first new n.0 (λ v. ms i v || (value_in (gate_values v old) net.0 && wants i (take (k + 1) code)))) (sym there)
                (says-as first new sum.0 _ _ (says-push first now new (Or own net) sum.0 is sum_at) (λ v len.
                (λ j. (ap (λ (n : NetId). value_in (gate_values v now) n.0) own_is ∙ before.says v len) j
                || (ap (λ gs. value_in (gate_values v gs) net.0) grown.is ∙ values-more v old grown.more net.0 (omega arith)) j)
                ∙ or-and-true (ms i v) (value_in (gate_values v old) net.0) (wants i (take k code)) (lit.value && lit.bit == i) yes
                ∙ ap (λ b. ms i v || (value_in (gate_values v old) net.0 && b)) (sym (wants-more i code k d low))))
            | inr away ↦
                let there : slice_index_or (set more place sum) i d2 ≡ slice_index_or more i d2 = get_or-set_other more place i sum d2 away in
                let before = says-later first now new 1 (slice_index_or more i d2).0 _ more_gates (a.says ms s i d2 (omega arith)) in
                let no : (lit.value && lit.bit == i) ≡ false = ap (λ b. b && lit.bit == i) on ∙ ne_eqb lit.bit i (λ q. away (sym q ∙ at)) in
                subst (λ (n : NetId). Says first new n.0 (λ v. ms i v || (value_in (gate_values v old) net.0 && wants i (take (k + 1) code)))) (sym there)
                (says-as first new (slice_index_or more i d2).0 _ _ before (λ v len.
                or-and (ms i v) (value_in (gate_values v old) net.0) (wants i (take k code)) (lit.value && lit.bit == i) no
                ∙ ap (λ b. ms i v || (value_in (gate_values v old) net.0 && b)) (sym (wants-more i code k d low))))
          ];
    }

-- ---- the bits that all leaves want

pub record Bits (first width : ℕ) (old new : List Gate) (sums : List NetId) (codes : List (Vec Literal Global)) (nets : List NetId) (k : ℕ) : Type 0 where
  pub grew : Grew first old new (k * width)
  pub count : length sums ≡ width
  pub says : EachSays first new sums (λ i v. wanted (take k (literals_of codes)) (values_of old (take k nets) v) i)

pub bits-start : (first width : ℕ) (old : List Gate) (sums : List NetId) (nowhere : NetId) (codes : List (Vec Literal Global)) (nets : List NetId)
    → ReadsLower first old → Says first old nowhere.0 (λ v. false) → sums ≡ replicate width nowhere → Bits first width old old sums codes nets 0
bits-start first width old sums nowhere codes nets reads off e = record {
  grew = grew-most first old old 0 (0 * width) (grew-none first old reads) (omega arith);
  count = ap length e ∙ length-replicate width nowhere;
  says = λ i d low.
      let is : slice_index_or sums i d ≡ nowhere = ap (λ ns. slice_index_or ns i d) e
      ∙ get_or-replicate width i nowhere d (omega (arith, ap length e, length-replicate width nowhere)) in
      subst (λ (n : NetId). Says first old n.0 (λ v. wanted (take 0 (literals_of codes)) (values_of old (take 0 nets) v) i)) (sym is)
      (says-as first old nowhere.0 _ _ off (λ v len. sym (none (literals_of codes) (values_of old (take 0 nets) v) i)));
}
  where
    none : (cs : List (List Literal)) (bits : List Bool) (i : ℕ) → wanted (take 0 cs) bits i ≡ false
    none cs bits i = refl

wanted-push : (cs : List (List Literal)) (bits : List Bool) (c : List Literal) (b : Bool) (i : ℕ) → length cs ≡ length bits
    → wanted (cs ++ c ∷ []) (bits ++ b ∷ []) i ≡ (wanted cs bits i || (b && wants i c))
wanted-push [] [] c b i len = or-false (b && wants i c)
wanted-push [] (x ∷ bits) c b i len = absurd (omega (arith, len))
wanted-push (x ∷ cs) [] c b i len = absurd (omega (arith, len))
wanted-push (x ∷ cs) (y ∷ bits) c b i len =
    ap (λ z. (y && wants i x) || z) (wanted-push cs bits c b i (omega (arith, len))) ∙ sym (or_assoc (y && wants i x) (wanted cs bits i) (b && wants i c))

pub bits-step : (first f width k most : ℕ) (old now new : List Gate) (sums more : List NetId) (codes : List (Vec Literal Global)) (nets : List NetId)
    (code : Vec Literal Global) (literals : List Literal) (d : NetId) → f ≡ first
    → Bits first width old now sums codes nets k
    → k < length codes → length nets ≡ length codes → code ≡ slice_index_or codes k code → literals ≡ code.items → length code.items ≤ width
    → (slice_index_or nets k d).0 < first + length old
    → Grew f now new most → most ≡ length literals
    → ((ms : ℕ → List Bool → Bool) → EachSays f now sums ms
    → EachSays f new more (λ i v. ms i v || (value_in (gate_values v now) (slice_index_or nets k d).0 && wants i literals)))
    → length more ≡ length sums
    → Bits first width old new more codes nets (k + 1)
bits-step first f width k most old now new sums more codes nets code literals d same b low even is items short net_low grew size says count =
    let here = literals-here codes k code low is in
    let g = subst (λ x. Grew x now new most) same grew in
    let ms = λ (i : ℕ) (v : List Bool). wanted (take k (literals_of codes)) (values_of old (take k nets) v) i in
    let net = slice_index_or nets k d in
    let after = subst (λ x. EachSays x now sums ms
    → EachSays x new more (λ i v. ms i v || (value_in (gate_values v now) net.0 && wants i literals))) same (says ms) b.says in
    let many = length-map codes (λ (c : Vec Literal Global). c.items) in
    let grown = b.grew in
    record {
      grew = grew-trans first old now new (k * width) most ((k + 1) * width) grown g (omega (arith, size, ap length items, short));
      count = count ∙ b.count;
      says = λ i e h. says-as first new (slice_index_or more i e).0 _ _ (after i e h) (λ v len.
          let own : value_in (gate_values v now) net.0 ≡ value_in (gate_values v old) net.0
          = ap (λ gs. value_in (gate_values v gs) net.0) grown.is ∙ values-more v old grown.more net.0 (omega arith) in
          let cs : take (k + 1) (literals_of codes) ≡ take k (literals_of codes) ++ literals ∷ []
          = take_more (literals_of codes) k [] (omega arith) ∙ ap (λ (c : List Literal). take k (literals_of codes) ++ c ∷ []) (here ∙ sym items) in
          let bits : values_of old (take (k + 1) nets) v ≡ values_of old (take k nets) v ++ value_in (gate_values v old) net.0 ∷ []
          = map_more (λ (n : NetId). value_in (gate_values v old) n.0) nets k d (omega arith) in
          (λ j. ms i v || (own j && wants i literals))
          ∙ sym (wanted-push (take k (literals_of codes)) (values_of old (take k nets) v) literals (value_in (gate_values v old) net.0) i
          (omega (arith, length-take k (literals_of codes), length-map (take k nets) (λ (n : NetId). value_in (gate_values v old) n.0), length-take k nets)))
          ∙ sym (λ j. wanted (cs j) (bits j) i));
    }

pub bits-all : (first width : ℕ) (old new : List Gate) (sums : List NetId) (codes : List (Vec Literal Global)) (nets : List NetId) (k : ℕ)
    → length codes ≤ k → length nets ≡ length codes → Bits first width old new sums codes nets k
    → EachSays first new sums (λ i v. wanted (literals_of codes) (values_of old nets v) i)
bits-all first width old new sums codes nets k past even b i d low =
    let many = length-map codes (λ (c : Vec Literal Global). c.items) in
    let cs = take_all k (literals_of codes) (omega arith) in
    let ns = take_all k nets (omega arith) in
    says-as first new (slice_index_or sums i d).0 _ _ (b.says i d low) (λ v len j. wanted (cs j) (values_of old (ns j) v) i)
