-- What is drawn for a netlist, put together.
use Rattle.std.proofs.Common.{◌≡◌, ℕ, zero, suc, ◌+◌, ◌-◌, ◌*◌, ◌^◌, ◌<◌, ◌≤◌, Bool, true, false, None, List, [], ◌∷◌, ◌++◌, length, map, take, drop, refl, sym}
use Rattle.std.proofs.Common.{ap, ◌∙◌, subst, arith, All, slice_index_or, length-append, inl, inr}
use Rattle.std.specs.Prelude.{replicate}
use Rattle.std.proofs.lemmas.List.{get_or_append_left, get_or-append-add, length-map, take_all, length-drop}
use Rattle.std.proofs.lemmas.List.Elements.{All-append, All-map, All-drop}
use Rattle.std.proofs.lemmas.Simd.{map-map}
use Rattle.std.proofs.lemmas.Bool.{cases_lt}
use Rattle.base_types.specs.declared.indices.NetId.{NetId}
use Rattle.net_ir.specs.declared.netlist.Gate.{Gate}
use Rattle.net_ir.specs.declared.netlist.Latch.{Latch}
use Rattle.net_ir.specs.Gates.{operand_end, ReadsLower, value_in, gate_values}
use Rattle.net_ir.specs.Netlists.{Netlist, IsNet, first_gate, net_count}
use Rattle.net_ir.specs.Runs.{initial_latches}
use Rattle.net_simp.specs.Renaming.{stand_in}
use Rattle.net_state_enc.specs.declared.codes.Literal.{Literal}
use Rattle.net_state_enc.specs.Codes.{are_met}
use Rattle.net_state_enc.specs.Drafts.{Grew, Says, EachSays, bits_at, values_of, wanted}
use Rattle.net_state_enc.specs.Recodings.{numbers_from, latch_net, copied, code_base, first_behind, CopiesDrawn, Drawn, boot_net}
use Rattle.net_state_enc.proofs.Copies.{copies-read, reads-append}
use Rattle.net_state_enc.proofs.GateLaws.{values-more, says-later, says-as}

-- ---- numbers

pub numbers-length : (n count : ℕ) → length (numbers_from n count) ≡ count
numbers-length n zero = refl
numbers-length n (suc count) = ap suc (numbers-length (n + 1) count)

pub numbers-more : (n count : ℕ) → numbers_from n (count + 1) ≡ numbers_from n count ++ record { 0 = n + count } ∷ []
numbers-more n zero = let e : n ≡ n + 0 = omega arith in ap (λ m. record { 0 = m } ∷ []) e
numbers-more n (suc count) =
    let e : n + 1 + count ≡ n + suc count = omega arith in
    let k : suc count + 1 ≡ suc (count + 1) = omega arith in
    ap (numbers_from n) k ∙ ap (λ l. record { 0 = n } ∷ l) (numbers-more (n + 1) count)
    ∙ ap (λ m. record { 0 = n } ∷ (numbers_from (n + 1) count ++ record { 0 = m } ∷ [])) e

numbers-at : (n count k : ℕ) (d : NetId) → k < count → (slice_index_or (numbers_from n count) k d).0 ≡ n + k
numbers-at n zero k d low = absurd (omega arith)
numbers-at n (suc count) zero d low = omega arith
numbers-at n (suc count) (suc k) d low = numbers-at (n + 1) count k d (omega arith) ∙ (let e : n + 1 + k ≡ n + suc k = omega arith in e)

-- the nets that stand for others: themselves, these, and those from a number on
pub names-own : (names leaves : List NetId) (base here count n : ℕ) → names ≡ (numbers_from 0 base ++ leaves) ++ numbers_from here count → n < base
    → stand_in names n ≡ n
names-own names leaves base here count n e low =
    let d : NetId = record { 0 = n } in
    let many = numbers-length 0 base in
    ap (λ ns. stand_in ns n) e
    ∙ ap (λ (x : NetId). x.0) (get_or_append_left (numbers_from 0 base ++ leaves) (numbers_from here count) d n
    (omega (arith, length-append (numbers_from 0 base) leaves)))
    ∙ ap (λ (x : NetId). x.0) (get_or_append_left (numbers_from 0 base) leaves d n (omega arith))
    ∙ numbers-at 0 base n d low ∙ (let q : 0 + n ≡ n = omega arith in q)

pub names-leaf : (names leaves : List NetId) (base here count k : ℕ) → names ≡ (numbers_from 0 base ++ leaves) ++ numbers_from here count → k < length leaves
    → stand_in names (base + k) ≡ (slice_index_or leaves k (record { 0 = base + k })).0
names-leaf names leaves base here count k e low =
    let d : NetId = record { 0 = base + k } in
    let many = numbers-length 0 base in
    let at : base + k ≡ length (numbers_from 0 base) + k = omega arith in
    ap (λ ns. stand_in ns (base + k)) e
    ∙ ap (λ (x : NetId). x.0) (get_or_append_left (numbers_from 0 base ++ leaves) (numbers_from here count) d (base + k)
    (omega (arith, length-append (numbers_from 0 base) leaves)))
    ∙ ap (λ j. (slice_index_or (numbers_from 0 base ++ leaves) j d).0) at
    ∙ ap (λ (x : NetId). x.0) (get_or-append-add (numbers_from 0 base) leaves k d)

pub names-step : (names leaves : List NetId) (base here count k : ℕ) → names ≡ (numbers_from 0 base ++ leaves) ++ numbers_from here count → k < count
    → stand_in names (base + length leaves + k) ≡ here + k
names-step names leaves base here count k e low =
    let d : NetId = record { 0 = base + length leaves + k } in
    let many = numbers-length 0 base in
    let all = length-append (numbers_from 0 base) leaves in
    let at : base + length leaves + k ≡ length (numbers_from 0 base ++ leaves) + k = omega arith in
    ap (λ ns. stand_in ns (base + length leaves + k)) e
    ∙ ap (λ j. (slice_index_or ((numbers_from 0 base ++ leaves) ++ numbers_from here count) j d).0) at
    ∙ ap (λ (x : NetId). x.0) (get_or-append-add (numbers_from 0 base ++ leaves) (numbers_from here count) k d)
    ∙ numbers-at here count k d low

pub names-many : (names leaves : List NetId) (base here count : ℕ) → names ≡ (numbers_from 0 base ++ leaves) ++ numbers_from here count
    → length names ≡ base + length leaves + count
names-many names leaves base here count e =
    let a = ap length e in
    let b = length-append (numbers_from 0 base ++ leaves) (numbers_from here count) in
    let c = length-append (numbers_from 0 base) leaves in
    let p = numbers-length 0 base in
    let q = numbers-length here count in
    omega arith

-- ---- the gates that read the code, and the copies

pub copies-drawn : (net : Netlist) (width : ℕ) (codes : List (List Literal)) (before decode gates : List Gate) (names leaves : List NetId) (base here : ℕ)
    → IsNet net → length codes + 1 ≡ length net.latches → base ≡ code_base net → here ≡ first_behind net width + length decode
    → Grew (first_behind net width) before decode (2 * (length codes * width)) → All (λ (g : Gate). g.wire ≡ None) before
    → length leaves ≡ length codes
    → EachSays (first_behind net width) decode leaves (λ k v. are_met (bits_at base v) (slice_index_or codes k []))
    → names ≡ (numbers_from 0 base ++ leaves) ++ numbers_from here (length net.gates)
    → gates ≡ decode ++ map (copied (stand_in names)) net.gates
    → CopiesDrawn net width codes before names gates
copies-drawn net width codes before decode gates names leaves base here n count at there grew silent many says is all =
    let F = first_behind net width in
    let f = stand_in names in
    let own : (n : ℕ) → n < code_base net → f n ≡ n = λ n low. names-own names leaves base here (length net.gates) n is (omega arith) in
    let coded : (k : ℕ) → k < length codes → Says F decode (f (code_base net + k)) (λ v. are_met (bits_at (code_base net) v) (slice_index_or codes k [])) =
    λ k low.
    let e : f (code_base net + k) ≡ (slice_index_or leaves k (record { 0 = base + k })).0
    = ap (λ b. f (b + k)) (sym at) ∙ names-leaf names leaves base here (length net.gates) k is (omega (arith, many)) in
    subst (λ b. Says F decode (f (code_base net + k)) (λ v. are_met (bits_at b v) (slice_index_or codes k []))) at
    (subst (λ m. Says F decode m (λ v. are_met (bits_at base v) (slice_index_or codes k []))) (sym e) (says k (record { 0 = base + k }) (omega (arith, many))))
    in
    let step : (k : ℕ) → k < length net.gates → f (first_gate net + k) ≡ F + length decode + k = λ k low.
    let e : first_gate net + k ≡ base + length leaves + k = omega arith in
    ap f e ∙ names-step names leaves base here (length net.gates) k is low ∙ ap (λ m. m + k) there in
    let early : (n : ℕ) → n < first_gate net → f n < F + length decode = λ n low. elim (cases_lt n (code_base net)) [
      | inl given ↦ let e = own n given in omega (arith, e)
      | inr leaf ↦
          let e : n ≡ code_base net + (n - code_base net) = omega arith in
          let q = ap f e in
          let l = (coded (n - code_base net) (omega arith)).below in
          omega (arith, q, l)
    ] in
    record {
      decode = decode;
      is = all;
      grew = grew;
      silent = subst (All (λ (g : Gate). g.wire ≡ None)) (sym grew.is) (All-append (λ (g : Gate). g.wire ≡ None) before grew.more silent grew.silent);
      reads = subst (ReadsLower F) (sym all) (reads-append F decode (map (copied f) net.gates) grew.reads
          (copies-read (first_gate net) (F + length decode) f net.gates n.reads_lower early step));
      own = own;
      leaves = coded;
      step = step;
      many = names-many names leaves base here (length net.gates) is ∙ (let e : base + length leaves + length net.gates ≡ net_count net = omega arith in e);
    }

-- what stands for a net is there
pub copies-low : (net : Netlist) (width : ℕ) (codes : List (List Literal)) (before gates : List Gate) (names : List NetId)
    → length codes + 1 ≡ length net.latches → CopiesDrawn net width codes before names gates
    → (n : ℕ) → n < net_count net → stand_in names n < first_behind net width + length gates
copies-low net width codes before gates names count d n low =
    let f = stand_in names in
    let all = ap length d.is in
    let parts = length-append d.decode (map (copied f) net.gates) in
    let same = length-map net.gates (copied f) in
    elim (cases_lt n (first_gate net)) [
      | inl first ↦ elim (cases_lt n (code_base net)) [
        | inl given ↦ let e = d.own n given in omega (arith, e)
        | inr leaf ↦
            let e : n ≡ code_base net + (n - code_base net) = omega arith in
            let q = ap f e in
            let l = (d.leaves (n - code_base net) (omega arith)).below in
            omega (arith, q, l)
      ]
      | inr after ↦
          let e : n ≡ first_gate net + (n - first_gate net) = omega arith in
          let q = ap f e ∙ d.step (n - first_gate net) (omega arith) in
          omega (arith, q)
    ]

-- what was said before is still said
pub copies-stay : (net : Netlist) (width : ℕ) (codes : List (List Literal)) (before gates : List Gate) (names : List NetId)
    → CopiesDrawn net width codes before names gates → (n : ℕ) (m : List Bool → Bool) → Says (first_behind net width) before n m
    → Says (first_behind net width) gates n m
copies-stay net width codes before gates names d n m s =
    let F = first_behind net width in
    let mid = says-later F before d.decode (2 * (length codes * width)) n m d.grew s in
    let copies = map (copied (stand_in names)) net.gates in
    subst (λ gs. Says F gs n m) (sym d.is) (record {
      below = omega (arith, length-append d.decode copies, mid.below);
      says = λ v len. values-more v d.decode copies n (let b = mid.below in omega arith) ∙ mid.says v len;
    })

-- how many gates there are with the copies
pub copies-length : (net : Netlist) (width : ℕ) (codes : List (List Literal)) (before gates : List Gate) (names : List NetId)
    → CopiesDrawn net width codes before names gates → length gates ≤ length before + (2 * (length codes * width) + length net.gates)
copies-length net width codes before gates names d =
    let copies = copied (stand_in names) in
    omega (
      arith,
      ap length d.is,
      length-append d.decode (map copies net.gates),
      length-map net.gates copies,
      ap length d.grew.is,
      length-append before d.grew.more,
      d.grew.few,
    )

-- ---- all

pub all-drawn : (net : Netlist) (width : ℕ) (codes : List (List Literal)) (before mid gates : List Gate) (names bits : List NetId) (leaves : List Latch)
    → length before ≡ 2
    → CopiesDrawn net width codes before names mid
    → Grew (first_behind net width) mid gates (length codes * width)
    → EachSays (first_behind net width) gates bits (λ i v. wanted codes (values_of mid (map (latch_net (stand_in names)) leaves) v) i)
    → length bits ≡ width
    → first_behind net width + length gates ≤ 2 ^ 32
    → Drawn net (map (λ (l : Latch). l.from) leaves) width codes names gates bits
all-drawn net width codes before mid gates names bits leaves two d grew says many fits =
    let f = stand_in names in
    let F = first_behind net width in
    let copies = map (copied f) net.gates in
    let values : (v : List Bool) → values_of mid (map (latch_net f) leaves) v
    ≡ map (λ (n : NetId). value_in (gate_values v (d.decode ++ copies)) (f n.0)) (map (λ (l : Latch). l.from) leaves) =
    λ v. ap (λ gs. values_of gs (map (latch_net f) leaves) v) d.is
    ∙ map-map (λ (n : NetId). value_in (gate_values v (d.decode ++ copies)) n.0) (latch_net f) leaves
    ∙ sym (map-map (λ (n : NetId). value_in (gate_values v (d.decode ++ copies)) (f n.0)) (λ (l : Latch). l.from) leaves) in
    record {
      decode = d.decode;
      more = grew.more;
      is = grew.is ∙ ap (λ gs. gs ++ grew.more) d.is;
      decode_silent = d.silent;
      more_silent = grew.silent;
      reads = grew.reads;
      fits = fits;
      few =
          let a = ap length grew.is in
          let b = length-append mid grew.more in
          let c = ap length d.is in
          let e = length-append d.decode copies in
          let g = length-map net.gates (copied f) in
          let more = d.grew in
          let k = ap length more.is in
          let l = length-append before more.more in
          let m = more.few in
          let n = grew.few in
          omega arith;
      own = d.own;
      leaves = d.leaves;
      step = d.step;
      many = d.many;
      bits_say = λ i e low. says-as F gates (slice_index_or bits i e).0 _ _ (says i e low) (λ v len. ap (λ vs. wanted codes vs i) (values v));
      bit_count = many;
    }

-- the first latch and those of the leaves
pub latches-split : (net : Netlist) (count : ℕ) → initial_latches net ≡ true ∷ replicate count false
    → net.latches ≡ record { init = true; from = boot_net net.latches } ∷ drop 1 net.latches
latches-split net count inits = by net.latches inits
  where
    by : (ls : List Latch) → map (λ (l : Latch). l.init) ls ≡ true ∷ replicate count false → ls ≡ record { init = true; from = boot_net ls } ∷ drop 1 ls
    by [] e = cc
    by (l ∷ ls) e =
        let first : l.init ≡ true = cc in
        ap (λ b. record { init = b; from = l.from } ∷ ls) first

pub leaves-off : (net : Netlist) (count : ℕ) → initial_latches net ≡ true ∷ replicate count false
    → map (λ (l : Latch). l.init) (drop 1 net.latches) ≡ map (λ (l : Latch). false) (drop 1 net.latches)
leaves-off net count inits = by net.latches inits
  where
    zeros : (ls : List Latch) (n : ℕ) → map (λ (l : Latch). l.init) ls ≡ replicate n false → map (λ (l : Latch). l.init) ls ≡ map (λ (l : Latch). false) ls
    zeros [] n e = refl
    zeros (l ∷ ls) zero e = cc
    zeros (l ∷ ls) (suc n) e =
        let here : l.init ≡ false = cc in
        let later : map (λ (l : Latch). l.init) ls ≡ replicate n false = cc in
        let rest = zeros ls n later in
        (λ i. here i ∷ rest i)

    by : (ls : List Latch) → map (λ (l : Latch). l.init) ls ≡ true ∷ replicate count false → map (λ (l : Latch). l.init) (drop 1 ls)
        ≡ map (λ (l : Latch). false) (drop 1 ls)
    by [] e = cc
    by (l ∷ ls) e = let later : map (λ (l : Latch). l.init) ls ≡ replicate count false = cc in zeros ls count later

-- ---- what the parts of the drawing want of a netlist

pub reads-within : (first n : ℕ) (gates : List Gate) → ReadsLower first gates → first + length gates ≤ n → All (λ (g : Gate). operand_end g.op ≤ n) gates
reads-within first n gates reads fits = λ k d low. let r = reads k d low in omega arith

pub next-low : (f : ℕ → ℕ) (end : ℕ) (latches : List Latch) (nets : List NetId) → All (λ (l : Latch). f l.from.0 < end) latches
    → nets ≡ map (latch_net f) (drop 1 latches) → All (λ (n : NetId). n.0 < end) nets
next-low f end latches nets low e =
    subst (All (λ (n : NetId). n.0 < end)) (sym e)
    (All-map (λ (n : NetId). n.0 < end) (latch_net f) (drop 1 latches) (All-drop (λ (l : Latch). f l.from.0 < end) 1 latches low))

pub all-behind : {X : Type 0} (xs : List X) → take (length xs - 1) (drop 1 xs) ≡ drop 1 xs
all-behind xs = take_all (length xs - 1) (drop 1 xs) (omega (arith, length-drop 1 xs))
