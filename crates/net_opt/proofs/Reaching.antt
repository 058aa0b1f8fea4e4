-- Nets that are marked one after another, with what they read.
use Rattle.std.proofs.Common.{◌≡◌, ℕ, ◌+◌, ◌<◌, ◌≤◌, Bool, false, List, [], ◌∷◌, ◌++◌, length, replicate, slice_index_or, take}
use Rattle.std.proofs.Common.{refl, sym, ap, ◌∙◌, subst, arith, inl, inr, IsTrue, All}
use Rattle.std.proofs.lemmas.Bool.{cases_lt, both_ways}
use Rattle.std.proofs.lemmas.List.{get_or_default, get_or_append_left, get_or_push, length_push, get_or-take, length-take-le}
use Rattle.base_types.specs.declared.indices.NetId.{NetId}
use Rattle.net_ir.specs.declared.netlist.Op.{Op}
use Rattle.net_ir.specs.declared.netlist.Op.TheVariants.{Const, Copy, Not, And, Or}
use Rattle.net_ir.specs.declared.netlist.Gate.{Gate}
use Rattle.net_ir.specs.declared.netlist.Latch.{Latch}
use Rattle.net_ir.specs.declared.netlist.NetOut.{NetOut}
use Rattle.net_ir.specs.Netlists.{Netlist, first_gate}
use Rattle.net_opt.specs.Showing.{marked, Grows, StandsFrom, ReadsMarked, Follow}
use Rattle.net_opt.specs.Shown.{IsRead, IsClosed}
use Rattle.net_opt.proofs.Reading.{none-marked}

-- ---- more marks

pub grows-none : (marks : List Bool) (found : List NetId) → Grows marks found marks found
grows-none marks found = record {
  count = refl;
  stays = λ n on. on;
  listed = λ n on. inl on;
  found_more = omega arith;
  found_stay = λ k d low. refl;
}

-- one net more, where the marks of the others stay
pub grows-one : (marks : List Bool) (found : List NetId) (more : List Bool) (longer : List NetId) (net : NetId) → length more ≡ length marks
    → IsTrue (marked more net.0) → ((n : ℕ) → (n ≡ net.0 → ⊥) → marked more n ≡ marked marks n) → longer ≡ found ++ net ∷ []
    → Grows marks found more longer
grows-one marks found more longer net count here others pushed =
    let many = ap length pushed ∙ length_push found net in
    record {
      count = count;
      stays = λ n on. elim (cases_lt n net.0) [
        | inl below ↦ others n (λ e. omega (arith, e)) ∙ on
        | inr above ↦ elim (cases_lt net.0 n) [
          | inl less ↦ others n (λ e. omega (arith, e)) ∙ on
          | inr same ↦ let e : n ≡ net.0 = omega arith in ap (marked more) e ∙ here
        ]
      ];
      listed = λ n on. elim (cases_lt n net.0) [
        | inl below ↦ inl (sym (others n (λ e. omega (arith, e))) ∙ on)
        | inr above ↦ elim (cases_lt net.0 n) [
          | inl less ↦ inl (sym (others n (λ e. omega (arith, e))) ∙ on)
          | inr same ↦ let e : net.0 ≡ n = omega arith in inr (record {
            at = length found;
            from = omega arith;
            within = omega arith;
            is = λ d. ap (λ (x : NetId). x.0) (ap (λ xs. slice_index_or xs (length found) d) pushed ∙ get_or_push found net d (length found) refl) ∙ e;
          })
        ]
      ];
      found_more = omega arith;
      found_stay = λ k d low. ap (λ xs. slice_index_or xs k d) pushed ∙ get_or_append_left found (net ∷ []) d k low;
    }

pub grows-then : (m : List Bool) (f : List NetId) (more : List Bool) (longer : List NetId) (most : List Bool) (longest : List NetId)
    → Grows m f more longer → Grows more longer most longest → Grows m f most longest
grows-then m f more longer most longest a b =
    let some = a.found_more in
    let further = b.found_more in
    record {
      count = b.count ∙ a.count;
      stays = λ n on. b.stays n (a.stays n on);
      listed = λ n on. elim (b.listed n on) [
        | inl was ↦ elim (a.listed n was) [
          | inl before ↦ inl before
          | inr s ↦ inr (record {
            at = s.at;
            from = s.from;
            within = let w = s.within in omega arith;
            is = λ d. ap (λ (x : NetId). x.0) (b.found_stay s.at d s.within) ∙ s.is d;
          })
        ]
        | inr s ↦ inr (record { at = s.at; from = let w = s.from in omega arith; within = s.within; is = s.is })
      ];
      found_more = omega arith;
      found_stay = λ k d low. b.found_stay k d (omega arith) ∙ a.found_stay k d low;
    }

-- ---- what is read stays marked

pub read-stays : (P Q : ℕ → Bool) (op : Op) → ((n : ℕ) → IsTrue (P n) → IsTrue (Q n)) → IsRead P op → IsRead Q op
read-stays P Q (Const b) stays read = tt
read-stays P Q (Copy n) stays read = stays n.0 read
read-stays P Q (Not n) stays read = stays n.0 read
read-stays P Q (And m n) stays read = (stays m.0 read.0, stays n.0 read.1)
read-stays P Q (Or m n) stays read = (stays m.0 read.0, stays n.0 read.1)

reads-stay : (net : Netlist) (marks more : List Bool) (n : ℕ) → ((k : ℕ) → IsTrue (marked marks k) → IsTrue (marked more k)) → ReadsMarked net marks n
    → ReadsMarked net more n
reads-stay net marks more n stays r = record {
  latch = λ k d low is. stays (slice_index_or net.latches k d).from.0 (r.latch k d low is);
  gate = λ k d low is. read-stays (marked marks) (marked more) (slice_index_or net.gates k d).op stays (r.gate k d low is);
}

-- an input reads nothing, and neither does what is no net
pub input-reads : (net : Netlist) (marks : List Bool) (n : ℕ) → n < length net.inputs → ReadsMarked net marks n
input-reads net marks n low = record {
  latch = λ k d within is. absurd (omega arith);
  gate = λ k d within is. absurd (omega arith);
}

pub none-reads : (net : Netlist) (marks : List Bool) (n : ℕ) → first_gate net + length net.gates ≤ n → ReadsMarked net marks n
none-reads net marks n high = record {
  latch = λ k d within is. absurd (omega arith);
  gate = λ k d within is. absurd (omega arith);
}

pub latch-reads : (net : Netlist) (marks : List Bool) (n j : ℕ) (l : Latch) → n ≡ length net.inputs + j → j < length net.latches
    → l ≡ slice_index_or net.latches j l → IsTrue (marked marks l.from.0) → ReadsMarked net marks n
latch-reads net marks n j l at low is on = record {
  latch = λ k d within here.
      let e : j ≡ k = omega arith in
      subst (λ (x : Latch). IsTrue (marked marks x.from.0))
      (is ∙ ap (λ i. slice_index_or net.latches i l) e ∙ get_or_default net.latches k l d within) on;
  gate = λ k d within here. absurd (omega arith);
}

pub gate-reads : (net : Netlist) (marks : List Bool) (n j : ℕ) (g : Gate) → n ≡ first_gate net + j → j < length net.gates
    → g ≡ slice_index_or net.gates j g → IsRead (marked marks) g.op → ReadsMarked net marks n
gate-reads net marks n j g at low is read = record {
  latch = λ k d within here. absurd (omega arith);
  gate = λ k d within here.
      let e : j ≡ k = omega arith in
      subst (λ (x : Gate). IsRead (marked marks) x.op)
      (is ∙ ap (λ i. slice_index_or net.gates i g) e ∙ get_or_default net.gates k g d within) read;
}

-- ---- all that is found, one after another

pub follow-none : (net : Netlist) (count : ℕ) (marks : List Bool) (found : List NetId) → marks ≡ replicate count false → Follow net marks found 0
follow-none net count marks found blank = record {
  listed = λ n on. absurd (both_ways (marked marks n) (ap (λ ms. marked ms n) blank ∙ none-marked count n) on);
  read = λ k d before low. absurd (omega arith);
}

follow-listed : (net : Netlist) (marks : List Bool) (found : List NetId) (more : List Bool) (longer : List NetId) (place : ℕ)
    → Follow net marks found place → Grows marks found more longer → (n : ℕ) → IsTrue (marked more n) → StandsFrom longer 0 n
follow-listed net marks found more longer place f g n on =
    let further = g.found_more in
    elim (g.listed n on) [
      | inl was ↦
          let s = f.listed n was in
          record {
            at = s.at;
            from = omega arith;
            within = let w = s.within in omega arith;
            is = λ d. ap (λ (x : NetId). x.0) (g.found_stay s.at d s.within) ∙ s.is d;
          }
      | inr s ↦ record { at = s.at; from = omega arith; within = s.within; is = s.is }
    ]

pub follow-more : (net : Netlist) (marks : List Bool) (found : List NetId) (more : List Bool) (longer : List NetId)
    → Follow net marks found 0 → Grows marks found more longer → Follow net more longer 0
follow-more net marks found more longer f g = record {
  listed = follow-listed net marks found more longer 0 f g;
  read = λ k d before low. absurd (omega arith);
}

pub follow-next : (net : Netlist) (marks : List Bool) (found : List NetId) (more : List Bool) (longer : List NetId) (place : ℕ) (here : NetId)
    → Follow net marks found place → Grows marks found more longer → place < length found → here ≡ slice_index_or found place here
    → ReadsMarked net more here.0 → Follow net more longer (place + 1)
follow-next net marks found more longer place here f g low is r = record {
  listed = follow-listed net marks found more longer place f g;
  read = λ k d before within. elim (cases_lt k place) [
    | inl below ↦ subst (λ (x : NetId). ReadsMarked net more x.0) (sym (g.found_stay k d (omega arith)))
        (reads-stay net marks more (slice_index_or found k d).0 g.stays (f.read k d below (omega arith)))
    | inr above ↦
        let e : place ≡ k = omega arith in
        subst (λ (x : NetId). ReadsMarked net more x.0)
        (is ∙ ap (λ i. slice_index_or found i here) e ∙ get_or_default found k here d (omega arith) ∙ sym (g.found_stay k d (omega arith))) r
  ];
}

pub follow-closes : (net : Netlist) (marks : List Bool) (found : List NetId) (place : ℕ) → Follow net marks found place → length found ≤ place
    → IsTrue (marked marks net.paused) → All (λ (o : NetOut). IsTrue (marked marks o.net.0)) net.outputs → IsClosed net (marked marks)
follow-closes net marks found place f all paused outputs = record {
  outputs = outputs;
  paused = paused;
  latches = λ k d low on.
      let s = f.listed (length net.inputs + k) on in
      let none : NetId = record { 0 = 0 } in
      (f.read s.at none (let w = s.within in omega arith) s.within).latch k d low (s.is none);
  gates = λ k d low on.
      let s = f.listed (first_gate net + k) on in
      let none : NetId = record { 0 = 0 } in
      (f.read s.at none (let w = s.within in omega arith) s.within).gate k d low (s.is none);
}

-- ---- the outputs

pub outputs-more : (marks more : List Bool) (outs : List NetOut) (k : ℕ) (o : NetOut) → ((n : ℕ) → IsTrue (marked marks n) → IsTrue (marked more n))
    → All (λ (x : NetOut). IsTrue (marked marks x.net.0)) (take k outs) → k < length outs → o ≡ slice_index_or outs k o → IsTrue (marked more o.net.0)
    → All (λ (x : NetOut). IsTrue (marked more x.net.0)) (take (k + 1) outs)
outputs-more marks more outs k o stays all low is on =
    let many : length (take (k + 1) outs) ≡ k + 1 = length-take-le (k + 1) outs (omega arith) in
    let few : length (take k outs) ≡ k = length-take-le k outs (omega arith) in
    λ j d within. subst (λ (x : NetOut). IsTrue (marked more x.net.0)) (sym (get_or-take (k + 1) outs j d (omega arith))) (elim (cases_lt j k) [
      | inl below ↦ stays (slice_index_or outs j d).net.0
          (subst (λ (x : NetOut). IsTrue (marked marks x.net.0)) (get_or-take k outs j d below) (all j d (omega arith)))
      | inr above ↦
          let e : k ≡ j = omega arith in
          subst (λ (x : NetOut). IsTrue (marked more x.net.0))
          (is ∙ ap (λ i. slice_index_or outs i o) e ∙ get_or_default outs j o d (omega arith)) on
    ])
