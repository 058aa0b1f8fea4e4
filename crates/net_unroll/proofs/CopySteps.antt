-- One more copy of a node.
use Rattle.std.proofs.Common.{◌≡◌, ◌≢◌, ℕ, ◌<◌, ◌≤◌, ◌^◌, Bool, false, not, ◌&&◌, ◌||◌, ◌==◌, nat_lt, List, [], ◌∷◌, ◌++◌, length, refl, sym, ap, ◌∙◌}
use Rattle.std.proofs.Common.{subst, arith}
use Rattle.std.proofs.Common.{IsTrue, ⊎_elim, slice_index_or, slice_set, replicate}
use Rattle.std.proofs.lemmas.Bool.{and_parts, cases_eq, cond-false, cond-true, eq-eqb, ltb-true, ne_eqb}
use Rattle.std.proofs.lemmas.List.{get_or-replicate, get_or-set_other, get_or-set_same, length-replicate, length-set, length_push}
use Rattle.base_types.specs.declared.indices.NetId.{NetId}
use Rattle.net_ir.specs.declared.netlist.Op.{Op}
use Rattle.net_ir.specs.Gates.{op_value, operand_end, value_in}
use Rattle.grc_ternary_gates.specs.declared.gates.Gate.{Gate}
use Rattle.grc_ternary_gates.specs.declared.gates.Gate.TheVariants as gates
use Rattle.grc_ternary_gates.specs.Systems.{gate_at, gate_fits}
use Rattle.net_unroll.specs.declared.growing.Growing.{Growing}
use Rattle.net_unroll.specs.Copies.{AreNets, CanUnroll, Grows, IsUnrolled, Pushed, net_at, next_number, truth_op, values_at, values_of}
use Rattle.net_unroll.specs.Schedules.{all_false, gate_truth, truths_along, with_truth}
use Rattle.net_unroll.proofs.Growth.{grows-none, grows-push, grows-value, nets-stay, pushed-new, pushed-number, pushed-old, value-at}

-- ---- a schedule with one place more

pub truths-push : (all : List Gate) (S : List Bool) (B : ℕ → Bool) (ns : List ℕ) (n : ℕ) → truths_along all S B (ns ++ n ∷ [])
    ≡ with_truth (truths_along all S B ns) n (gate_truth S (truths_along all S B ns) (gate_at all n))
truths-push all S B [] n = refl
truths-push all S B (m ∷ ns) n = truths-push all S (with_truth B m (gate_truth S B (gate_at all m))) ns n

-- ---- tables of nets

pub set-same : (nets : List NetId) (node : ℕ) (net : NetId) (n : ℕ) → n ≡ node → node < length nets → net_at (slice_set nets node net) n ≡ net
set-same nets node net n same low =
    ap (net_at (slice_set nets node net)) same ∙ get_or-set_same nets node net (record { 0 = 0 }) low

pub set-other : (nets : List NetId) (node : ℕ) (net : NetId) (n : ℕ) → n ≢ node → net_at (slice_set nets node net) n ≡ net_at nets n
set-other nets node net n apart = get_or-set_other nets node n net (record { 0 = 0 }) apart

pub set-nets : (g : Growing) (nets : List NetId) (node : ℕ) (net : NetId) → AreNets g nets → node < length nets → net.0 < next_number g
    → AreNets g (slice_set nets node net)
set-nets g nets node net are low here = λ i d l. ⊎_elim
    (λ (same : i ≡ node).
    let e : slice_index_or (slice_set nets node net) i d ≡ net =
    ap (λ k. slice_index_or (slice_set nets node net) k d) same ∙ get_or-set_same nets node net d low in
    subst (λ (x : NetId). x.0 < next_number g) (sym e) here)
    (λ (apart : i ≡ node → ⊥).
    let e = get_or-set_other nets node i net d apart in
    let m = length-set nets node net in
    subst (λ (x : NetId). x.0 < next_number g) (sym e) (are i d (omega arith)))
    (cases_eq i node)

-- ---- what the operator of a gate says

pub op-says : (v : ℕ → Bool) (S : List Bool) (B : ℕ → Bool) (sources copies : List NetId) (nodes : ℕ) (g : Gate)
    → IsTrue (gate_fits nodes (length sources) g)
    → ((k : ℕ) → k < length sources → v (net_at sources k).0 ≡ slice_index_or S k false)
    → ((n : ℕ) → n < nodes → v (net_at copies n).0 ≡ B n)
    → op_value v (truth_op sources copies g) ≡ gate_truth S B g
op-says v S B sources copies nodes (gates.Source k) fits hs hb = hs k (ltb-true k (length sources) fits)
op-says v S B sources copies nodes (gates.Same a) fits hs hb = hb a (ltb-true a nodes fits)
op-says v S B sources copies nodes (gates.Not a) fits hs hb = ap not (hb a (ltb-true a nodes fits))
op-says v S B sources copies nodes (gates.And a b) fits hs hb =
    let p = and_parts (nat_lt a nodes) (nat_lt b nodes) fits in
    let x = hb a (ltb-true a nodes p.0) in
    let y = hb b (ltb-true b nodes p.1) in
    λ i. x i && y i
op-says v S B sources copies nodes (gates.Or a b) fits hs hb =
    let p = and_parts (nat_lt a nodes) (nat_lt b nodes) fits in
    let x = hb a (ltb-true a nodes p.0) in
    let y = hb b (ltb-true b nodes p.1) in
    λ i. x i || y i

-- it reads nets that there are
pub op-low : (end : ℕ) (sources copies : List NetId) (nodes : ℕ) (g : Gate) → IsTrue (gate_fits nodes (length sources) g)
    → ((k : ℕ) → k < length sources → (net_at sources k).0 < end) → ((n : ℕ) → n < nodes → (net_at copies n).0 < end)
    → operand_end (truth_op sources copies g) ≤ end
op-low end sources copies nodes (gates.Source k) fits hs hb = let l = hs k (ltb-true k (length sources) fits) in omega arith
op-low end sources copies nodes (gates.Same a) fits hs hb = let l = hb a (ltb-true a nodes fits) in omega arith
op-low end sources copies nodes (gates.Not a) fits hs hb = let l = hb a (ltb-true a nodes fits) in omega arith
op-low end sources copies nodes (gates.And a b) fits hs hb =
    let p = and_parts (nat_lt a nodes) (nat_lt b nodes) fits in
    let x = hb a (ltb-true a nodes p.0) in
    let y = hb b (ltb-true b nodes p.1) in
    omega arith
op-low end sources copies nodes (gates.Or a b) fits hs hb =
    let p = and_parts (nat_lt a nodes) (nat_lt b nodes) fits in
    let x = hb a (ltb-true a nodes p.0) in
    let y = hb b (ltb-true b nodes p.1) in
    omega arith

-- the nets of sources keep their values
pub source-says : (old now : Growing) (k : ℕ) (sources : List NetId) (front : List Bool) → Grows old now k → AreNets old sources
    → length front ≡ old.first → (n : ℕ) → n < length sources
    → value_in (values_of now front) (net_at sources n).0 ≡ slice_index_or (values_at old sources front) n false
source-says old now k sources front g are wide n low =
    grows-value old now k front (net_at sources n).0 g wide (are n (record { 0 = 0 }) low) ∙ sym (value-at old sources front n low)

module _ (old : Growing) (system : List Gate) (sources : List NetId) (no : NetId) (schedule : List ℕ) (can : CanUnroll old system sources no schedule) where
  pub copies-begun : (copies : List NetId) → length copies ≡ length system → ((n : ℕ) → n < length system → net_at copies n ≡ no)
      → AreNets old copies → IsUnrolled old old system sources copies []
  copies-begun copies each same are = record {
    grows = grows-none old can.growing;
    made = record {
      each = each;
      nets = are;
      truths = λ front wide n low. ap (λ (x : NetId). value_in (values_of old front) x.0) (same n low) ∙ can.never.never front wide;
    };
  }

  pub begun-same : (copies : List NetId) → copies ≡ replicate (length system) no → IsUnrolled old old system sources copies []
  begun-same copies same =
      let many : length copies ≡ length system = ap length same ∙ length-replicate (length system) no in
      copies-begun copies many
      (λ n low. ap (λ l. net_at l n) same ∙ get_or-replicate (length system) n no (record { 0 = 0 }) low)
      (λ i d low.
      let at = ap (λ l. slice_index_or l i d) same ∙ get_or-replicate (length system) i no d (omega arith) in
      subst (λ (x : NetId). x.0 < next_number old) (sym at) can.never.low)

  pub copies-step : (now new : Growing) (copies : List NetId) (done : List ℕ) (node : ℕ) (net : NetId) (op : Op)
      → IsUnrolled old now system sources copies done → node < length system → op ≡ truth_op sources copies (gate_at system node)
      → Pushed now new op → net.0 ≡ next_number now → next_number now < 2 ^ 32
      → IsUnrolled old new system sources (slice_set copies node net) (done ++ node ∷ [])
  copies-step now new copies done node net op u low is p number room = record {
    grows = subst (Grows old new) (sym (length_push done node)) (grows-push old now new op (length done) u.grows p low_op room);
    made = record {
      each = length-set copies node net ∙ u.made.each;
      nets = set-nets new copies node net new_nets low_copies (let m = pushed-number now new op p in omega arith);
      truths = λ front wide n h.
          let S = values_at old sources front in
          let B = truths_along system S all_false done in
          let b = gate_truth S B (gate_at system node) in
          let wide_now : length front ≡ now.first = wide ∙ sym u.grows.first in
          ⊎_elim
          (λ (same : n ≡ node).
          ap (λ (x : NetId). value_in (values_of new front) x.0) (set-same copies node net n same low_copies)
          ∙ pushed-new now new op front net.0 p wide_now number
          ∙ ap (op_value (value_in (values_of now front))) is
          ∙ op-says (value_in (values_of now front)) S B sources copies (length system) (gate_at system node) fits
          (source-says old now (length done) sources front u.grows can.source_nets wide) (u.made.truths front wide)
          ∙ sym (cond-true (n == node) b (B n) (eq-eqb n node same))
          ∙ sym (ap (λ (f : ℕ → Bool). f n) (truths-push system S all_false done node)))
          (λ (apart : n ≡ node → ⊥).
          ap (λ (x : NetId). value_in (values_of new front) x.0) (set-other copies node net n apart)
          ∙ pushed-old now new op front (net_at copies n).0 p wide_now (now_nets n h)
          ∙ u.made.truths front wide n h
          ∙ sym (cond-false (n == node) b (B n) (ne_eqb n node apart))
          ∙ sym (ap (λ (f : ℕ → Bool). f n) (truths-push system S all_false done node)))
          (cases_eq n node);
    };
  }
    where
      fits : IsTrue (gate_fits (length system) (length sources) (gate_at system node))
      fits = can.fit node (gates.Source 0) low

      low_copies : node < length copies
      low_copies = let e = u.made.each in omega arith

      now_nets : (n : ℕ) → n < length system → (net_at copies n).0 < next_number now
      now_nets n h = let e = u.made.each in u.made.nets n (record { 0 = 0 }) (omega arith)

      source_nets : (k : ℕ) → k < length sources → (net_at sources k).0 < next_number now
      source_nets k h = nets-stay old now (length done) sources u.grows can.source_nets k (record { 0 = 0 }) h

      low_op : operand_end op ≤ next_number now
      low_op = subst (λ x. operand_end x ≤ next_number now) (sym is)
          (op-low (next_number now) sources copies (length system) (gate_at system node) fits source_nets now_nets)

      new_nets : AreNets new copies
      new_nets = λ i d l. let m = pushed-number now new op p in let h = u.made.nets i d l in omega arith
