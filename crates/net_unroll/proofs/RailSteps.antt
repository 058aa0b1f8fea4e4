-- One more pair of rails of a node, and one more watched node.
use Rattle.std.proofs.Common.{◌≡◌, ℕ, suc, ◌+◌, ◌*◌, ◌<◌, ◌≤◌, ◌^◌, Bool, true, false, not, ◌&&◌, ◌||◌, ◌==◌, nat_lt, List, [], ◌∷◌, ◌++◌}
use Rattle.std.proofs.Common.{length, refl, sym, ap, ◌∙◌, subst, arith}
use Rattle.std.proofs.Common.{IsTrue, ⊎_elim, slice_index_or, slice_set, replicate, All}
use Rattle.std.specs.List.{list_all}
use Rattle.std.proofs.Math.Bool.{and-true}
use Rattle.std.proofs.lemmas.Bool.{and_parts, cases_eq, cond-false, cond-true, eq-eqb, ltb-true, ne_eqb}
use Rattle.std.proofs.lemmas.List.{get_or-replicate, length-replicate, length-set, length_push}
use Rattle.std.proofs.lemmas.List.Folds.{list_all-append}
use Rattle.base_types.specs.declared.indices.NetId.{NetId}
use Rattle.est_kernel.specs.Statuses.{Status, Plus, Minus, Unknown, conjunction, disjunction, known, opposite, with_status}
use Rattle.net_ir.specs.declared.netlist.Op.{Op}
use Rattle.net_ir.specs.declared.netlist.Op.TheVariants as ops
use Rattle.net_ir.specs.Gates.{op_value, operand_end, value_in}
use Rattle.grc_ternary_gates.specs.declared.gates.Gate.{Gate}
use Rattle.grc_ternary_gates.specs.declared.gates.Gate.TheVariants as gates
use Rattle.grc_ternary_gates.specs.Systems.{gate_at, gate_fits, gate_status}
use Rattle.net_unroll.specs.declared.growing.Growing.{Growing}
use Rattle.net_unroll.specs.declared.rails.Rails.{Rails}
use Rattle.net_unroll.specs.Copies.{AreNets, CanUnroll, Grows, Pushed, net_at, next_number, values_at, values_of}
use Rattle.net_unroll.specs.Rails.{CanWatch, IsAlarm, IsUnrolledTwice, Watches, excluded_op, is_false, is_true, sure_op, told_by}
use Rattle.net_unroll.specs.Schedules.{are_known, is_known, nothing_known, statuses_along}
use Rattle.net_unroll.proofs.CopySteps.{set-nets, set-other, set-same, source-says}
use Rattle.net_unroll.proofs.Growth.{grows-both, grows-none, grows-push, grows-value, nets-stay, pushed-new, pushed-number, pushed-old}

-- ---- rails of statuses

true-known : (b : Bool) → b ≡ is_true (known b)
true-known true = refl
true-known false = refl

false-known : (b : Bool) → not b ≡ is_false (known b)
false-known true = refl
false-known false = refl

true-opposite : (v : Status) → is_false v ≡ is_true (opposite v)
true-opposite Plus = refl
true-opposite Minus = refl
true-opposite Unknown = refl

false-opposite : (v : Status) → is_true v ≡ is_false (opposite v)
false-opposite Plus = refl
false-opposite Minus = refl
false-opposite Unknown = refl

true-both : (v w : Status) → (is_true v && is_true w) ≡ is_true (conjunction v w)
true-both Plus w = refl
true-both Minus w = refl
true-both Unknown Plus = refl
true-both Unknown Minus = refl
true-both Unknown Unknown = refl

false-both : (v w : Status) → (is_false v || is_false w) ≡ is_false (conjunction v w)
false-both Plus w = refl
false-both Minus w = refl
false-both Unknown Plus = refl
false-both Unknown Minus = refl
false-both Unknown Unknown = refl

true-one : (v w : Status) → (is_true v || is_true w) ≡ is_true (disjunction v w)
true-one Plus w = refl
true-one Minus w = refl
true-one Unknown Plus = refl
true-one Unknown Minus = refl
true-one Unknown Unknown = refl

false-one : (v w : Status) → (is_false v && is_false w) ≡ is_false (disjunction v w)
false-one Plus w = refl
false-one Minus w = refl
false-one Unknown Plus = refl
false-one Unknown Minus = refl
false-one Unknown Unknown = refl

told-known : (v : Status) → (is_true v || is_false v) ≡ is_known v
told-known Plus = refl
told-known Minus = refl
told-known Unknown = refl

-- ---- what the operators of a gate say

module _ (v : ℕ → Bool) (S : List Bool) (V : ℕ → Status) (sources : List NetId) (r : Rails) (nodes : ℕ)
    (hs : (k : ℕ) → k < length sources → v (net_at sources k).0 ≡ slice_index_or S k false)
    (ht : (n : ℕ) → n < nodes → v (net_at r.sure.items n).0 ≡ is_true (V n))
    (hf : (n : ℕ) → n < nodes → v (net_at r.excluded.items n).0 ≡ is_false (V n)) where
  sure-says : (g : Gate) → IsTrue (gate_fits nodes (length sources) g) → op_value v (sure_op sources r g) ≡ is_true (gate_status S V g)
  sure-says (gates.Source k) fits = hs k (ltb-true k (length sources) fits) ∙ true-known _
  sure-says (gates.Same a) fits = ht a (ltb-true a nodes fits)
  sure-says (gates.Not a) fits = hf a (ltb-true a nodes fits) ∙ true-opposite (V a)
  sure-says (gates.And a b) fits =
      let p = and_parts (nat_lt a nodes) (nat_lt b nodes) fits in
      let x = ht a (ltb-true a nodes p.0) in
      let y = ht b (ltb-true b nodes p.1) in
      (λ i. x i && y i) ∙ true-both (V a) (V b)
  sure-says (gates.Or a b) fits =
      let p = and_parts (nat_lt a nodes) (nat_lt b nodes) fits in
      let x = ht a (ltb-true a nodes p.0) in
      let y = ht b (ltb-true b nodes p.1) in
      (λ i. x i || y i) ∙ true-one (V a) (V b)

  excluded-says : (g : Gate) → IsTrue (gate_fits nodes (length sources) g) → op_value v (excluded_op sources r g) ≡ is_false (gate_status S V g)
  excluded-says (gates.Source k) fits = ap not (hs k (ltb-true k (length sources) fits)) ∙ false-known _
  excluded-says (gates.Same a) fits = hf a (ltb-true a nodes fits)
  excluded-says (gates.Not a) fits = ht a (ltb-true a nodes fits) ∙ false-opposite (V a)
  excluded-says (gates.And a b) fits =
      let p = and_parts (nat_lt a nodes) (nat_lt b nodes) fits in
      let x = hf a (ltb-true a nodes p.0) in
      let y = hf b (ltb-true b nodes p.1) in
      (λ i. x i || y i) ∙ false-both (V a) (V b)
  excluded-says (gates.Or a b) fits =
      let p = and_parts (nat_lt a nodes) (nat_lt b nodes) fits in
      let x = hf a (ltb-true a nodes p.0) in
      let y = hf b (ltb-true b nodes p.1) in
      (λ i. x i && y i) ∙ false-one (V a) (V b)

module _ (end : ℕ) (sources : List NetId) (r : Rails) (nodes : ℕ) (hs : (k : ℕ) → k < length sources → (net_at sources k).0 < end)
    (ht : (n : ℕ) → n < nodes → (net_at r.sure.items n).0 < end) (hf : (n : ℕ) → n < nodes → (net_at r.excluded.items n).0 < end) where
  sure-low : (g : Gate) → IsTrue (gate_fits nodes (length sources) g) → operand_end (sure_op sources r g) ≤ end
  sure-low (gates.Source k) fits = let l = hs k (ltb-true k (length sources) fits) in omega arith
  sure-low (gates.Same a) fits = let l = ht a (ltb-true a nodes fits) in omega arith
  sure-low (gates.Not a) fits = let l = hf a (ltb-true a nodes fits) in omega arith
  sure-low (gates.And a b) fits =
      let p = and_parts (nat_lt a nodes) (nat_lt b nodes) fits in
      let x = ht a (ltb-true a nodes p.0) in
      let y = ht b (ltb-true b nodes p.1) in
      omega arith
  sure-low (gates.Or a b) fits =
      let p = and_parts (nat_lt a nodes) (nat_lt b nodes) fits in
      let x = ht a (ltb-true a nodes p.0) in
      let y = ht b (ltb-true b nodes p.1) in
      omega arith

  excluded-low : (g : Gate) → IsTrue (gate_fits nodes (length sources) g) → operand_end (excluded_op sources r g) ≤ end
  excluded-low (gates.Source k) fits = let l = hs k (ltb-true k (length sources) fits) in omega arith
  excluded-low (gates.Same a) fits = let l = hf a (ltb-true a nodes fits) in omega arith
  excluded-low (gates.Not a) fits = let l = ht a (ltb-true a nodes fits) in omega arith
  excluded-low (gates.And a b) fits =
      let p = and_parts (nat_lt a nodes) (nat_lt b nodes) fits in
      let x = hf a (ltb-true a nodes p.0) in
      let y = hf b (ltb-true b nodes p.1) in
      omega arith
  excluded-low (gates.Or a b) fits =
      let p = and_parts (nat_lt a nodes) (nat_lt b nodes) fits in
      let x = hf a (ltb-true a nodes p.0) in
      let y = hf b (ltb-true b nodes p.1) in
      omega arith

-- ---- one place more

statuses-push : (all : List Gate) (S : List Bool) (V : ℕ → Status) (ns : List ℕ) (n : ℕ) → statuses_along all S V (ns ++ n ∷ [])
    ≡ with_status (statuses_along all S V ns) n (gate_status S (statuses_along all S V ns) (gate_at all n))
statuses-push all S V [] n = refl
statuses-push all S V (m ∷ ns) n = statuses-push all S (with_status V m (gate_status S V (gate_at all m))) ns n

module _ (old : Growing) (system : List Gate) (sources : List NetId) (no : NetId) (schedule : List ℕ) (can : CanUnroll old system sources no schedule) where
  pub rails-begun : (r : Rails) → length r.sure.items ≡ length system → length r.excluded.items ≡ length system
      → ((n : ℕ) → n < length system → net_at r.sure.items n ≡ no) → ((n : ℕ) → n < length system → net_at r.excluded.items n ≡ no)
      → AreNets old r.sure.items → AreNets old r.excluded.items → IsUnrolledTwice old old system sources r []
  rails-begun r each many same also are these = record {
    grows = grows-none old can.growing;
    rails = record {
      sure_each = each;
      excluded_each = many;
      sure_nets = are;
      excluded_nets = these;
      sure = λ front wide n low. ap (λ (x : NetId). value_in (values_of old front) x.0) (same n low) ∙ can.never.never front wide;
      excluded = λ front wide n low. ap (λ (x : NetId). value_in (values_of old front) x.0) (also n low) ∙ can.never.never front wide;
    };
  }

  pub begun-twice : (r : Rails) → r.sure.items ≡ replicate (length system) no → r.excluded.items ≡ replicate (length system) no
      → IsUnrolledTwice old old system sources r []
  begun-twice r same also =
      let many = length-replicate (length system) no in
      rails-begun r (ap length same ∙ many) (ap length also ∙ many) (λ n low. at r.sure.items same n (record { 0 = 0 }) low)
      (λ n low. at r.excluded.items also n (record { 0 = 0 }) low) (nets r.sure.items same) (nets r.excluded.items also)
    where
      at : (l : List NetId) → l ≡ replicate (length system) no → (n : ℕ) (d : NetId) → n < length system → slice_index_or l n d ≡ no
      at l e n d low = ap (λ x. slice_index_or x n d) e ∙ get_or-replicate (length system) n no d low

      nets : (l : List NetId) → l ≡ replicate (length system) no → AreNets old l
      nets l e = λ i d low.
          let m = ap length e ∙ length-replicate (length system) no in
          subst (λ (x : NetId). x.0 < next_number old) (sym (at l e i d (omega arith))) can.never.low

  pub rails-step : (now mid new : Growing) (r : Rails) (done : List ℕ) (node : ℕ) (sure excluded : NetId) (where_true where_false : Op)
      → IsUnrolledTwice old now system sources r done → node < length system
      → where_true ≡ sure_op sources r (gate_at system node) → where_false ≡ excluded_op sources r (gate_at system node)
      → Pushed now mid where_true → sure.0 ≡ next_number now → Pushed mid new where_false → excluded.0 ≡ next_number mid
      → next_number now + 2 ≤ 2 ^ 32 → (t : Rails) → t.sure.items ≡ slice_set r.sure.items node sure → t.excluded.items
      ≡ slice_set r.excluded.items node excluded
      → IsUnrolledTwice old new system sources t (done ++ node ∷ [])
  rails-step now mid new r done node sure excluded where_true where_false u low is_t is_f p number_t q number_f room t at_t at_f = record {
    grows = subst (Grows old new) count grown;
    rails = record {
      sure_each = ap length at_t ∙ length-set r.sure.items node sure ∙ u.rails.sure_each;
      excluded_each = ap length at_f ∙ length-set r.excluded.items node excluded ∙ u.rails.excluded_each;
      sure_nets = subst (AreNets new) (sym at_t) (set-nets new r.sure.items node sure new_sure low_t (let m = to_mid in let e = to_new in omega arith));
      excluded_nets = subst (AreNets new) (sym at_f)
          (set-nets new r.excluded.items node excluded new_excluded low_f (let m = to_mid in let e = to_new in omega arith));
      sure = λ front wide n h.
          let S = values_at old sources front in
          let V = statuses_along system S nothing_known done in
          let x = gate_status S V (gate_at system node) in
          let wide_now : length front ≡ now.first = wide ∙ sym u.grows.first in
          let wide_mid : length front ≡ mid.first = wide_now ∙ sym p.first in
          let told = ap (λ (f : ℕ → Status). is_true (f n)) (statuses-push system S nothing_known done node) in
          let place = ap (λ l. value_in (values_of new front) (net_at l n).0) at_t in
          ⊎_elim
          (λ (same : n ≡ node).
          place ∙ ap (λ (y : NetId). value_in (values_of new front) y.0) (set-same r.sure.items node sure n same low_t)
          ∙ pushed-old mid new where_false front sure.0 q wide_mid (let m = to_mid in omega arith)
          ∙ pushed-new now mid where_true front sure.0 p wide_now number_t
          ∙ ap (op_value (value_in (values_of now front))) is_t
          ∙ sure-says (value_in (values_of now front)) S V sources r (length system)
          (source-says old now (2 * length done) sources front u.grows can.source_nets wide) (u.rails.sure front wide) (u.rails.excluded front wide)
          (gate_at system node) fits
          ∙ ap is_true (sym (cond-true (n == node) x (V n) (eq-eqb n node same))) ∙ sym told)
          (λ (apart : n ≡ node → ⊥).
          place ∙ ap (λ (y : NetId). value_in (values_of new front) y.0) (set-other r.sure.items node sure n apart)
          ∙ pushed-old mid new where_false front (net_at r.sure.items n).0 q wide_mid (let l = now_sure n h in let m = to_mid in omega arith)
          ∙ pushed-old now mid where_true front (net_at r.sure.items n).0 p wide_now (now_sure n h)
          ∙ u.rails.sure front wide n h
          ∙ ap is_true (sym (cond-false (n == node) x (V n) (ne_eqb n node apart))) ∙ sym told)
          (cases_eq n node);
      excluded = λ front wide n h.
          let S = values_at old sources front in
          let V = statuses_along system S nothing_known done in
          let x = gate_status S V (gate_at system node) in
          let wide_now : length front ≡ now.first = wide ∙ sym u.grows.first in
          let wide_mid : length front ≡ mid.first = wide_now ∙ sym p.first in
          let told = ap (λ (f : ℕ → Status). is_false (f n)) (statuses-push system S nothing_known done node) in
          let place = ap (λ l. value_in (values_of new front) (net_at l n).0) at_f in
          ⊎_elim
          (λ (same : n ≡ node).
          place ∙ ap (λ (y : NetId). value_in (values_of new front) y.0) (set-same r.excluded.items node excluded n same low_f)
          ∙ pushed-new mid new where_false front excluded.0 q wide_mid number_f
          ∙ ap (op_value (value_in (values_of mid front))) is_f
          ∙ excluded-says (value_in (values_of mid front)) S V sources r (length system)
          (source-says old mid (2 * length done + 1) sources front grown_mid can.source_nets wide)
          (λ m k. pushed-old now mid where_true front (net_at r.sure.items m).0 p wide_now (now_sure m k) ∙ u.rails.sure front wide m k)
          (λ m k. pushed-old now mid where_true front (net_at r.excluded.items m).0 p wide_now (now_excluded m k) ∙ u.rails.excluded front wide m k)
          (gate_at system node) fits
          ∙ ap is_false (sym (cond-true (n == node) x (V n) (eq-eqb n node same))) ∙ sym told)
          (λ (apart : n ≡ node → ⊥).
          place ∙ ap (λ (y : NetId). value_in (values_of new front) y.0) (set-other r.excluded.items node excluded n apart)
          ∙ pushed-old mid new where_false front (net_at r.excluded.items n).0 q wide_mid (let l = now_excluded n h in let m = to_mid in omega arith)
          ∙ pushed-old now mid where_true front (net_at r.excluded.items n).0 p wide_now (now_excluded n h)
          ∙ u.rails.excluded front wide n h
          ∙ ap is_false (sym (cond-false (n == node) x (V n) (ne_eqb n node apart))) ∙ sym told)
          (cases_eq n node);
    };
  }
    where
      to_mid : next_number mid ≡ next_number now + 1
      to_mid = pushed-number now mid where_true p

      to_new : next_number new ≡ next_number mid + 1
      to_new = pushed-number mid new where_false q

      fits : IsTrue (gate_fits (length system) (length sources) (gate_at system node))
      fits = can.fit node (gates.Source 0) low

      low_t : node < length r.sure.items
      low_t = let e = u.rails.sure_each in omega arith

      low_f : node < length r.excluded.items
      low_f = let e = u.rails.excluded_each in omega arith

      now_sure : (n : ℕ) → n < length system → (net_at r.sure.items n).0 < next_number now
      now_sure n h = let e = u.rails.sure_each in u.rails.sure_nets n (record { 0 = 0 }) (omega arith)

      now_excluded : (n : ℕ) → n < length system → (net_at r.excluded.items n).0 < next_number now
      now_excluded n h = let e = u.rails.excluded_each in u.rails.excluded_nets n (record { 0 = 0 }) (omega arith)

      source_nets : (k : ℕ) → k < length sources → (net_at sources k).0 < next_number now
      source_nets k h = nets-stay old now (2 * length done) sources u.grows can.source_nets k (record { 0 = 0 }) h

      op_t : operand_end where_true ≤ next_number now
      op_t = subst (λ x. operand_end x ≤ next_number now) (sym is_t)
          (sure-low (next_number now) sources r (length system) source_nets now_sure now_excluded (gate_at system node) fits)

      op_f : operand_end where_false ≤ next_number mid
      op_f = subst (λ x. operand_end x ≤ next_number mid) (sym is_f)
          (let l = excluded-low (next_number now) sources r (length system) source_nets now_sure now_excluded (gate_at system node) fits in
          let m = to_mid in omega arith)

      grown_mid : Grows old mid (2 * length done + 1)
      grown_mid = grows-push old now mid where_true (2 * length done) u.grows p op_t (omega arith)

      grown : Grows old new (2 * length done + 1 + 1)
      grown = grows-push old mid new where_false (2 * length done + 1) grown_mid q op_f (let m = to_mid in omega arith)

      count : 2 * length done + 1 + 1 ≡ 2 * length (done ++ node ∷ [])
      count = let e = length_push done node in omega arith

      new_sure : AreNets new r.sure.items
      new_sure = λ i d l. let h = u.rails.sure_nets i d l in let m = to_mid in let n = to_new in omega arith

      new_excluded : AreNets new r.excluded.items
      new_excluded = λ i d l. let h = u.rails.excluded_nets i d l in let m = to_mid in let n = to_new in omega arith

-- ---- watching

told-push : (values : List Bool) (r : Rails) (done : List ℕ) (node : ℕ) → told_by values r (done ++ node ∷ [])
    ≡ (told_by values r done && (value_in values (net_at r.sure.items node).0 || value_in values (net_at r.excluded.items node).0))
told-push values r done node =
    let f = λ (n : ℕ). value_in values (net_at r.sure.items n).0 || value_in values (net_at r.excluded.items n).0 in
    list_all-append f done (node ∷ []) ∙ ap (λ b. list_all f done && b) (and-true (f node))

pub watch-begun : (old new : Growing) (r : Rails) (watched : List ℕ) (net : NetId) → CanWatch old r watched → Pushed old new (ops.Const true)
    → net.0 ≡ next_number old → next_number old < 2 ^ 32 → Watches old new r [] net.0
watch-begun old new r watched net can p number room = record {
  grows = grows-push old old new (ops.Const true) 0 (grows-none old can.growing) p (omega arith) room;
  low = let m = pushed-number old new (ops.Const true) p in omega arith;
  says = λ front wide. pushed-new old new (ops.Const true) front net.0 p wide number;
}

pub watch-step : (old now mid new : Growing) (r : Rails) (watched done : List ℕ) (node : ℕ) (so_far told next : NetId) → CanWatch old r watched
    → Watches old now r done so_far.0 → node < length r.sure.items → node < length r.excluded.items
    → Pushed now mid (ops.Or (net_at r.sure.items node) (net_at r.excluded.items node)) → told.0 ≡ next_number now
    → Pushed mid new (ops.And so_far told) → next.0 ≡ next_number mid → next_number now + 2 ≤ 2 ^ 32
    → Watches old new r (done ++ node ∷ []) next.0
watch-step old now mid new r watched done node so_far told next can w low_t low_f p number_p q number_q room = record {
  grows = subst (Grows old new) count (grows-push old mid new both (2 * length done + 1 + 1) grown_mid q low_both (let m = to_mid in omega arith));
  low = let m = to_new in omega arith;
  says = λ front wide.
      let wide_now : length front ≡ now.first = wide ∙ sym w.grows.first in
      let wide_mid : length front ≡ mid.first = wide_now ∙ sym p.first in
      let before = pushed-old now mid one front so_far.0 p wide_now w.low ∙ w.says front wide in
      let here = pushed-new now mid one front told.0 p wide_now number_p in
      let t = grows-value old now (2 * length done + 1) front (net_at r.sure.items node).0 w.grows wide (can.sure_nets node (record { 0 = 0 }) low_t) in
      let f =
      grows-value old now (2 * length done + 1) front (net_at r.excluded.items node).0 w.grows wide (can.excluded_nets node (record { 0 = 0 }) low_f) in
      pushed-new mid new both front next.0 q wide_mid number_q ∙ (λ i. before i && here i) ∙ (λ i. told_by (values_of old front) r done && (t i || f i))
      ∙ sym (told-push (values_of old front) r done node);
}
  where
    one : Op
    one = ops.Or (net_at r.sure.items node) (net_at r.excluded.items node)

    both : Op
    both = ops.And so_far told

    to_mid : next_number mid ≡ next_number now + 1
    to_mid = pushed-number now mid one p

    to_new : next_number new ≡ next_number mid + 1
    to_new = pushed-number mid new both q

    low_one : operand_end one ≤ next_number now
    low_one =
        let m = w.grows.many in
        let t = can.sure_nets node (record { 0 = 0 }) low_t in
        let f = can.excluded_nets node (record { 0 = 0 }) low_f in
        omega arith

    low_both : operand_end both ≤ next_number mid
    low_both = let l = w.low in let m = to_mid in omega arith

    grown_mid : Grows old mid (2 * length done + 1 + 1)
    grown_mid = grows-push old now mid one (2 * length done + 1) w.grows p low_one (omega arith)

    count : 2 * length done + 1 + 1 + 1 ≡ 2 * length (done ++ node ∷ []) + 1
    count = let e = length_push done node in omega arith

-- rails of statuses tell which nodes are known
told-all : (values : List Bool) (r : Rails) (V : ℕ → Status) (watched : List ℕ)
    → ((k : ℕ) (d : ℕ) → k < length watched → value_in values (net_at r.sure.items (slice_index_or watched k d)).0 ≡ is_true (V (slice_index_or watched k d)))
    → ((k : ℕ) (d : ℕ) → k < length watched → value_in values (net_at r.excluded.items (slice_index_or watched k d)).0
    ≡ is_false (V (slice_index_or watched k d)))
    → told_by values r watched ≡ are_known V watched
told-all values r V [] t f = refl
told-all values r V (n ∷ ns) t f =
    let x = t 0 n (omega arith) in
    let y = f 0 n (omega arith) in
    let rest = told-all values r V ns (λ k d l. t (suc k) d (omega arith)) (λ k d l. f (suc k) d (omega arith)) in
    (λ i. (x i || y i) && rest i) ∙ ap (λ b. b && are_known V ns) (told-known (V n))

-- ---- the alarm

pub alarm-raised : (old mid now new : Growing) (system : List Gate) (sources : List NetId) (r : Rails) (schedule watched : List ℕ) (whole alarm : NetId)
    → IsUnrolledTwice old mid system sources r schedule → All (λ n. n < length system) watched → Watches mid now r watched whole.0
    → Pushed now new (ops.Not whole) → alarm.0 ≡ next_number now → next_number now < 2 ^ 32
    → IsAlarm old new system sources schedule watched alarm.0
alarm-raised old mid now new system sources r schedule watched whole alarm u nodes w p number room = record {
  grows = subst (Grows old new) count (grows-push old now new (ops.Not whole) (2 * length schedule + (2 * length watched + 1)) grown p
      (let l = w.low in omega arith) room);
  low = let m = pushed-number now new (ops.Not whole) p in omega arith;
  says = λ front wide.
      let V = statuses_along system (values_at old sources front) nothing_known schedule in
      let wide_mid : length front ≡ mid.first = wide ∙ sym u.grows.first in
      let wide_now : length front ≡ now.first = wide_mid ∙ sym w.grows.first in
      pushed-new now new (ops.Not whole) front alarm.0 p wide_now number
      ∙ ap not (w.says front wide_mid ∙ told-all (values_of mid front) r V watched
      (λ k d l. u.rails.sure front wide (slice_index_or watched k d) (nodes k d l))
      (λ k d l. u.rails.excluded front wide (slice_index_or watched k d) (nodes k d l)));
}
  where
    grown : Grows old now (2 * length schedule + (2 * length watched + 1))
    grown = grows-both old mid now (2 * length schedule) (2 * length watched + 1) u.grows w.grows

    count : 2 * length schedule + (2 * length watched + 1) + 1 ≡ 2 * length schedule + (2 * length watched + 2)
    count = omega arith
