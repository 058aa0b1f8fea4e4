-- The owners of a netlist's gates fit the values of an instant in which regions are at rest.
use Rattle.std.proofs.Common.{◌≡◌, ℕ, zero, suc, ◌+◌, ◌-◌, ◌<◌, ◌≤◌, ◌⊎◌, inl, inr, Bool, true, false, not, ◌==◌, ◌||◌, List, [], ◌∷◌, length, drop, get_or}
use Rattle.std.proofs.Common.{Option, Some, None, refl, sym, ap, ◌∙◌, subst, arith, ⊎_elim}
use Rattle.std.specs.Prelude.{if◌then◌else◌}
use Rattle.std.specs.List.{list_any, AllByRecursion}
use Rattle.std.proofs.lemmas.Bool.{cases_lt, eq-eqb, or_left, or_right}
use Rattle.std.proofs.lemmas.List.{get_or_past, get_or-drop, length-drop}
use Rattle.std.proofs.lemmas.List.Folds.{list_any_at}
use Rattle.std.proofs.lemmas.Option.{none-some}
use Rattle.base_types.specs.declared.indices.WireId.{WireId}
use Rattle.net_ir.specs.declared.netlist.Gate.{Gate}
use Rattle.net_ir.specs.declared.netlist.Latch.{Latch}
use Rattle.net_ir.specs.declared.netlist.NetOut.{NetOut}
use Rattle.net_ir.specs.declared.netlist.Op.{Op}
use Rattle.net_ir.specs.declared.netlist.Op.TheVariants as ops
use Rattle.net_ir.specs.Gates.{operand_end, value_in}
use Rattle.net_ir.specs.Netlists.{Netlist, first_gate}
use Rattle.net_ir.specs.Writing.{IsWritable}
use Rattle.net_expressions.proofs.Exports.{any_gate, any_latch, any_output, gate-low}
use Rattle.csub_text.specs.Names.{names_in}
use Rattle.csub_text.specs.Written.{op_expr}
use Rattle.csub_guard_blocks.specs.Blocks.{head_of}
use Rattle.csub_guard_blocks.specs.Owners.{Owner, Free, Inner, Outer, Usage, Unused, Mixed, usage_beside, in_region, owner_of, owners_from, owners}
use Rattle.csub_guard_writer.specs.Meaning.{is_skipped}
use Rattle.csub_guard_writer.proofs.GateRuns.{Fits, IsShown}
use Rattle.csub_guard_writer.proofs.OwnerFacts.{AllRead, usage_behind, owner-at, owner-head, owner-outer, owner-inner, usage-most, beside-most, heads-told}
use Rattle.csub_guard_writer.proofs.OwnerFacts.{length-owners}

-- ---- what an operator reads

abbrev pub Reads : Op → ℕ → Type 0
Reads (ops.Const b) i = ⊥
Reads (ops.Copy a) i = i ≡ a.0
Reads (ops.Not a) i = i ≡ a.0
Reads (ops.And a b) i = (i ≡ a.0) ⊎ (i ≡ b.0)
Reads (ops.Or a b) i = (i ≡ a.0) ⊎ (i ≡ b.0)

all-reads : (P : ℕ → Type 0) (op : Op) → ((i : ℕ) → Reads op i → P i) → AllRead P op
all-reads P (ops.Const b) f = tt
all-reads P (ops.Copy a) f = f a.0 refl
all-reads P (ops.Not a) f = f a.0 refl
all-reads P (ops.And a b) f = (f a.0 (inl refl), f b.0 (inr refl))
all-reads P (ops.Or a b) f = (f a.0 (inl refl), f b.0 (inr refl))

pub read-at : (P : ℕ → Type 0) (op : Op) (i : ℕ) → AllRead P op → Reads op i → P i
read-at P (ops.Const b) i all r = absurd r
read-at P (ops.Copy a) i all r = subst P (sym r) all
read-at P (ops.Not a) i all r = subst P (sym r) all
read-at P (ops.And a b) i all r = ⊎_elim (λ e. subst P (sym e) all.0) (λ e. subst P (sym e) all.1) r
read-at P (ops.Or a b) i all r = ⊎_elim (λ e. subst P (sym e) all.0) (λ e. subst P (sym e) all.1) r

pub reads-low : (op : Op) (i end : ℕ) → operand_end op ≤ end → Reads op i → i < end
reads-low (ops.Const b) i end low r = absurd r
reads-low (ops.Copy a) i end low r = omega (arith, low, r)
reads-low (ops.Not a) i end low r = omega (arith, low, r)
reads-low (ops.And a b) i end low r = ⊎_elim (λ e. omega (arith, low, e)) (λ e. omega (arith, low, e)) r
reads-low (ops.Or a b) i end low r = ⊎_elim (λ e. omega (arith, low, e)) (λ e. omega (arith, low, e)) r

-- what holds of the names of the nets that are read holds of the names in an operator's expression
pub read-names : (P : List ℕ → Type 0) (word : ℕ → List ℕ) (op : Op) → ((i : ℕ) → Reads op i → P (word i)) → AllByRecursion P (names_in (op_expr word op))
read-names P word (ops.Const b) f = tt
read-names P word (ops.Copy a) f = (f a.0 refl, tt)
read-names P word (ops.Not a) f = (f a.0 refl, tt)
read-names P word (ops.And a b) f = (f a.0 (inl refl), (f b.0 (inr refl), tt))
read-names P word (ops.Or a b) f = (f a.0 (inl refl), (f b.0 (inr refl), tt))

drop-owners : (net : Netlist) (region : ℕ → Option ℕ) (m n : ℕ) (gates : List Gate)
    → drop m (owners_from net region n gates) ≡ owners_from net region (n + m) (drop m gates)
drop-owners net region zero n gates = let z : n ≡ n + 0 = omega arith in ap (λ k. owners_from net region k gates) z
drop-owners net region (suc m) n [] = refl
drop-owners net region (suc m) n (g ∷ gates) =
    let s : n + 1 + m ≡ n + suc m = omega arith in
    drop-owners net region m (n + 1) gates ∙ ap (λ k. owners_from net region k (drop m gates)) s

-- ---- what something else than gates uses

pub latch-used : (net : Netlist) (j : ℕ) → j < length net.latches → usage_beside net (get_or net.latches j any_latch).from.0 ≡ Mixed
latch-used net j low =
    let n = (get_or net.latches j any_latch).from.0 in
    let any : list_any (λ (l : Latch). l.from.0 == n) net.latches ≡ true
    = list_any_at (λ (l : Latch). l.from.0 == n) net.latches j any_latch low (eq-eqb n n refl) in
    ap (λ b. if b then Mixed else Unused)
    (or_left (list_any (λ (l : Latch). l.from.0 == n) net.latches || list_any (λ (o : NetOut). o.net.0 == n) net.outputs) (net.paused == n)
    (or_left (list_any (λ (l : Latch). l.from.0 == n) net.latches) (list_any (λ (o : NetOut). o.net.0 == n) net.outputs) any))

pub output-used : (net : Netlist) (j : ℕ) → j < length net.outputs → usage_beside net (get_or net.outputs j any_output).net.0 ≡ Mixed
output-used net j low =
    let n = (get_or net.outputs j any_output).net.0 in
    let any : list_any (λ (o : NetOut). o.net.0 == n) net.outputs ≡ true
    = list_any_at (λ (o : NetOut). o.net.0 == n) net.outputs j any_output low (eq-eqb n n refl) in
    ap (λ b. if b then Mixed else Unused)
    (or_left (list_any (λ (l : Latch). l.from.0 == n) net.latches || list_any (λ (o : NetOut). o.net.0 == n) net.outputs) (net.paused == n)
    (or_right (list_any (λ (l : Latch). l.from.0 == n) net.latches) (list_any (λ (o : NetOut). o.net.0 == n) net.outputs) any))

pub paused-used : (net : Netlist) → usage_beside net net.paused ≡ Mixed
paused-used net =
    let n = net.paused in
    ap (λ b. if b then Mixed else Unused)
    (or_right (list_any (λ (l : Latch). l.from.0 == n) net.latches || list_any (λ (o : NetOut). o.net.0 == n) net.outputs) (net.paused == n) (eq-eqb n n refl))

-- what a writer of blocks asks of regions: a head is a gate that carries a wire and lies in no region
pub record HeadsFit (net : Netlist) (region : ℕ → Option ℕ) : Type 0 where
  pub within : (k h : ℕ) → region k ≡ Some h → h < length net.gates
  pub free : (k h : ℕ) → region k ≡ Some h → region h ≡ None
  pub carries : (k h : ℕ) → region k ≡ Some h → (v : WireId) × ((get_or net.gates h any_gate).wire ≡ Some v)

module _ (net : Netlist) (is : IsWritable net) (region : ℕ → Option ℕ) (heads : HeadsFit net region) where
  abbrev whose : ℕ → Owner
  whose k = get_or (owners net region) k Free

  pub many : length (owners net region) ≡ length net.gates
  many = length-owners net region 0 net.gates

  -- a gate that has a head is one
  low-of : (k h : ℕ) → head_of (whose k) ≡ Some h → k < length net.gates
  low-of k h e = ⊎_elim (λ l. l)
      (λ past. absurd (none-some h (sym (ap head_of (get_or_past (owners net region) k Free (omega (arith, past, many)))) ∙ e)))
      (cases_lt k (length net.gates))

  -- a head belongs to none
  head-free : (h : ℕ) → (k : ℕ) × ((k < length net.gates) × (region k ≡ Some h)) → whose h ≡ Free
  head-free h t =
      let carried = heads.carries t.0 h t.1.1 in
      owner-at net region h (heads.within t.0 h t.1.1)
      ∙ ap (λ w. owner_of region h w (usage-of h)) carried.1
      ∙ ap (λ r. in_region h r (usage-of h)) (heads.free t.0 h t.1.1)
    where
      usage-of : ℕ → Usage
      usage-of k = usage_behind net region k

  pub head-facts : (k h : ℕ) → head_of (whose k) ≡ Some h → (h < k) × (whose h ≡ Free)
  head-facts k h e =
      let low = low-of k h e in
      let own = owner-head region k (get_or net.gates k any_gate).wire (usage_behind net region k) h (sym (ap head_of (owner-at net region k low)) ∙ e) in
      (own.0, head-free h ((heads-told net region 0 net.gates (omega arith)).0 k h e))

  -- an inner gate: what uses it
  pub inner-uses : (j h : ℕ) → whose j ≡ Inner h
      → ((k : ℕ) → j < k → k < length net.gates → AllRead (λ i. first_gate net + j ≡ i → head_of (whose k) ≡ Some h) (get_or net.gates k any_gate).op)
      × (usage_beside net (first_gate net + j) ≡ Unused)
  inner-uses j h e =
      let low = low-of j h (ap head_of e) in
      let behind = drop (j + 1) net.gates in
      let most = owner-inner region j (get_or net.gates j any_gate).wire (usage_behind net region j) h (sym (owner-at net region j low) ∙ e) in
      let all = usage-most net h (first_gate net + j) behind (owners_from net region (j + 1) behind) (length-owners net region (j + 1) behind) most in
      (each all.0, beside-most net h (first_gate net + j) all.1)
    where
      each : ((n : ℕ) → n < length (drop (j + 1) net.gates) → AllRead (λ i. first_gate net + j ≡ i
          → head_of (get_or (owners_from net region (j + 1) (drop (j + 1) net.gates)) n Free) ≡ Some h) (get_or (drop (j + 1) net.gates) n any_gate).op)
          → (k : ℕ) → j < k → k < length net.gates → AllRead (λ i. first_gate net + j ≡ i → head_of (whose k) ≡ Some h) (get_or net.gates k any_gate).op
      each f k past low =
          let n : ℕ = k - (j + 1) in
          let at : j + 1 + n ≡ k = omega (arith, past) in
          let z : j + 1 ≡ 0 + (j + 1) = omega arith in
          let here = f n (omega (arith, length-drop (j + 1) net.gates, past, low)) in
          let gate : get_or (drop (j + 1) net.gates) n any_gate ≡ get_or net.gates k any_gate
          = get_or-drop (j + 1) net.gates n any_gate ∙ ap (λ m. get_or net.gates m any_gate) at in
          let o : get_or (owners_from net region (j + 1) (drop (j + 1) net.gates)) n Free ≡ whose k
          = ap (λ m. get_or (owners_from net region m (drop (j + 1) net.gates)) n Free) z
          ∙ ap (λ os. get_or os n Free) (sym (drop-owners net region (j + 1) 0 net.gates)) ∙ get_or-drop (j + 1) (owners net region) n Free
          ∙ ap whose at in
          subst (λ (g : Gate). AllRead (λ i. first_gate net + j ≡ i → head_of (whose k) ≡ Some h) g.op) gate
          (subst (λ o. AllRead (λ i. first_gate net + j ≡ i → head_of o ≡ Some h) (get_or (drop (j + 1) net.gates) n any_gate).op) o here)

  -- no inner gate is used by something else than gates
  pub beside-inner : (n : ℕ) → usage_beside net n ≡ Mixed → (j h : ℕ) → n ≡ first_gate net + j → whose j ≡ Inner h → ⊥
  beside-inner n mixed j h e inner =
      let none : Unused ≡ Mixed = sym (inner-uses j h inner).1 ∙ ap (usage_beside net) (sym e) ∙ mixed in cc

  module _ (values : List Bool)
      (quiet : (k h : ℕ) → k < length net.gates → region k ≡ Some h → value_in values (first_gate net + h) ≡ false → value_in values (first_gate net + k)
      ≡ false)
    where
      -- a gate is shown, where its head runs if it is inner
      shown-if : (j : ℕ) → ((h : ℕ) → whose j ≡ Inner h → value_in values (first_gate net + h) ≡ true) → is_skipped net values (whose j) ≡ false
      shown-if j f = by (whose j) refl
        where
          by : (o : Owner) → whose j ≡ o → is_skipped net values (whose j) ≡ false
          by Free e = ap (is_skipped net values) e
          by (Inner h) e = ap (is_skipped net values) e ∙ ap not (f h e)
          by (Outer h) e = ap (is_skipped net values) e

      -- what a gate reads that is not skipped is not skipped
      reads_shown : (k : ℕ) → k < length net.gates → ((h : ℕ) → head_of (whose k) ≡ Some h → value_in values (first_gate net + h) ≡ true)
          → AllRead (IsShown net is (owners net region) values) (get_or net.gates k any_gate).op
      reads_shown k low on =
          let op = (get_or net.gates k any_gate).op in
          all-reads (IsShown net is (owners net region) values) op
          (λ i r j e. shown-if j
          (λ h inner.
          let below = reads-low op i (first_gate net + k) (gate-low net is k low) r in
          let used = (inner-uses j h inner).0 k (omega (arith, below, e)) low in
          on h (read-at (λ i. first_gate net + j ≡ i → head_of (whose k) ≡ Some h) op i used r (sym e))))

      pub fits : Fits net is (owners net region) values
      fits = record {
        heads = head-facts;
        quiet = λ k h low e off.
            let o = owner-outer region k (get_or net.gates k any_gate).wire (usage_behind net region k) h (sym (owner-at net region k low) ∙ e) in
            quiet k h low o.1.1 off;
        reads = reads_shown;
      }

      -- what is used by something else than gates is not skipped
      beside-shown : (n : ℕ) → usage_beside net n ≡ Mixed → IsShown net is (owners net region) values n
      beside-shown n mixed j e = shown-if j (λ h inner. absurd (beside-inner n mixed j h e inner))

      pub latch-shown : (j : ℕ) → j < length net.latches → IsShown net is (owners net region) values (get_or net.latches j any_latch).from.0
      latch-shown j low = beside-shown (get_or net.latches j any_latch).from.0 (latch-used net j low)

      pub output-shown : (j : ℕ) → j < length net.outputs → IsShown net is (owners net region) values (get_or net.outputs j any_output).net.0
      output-shown j low = beside-shown (get_or net.outputs j any_output).net.0 (output-used net j low)

      pub paused-shown : IsShown net is (owners net region) values net.paused
      paused-shown = beside-shown net.paused (paused-used net)
