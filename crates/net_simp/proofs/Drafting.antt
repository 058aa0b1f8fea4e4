-- One more old gate in the first pass.
use Rattle.std.proofs.Common.{◌≡◌, ℕ, ◌+◌, ◌<◌, ◌≤◌, suc, Bool, true, false, if◌then◌else◌, Option, None, Some, List, [], ◌∷◌, ◌++◌, length, take}
use Rattle.std.proofs.Common.{slice_index_or, refl, sym, ap, subst, ◌∙◌, arith, inl, inr, All}
use Rattle.std.proofs.lemmas.List.{get_or_append_left, get_or_push, length_push}
use Rattle.std.proofs.lemmas.List.Elements.{All-push}
use Rattle.std.proofs.lemmas.Bool.{cases_lt, cases_Bool, lt-ltb}
use Rattle.std.specs.Prelude.{nat_lt, ◌⊎◌}
use Rattle.base_types.specs.declared.indices.NetId.{NetId}
use Rattle.base_types.specs.declared.indices.WireId.{WireId}
use Rattle.net_ir.specs.declared.netlist.Op.{Op}
use Rattle.net_ir.specs.declared.netlist.Op.TheVariants.{Const, Copy, Not, And, Or}
use Rattle.net_ir.specs.declared.netlist.Gate.{Gate}
use Rattle.net_ir.specs.Gates.{operand_end, ReadsLower, op_value, value_in, gate_values}
use Rattle.net_simp.specs.declared.forms.Form.{Form}
use Rattle.net_simp.specs.SimpleNets.{reads, IsNoCopy}
use Rattle.net_simp.specs.Renaming.{stand_in, renamed_op, OwnNames}
use Rattle.net_simp.specs.Rules.{op_at, reduced_op}
use Rattle.net_simp.specs.Forms.{form_of}
use Rattle.net_simp.specs.Keeping.{KeepsValues, Any}
use Rattle.std.specs.Map.{lookup}
use Rattle.indexmap.specs.IndexMap.{IndexMap, IsEmpty}
use Rattle.base_facts.proofs.Tests.{if-false, if-true}
use Rattle.net_simp.specs.Drafts.{form_in, same_form, found_by, found_op, InRange, told, with_gate, name_of, set_form, with_form, no_copy, computes, Settled}
use Rattle.net_simp.specs.Drafts.{outright_op}
use Rattle.net_simp.specs.Drafts.{Finds, Settles, Drafted, FormsOnce, Folded}
use Rattle.net_simp.proofs.Keeping.{value-old, value-new, keeps-start, keeps-skip, keeps-push}
use Rattle.net_simp.proofs.Operators.{reads-low, renamed-value, renamed-low, renamed-from}
use Rattle.net_simp.proofs.Reductions.{Says, op_at-says, op_at-gate, op_at-is, op_at-old, idle, reduced-value, reduced-settled, reduced-low, outright-value}
use Rattle.net_simp.proofs.Reductions.{outright-settled, outright-low, reduced-same, reduced-again, outright-reduced}
use Rattle.net_simp.proofs.SameForms.{same-value, same_form-itself, same_form-is}

pub stand_in-old : (names : List NetId) (x : NetId) (n : ℕ) → n < length names → stand_in (names ++ x ∷ []) n ≡ stand_in names n
stand_in-old names x n low = ap (λ (y : NetId). y.0) (get_or_append_left names (x ∷ []) (record { 0 = n }) n low)

pub stand_in-new : (names : List NetId) (x : NetId) (n : ℕ) → length names ≡ n → stand_in (names ++ x ∷ []) n ≡ x.0
stand_in-new names x n last = ap (λ (y : NetId). y.0) (get_or_push names x (record { 0 = n }) n last)

-- ---- one more new gate keeps what was said of those before

settled-more : (first : ℕ) (gates : List Gate) (x : Gate) (op : Op) → operand_end op ≤ first + length gates → Settled first gates op
    → Settled first (gates ++ x ∷ []) op
settled-more first gates x (Const b) low s = tt
settled-more first gates x (Copy n) low s = subst no_copy (sym (op_at-old first gates x n.0 (omega arith))) s
settled-more first gates x (Not n) low s = subst computes (sym (op_at-old first gates x n.0 (omega arith))) s
settled-more first gates x (And m n) low s = (
  s.0,
  subst computes (sym (op_at-old first gates x m.0 (omega arith))) s.1,
  subst computes (sym (op_at-old first gates x n.0 (omega arith))) s.2,
)
settled-more first gates x (Or m n) low s = (
  s.0,
  subst computes (sym (op_at-old first gates x m.0 (omega arith))) s.1,
  subst computes (sym (op_at-old first gates x n.0 (omega arith))) s.2,
)

finds-more : (first : ℕ) (gates : List Gate) (x : Gate) (q : Form) (n : ℕ) → Finds first gates q n → Finds first (gates ++ x ∷ []) q n
finds-more first gates x q n f =
    let longer = length_push gates x in
    record {
      op = f.op;
      low = omega (arith, f.low);
      at = op_at-old first gates x n f.low ∙ f.at;
      form = f.form;
      no_copy_is = f.no_copy_is;
    }

reduced-more : (first : ℕ) (gates : List Gate) (x : Gate) (op : Op) → operand_end op ≤ first + length gates → reduced_op first gates op ≡ op
    → reduced_op first (gates ++ x ∷ []) op ≡ op
reduced-more first gates x op low reduced =
    reduced-same first first (gates ++ x ∷ []) gates op (λ n r. op_at-old first gates x n (reads-low op n (first + length gates) r low)) ∙ reduced

settles-push : (first : ℕ) (gates : List Gate) (x : Gate) → ReadsLower first gates → Settles first gates
    → operand_end x.op ≤ first + length gates → Settled first gates x.op → reduced_op first gates x.op ≡ x.op → (x.wire ≡ None → IsNoCopy x.op)
    → Settles first (gates ++ x ∷ [])
settles-push first gates x reads s low settled reduced silent = record {
  settled = All-push (λ (g : Gate). Settled first (gates ++ x ∷ []) g.op) gates x
      (λ k d h. let lower = reads k d h in settled-more first gates x (slice_index_or gates k d).op (omega arith) (s.settled k d h))
      (settled-more first gates x x.op low settled);
  reduced = All-push (λ (g : Gate). reduced_op first (gates ++ x ∷ []) g.op ≡ g.op) gates x
      (λ k d h. let lower = reads k d h in reduced-more first gates x (slice_index_or gates k d).op (omega arith) (s.reduced k d h))
      (reduced-more first gates x x.op low reduced);
  no_copies = All-push (λ (g : Gate). g.wire ≡ None → IsNoCopy g.op) gates x s.no_copies silent;
}

-- what a new gate is, with what then stands for the old one and is known
record Adds (first : ℕ) (old new : List Gate) (known later : Form → Option NetId) (g x : Gate) (name : NetId) : Type 0 where
  wires : x.wire ≡ g.wire
  low : operand_end x.op ≤ first + length new
  settled : Settled first new x.op
  reduced : reduced_op first new x.op ≡ x.op
  silent : x.wire ≡ None → IsNoCopy x.op
  value : (v : List Bool) → length v ≡ first → op_value (value_in (gate_values v new)) x.op ≡ op_value (value_in (gate_values v old)) g.op
  name_low : name.0 < first + length new + 1
  name_value : (v : List Bool) → length v ≡ first
      → value_in (gate_values v (new ++ x ∷ [])) name.0 ≡ op_value (value_in (gate_values v new)) x.op
  name_no_copy : no_copy (op_at first (new ++ x ∷ []) name.0)
  finds : (q : Form) (n : NetId) → later q ≡ Some n → Finds first (new ++ x ∷ []) q n.0
  stays : (q : Form) (n : NetId) → known q ≡ Some n → later q ≡ Some n
  knows : x.wire ≡ None → later (form_of x.op) ≡ Some (record { 0 = first + length new })

drafted-push : (first : ℕ) (old new : List Gate) (names : List NetId) (known later : Form → Option NetId) (g x : Gate) (name : NetId)
    → Drafted first old new names known → Adds first old new known later g x name
    → Drafted first (old ++ g ∷ []) (new ++ x ∷ []) (names ++ name ∷ []) later
drafted-push first old new names known later g x name d a =
    let k = d.keeps in
    let longer = length_push old g in
    let longer_names = length_push names name in
    let longer_new = length_push new x in
    let last : length names ≡ first + length old = d.count in
    let at_last = stand_in-new names name (first + length old) last in
    record {
      count = omega (arith, d.count);
      keeps = keeps-push first old new (stand_in names) (stand_in (names ++ name ∷ [])) Any g x k a.wires a.low a.value
          (λ n h asked. stand_in-old names name n (omega arith))
          (λ asked. let e = at_last in omega (arith, a.name_low))
          (λ asked v len. ap (value_in (gate_values v (new ++ x ∷ []))) at_last ∙ a.name_value v len);
      names_no_copy = λ n h. elim (cases_lt n (length names)) [
        | inl before ↦
            subst (λ m. no_copy (op_at first (new ++ x ∷ []) m)) (sym (stand_in-old names name n before))
            (subst no_copy (sym (op_at-old first new x (stand_in names n) (k.low n (omega arith) tt))) (d.names_no_copy n before))
        | inr after ↦
            let e : length names ≡ n = omega arith in
            subst (λ m. no_copy (op_at first (new ++ x ∷ []) m)) (sym (stand_in-new names name n e)) a.name_no_copy
      ];
      settles = settles-push first new x k.reads_lower d.settles a.low a.settled a.reduced a.silent;
      finds = a.finds;
      knows = λ j e h. elim (cases_lt j (length new)) [
        | inl before ↦
            let same = get_or_append_left new (x ∷ []) e j before in
            λ silent. ap (λ (y : Gate). later (form_of y.op)) same
            ∙ a.stays (form_of (slice_index_or new j e).op) (record { 0 = first + j })
            (d.knows j e before (sym (ap (λ (y : Gate). y.wire) same) ∙ silent))
        | inr after ↦
            let here : length new ≡ j = omega arith in
            let same = get_or_push new x e j here in
            λ silent. ap (λ (y : Gate). later (form_of y.op)) same
            ∙ a.knows (sym (ap (λ (y : Gate). y.wire) same) ∙ silent)
            ∙ ap (λ i. Some (record { 0 = first + i })) here
      ];
    }

-- ---- the operator that is found

-- what is so of the operator that the first pass makes of a gate
record Makes (first : ℕ) (old new : List Gate) (known : Form → Option NetId) (g : Gate) (op : Op) : Type 0 where
  low : operand_end op ≤ first + length new
  settled : Settled first new op
  reduced : reduced_op first new op ≡ op
  value : (v : List Bool) → length v ≡ first → op_value (value_in (gate_values v new)) op ≡ op_value (value_in (gate_values v old)) g.op
  unknown : IsNoCopy op → known (form_of op) ≡ None

found-makes : (first : ℕ) (old new : List Gate) (known : Form → Option NetId) (g : Gate) (op : Op) (o : Option NetId) → ReadsLower first new
    → ((q : Form) (n : NetId) → known q ≡ Some n → Finds first new q n.0)
    → operand_end op ≤ first + length new → Settled first new op → reduced_op first new op ≡ op
    → ((v : List Bool) → length v ≡ first → op_value (value_in (gate_values v new)) op ≡ op_value (value_in (gate_values v old)) g.op)
    → known (form_of op) ≡ o
    → Makes first old new known g (found_by o op)
found-makes first old new known g op None reads finds low settled reduced value e = record {
  low = low;
  settled = settled;
  reduced = reduced;
  value = value;
  unknown = λ fresh. e;
}
found-makes first old new known g op (Some n) reads finds low settled reduced value e =
    let f = finds (form_of op) n e in
    record {
      low = omega (arith, f.low);
      settled = subst no_copy (sym f.at) f.no_copy_is;
      reduced = refl;
      value = λ v len. op_at-says first new v n.0 reads len f.low f.op f.at
          ∙ same-value (value_in (gate_values v new)) f.op op f.form ∙ value v len;
      unknown = λ fresh. absurd fresh;
    }

made : (first : ℕ) (old new : List Gate) (names : List NetId) (known : Form → Option NetId) (g : Gate) → Drafted first old new names known
    → operand_end g.op ≤ length names
    → Makes first old new known g (found_op known (reduced_op first new (renamed_op (stand_in names) g.op)))
made first old new names known g d low =
    let k = d.keeps in
    let op = renamed_op (stand_in names) g.op in
    let below = λ (n : ℕ) (r : reads g.op n ≡ true). k.low n (omega (arith, reads-low g.op n (length names) r low, d.count)) tt in
    let op_low = renamed-low (stand_in names) g.op (first + length new) below in
    found-makes first old new known g (reduced_op first new op) (known (form_of (reduced_op first new op))) k.reads_lower d.finds
    (reduced-low first new op k.reads_lower op_low)
    (reduced-settled first new op op_low
    (λ n h r. renamed-from (stand_in names) g.op n (λ m. no_copy (op_at first new m)) r
    (λ m rm. d.names_no_copy m (reads-low g.op m (length names) rm low)))
    (λ n x h e. let at = op_at-gate first new n x h e in subst (Settled first new) (at.is idle) (d.settles.settled at.k idle at.within)))
    (reduced-again first new op)
    (λ v len. reduced-value (value_in (gate_values v new)) first new op op_low (λ n h. op_at-says first new v n k.reads_lower len h)
    ∙ renamed-value (stand_in names) (value_in (gate_values v new)) (value_in (gate_values v old)) g.op
    (λ n r. k.same v n len (omega (arith, reads-low g.op n (length names) r low, d.count)) tt))
    refl

-- ---- its gate

chosen-in : {X : Type 0} (b : Bool) (x y z : X) → (if b then x else y) ≡ z → ((b ≡ true) × (x ≡ z)) ⊎ ((b ≡ false) × (y ≡ z))
chosen-in true x y z e = inl (refl, e)
chosen-in false x y z e = inr (refl, e)

abbrev numbered : ℕ → NetId
numbered n = record { 0 = n }

op_at-new : (first : ℕ) (new : List Gate) (x : Gate) → op_at first (new ++ x ∷ []) (first + length new) ≡ Some x.op
op_at-new first new x =
    let longer = length_push new x in
    op_at-is first (new ++ x ∷ []) (first + length new) (length new) idle refl (omega arith)
    ∙ ap (λ (y : Gate). Some y.op) (get_or_push new x idle (length new) refl)

place-finds : (first : ℕ) (new : List Gate) (known : Form → Option NetId) (op : Op) (wire : Option WireId) → IsNoCopy op
    → ((q : Form) (n : NetId) → known q ≡ Some n → Finds first new q n.0)
    → (q : Form) (n : NetId) → set_form known op (first + length new) q ≡ Some n → Finds first (new ++ record { op = op; wire = wire } ∷ []) q n.0
place-finds first new known op wire fresh finds q n e =
    let x : Gate = record { op = op; wire = wire } in
    elim (chosen-in (same_form (form_of op) q) (Some (numbered (first + length new))) (known q) (Some n) e) [
      | inl p ↦
          let here : first + length new ≡ n.0 = cc in
          let longer = length_push new x in
          record {
            op = op;
            low = omega arith;
            at = ap (op_at first (new ++ x ∷ [])) (sym here) ∙ op_at-new first new x;
            form = same_form-is (form_of op) q p.0;
            no_copy_is = fresh;
          }
      | inr p ↦ finds-more first new x q n.0 (finds q n p.1)
    ]

place-stays : (known : Form → Option NetId) (op : Op) (own : ℕ) → known (form_of op) ≡ None
    → (q : Form) (n : NetId) → known q ≡ Some n → set_form known op own q ≡ Some n
place-stays known op own unknown q n e = elim (cases_Bool (same_form (form_of op) q)) [
  | inl is_true ↦
      let same = ap known (same_form-is (form_of op) q is_true) in
      let never : ⊥ = cc in absurd never
  | inr is_false ↦ if-false (same_form (form_of op) q) (Some (numbered own)) (known q) is_false ∙ e
]

-- a gate of its own
place : (first : ℕ) (old new : List Gate) (names : List NetId) (known : Form → Option NetId) (g : Gate) (op : Op)
    → Drafted first old new names known → Makes first old new known g op → IsNoCopy op
    → Drafted first (old ++ g ∷ []) (new ++ record { op = op; wire = g.wire } ∷ []) (names ++ numbered (first + length new) ∷ [])
    (set_form known op (first + length new))
place first old new names known g op d m fresh =
    let x : Gate = record { op = op; wire = g.wire } in
    drafted-push first old new names known (set_form known op (first + length new)) g x (numbered (first + length new)) d (record {
      wires = refl;
      low = m.low;
      settled = m.settled;
      reduced = m.reduced;
      silent = λ e. fresh;
      value = m.value;
      name_low = omega arith;
      name_value = λ v len. value-new v new x (first + length new) (omega arith);
      name_no_copy = subst no_copy (sym (op_at-new first new x)) fresh;
      finds = place-finds first new known op g.wire fresh d.finds;
      stays = place-stays known op (first + length new) (m.unknown fresh);
      knows = λ e. if-true (same_form (form_of op) (form_of op)) (Some (numbered (first + length new))) (known (form_of op))
          (same_form-itself (form_of op));
    })

-- a copy that carries a wire
tell : (first : ℕ) (old new : List Gate) (names : List NetId) (known : Form → Option NetId) (g : Gate) (n : NetId) (w : WireId)
    → Drafted first old new names known → Makes first old new known g (Copy n) → g.wire ≡ Some w
    → Drafted first (old ++ g ∷ []) (new ++ record { op = outright_op (op_at first new n.0) n; wire = Some w } ∷ []) (names ++ n ∷ []) known
tell first old new names known g n w d m carries =
    let x : Gate = record { op = outright_op (op_at first new n.0) n; wire = Some w } in
    let low : n.0 < first + length new = omega (arith, m.low) in
    let reads = d.keeps.reads_lower in
    drafted-push first old new names known known g x n d (record {
      wires = sym carries;
      low = outright-low (op_at first new n.0) n (first + length new) low;
      settled = outright-settled first new (op_at first new n.0) n m.settled;
      reduced = outright-reduced first new (op_at first new n.0) n;
      silent = λ e. let never : ⊥ = cc in absurd never;
      value = λ v len. outright-value (value_in (gate_values v new)) (op_at first new n.0) n (op_at-says first new v n.0 reads len low) ∙ m.value v len;
      name_low = omega arith;
      name_value = λ v len. value-old v new x n.0 (omega arith)
          ∙ sym (outright-value (value_in (gate_values v new)) (op_at first new n.0) n (op_at-says first new v n.0 reads len low));
      name_no_copy = subst no_copy (sym (op_at-old first new x n.0 low)) m.settled;
      finds = λ q j e. finds-more first new x q j.0 (d.finds q j e);
      stays = λ q j e. e;
      knows = λ e. let never : ⊥ = cc in absurd never;
    })

-- a copy that carries none
skip : (first : ℕ) (old new : List Gate) (names : List NetId) (known : Form → Option NetId) (g : Gate) (n : NetId)
    → Drafted first old new names known → Makes first old new known g (Copy n) → g.wire ≡ None
    → Drafted first (old ++ g ∷ []) new (names ++ n ∷ []) known
skip first old new names known g n d m silent =
    let k = d.keeps in
    let longer = length_push old g in
    let longer_names = length_push names n in
    let last : length names ≡ first + length old = d.count in
    let at_last = stand_in-new names n (first + length old) last in
    let low : n.0 < first + length new = omega (arith, m.low) in
    record {
      count = omega (arith, d.count);
      keeps = keeps-skip first old new (stand_in names) (stand_in (names ++ n ∷ [])) Any g k silent
          (λ j h asked. stand_in-old names n j (omega arith))
          (λ asked. let e = at_last in omega arith)
          (λ asked v len. ap (value_in (gate_values v new)) at_last ∙ m.value v len);
      names_no_copy = λ j h. elim (cases_lt j (length names)) [
        | inl before ↦ subst (λ i. no_copy (op_at first new i)) (sym (stand_in-old names n j before)) (d.names_no_copy j before)
        | inr after ↦
            let e : length names ≡ j = omega arith in
            subst (λ i. no_copy (op_at first new i)) (sym (stand_in-new names n j e)) m.settled
      ];
      settles = d.settles;
      finds = d.finds;
      knows = d.knows;
    }

copied : (first : ℕ) (old new : List Gate) (names : List NetId) (known : Form → Option NetId) (g : Gate) (n : NetId) (wire : Option WireId)
    → Drafted first old new names known → Makes first old new known g (Copy n) → g.wire ≡ wire
    → Drafted first (old ++ g ∷ []) (told first new n wire) (names ++ n ∷ []) known
copied first old new names known g n None d m e = skip first old new names known g n d m e
copied first old new names known g n (Some w) d m e = tell first old new names known g n w d m e

added : (first : ℕ) (old new : List Gate) (names : List NetId) (known : Form → Option NetId) (g : Gate) (op : Op)
    → Drafted first old new names known → Makes first old new known g op
    → Drafted first (old ++ g ∷ []) (with_gate first new op g.wire) (names ++ name_of op (first + length new) ∷ []) (with_form known op (first + length new))
added first old new names known g (Copy n) d m = copied first old new names known g n g.wire d m refl
added first old new names known g (Const b) d m = place first old new names known g (Const b) d m tt
added first old new names known g (Not n) d m = place first old new names known g (Not n) d m tt
added first old new names known g (And l n) d m = place first old new names known g (And l n) d m tt
added first old new names known g (Or l n) d m = place first old new names known g (Or l n) d m tt

-- the next of the old gates
pub drafted-next : (first k : ℕ) (gates new newer : List Gate) (names newer_names : List NetId) (known later : Form → Option NetId) (g : Gate) (op : Op)
    → Drafted first (take k gates) new names known
    → take (k + 1) gates ≡ take k gates ++ g ∷ []
    → operand_end g.op ≤ length names
    → op ≡ found_op known (reduced_op first new (renamed_op (stand_in names) g.op))
    → newer ≡ with_gate first new op g.wire
    → newer_names ≡ names ++ name_of op (first + length new) ∷ []
    → ((q : Form) → later q ≡ with_form known op (first + length new) q)
    → Drafted first (take (k + 1) gates) newer newer_names later
drafted-next first k gates new newer names newer_names known later g op d more low is gates_are names_are known_is =
    let makes = subst (Makes first (take k gates) new known g) (sym is) (made first (take k gates) new names known g d low) in
    let next = added first (take k gates) new names known g op d makes in
    let same : later ≡ with_form known op (first + length new) = λ i q. known_is q i in
    subst (λ old. Drafted first old newer newer_names later) (sym more)
    (subst (λ xs. Drafted first (take k gates ++ g ∷ []) xs newer_names later) (sym gates_are)
    (subst (λ ns. Drafted first (take k gates ++ g ∷ []) (with_gate first new op g.wire) ns later) (sym names_are)
    (subst (λ known. Drafted first (take k gates ++ g ∷ []) (with_gate first new op g.wire) (names ++ name_of op (first + length new) ∷ []) known)
    (sym same) next)))

op_at-below : (first n : ℕ) → n < first → op_at first [] n ≡ None
op_at-below first n low = if-true (nat_lt n first) None (Some idle.op) (lt-ltb n first low)

pub drafted-start : (first : ℕ) (names : List NetId) (known : Form → Option NetId) → length names ≡ first → OwnNames names
    → ((q : Form) → known q ≡ None) → Drafted first [] [] names known
drafted-start first names known count own nothing = record {
  count = omega arith;
  keeps = keeps-start first (stand_in names) Any (λ n h. own n (omega arith));
  names_no_copy = λ n h. subst no_copy (sym (op_at-below first (stand_in names n) (let e = own n h in omega arith))) tt;
  settles = record { settled = λ k d h. absurd (omega arith); reduced = λ k d h. absurd (omega arith); no_copies = λ k d h. absurd (omega arith) };
  finds = λ q n e. let none = nothing q in let never : ⊥ = cc in absurd never;
  knows = λ k d h. absurd (omega arith);
}

abbrev net_of : Option NetId → ℕ
net_of None = 0
net_of (Some n) = n.0

-- what the first pass makes
pub folded : (first : ℕ) (old new : List Gate) (names : List NetId) (known : Form → Option NetId) → Drafted first old new names known
    → Folded first old new names
folded first old new names known d = record {
  count = d.count;
  keeps = d.keeps;
  settles = d.settles;
  once = λ j k e hj hk sj sk same.
      let a = d.knows j e hj sj in
      let b = d.knows k e hk sk in
      let c = ap known same in
      let both : Some (numbered (first + j)) ≡ Some (numbered (first + k)) = cc in
      let nets : first + j ≡ first + k = ap net_of both in
      omega arith;
}

-- a new table knows no form
pub nothing-in : {S : Type 0} (m : IndexMap Form NetId S) → IsEmpty m → (q : Form) → form_in m q ≡ None
nothing-in m empty q = ap (λ es. lookup (same_form q) es) empty

-- ---- what the passes' calls ask for

pub in-range : (first : ℕ) (old new : List Gate) (names : List NetId) (known : Form → Option NetId) → Drafted first old new names known
    → InRange first new names known
in-range first old new names known d = record {
  stand_in_low = λ n h. d.keeps.low n (omega (arith, d.count)) tt;
  reads_lower = d.keeps.reads_lower;
  known_low = λ q n e. (d.finds q n e).low;
}

found-low : (first : ℕ) (new : List Gate) (names : List NetId) (known : Form → Option NetId) (op : Op) (o : Option NetId) → InRange first new names known
    → operand_end op ≤ first + length new → known (form_of op) ≡ o → operand_end (found_by o op) ≤ first + length new
found-low first new names known op None r low e = low
found-low first new names known op (Some n) r low e = let within = r.known_low (form_of op) n e in omega arith

pub renamed-end : (first : ℕ) (new : List Gate) (names : List NetId) (known : Form → Option NetId) (op : Op) → InRange first new names known
    → operand_end op ≤ length names → operand_end (renamed_op (stand_in names) op) ≤ first + length new
renamed-end first new names known op r low =
    renamed-low (stand_in names) op (first + length new) (λ n read. r.stand_in_low n (reads-low op n (length names) read low))

pub found-end : (first : ℕ) (new : List Gate) (names : List NetId) (known : Form → Option NetId) (op : Op) → InRange first new names known
    → operand_end op ≤ length names
    → operand_end (found_op known (reduced_op first new (renamed_op (stand_in names) op))) ≤ first + length new
found-end first new names known op r low =
    let x = reduced_op first new (renamed_op (stand_in names) op) in
    found-low first new names known x (known (form_of x)) r
    (reduced-low first new (renamed_op (stand_in names) op) r.reads_lower (renamed-end first new names known op r low)) refl
