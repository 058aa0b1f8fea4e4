-- Numbers of nets without those that are not marked, and the gates that are left.
use Rattle.std.proofs.Common.{◌≡◌, ℕ, ◌+◌, ◌-◌, ◌<◌, ◌≤◌, zero, suc, Bool, true, false, Option, None, Some, List, [], ◌∷◌, ◌++◌, length, take, slice_index_or}
use Rattle.std.proofs.Common.{if◌then◌else◌, refl, sym, ap, subst, ◌∙◌, arith, inl, inr, IsTrue}
use Rattle.std.specs.Prelude.{is_some}
use Rattle.std.proofs.lemmas.List.{get_or_append_left, get_or_push, length_push, take_more, length-take-le, get_or-take}
use Rattle.std.proofs.lemmas.Bool.{cases_lt, cases_eq, cases_order, both_ways}
use Rattle.base_types.specs.declared.indices.NetId.{NetId}
use Rattle.base_types.specs.declared.indices.WireId.{WireId}
use Rattle.net_ir.specs.declared.netlist.Op.{Op}
use Rattle.net_ir.specs.declared.netlist.Op.TheVariants.{Const, Copy, Not, And, Or}
use Rattle.net_ir.specs.declared.netlist.Gate.{Gate}
use Rattle.net_ir.specs.Gates.{operand_end, ReadsLower, op_value, value_in, gate_values}
use Rattle.net_simp.specs.SimpleNets.{reads}
use Rattle.net_simp.specs.Renaming.{stand_in, renamed_op, OwnNames}
use Rattle.net_simp.specs.Keeping.{KeepsValues}
use Rattle.net_simp.specs.Needs.{marked, Closed}
use Rattle.net_simp.specs.Packing.{rank, ComesFrom, Packed}
use Rattle.net_simp.proofs.Keeping.{value-new, keeps-start, keeps-skip, keeps-push}
use Rattle.net_simp.proofs.Operators.{reads-low, renamed-value, renamed-low, renamed-same}
use Rattle.net_simp.proofs.Drafting.{stand_in-old, stand_in-new}

abbrev one_if : Bool → ℕ
one_if b = if b then 1 else 0

chosen-one : (b : Bool) → b ≡ true → one_if b ≡ 1
chosen-one true e = refl
chosen-one false e = absurd (both_ways false refl e)

chosen-none : (b : Bool) → b ≡ false → one_if b ≡ 0
chosen-none true e = absurd (both_ways true e refl)
chosen-none false e = refl

rank-marked : (marks : List Bool) (n : ℕ) → marked marks n ≡ true → rank marks (suc n) ≡ rank marks n + 1
rank-marked marks n on = ap (λ k. rank marks n + k) (chosen-one (marked marks n) on)

rank-other : (marks : List Bool) (n : ℕ) → marked marks n ≡ false → rank marks (suc n) ≡ rank marks n
rank-other marks n off = let e = ap (λ k. rank marks n + k) (chosen-none (marked marks n) off) in omega arith

rank-rises : (marks : List Bool) (m n : ℕ) → rank marks m ≤ rank marks (m + n)
rank-rises marks m zero = let e : m ≡ m + 0 = omega arith in let f = ap (rank marks) e in omega arith
rank-rises marks m (suc n) =
    let before = rank-rises marks m n in
    let e : m + suc n ≡ suc (m + n) = omega arith in
    let f = ap (rank marks) e in
    omega arith

rank-lt : (marks : List Bool) (m n : ℕ) → m < n → marked marks m ≡ true → rank marks m < rank marks n
rank-lt marks m n low on =
    let step = rank-marked marks m on in
    let rise = rank-rises marks (suc m) (n - suc m) in
    let e : suc m + (n - suc m) ≡ n = omega arith in
    let f = ap (rank marks) e in
    omega arith

pub rank-injective : (marks : List Bool) (m n : ℕ) → marked marks m ≡ true → marked marks n ≡ true → rank marks m ≡ rank marks n → m ≡ n
rank-injective marks m n here there same = elim (cases_order m n) [
  | inl e ↦ e
  | inr apart ↦ elim apart [
    | inl below ↦ let less = rank-lt marks m n below here in absurd (omega arith)
    | inr above ↦ let less = rank-lt marks n m above there in absurd (omega arith)
  ]
]

pub rank-own : (marks : List Bool) (first n : ℕ) → ((m : ℕ) → m < first → marked marks m ≡ true) → n ≤ first → rank marks n ≡ n
rank-own marks first zero all low = refl
rank-own marks first (suc n) all low =
    let before = rank-own marks first n all (omega arith) in
    let step = rank-marked marks n (all n (omega arith)) in
    omega arith

silent-from : (w : Option WireId) → (IsTrue (is_some w) → ⊥) → w ≡ None
silent-from None never = refl
silent-from (Some w) never = absurd (never refl)

from-more : (first : ℕ) (marks : List Bool) (gates new : List Gate) (g : Gate) (place : ℕ) → ComesFrom first marks gates new place
    → ComesFrom first marks (gates ++ g ∷ []) new place
from-more first marks gates new g place c =
    let longer = length_push gates g in
    record {
      at = c.at;
      within = omega (arith, c.within);
      kept = c.kept;
      ranked = c.ranked;
      wire = λ d. c.wire d ∙ sym (ap (λ (x : Gate). x.wire) (get_or_append_left gates (g ∷ []) d c.at c.within));
      op = λ d. c.op d ∙ sym (ap (λ (x : Gate). renamed_op (rank marks) x.op) (get_or_append_left gates (g ∷ []) d c.at c.within));
    }

from-longer : (first : ℕ) (marks : List Bool) (gates new : List Gate) (x : Gate) (place : ℕ) → place < length new → ComesFrom first marks gates new place
    → ComesFrom first marks gates (new ++ x ∷ []) place
from-longer first marks gates new x place low c = record {
  at = c.at;
  within = c.within;
  kept = c.kept;
  ranked = c.ranked;
  wire = λ d. ap (λ (y : Gate). y.wire) (get_or_append_left new (x ∷ []) d place low) ∙ c.wire d;
  op = λ d. ap (λ (y : Gate). y.op) (get_or_append_left new (x ∷ []) d place low) ∙ c.op d;
}

abbrev pub numbered : ℕ → NetId
numbered n = record { 0 = n }

-- the name of one more net
names-more : (marks : List Bool) (names : List NetId) (end total : ℕ) → length names ≡ end → total ≡ rank marks end
    → ((n : ℕ) → n < length names → stand_in names n ≡ rank marks n)
    → (n : ℕ) → n < length (names ++ numbered total ∷ []) → stand_in (names ++ numbered total ∷ []) n ≡ rank marks n
names-more marks names end total count is said n low = elim (cases_lt n (length names)) [
  | inl before ↦ stand_in-old names (numbered total) n before ∙ said n before
  | inr after ↦
      let longer = length_push names (numbered total) in
      let e : length names ≡ n = omega arith in
      stand_in-new names (numbered total) n e ∙ is ∙ ap (rank marks) (sym count ∙ e)
]

-- one more gate, which is marked
packed-keep : (first : ℕ) (marks : List Bool) (old new : List Gate) (names : List NetId) (g : Gate) → Packed first marks old new names
    → operand_end g.op ≤ first + length old
    → ((n : ℕ) → IsTrue (reads g.op n) → IsTrue (marked marks n))
    → marked marks (first + length old) ≡ true
    → Packed first marks (old ++ g ∷ []) (new ++ record { op = renamed_op (rank marks) g.op; wire = g.wire } ∷ [])
    (names ++ numbered (first + length new) ∷ [])
packed-keep first marks old new names g p low closed on =
    let x : Gate = record { op = renamed_op (rank marks) g.op; wire = g.wire } in
    let k = p.keeps in
    let longer = length_push old g in
    let longer_new = length_push new x in
    let longer_names = length_push names (numbered (first + length new)) in
    let step = rank-marked marks (first + length old) on in
    let e : first + length (old ++ g ∷ []) ≡ suc (first + length old) = omega arith in
    let stepped = ap (rank marks) e in
    let count = p.count in
    let total = p.total in
    record {
      count = omega arith;
      stand_in_is = names-more marks names (first + length old) (first + length new) p.count p.total p.stand_in_is;
      total = omega arith;
      from = λ j h. elim (cases_lt j (length new)) [
        | inl before ↦ from-longer first marks (old ++ g ∷ []) new x j before (from-more first marks old new g j (p.from j before))
        | inr after ↦
            let here : length new ≡ j = omega arith in
            record {
              at = length old;
              within = omega arith;
              kept = on;
              ranked = sym p.total ∙ ap (λ i. first + i) here;
              wire = λ d. ap (λ (y : Gate). y.wire) (get_or_push new x d j here) ∙ sym (ap (λ (y : Gate). y.wire) (get_or_push old g d (length old) refl));
              op = λ d. ap (λ (y : Gate). y.op) (get_or_push new x d j here)
                  ∙ sym (ap (λ (y : Gate). renamed_op (rank marks) y.op) (get_or_push old g d (length old) refl));
            }
      ];
      keeps = keeps-push first old new (rank marks) (rank marks) (λ n. IsTrue (marked marks n)) g x k refl
          (renamed-low (rank marks) g.op (first + length new)
          (λ n r. k.low n (reads-low g.op n (first + length old) r low) (closed n r)))
          (λ v len. renamed-value (rank marks) (value_in (gate_values v new)) (value_in (gate_values v old)) g.op
          (λ n r. k.same v n len (reads-low g.op n (first + length old) r low) (closed n r)))
          (λ n h asked. refl)
          (λ asked. omega arith)
          (λ asked v len. value-new v new x (rank marks (first + length old)) (omega arith));
    }

-- one more gate, which is not
packed-skip : (first : ℕ) (marks : List Bool) (old new : List Gate) (names : List NetId) (g : Gate) → Packed first marks old new names
    → g.wire ≡ None
    → marked marks (first + length old) ≡ false
    → Packed first marks (old ++ g ∷ []) new (names ++ numbered (first + length new) ∷ [])
packed-skip first marks old new names g p silent off =
    let k = p.keeps in
    let longer = length_push old g in
    let longer_names = length_push names (numbered (first + length new)) in
    let step = rank-other marks (first + length old) off in
    let e : first + length (old ++ g ∷ []) ≡ suc (first + length old) = omega arith in
    let stepped = ap (rank marks) e in
    let count = p.count in
    let total = p.total in
    record {
      count = omega arith;
      stand_in_is = names-more marks names (first + length old) (first + length new) p.count p.total p.stand_in_is;
      total = omega arith;
      from = λ j h. from-more first marks old new g j (p.from j h);
      keeps = keeps-skip first old new (rank marks) (rank marks) (λ n. IsTrue (marked marks n)) g k silent
          (λ n h asked. refl)
          (λ asked. absurd (both_ways (marked marks (first + length old)) off asked))
          (λ asked v len. absurd (both_ways (marked marks (first + length old)) off asked));
    }

pub packed-start : (first : ℕ) (marks : List Bool) (names : List NetId) → ((m : ℕ) → m < first → marked marks m ≡ true) → length names ≡ first
    → OwnNames names → Packed first marks [] [] names
packed-start first marks names all count own =
    let e : first + 0 ≡ first = omega arith in
    let whole = rank-own marks first first all (omega arith) in
    let at_end = ap (rank marks) e in
    record {
      count = omega arith;
      stand_in_is = λ n h. own n h ∙ sym (rank-own marks first n all (omega arith));
      total = omega arith;
      from = λ j h. absurd (omega arith);
      keeps = keeps-start first (rank marks) (λ n. IsTrue (marked marks n)) (λ n h. rank-own marks first n all (omega arith));
    }

-- the next gate, which is marked
pub packed-next : (first k : ℕ) (marks : List Bool) (gates new newer : List Gate) (names newer_names : List NetId) (g x : Gate) (d : Gate)
    → Closed first gates marks → ReadsLower first gates → Packed first marks (take k gates) new names
    → k < length gates → g ≡ slice_index_or gates k d → marked marks (first + k) ≡ true
    → x.op ≡ renamed_op (stand_in names) g.op → x.wire ≡ g.wire
    → newer ≡ new ++ x ∷ [] → newer_names ≡ names ++ numbered (first + length new) ∷ []
    → Packed first marks (take (k + 1) gates) newer newer_names
packed-next first k marks gates new newer names newer_names g x d c reads_lower p low is on op wire gates_are names_are =
    let many : length (take k gates) ≡ k = length-take-le k gates (omega arith) in
    let lower = reads_lower k d low in
    let same : slice_index_or gates k d ≡ g = sym is in
    let end : operand_end g.op ≤ first + k = subst (λ (y : Gate). operand_end y.op ≤ first + k) same lower in
    let count = p.count in
    let closed = λ (n : ℕ) (r : reads g.op n ≡ true). c.closed k d n low on (ap (λ (y : Gate). reads y.op n) same ∙ r) in
    let stand_in_ops : renamed_op (stand_in names) g.op ≡ renamed_op (rank marks) g.op =
    renamed-same (stand_in names) (rank marks) g.op (λ n r. p.stand_in_is n (let below = reads-low g.op n (first + k) r end in omega arith)) in
    let whole : x ≡ record { op = renamed_op (rank marks) g.op; wire = g.wire } = λ i. record { op = (op ∙ stand_in_ops) i; wire = wire i } in
    let next = packed-keep first marks (take k gates) new names g p (omega arith) closed (ap (λ i. marked marks (first + i)) many ∙ on) in
    let more : take (k + 1) gates ≡ take k gates ++ g ∷ [] = take_more gates k d low ∙ ap (λ (y : Gate). take k gates ++ y ∷ []) same in
    subst (λ old. Packed first marks old newer newer_names) (sym more)
    (subst (λ ns. Packed first marks (take k gates ++ g ∷ []) newer ns) (sym names_are)
    (subst (λ gs. Packed first marks (take k gates ++ g ∷ []) gs (names ++ numbered (first + length new) ∷ []))
    (sym (gates_are ∙ ap (λ (y : Gate). new ++ y ∷ []) whole)) next))

-- the next gate, which is not
pub packed-past : (first k : ℕ) (marks : List Bool) (gates new : List Gate) (names newer_names : List NetId) (d : Gate)
    → Closed first gates marks → Packed first marks (take k gates) new names
    → k < length gates → marked marks (first + k) ≡ false
    → newer_names ≡ names ++ numbered (first + length new) ∷ []
    → Packed first marks (take (k + 1) gates) new newer_names
packed-past first k marks gates new names newer_names d c p low off names_are =
    let g = slice_index_or gates k d in
    let many : length (take k gates) ≡ k = length-take-le k gates (omega arith) in
    let silent = silent-from g.wire (λ some. both_ways (marked marks (first + k)) off (c.carriers k d low some)) in
    let next = packed-skip first marks (take k gates) new names g p silent (ap (λ i. marked marks (first + i)) many ∙ off) in
    subst (λ old. Packed first marks old new newer_names) (sym (take_more gates k d low))
    (subst (λ ns. Packed first marks (take k gates ++ g ∷ []) new ns) (sym names_are) next)

-- where a marked gate stands
pub record Lands (first : ℕ) (marks : List Bool) (gates new : List Gate) (k : ℕ) : Type 0 where
  pub place : ℕ
  pub within : place < length new
  pub ranked : rank marks (first + k) ≡ first + place
  pub wire : (d : Gate) → (slice_index_or new place d).wire ≡ (slice_index_or gates k d).wire
  pub op : (d : Gate) → (slice_index_or new place d).op ≡ renamed_op (rank marks) (slice_index_or gates k d).op

pub lands : (first : ℕ) (marks : List Bool) (gates new : List Gate) (names : List NetId) (k : ℕ) → Closed first gates marks
    → Packed first marks gates new names → k < length gates → marked marks (first + k) ≡ true → Lands first marks gates new k
lands first marks gates new names k c p low on =
    let below = rank-lt marks (first + k) (first + length gates) (omega arith) on in
    let rise = rank-rises marks first k in
    let own = rank-own marks first first c.low (omega arith) in
    let total = p.total in
    let place = rank marks (first + k) - first in
    let f = p.from place (omega arith) in
    let there : first + place ≡ rank marks (first + k) = omega arith in
    let nets = rank-injective marks (first + f.at) (first + k) f.kept on (f.ranked ∙ there) in
    let same : f.at ≡ k = omega arith in
    record {
      place = place;
      within = omega arith;
      ranked = sym there;
      wire = λ d. f.wire d ∙ ap (λ i. (slice_index_or gates i d).wire) same;
      op = λ d. f.op d ∙ ap (λ i. renamed_op (rank marks) (slice_index_or gates i d).op) same;
    }
