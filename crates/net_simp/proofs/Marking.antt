-- Marks on the nets that are needed.
use Rattle.std.proofs.Common.{◌≡◌, ℕ, ◌+◌, ◌<◌, ◌≤◌, Bool, true, false, ◌||◌, ◌==◌, Option, None, Some, List, [], ◌∷◌, ◌++◌, length, map, replicate}
use Rattle.std.proofs.Common.{slice_index_or, set, refl, sym, ap, subst, ◌∙◌, arith, inl, inr, IsTrue}
use Rattle.std.specs.Prelude.{◌⊎◌, is_some}
use Rattle.std.proofs.lemmas.List.{get_or-set_same, get_or-set_other, get_or_default, get_or_append_left, get_or-append-add, get_or-replicate, get_or-map}
use Rattle.std.proofs.lemmas.List.{length-replicate, length-append, length-map}
use Rattle.std.proofs.lemmas.Bool.{eq-eqb, ne_eqb, cases_eq, cases_order, or_cases, or_left, or_right, both_ways}
use Rattle.base_facts.proofs.Tests.{or-false-back}
use Rattle.net_ir.specs.declared.netlist.Op.{Op}
use Rattle.net_ir.specs.declared.netlist.Op.TheVariants.{Const}
use Rattle.net_ir.specs.declared.netlist.Gate.{Gate}
use Rattle.net_ir.specs.Gates.{operand_end, ReadsLower}
use Rattle.net_simp.specs.SimpleNets.{reads}
use Rattle.net_simp.specs.Needs.{marked, ReadFrom, NeedsMet}
use Rattle.net_simp.proofs.Operators.{reads-low}

or-true : (b : Bool) → true ≡ (b || true)
or-true true = refl
or-true false = refl

-- one more mark
pub marked-set : (marks : List Bool) (m n : ℕ) → m < length marks → marked (set marks m true) n ≡ (marked marks n || m == n)
marked-set marks m n low = elim (cases_eq m n) [
  | inl same ↦
      ap (λ k. marked (set marks m true) k) (sym same) ∙ get_or-set_same marks m true false low
      ∙ or-true (marked marks n) ∙ ap (λ b. marked marks n || b) (sym (eq-eqb m n same))
  | inr apart ↦
      get_or-set_other marks m n true false (λ e. apart (sym e))
      ∙ or-false-back (marked marks n) ∙ ap (λ b. marked marks n || b) (sym (ne_eqb m n apart))
]

-- no gate yet
pub needs-start : (first : ℕ) (gates : List Gate) (marks : List Bool) (place : ℕ) → length gates ≤ place → NeedsMet first gates marks marks place
needs-start first gates marks place past = record {
  count = refl;
  stays = λ n is. is;
  closed = λ k d n from within kept read. absurd (omega arith);
  needed = λ n is. inl is;
}

read-later : (first : ℕ) (gates : List Gate) (marks more : List Bool) (place earlier n : ℕ) → earlier ≤ place
    → ((m : ℕ) → IsTrue (marked marks m) → IsTrue (marked more m)) → ReadFrom first gates marks place n → ReadFrom first gates more earlier n
read-later first gates marks more place earlier n before grows r = record {
  at = r.at;
  from = omega (arith, r.from);
  within = r.within;
  kept = grows (first + r.at) r.kept;
  read = r.read;
}

-- one more gate, which is not marked
pub needs-skip : (first : ℕ) (gates : List Gate) (before marks : List Bool) (k : ℕ) → NeedsMet first gates before marks (k + 1)
    → marked marks (first + k) ≡ false → NeedsMet first gates before marks k
needs-skip first gates before marks k m off = record {
  count = m.count;
  stays = m.stays;
  closed = λ j d n from within kept read. elim (cases_eq k j) [
    | inl same ↦ absurd (both_ways (marked marks (first + k)) off (ap (λ i. marked marks (first + i)) same ∙ kept))
    | inr apart ↦ m.closed j d n (omega arith) within kept read
  ];
  needed = λ n is. elim (m.needed n is) [
    | inl was ↦ inl was
    | inr r ↦ inr (read-later first gates marks marks (k + 1) k n (omega arith) (λ i e. e) r)
  ];
}

-- one more gate, which is marked: so is what it reads
pub needs-mark : (first : ℕ) (gates : List Gate) (before marks more : List Bool) (k : ℕ) (d : Gate) → ReadsLower first gates → k < length gates
    → NeedsMet first gates before marks (k + 1) → marked marks (first + k) ≡ true
    → length more ≡ length marks
    → ((n : ℕ) → marked more n ≡ (marked marks n || reads (slice_index_or gates k d).op n))
    → NeedsMet first gates before more k
needs-mark first gates before marks more k d reads_lower within_k m on count says =
    let op = (slice_index_or gates k d).op in
    let lower = reads_lower k d within_k in
    let grows = λ (n : ℕ) (is : marked marks n ≡ true). says n ∙ or_left (marked marks n) (reads op n) is in
    record {
      count = count ∙ m.count;
      stays = λ n is. grows n (m.stays n is);
      closed = λ j e n from within kept read.
          elim (or_cases (marked marks (first + j)) (reads op (first + j)) (sym (says (first + j)) ∙ kept)) [
            | inl was ↦ elim (cases_eq k j) [
              | inl same ↦
                  let here : (slice_index_or gates j e).op ≡ op =
                  ap (λ i. (slice_index_or gates i e).op) (sym same) ∙ ap (λ (g : Gate). g.op) (get_or_default gates k e d within_k) in
                  says n ∙ or_right (marked marks n) (reads op n) (ap (λ o. reads o n) (sym here) ∙ read)
              | inr apart ↦ grows n (m.closed j e n (omega arith) within was read)
            ]
            | inr reads_it ↦ let low = reads-low op (first + j) (first + k) reads_it lower in absurd (omega arith)
          ];
      needed = λ n is. elim (or_cases (marked marks n) (reads op n) (sym (says n) ∙ is)) [
        | inl was ↦ elim (m.needed n was) [
          | inl first_was ↦ inl first_was
          | inr r ↦ inr (read-later first gates marks more (k + 1) k n (omega arith) grows r)
        ]
        | inr read ↦ inr (record {
          at = k;
          from = omega arith;
          within = within_k;
          kept = grows (first + k) on;
          read = λ e. ap (λ (g : Gate). reads g.op n) (get_or_default gates k e d within_k) ∙ read;
        })
      ];
    }

-- ---- the first marks

abbrev pub first_marks : ℕ → List Gate → List Bool
first_marks first gates = replicate first true ++ map (λ (g : Gate). is_some g.wire) gates

pub first-low : (first : ℕ) (gates : List Gate) (n : ℕ) → n < first → marked (first_marks first gates) n ≡ true
first-low first gates n low =
    get_or_append_left (replicate first true) (map (λ (g : Gate). is_some g.wire) gates) false n (omega (arith, length-replicate first true))
    ∙ get_or-replicate first n true false low

pub first-gate : (first : ℕ) (gates : List Gate) (k : ℕ) (d : Gate) → k < length gates
    → marked (first_marks first gates) (first + k) ≡ is_some (slice_index_or gates k d).wire
first-gate first gates k d low =
    ap (λ m. marked (first_marks first gates) (m + k)) (sym (length-replicate first true))
    ∙ get_or-append-add (replicate first true) (map (λ (g : Gate). is_some g.wire) gates) k false
    ∙ get_or-map (λ (g : Gate). is_some g.wire) gates k d false low

pub first_marks-length : (first : ℕ) (gates : List Gate) → length (first_marks first gates) ≡ first + length gates
first_marks-length first gates =
    length-append (replicate first true) (map (λ (g : Gate). is_some g.wire) gates)
    ∙ ap (λ n. n + length (map (λ (g : Gate). is_some g.wire) gates)) (length-replicate first true)
    ∙ ap (λ n. first + n) (length-map gates (λ (g : Gate). is_some g.wire))
