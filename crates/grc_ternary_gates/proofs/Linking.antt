-- The last gate that reads a node, one gate on.
use Rattle.std.proofs.Common.{◌≡◌, ℕ, ◌+◌, ◌-◌, ◌<◌, ◌≤◌, Bool, true, List, [], ◌∷◌, ◌++◌, length, slice_index, refl, sym, ap, ◌∙◌, subst, inl}
use Rattle.std.proofs.Common.{inr, ⊎_elim, arith}
use Rattle.std.specs.Prelude.{slice_set, Option, Some, None}
use Rattle.std.proofs.lemmas.Bool.{cases_eq, cases_lt}
use Rattle.std.proofs.lemmas.List.{get_or-set_same, get_or-set_other, get_or_push, get_or_append_left, length-set}
use Rattle.est_kernel.specs.Statuses.{Status}
use Rattle.grc_ternary_gates.specs.declared.gates.Gate.{Gate}
use Rattle.grc_ternary_gates.specs.declared.gates.Side.{Side}
use Rattle.grc_ternary_gates.specs.Linking.{IsEarlier, IsLastReader, Reads, earlier_of, last_with}
use Rattle.grc_ternary_gates.specs.Solving.{Underway, with_readers, with_readers_below, without}
use Rattle.grc_ternary_gates.specs.Systems.{gate_at, operand}
use Rattle.grc_ternary_gates.proofs.Stepping.{due_cases, due_other, due_reader, with_more, without-cases}

-- no gate is before the first
pub reader-none : (side : Side) (all : List Gate) (node : ℕ) → IsLastReader side all node 0 0
reader-none side all node = record {
  within = omega arith;
  reads = λ h. absurd (omega arith);
  none_between = λ k low high r. absurd (omega arith);
}

-- a gate is the last one that reads its own operand
reader-here : (side : Side) (all : List Gate) (node k : ℕ) → Reads side all k node → IsLastReader side all node (k + 1) (k + 1)
reader-here side all node k r = record {
  within = omega arith;
  reads = λ h. let e : k ≡ k + 1 - 1 = omega arith in subst (λ j. Reads side all j node) e r;
  none_between = λ j low high s. absurd (omega arith);
}

-- and not of another node
reader-other : (side : Side) (all : List Gate) (node k last : ℕ) → (Reads side all k node → ⊥) → IsLastReader side all node k last
    → IsLastReader side all node (k + 1) last
reader-other side all node k last not before = record {
  within = let w = before.within in omega arith;
  reads = before.reads;
  none_between = λ j low high r. ⊎_elim
      (λ (same : j ≡ k). not (subst (λ i. Reads side all i node) same r))
      (λ (apart : j ≡ k → ⊥). before.none_between j low (omega arith) r)
      (cases_eq j k);
}

-- one gate more changes what is the last reader of its own operand alone
pub last-more : (side : Side) (all : List Gate) (last : List ℕ) (k : ℕ) (o : Option ℕ) → o ≡ operand side (gate_at all k)
    → ((a : ℕ) → o ≡ Some a → a < length last)
    → ((node : ℕ) → node < length last → IsLastReader side all node k (slice_index last node))
    → (node : ℕ) → node < length last → IsLastReader side all node (k + 1) (slice_index (last_with last k o) node)
last-more side all last k None is fits before node low =
    reader-other side all node k _ (λ r. let e : None ≡ Some node = is ∙ r in cc) (before node low)
last-more side all last k (Some a) is fits before node low = ⊎_elim
    (λ (same : node ≡ a).
    let at : slice_index (slice_set last a (k + 1)) node ≡ k + 1 =
    ap (slice_index (slice_set last a (k + 1))) same ∙ get_or-set_same last a (k + 1) 0 (fits a refl) in
    subst (IsLastReader side all node (k + 1)) (sym at) (reader-here side all node k (sym is ∙ ap Some (sym same))))
    (λ (apart : node ≡ a → ⊥).
    let at : slice_index (slice_set last a (k + 1)) node ≡ slice_index last node = get_or-set_other last a node (k + 1) 0 apart in
    subst (IsLastReader side all node (k + 1)) (sym at)
    (reader-other side all node k _ (λ r. let e : Some a ≡ Some node = is ∙ r in let f : node ≡ a = cc in apart f) (before node low)))
    (cases_eq node a)

pub length-last : (last : List ℕ) (k : ℕ) (o : Option ℕ) → length (last_with last k o) ≡ length last
length-last last k None = refl
length-last last k (Some a) = length-set last a (k + 1)

-- the last one before a gate that has the same operand
earlier-is : (side : Side) (all : List Gate) (last : List ℕ) (k : ℕ) (o : Option ℕ) → o ≡ operand side (gate_at all k)
    → ((a : ℕ) → o ≡ Some a → a < length last)
    → ((node : ℕ) → node < length last → IsLastReader side all node k (slice_index last node)) → IsEarlier side all k (earlier_of last o)
earlier-is side all last k None is fits before = record {
  within = omega arith;
  same = λ node r. let e : None ≡ Some node = is ∙ r in cc;
}
earlier-is side all last k (Some a) is fits before = record {
  within = (before a (fits a refl)).within;
  same = λ node r.
      let e : Some a ≡ Some node = is ∙ r in
      let f : a ≡ node = cc in
      subst (λ n. IsLastReader side all n k (slice_index last a)) f (before a (fits a refl));
}

pub earlier-more : (side : Side) (all : List Gate) (last earlier : List ℕ) (k : ℕ) (o : Option ℕ) → length earlier ≡ k → o ≡ operand side (gate_at all k)
    → ((a : ℕ) → o ≡ Some a → a < length last)
    → ((node : ℕ) → node < length last → IsLastReader side all node k (slice_index last node))
    → ((j : ℕ) → j < k → IsEarlier side all j (slice_index earlier j))
    → (j : ℕ) → j < k + 1 → IsEarlier side all j (slice_index (earlier ++ earlier_of last o ∷ []) j)
earlier-more side all last earlier k o len is fits before each j low =
    let x = earlier_of last o in
    ⊎_elim
    (λ (same : j ≡ k).
    let at : slice_index (earlier ++ x ∷ []) j ≡ x = ap (slice_index (earlier ++ x ∷ [])) same ∙ get_or_push earlier x 0 k len in
    let E : ℕ → ℕ → Type 0 = λ i y. IsEarlier side all i y in
    subst (E j) (sym at) (subst (λ i. E i x) (sym same) (earlier-is side all last k o is fits before)))
    (λ (apart : j ≡ k → ⊥).
    let under : j < length earlier = omega arith in
    let at : slice_index (earlier ++ x ∷ []) j ≡ slice_index earlier j = get_or_append_left earlier (x ∷ []) 0 j under in
    subst (IsEarlier side all j) (sym at) (each j (omega arith)))
    (cases_eq j k)

-- Once the last reader below an end is looked at, the readers below the next end are left.
pub next-readers : (all : List Gate) (sources : List Bool) (V : ℕ → Status) (stack : List ℕ) (height : ℕ) (side : Side) (node last next : ℕ) (todo : ℕ → Bool)
    → IsLastReader side all node (last - 1) next → 0 < last
    → Underway all sources V stack height (without (last - 1) (with_readers_below all side node last todo))
    → Underway all sources V stack height (with_readers_below all side node next todo)
next-readers all sources V stack height side node last next todo reader some u =
    with_more all sources V stack height (without (last - 1) (with_readers_below all side node last todo))
    (with_readers_below all side node next todo) by u
  where
    apart : (n : ℕ) → (n ≡ last - 1 → ⊥) → n < last → n < last - 1
    apart n q below = ⊎_elim (λ (e : n ≡ last - 1). absurd (q e)) (λ (e : n ≡ last - 1 → ⊥). omega arith) (cases_eq n (last - 1))

    by : (n : ℕ) → n < length all → without (last - 1) (with_readers_below all side node last todo) n ≡ true
        → with_readers_below all side node next todo n ≡ true
    by n low h =
        let p = without-cases (last - 1) n (with_readers_below all side node last todo) h in
        elim (due_cases all side node last n todo p.0) [
          | inl due ↦ due_other all side node next n todo due
          | inr r ↦ ⊎_elim
              (λ (under : n < next). due_reader all side node next n todo under r.0)
              (λ (above : next ≤ n). let q = p.1 in let below = r.1 in absurd (reader.none_between n above (apart n q below) r.0))
              (cases_lt n next)
        ]

-- the readers of a node are those below its last one
pub first-readers : (all : List Gate) (sources : List Bool) (V : ℕ → Status) (stack : List ℕ) (height : ℕ) (side : Side) (node last : ℕ) (todo : ℕ → Bool)
    → IsLastReader side all node (length all) last → Underway all sources V stack height (with_readers all side node todo)
    → Underway all sources V stack height (with_readers_below all side node last todo)
first-readers all sources V stack height side node last todo reader u =
    with_more all sources V stack height (with_readers all side node todo) (with_readers_below all side node last todo) by u
  where
    by : (n : ℕ) → n < length all → with_readers all side node todo n ≡ true → with_readers_below all side node last todo n ≡ true
    by n low h = elim (due_cases all side node (length all) n todo h) [
      | inl due ↦ due_other all side node last n todo due
      | inr r ↦ ⊎_elim
          (λ (under : n < last). due_reader all side node last n todo under r.0)
          (λ (above : last ≤ n). absurd (reader.none_between n above low r.0))
          (cases_lt n last)
    ]

-- no reader is below 0
pub no-readers : (all : List Gate) (sources : List Bool) (V : ℕ → Status) (stack : List ℕ) (height : ℕ) (side : Side) (node end : ℕ) (todo : ℕ → Bool)
    → end ≡ 0 → Underway all sources V stack height (with_readers_below all side node end todo) → Underway all sources V stack height todo
no-readers all sources V stack height side node end todo none u =
    with_more all sources V stack height (with_readers_below all side node end todo) todo by u
  where
    by : (n : ℕ) → n < length all → with_readers_below all side node end todo n ≡ true → todo n ≡ true
    by n low h = elim (due_cases all side node end n todo h) [
      | inl due ↦ due
      | inr r ↦ let q = r.1 in absurd (omega arith)
    ]
