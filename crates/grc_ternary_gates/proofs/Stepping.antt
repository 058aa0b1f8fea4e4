-- What is known of the nodes grows with each one that is decided, and stays below every solution.
use Rattle.std.proofs.Common.{◌≡◌, ◌≢◌, ◌⊎◌, ℕ, ◌+◌, ◌<◌, ◌≤◌, Bool, true, false, not, ◌==◌, ◌&&◌, List, length, slice_index, refl, sym, ap, ◌∙◌}
use Rattle.std.proofs.Common.{subst, inl, inr, ⊎_elim, arith}
use Rattle.std.specs.Prelude.{slice_set, nat_lt, Option, Some, None}
use Rattle.std.proofs.lemmas.Bool.{cases_eq, eqb-true, eq-eqb, false≢true, or_left, or_right, or_cases, and_parts, ltb-true, lt-ltb, le-ltb, cases_lt}
use Rattle.std.proofs.lemmas.List.{get_or-set_same, get_or-set_other}
use Rattle.est_kernel.specs.Laws.{IsBelow}
use Rattle.est_kernel.specs.Statuses.{Status, Plus, Minus, Unknown, opposite, conjunction, disjunction}
use Rattle.est_kernel.proofs.Exports.{below_self, below_trans, opposite_below}
use Rattle.grc_ternary_gates.specs.declared.gates.Gate.{Gate}
use Rattle.grc_ternary_gates.specs.declared.gates.Gate.TheVariants as gates
use Rattle.grc_ternary_gates.specs.declared.gates.Side.{Side}
use Rattle.grc_ternary_gates.specs.declared.gates.Side.TheVariants as sides
use Rattle.grc_ternary_gates.specs.Linking.{Reads}
use Rattle.grc_ternary_gates.specs.Solving.{Underway, without, is_operand, with_readers, with_readers_below}
use Rattle.grc_ternary_gates.specs.Systems.{IsLeastSolution, gate_at, gate_status, operand}

-- of what is not known all that is below it is not known
pub below_unknown : (v : Status) → IsBelow v Unknown → v ≡ Unknown
below_unknown Plus h = sym h
below_unknown Minus h = sym h
below_unknown Unknown h = refl

-- what is below another status, and known, is that status
pub known_below : (u v : Status) → u ≢ Unknown → IsBelow u v → u ≡ v
known_below Plus v k h = sym h
known_below Minus v k h = sym h
known_below Unknown v k h = absurd (k refl)

conjunction_below : (a b u v : Status) → IsBelow a u → IsBelow b v → IsBelow (conjunction a b) (conjunction u v)
conjunction_below Minus b u v h k = ap (λ x. conjunction x v) h
conjunction_below Plus b u v h k = let B : Status → Type 0 = λ x. IsBelow b (conjunction x v) in subst B (sym h) k
conjunction_below Unknown Minus u v h k = ap (conjunction u) k ∙ minus u where
  minus : (u : Status) → conjunction u Minus ≡ Minus
  minus Plus = refl
  minus Minus = refl
  minus Unknown = refl
conjunction_below Unknown Plus u v h k = tt
conjunction_below Unknown Unknown u v h k = tt

disjunction_below : (a b u v : Status) → IsBelow a u → IsBelow b v → IsBelow (disjunction a b) (disjunction u v)
disjunction_below Plus b u v h k = ap (λ x. disjunction x v) h
disjunction_below Minus b u v h k = let B : Status → Type 0 = λ x. IsBelow b (disjunction x v) in subst B (sym h) k
disjunction_below Unknown Plus u v h k = ap (disjunction u) k ∙ plus u where
  plus : (u : Status) → disjunction u Plus ≡ Plus
  plus Plus = refl
  plus Minus = refl
  plus Unknown = refl
disjunction_below Unknown Minus u v h k = tt
disjunction_below Unknown Unknown u v h k = tt

-- a gate grows with what it reads
pub gate_below : (sources : List Bool) (V U : ℕ → Status) (g : Gate) → ((n : ℕ) → IsBelow (V n) (U n))
    → IsBelow (gate_status sources V g) (gate_status sources U g)
gate_below sources V U (gates.Source k) h = below_self _
gate_below sources V U (gates.Same a) h = h a
gate_below sources V U (gates.Not a) h = opposite_below (V a) (U a) (h a)
gate_below sources V U (gates.And a b) h = conjunction_below (V a) (V b) (U a) (U b) (h a) (h b)
gate_below sources V U (gates.Or a b) h = disjunction_below (V a) (V b) (U a) (U b) (h a) (h b)

-- where the statuses differ at one node alone, a gate reads it or has the same status
pub gate_same : (sources : List Bool) (V U : ℕ → Status) (node : ℕ) (g : Gate) → ((n : ℕ) → n ≢ node → U n ≡ V n)
    → ((side : Side) × (operand side g ≡ Some node)) ⊎ (gate_status sources U g ≡ gate_status sources V g)
gate_same sources V U node (gates.Source k) h = inr refl
gate_same sources V U node (gates.Same a) h = ⊎_elim
    (λ (e : a ≡ node). inl (sides.First, ap Some e))
    (λ (n : a ≡ node → ⊥). inr (h a n))
    (cases_eq a node)
gate_same sources V U node (gates.Not a) h = ⊎_elim
    (λ (e : a ≡ node). inl (sides.First, ap Some e))
    (λ (n : a ≡ node → ⊥). inr (ap opposite (h a n)))
    (cases_eq a node)
gate_same sources V U node (gates.And a b) h = ⊎_elim
    (λ (e : a ≡ node). inl (sides.First, ap Some e))
    (λ (n : a ≡ node → ⊥). ⊎_elim
    (λ (e : b ≡ node). inl (sides.Second, ap Some e))
    (λ (m : b ≡ node → ⊥). inr (ap (λ x. conjunction x (U b)) (h a n) ∙ ap (conjunction (V a)) (h b m)))
    (cases_eq b node))
    (cases_eq a node)
gate_same sources V U node (gates.Or a b) h = ⊎_elim
    (λ (e : a ≡ node). inl (sides.First, ap Some e))
    (λ (n : a ≡ node → ⊥). ⊎_elim
    (λ (e : b ≡ node). inl (sides.Second, ap Some e))
    (λ (m : b ≡ node → ⊥). inr (ap (λ x. disjunction x (U b)) (h a n) ∙ ap (disjunction (V a)) (h b m)))
    (cases_eq b node))
    (cases_eq a node)

-- another node is still to be looked at
other : (node n : ℕ) (todo : ℕ → Bool) → n ≢ node → todo n ≡ true → without node todo n ≡ true
other node n todo apart h = by (n == node) refl where
  by : (b : Bool) → (n == node) ≡ b → (todo n && not b) ≡ true
  by true e = absurd (apart (eqb-true n node e))
  by false e = rw h refl

pub without-cases : (node n : ℕ) (todo : ℕ → Bool) → without node todo n ≡ true → (todo n ≡ true) × (n ≡ node → ⊥)
without-cases node n todo h =
    let p = and_parts (todo n) (not (n == node)) h in
    (p.0, λ e. false≢true (sym (ap not (eq-eqb n node e)) ∙ p.1))

-- nothing is known at first
pub begins : (all : List Gate) (sources : List Bool) (V : ℕ → Status) (stack : List ℕ) (height : ℕ) (todo : ℕ → Bool)
    → ((n : ℕ) → V n ≡ Unknown) → ((n : ℕ) → todo n ≡ true) → Underway all sources V stack height todo
begins all sources V stack height todo none each = record {
  sure = λ n low. let B : Status → Type 0 = λ x. IsBelow x (gate_status sources V (gate_at all n)) in subst B (sym (none n)) tt;
  least = λ U met n. let B : Status → Type 0 = λ x. IsBelow x (U n) in subst B (sym (none n)) tt;
  rest = λ n low h. inr (inl (each n));
}

-- a node that was looked at and stays as it is
pub passed : (all : List Gate) (sources : List Bool) (V : ℕ → Status) (stack : List ℕ) (height node : ℕ) (todo : ℕ → Bool)
    → (V node ≡ Unknown → gate_status sources V (gate_at all node) ≡ Unknown)
    → Underway all sources V stack height todo → Underway all sources V stack height (without node todo)
passed all sources V stack height node todo quiet u = record {
  sure = u.sure;
  least = u.least;
  rest = λ n low none. ⊎_elim
      (λ (same : n ≡ node).
      let G : ℕ → Type 0 = λ m. gate_status sources V (gate_at all m) ≡ Unknown in
      inl (subst G (sym same) (quiet (ap V (sym same) ∙ none))))
      (λ (apart : n ≡ node → ⊥). elim (u.rest n low none) [
        | inl quiet_too ↦ inl quiet_too
        | inr later ↦ elim later [
          | inl due ↦ inr (inl (other node n todo apart due))
          | inr waits ↦ inr (inr waits)
        ]
      ])
      (cases_eq n node);
}

-- a node that was looked at and decided
pub decided : (all : List Gate) (sources : List Bool) (V U : ℕ → Status) (stack : List ℕ) (height node : ℕ) (todo : ℕ → Bool)
    → height < length stack → node < length all → V node ≡ Unknown → gate_status sources V (gate_at all node) ≢ Unknown
    → U node ≡ gate_status sources V (gate_at all node) → ((n : ℕ) → n ≢ node → U n ≡ V n)
    → Underway all sources V stack height todo → Underway all sources U (slice_set stack height node) (height + 1) (without node todo)
decided all sources V U stack height node todo room is_node none value here apart u =
    let grows : (n : ℕ) → IsBelow (V n) (U n) = λ n. ⊎_elim
    (λ (same : n ≡ node). let B : Status → Type 0 = λ x. IsBelow x (U n) in subst B (sym (ap V same ∙ none)) tt)
    (λ (off : n ≡ node → ⊥). let B : Status → Type 0 = λ x. IsBelow (V n) x in subst B (sym (apart n off)) (below_self (V n)))
    (cases_eq n node)
    in
    let gates_grow : (n : ℕ) → IsBelow (gate_status sources V (gate_at all n)) (gate_status sources U (gate_at all n)) =
    λ n. gate_below sources V U (gate_at all n) grows
    in
    record {
      sure = λ n low. ⊎_elim
          (λ (same : n ≡ node).
          let B : Status → Type 0 = λ x. IsBelow x (gate_status sources U (gate_at all n)) in
          subst B (sym (ap U same ∙ here ∙ ap (λ m. gate_status sources V (gate_at all m)) (sym same))) (gates_grow n))
          (λ (off : n ≡ node → ⊥).
          let B : Status → Type 0 = λ x. IsBelow x (gate_status sources U (gate_at all n)) in
          subst B (sym (apart n off)) (below_trans (V n) _ _ (u.sure n low) (gates_grow n)))
          (cases_eq n node);
      least = λ W met n. ⊎_elim
          (λ (same : n ≡ node).
          let B : Status → Type 0 = λ x. IsBelow x (W n) in
          let C : Status → Type 0 = λ x. IsBelow (gate_status sources V (gate_at all n)) x in
          let low : n < length all = rw same is_node in
          subst B (sym (ap U same ∙ here ∙ ap (λ m. gate_status sources V (gate_at all m)) (sym same)))
          (subst C (sym (met.met n low)) (gate_below sources V W (gate_at all n) (u.least W met))))
          (λ (off : n ≡ node → ⊥). let B : Status → Type 0 = λ x. IsBelow x (W n) in subst B (sym (apart n off)) (u.least W met n))
          (cases_eq n node);
      rest = λ n low unknown. ⊎_elim
          (λ (same : n ≡ node). absurd (value (sym here ∙ ap U (sym same) ∙ unknown)))
          (λ (off : n ≡ node → ⊥). elim (gate_same sources V U node (gate_at all n) apart) [
            | inl reads ↦ inr (inr (record {
              side = reads.0;
              place = height;
              low = omega arith;
              reads = reads.1 ∙ ap Some (sym (at_height room));
            }))
            | inr same ↦ elim (u.rest n low (sym (apart n off) ∙ unknown)) [
              | inl quiet ↦ inl (same ∙ quiet)
              | inr later ↦ elim later [
                | inl due ↦ inr (inl (other node n todo off due))
                | inr waits ↦ inr (inr (record {
                  side = waits.side;
                  place = waits.place;
                  low = let w = waits.low in omega arith;
                  reads = waits.reads ∙ ap Some (sym (below_height waits.place waits.low));
                }))
              ]
            ]
          ])
          (cases_eq n node);
    }
  where
    at_height : height < length stack → slice_index (slice_set stack height node) height ≡ node
    at_height h = get_or-set_same stack height node 0 h

    below_height : (p : ℕ) → p < height → slice_index (slice_set stack height node) p ≡ slice_index stack p
    below_height p low = get_or-set_other stack height p node 0 (λ e. absurd (omega arith))

-- more is to be looked at
pub with_more : (all : List Gate) (sources : List Bool) (V : ℕ → Status) (stack : List ℕ) (height : ℕ) (todo more : ℕ → Bool)
    → ((n : ℕ) → n < length all → todo n ≡ true → more n ≡ true)
    → Underway all sources V stack height todo → Underway all sources V stack height more
with_more all sources V stack height todo more each u = record {
  sure = u.sure;
  least = u.least;
  rest = λ n low none. elim (u.rest n low none) [
    | inl quiet ↦ inl quiet
    | inr later ↦ elim later [
      | inl due ↦ inr (inl (each n low due))
      | inr waits ↦ inr (inr waits)
    ]
  ];
}

-- the operand of a gate is seen by the test
is_operand_some : (o : Option ℕ) (node : ℕ) → o ≡ Some node → is_operand o node ≡ true
is_operand_some None node e = cc
is_operand_some (Some a) node e = let f : a ≡ node = cc in eq-eqb a node f

pub some_is_operand : (o : Option ℕ) (node : ℕ) → is_operand o node ≡ true → o ≡ Some node
some_is_operand None node h = absurd (false≢true h)
some_is_operand (Some a) node h = ap Some (eqb-true a node h)

-- a reader below an end is to be looked at
pub due_reader : (all : List Gate) (side : Side) (node end n : ℕ) (todo : ℕ → Bool) → n < end → Reads side all n node
    → with_readers_below all side node end todo n ≡ true
due_reader all side node end n todo low reads =
    let a = is_operand_some (operand side (gate_at all n)) node reads in
    let b : nat_lt n end ≡ true = lt-ltb n end low in
    or_right (todo n) _ (rw (a, b) refl)

pub due_other : (all : List Gate) (side : Side) (node end n : ℕ) (todo : ℕ → Bool) → todo n ≡ true
    → with_readers_below all side node end todo n ≡ true
due_other all side node end n todo h = or_left (todo n) _ h

-- what is to be looked at is a reader below the end, or was so before
pub due_cases : (all : List Gate) (side : Side) (node end n : ℕ) (todo : ℕ → Bool) → with_readers_below all side node end todo n ≡ true
    → (todo n ≡ true) ⊎ (Reads side all n node × (n < end))
due_cases all side node end n todo h = elim (or_cases (todo n) _ h) [
  | inl due ↦ inl due
  | inr reader ↦
      let p = and_parts (is_operand (operand side (gate_at all n)) node) (nat_lt n end) reader in
      inr (some_is_operand (operand side (gate_at all n)) node p.0, ltb-true n end p.1)
]

-- the last node of the list is taken from there: its readers are to be looked at
pub popped : (all : List Gate) (sources : List Bool) (V : ℕ → Status) (stack : List ℕ) (height : ℕ) (todo : ℕ → Bool)
    → Underway all sources V stack (height + 1) todo
    → Underway all sources V stack height
    (with_readers all sides.First (slice_index stack height) (with_readers all sides.Second (slice_index stack height) todo))
popped all sources V stack height todo u = record {
  sure = u.sure;
  least = u.least;
  rest = λ n low none. elim (u.rest n low none) [
    | inl quiet ↦ inl quiet
    | inr later ↦ elim later [
      | inl due ↦ inr (inl (kept n due))
      | inr waits ↦ ⊎_elim
          (λ (top : waits.place ≡ height). inr (inl (by waits.side n low (waits.reads ∙ ap (λ p. Some (slice_index stack p)) top))))
          (λ (under : waits.place ≡ height → ⊥). inr (inr (record {
            side = waits.side;
            place = waits.place;
            low = let w = waits.low in omega arith;
            reads = waits.reads;
          })))
          (cases_eq waits.place height)
    ]
  ];
}
  where
    kept : (n : ℕ) → todo n ≡ true
        → with_readers all sides.First (slice_index stack height) (with_readers all sides.Second (slice_index stack height) todo) n ≡ true
    kept n due =
        due_other all sides.First (slice_index stack height) (length all) n (with_readers all sides.Second (slice_index stack height) todo)
        (due_other all sides.Second (slice_index stack height) (length all) n todo due)

    by : (side : Side) (n : ℕ) → n < length all → Reads side all n (slice_index stack height)
        → with_readers all sides.First (slice_index stack height) (with_readers all sides.Second (slice_index stack height) todo) n ≡ true
    by sides.First n low reads =
        due_reader all sides.First (slice_index stack height) (length all) n (with_readers all sides.Second (slice_index stack height) todo) low reads
    by sides.Second n low reads =
        due_other all sides.First (slice_index stack height) (length all) n (with_readers all sides.Second (slice_index stack height) todo)
        (due_reader all sides.Second (slice_index stack height) (length all) n todo low reads)

-- nothing is to be looked at any more
pub ends : (all : List Gate) (sources : List Bool) (V : ℕ → Status) (stack : List ℕ) (todo : ℕ → Bool)
    → ((n : ℕ) → n < length all → todo n ≡ false) → Underway all sources V stack 0 todo → IsLeastSolution all sources V
ends all sources V stack todo none u = record {
  solves = record { met = λ n low. by n low (V n) refl };
  least = λ U met n low. u.least U met n;
}
  where
    quiet : (n : ℕ) → n < length all → V n ≡ Unknown → gate_status sources V (gate_at all n) ≡ Unknown
    quiet n low h = elim (u.rest n low h) [
      | inl e ↦ e
      | inr later ↦ elim later [
        | inl due ↦ absurd (false≢true (sym (none n low) ∙ due))
        | inr waits ↦ let w = waits.low in absurd (omega arith)
      ]
    ]

    by : (n : ℕ) → n < length all → (v : Status) → V n ≡ v → V n ≡ gate_status sources V (gate_at all n)
    by n low Unknown e = e ∙ sym (quiet n low e)
    by n low Plus e = known_below (V n) _ (λ h. plus (sym e ∙ h)) (u.sure n low) where
      plus : Plus ≡ Unknown → ⊥
      plus h = cc
    by n low Minus e = known_below (V n) _ (λ h. minus (sym e ∙ h)) (u.sure n low) where
      minus : Minus ≡ Unknown → ⊥
      minus h = cc

-- at first each node is due
pub all-due : (n : ℕ) → not (nat_lt n 0) ≡ true
all-due n = ap not (le-ltb n 0 (omega arith))

-- with one more node looked at, those from the next one on are due
pub one-more : (all : List Gate) (sources : List Bool) (V : ℕ → Status) (stack : List ℕ) (height node : ℕ)
    → Underway all sources V stack height (without node (λ n. not (nat_lt n node)))
    → Underway all sources V stack height (λ n. not (nat_lt n (node + 1)))
one-more all sources V stack height node u =
    with_more all sources V stack height (without node (λ n. not (nat_lt n node))) (λ n. not (nat_lt n (node + 1))) by u
  where
    by : (n : ℕ) → n < length all → without node (λ m. not (nat_lt m node)) n ≡ true → not (nat_lt n (node + 1)) ≡ true
    by n low h =
        let p = without-cases node n (λ m. not (nat_lt m node)) h in
        let apart = p.1 in
        ⊎_elim
        (λ (under : n < node). absurd (false≢true (sym (ap not (lt-ltb n node under)) ∙ p.0)))
        (λ (above : node ≤ n). ⊎_elim
        (λ (same : n ≡ node). absurd (apart same))
        (λ (off : n ≡ node → ⊥). ap not (le-ltb n (node + 1) (omega arith)))
        (cases_eq n node))
        (cases_lt n node)

-- once each node was looked at, none is due
pub none-due : (all : List Gate) (sources : List Bool) (V : ℕ → Status) (stack : List ℕ) (height node : ℕ) → height ≡ 0 → length all ≤ node
    → Underway all sources V stack height (λ n. not (nat_lt n node)) → IsLeastSolution all sources V
none-due all sources V stack height node empty each u =
    let U : ℕ → Type 0 = λ h. Underway all sources V stack h (λ n. not (nat_lt n node)) in
    ends all sources V stack (λ n. not (nat_lt n node)) (λ n low. ap not (lt-ltb n node (omega arith))) (subst U empty u)
