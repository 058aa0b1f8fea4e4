-- A node that gets its value: what is to be done stays as much, and what was known stays below every solution.
use Rattle.std.proofs.Common.{◌≡◌, ◌≢◌, ℕ, ◌+◌, ◌<◌, Bool, true, false, List, length, slice_index, slice_index_or, refl, sym, ap, ◌∙◌, subst}
use Rattle.std.proofs.Common.{⊎_elim, arith, cond}
use Rattle.std.specs.Prelude.{slice_set, count_by}
use Rattle.std.proofs.lemmas.Bool.{cases_eq, false≢true}
use Rattle.std.proofs.lemmas.List.{get_or-set_same, get_or-set_other, length-set}
use Rattle.std.proofs.lemmas.List.Sums.{sum_by-set}
use Rattle.est_kernel.specs.Statuses.{Unknown}
use Rattle.grc_ternary_gates.specs.declared.gates.Gate.{Gate}
use Rattle.grc_ternary_gates.specs.declared.gates.Value.{Value}
use Rattle.grc_ternary_gates.specs.declared.gates.Value.TheVariants as values
use Rattle.grc_ternary_gates.specs.declared.gates.Side.TheVariants as sides
use Rattle.grc_ternary_gates.specs.declared.solver.Solver.{Solver}
use Rattle.grc_ternary_gates.specs.Solving.{Decides, Fits, IsUnderway, Pops, Underway, with_readers, without, work_of}
use Rattle.grc_ternary_gates.specs.Systems.{gate_at, gate_status, is_unknown, status_of, statuses_of}
use Rattle.grc_ternary_gates.proofs.Stepping.{decided, popped}

pub unknown-status : (v : Value) → is_unknown v ≡ true → status_of v ≡ Unknown
unknown-status values.Unknown h = refl
unknown-status values.False h = absurd (false≢true h)
unknown-status values.True h = absurd (false≢true h)

pub known-status : (v : Value) → is_unknown v ≡ false → status_of v ≡ Unknown → ⊥
known-status values.Unknown h e = absurd (false≢true (sym h))
known-status values.False h e = cc
known-status values.True h e = cc

abbrev one_if : Value → ℕ
one_if v = cond (is_unknown v) 1 0

-- one unknown node less
pub one_less : (vs : List Value) (node : ℕ) (v d : Value) → node < length vs → is_unknown (slice_index_or vs node d) ≡ true → is_unknown v ≡ false
    → count_by is_unknown (slice_set vs node v) + 1 ≡ count_by is_unknown vs
one_less vs node v d low was is =
    let e = sum_by-set one_if vs node v d low in
    let a : one_if (slice_index_or vs node d) ≡ 1 = ap (λ b. cond b 1 0) was in
    let b : one_if v ≡ 0 = ap (λ b. cond b 1 0) is in
    omega (arith, e, a, b)

pub work-same : (old new : Solver) (node : ℕ) (v d : Value) → node < length old.values.items
    → is_unknown (slice_index_or old.values.items node d) ≡ true → is_unknown v ≡ false → Decides old new node v
    → work_of new ≡ work_of old
work-same old new node v d low was is done =
    let e = one_less old.values.items node v d low was is in
    let f : count_by is_unknown new.values.items ≡ count_by is_unknown (slice_set old.values.items node v) = ap (count_by is_unknown) done.values in
    let h = done.height in
    omega arith

pub has-room : (n : ℕ) (s : Solver) (node : ℕ) (d : Value) → Fits n s → node < n → is_unknown (slice_index_or s.values.items node d) ≡ true
    → s.height < length s.stack.items
has-room n s node d fits low was =
    let len = fits.values in
    let lower : node < length s.values.items = omega arith in
    let e = one_less s.values.items node values.True d lower was refl in
    let r = fits.room in
    let l = fits.stack in
    omega arith

pub stays-fit : (n : ℕ) (old new : Solver) (node : ℕ) (v d : Value) → node < n → Fits n old
    → is_unknown (slice_index_or old.values.items node d) ≡ true → is_unknown v ≡ false → Decides old new node v → Fits n new
stays-fit n old new node v d low fits was is done =
    let len = fits.values in
    let lower : node < length old.values.items = omega arith in
    let room = has-room n old node d fits low was in
    let work = work-same old new node v d lower was is done in
    record {
      values = ap length done.values ∙ length-set old.values.items node v ∙ len;
      stack = ap length done.stack ∙ length-set old.stack.items old.height node ∙ fits.stack;
      room = let r = fits.room in omega arith;
      listed = λ p under. ⊎_elim
          (λ (top : p ≡ old.height).
          let at : slice_index new.stack.items p ≡ node =
          ap (λ xs. slice_index xs p) done.stack ∙ ap (slice_index (slice_set old.stack.items old.height node)) top
          ∙ get_or-set_same old.stack.items old.height node 0 room in
          rw at low)
          (λ (below : p ≡ old.height → ⊥).
          let at : slice_index new.stack.items p ≡ slice_index old.stack.items p =
          ap (λ xs. slice_index xs p) done.stack ∙ get_or-set_other old.stack.items old.height p node 0 below in
          let h = done.height in
          rw at (fits.listed p (omega arith)))
          (cases_eq p old.height);
    }

pub goes-on : (all : List Gate) (sources : List Bool) (old new : Solver) (node : ℕ) (v : Value) (todo : ℕ → Bool)
    → Fits (length all) old → node < length all → is_unknown (slice_index_or old.values.items node values.Unknown) ≡ true → is_unknown v ≡ false
    → status_of v ≡ gate_status sources (statuses_of old.values.items) (gate_at all node) → Decides old new node v
    → IsUnderway all sources old todo → IsUnderway all sources new (without node todo)
goes-on all sources old new node v todo fits low was is says done u =
    let len = fits.values in
    let lower : node < length old.values.items = omega arith in
    let room = has-room (length all) old node values.Unknown fits low was in
    let here : statuses_of new.values.items node ≡ status_of v =
    ap (λ vs. statuses_of vs node) done.values ∙ ap status_of (get_or-set_same old.values.items node v values.Unknown lower) in
    let apart : (n : ℕ) → n ≢ node → statuses_of new.values.items n ≡ statuses_of old.values.items n =
    λ n off. ap (λ vs. statuses_of vs n) done.values ∙ ap status_of (get_or-set_other old.values.items node n v values.Unknown off) in
    let quiet : gate_status sources (statuses_of old.values.items) (gate_at all node) ≢ Unknown = λ e. known-status v is (says ∙ e) in
    let made = decided all sources (statuses_of old.values.items) (statuses_of new.values.items) old.stack.items old.height node todo room low
    (unknown-status _ was) quiet (here ∙ says) apart u in
    let U : List ℕ → ℕ → Type 0 = λ stack height. Underway all sources (statuses_of new.values.items) stack height (without node todo) in
    subst (λ h. U new.stack.items h) (sym done.height) (subst (λ st. U st (old.height + 1)) (sym done.stack) made)

pub pops-on : (all : List Gate) (sources : List Bool) (old new : Solver) (node : ℕ) (todo : ℕ → Bool) → Pops old new node
    → IsUnderway all sources old todo
    → IsUnderway all sources new (with_readers all sides.First node (with_readers all sides.Second node todo))
pops-on all sources old new node todo done u =
    let U : List Value → List ℕ → ℕ → (ℕ → Bool) → Type 0 = λ vs stack height due. Underway all sources (statuses_of vs) stack height due in
    let before : U old.values.items old.stack.items (new.height + 1) todo = subst (λ h. U old.values.items old.stack.items h todo) done.height u in
    let made = popped all sources (statuses_of old.values.items) old.stack.items new.height todo before in
    let D : ℕ → ℕ → Bool = λ m. with_readers all sides.First m (with_readers all sides.Second m todo) in
    subst (λ vs. U vs new.stack.items new.height (D node)) (sym done.values)
    (subst (λ st. U old.values.items st new.height (D node)) (sym done.stack)
    (subst (λ m. U old.values.items old.stack.items new.height (D m)) (sym done.top) made))

pub pops-fit : (n : ℕ) (old new : Solver) (node : ℕ) → Pops old new node → Fits n old → Fits n new
pops-fit n old new node done fits =
    let h = done.height in
    let w : count_by is_unknown new.values.items ≡ count_by is_unknown old.values.items = ap (count_by is_unknown) done.values in
    record {
      values = ap length done.values ∙ fits.values;
      stack = ap length done.stack ∙ fits.stack;
      room = let r = fits.room in omega arith;
      listed = λ p low.
          let at : slice_index new.stack.items p ≡ slice_index old.stack.items p = ap (λ xs. slice_index xs p) done.stack in
          rw at (fits.listed p (omega arith));
    }

pub pops-less : (old new : Solver) (node : ℕ) → Pops old new node → work_of new < work_of old
pops-less old new node done =
    let h = done.height in
    let w : count_by is_unknown new.values.items ≡ count_by is_unknown old.values.items = ap (count_by is_unknown) done.values in
    omega arith

pub popped-is-node : (n : ℕ) (old new : Solver) (node : ℕ) → Pops old new node → Fits n old → node < n
popped-is-node n old new node done fits =
    let h = done.height in
    rw done.top (fits.listed new.height (omega arith))
