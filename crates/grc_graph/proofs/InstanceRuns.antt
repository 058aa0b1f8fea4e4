-- The instances of one statement stand side by side, from its first one on.
use Rattle.std.proofs.Common.{◌≡◌, ℕ, ◌+◌, ◌-◌, ◌<◌, ◌≤◌, List, [], ◌∷◌, ◌++◌, length, length-append, map, get_or, drop, sym, ap}
use Rattle.std.proofs.Common.{◌∙◌, subst, ⊎_elim, arith}
use Rattle.std.specs.Prelude.{nat_lt, slice_index, slice_range, Contains}
use Rattle.std.specs.List.Sorted.{IsPartitionedBy}
use Rattle.std.proofs.lemmas.Bool.{cases_lt, lt-ltb, ltb-true, ltb-false}
use Rattle.std.proofs.lemmas.List.{length-map, length-drop, length-take-le, get_or-take, get_or-drop, get_or_default}
use Rattle.est_kernel.specs.Preorder.{statement_count}
use Rattle.est_kernel.specs.Terms.{Term}
use Rattle.grc_graph.specs.declared.instances.Instance.{Instance}
use Rattle.grc_graph.specs.Instances as plain
use Rattle.grc_graph.specs.PlainInstances.{instance_of}
use Rattle.grc_graph.specs.WireTables.{IsNumberOf, comes_before, Ascending, AreBelow, AreCountsBefore, AreFirsts, SplitsAtStatement}
use Rattle.grc_graph.proofs.NeighbourReads.{ahead, name_at, first_instance, path_within}
use Rattle.grc_graph.proofs.WireRuns.{first_kept, first_new}

-- ---- statements ascend with instances

paths-ascend : (insts : List Instance) (i j : ℕ) (d : Instance) → Ascending insts → i ≤ j → j < length insts
    → (get_or insts i d).path.0 ≤ (get_or insts j d).path.0
paths-ascend insts i j d up le low =
    ⊎_elim
    (λ l. ⊎_elim (λ a. omega (arith, a)) (λ a. omega (arith, a.0))
    (ahead (instance_of (get_or insts i d)) (instance_of (get_or insts j d)) (up i j d l low)))
    (λ g. let same : i ≡ j = omega arith in subst (λ k. (get_or insts i d).path.0 ≤ (get_or insts k d).path.0) same (omega arith))
    (cases_lt i j)

pub statements_partitioned : (insts : List Instance) (n : ℕ) → Ascending insts → IsPartitionedBy (λ y. nat_lt y.path.0 n) insts
statements_partitioned insts n up i j d le low e =
    let a = paths-ascend insts i j d up le low in
    let b = ltb-true (get_or insts j d).path.0 n e in
    lt-ltb (get_or insts i d).path.0 n (omega arith)

-- ---- how many instances are of statements before one

pub counts-none : (insts : List Instance) → AreCountsBefore insts []
counts-none insts = record { within = λ n h. absurd (omega arith); splits = λ n h. absurd (omega arith) }

pub counts-more : (insts : List Instance) (firsts : List ℕ) (n p : ℕ) → AreCountsBefore insts firsts → length firsts ≡ n → p ≤ length insts
    → SplitsAtStatement n insts p → AreCountsBefore insts (firsts ++ p ∷ [])
counts-more insts firsts n p c len le here = record {
  within = λ m h. ⊎_elim (λ l. omega (arith, first_kept firsts p m l, c.within m l))
      (λ g. let same : m ≡ n = omega (arith, h, length-append firsts (p ∷ []), len) in omega (arith, first_new firsts p m (len ∙ sym same), le))
      (cases_lt m (length firsts));
  splits = λ m h. ⊎_elim (λ l. subst (SplitsAtStatement m insts) (sym (first_kept firsts p m l)) (c.splits m l))
      (λ g. let same : n ≡ m = omega (arith, h, length-append firsts (p ∷ []), len) in
      subst (SplitsAtStatement m insts) (sym (first_new firsts p m (len ∙ same))) (subst (λ k. SplitsAtStatement k insts p) same here))
      (cases_lt m (length firsts));
}

-- ---- of the instances of a body

pub instances-below : (body : Term) (insts : List Instance) (count : ℕ) → map instance_of insts ≡ plain.body_instances body → count ≡ statement_count body
    → AreBelow count insts
instances-below body insts count e n i d h =
    let x = get_or insts i d in
    omega (arith, n, path_within body insts i x e h (get_or_default insts i d x h))

pub first-instances : (insts : List Instance) (firsts : List ℕ) (count : ℕ) → AreBelow count insts → length firsts ≡ count + 1 → AreCountsBefore insts firsts
    → AreFirsts insts firsts
first-instances insts firsts count below len c = record { counts = c; all = λ i d h. omega (arith, below i d h, len) }

-- ---- the run of a statement

pub run-begins : (insts : List Instance) (firsts : List ℕ) (n : ℕ) → AreFirsts insts firsts → n + 1 < length firsts
    → slice_index firsts n ≤ slice_index firsts (n + 1)
run-begins insts firsts n f h =
    let a = slice_index firsts n in
    let b = slice_index firsts (n + 1) in
    let within = f.counts.within n (omega arith) in
    ⊎_elim
    (λ l.
    let x = (get_or insts b first_instance).path.0 in
    let below : x < n = ltb-true x n ((f.counts.splits n (omega arith)).0 b first_instance (omega arith) l) in
    let above : n + 1 ≤ x = ltb-false x (n + 1) ((f.counts.splits (n + 1) h).1 b first_instance (omega arith) (omega (arith, within, l))) in
    absurd (omega arith))
    (λ g. g)
    (cases_lt b a)

length-run : (insts : List Instance) (from to : ℕ) → from ≤ to → to ≤ length insts → length (slice_range insts from to) ≡ to - from
length-run insts from to le within = length-take-le (to - from) (drop from insts) (omega (arith, length-drop from insts))

read-run : (insts : List Instance) (from to i : ℕ) (d : Instance) → i < to - from → get_or (slice_range insts from to) i d ≡ get_or insts (from + i) d
read-run insts from to i d low = get_or-take (to - from) (drop from insts) i d low ∙ get_or-drop from insts i d

pub run-ascends : (insts : List Instance) (from to : ℕ) → from ≤ to → to ≤ length insts → Ascending insts → Ascending (slice_range insts from to)
run-ascends insts from to le within up i j d l low =
    let len = length-run insts from to le within in
    let first = read-run insts from to i d (omega (arith, len)) in
    let second = read-run insts from to j d (omega (arith, len)) in
    (λ t. comes_before (instance_of (first t)) (instance_of (second t))) ∙ up (from + i) (from + j) d (omega arith) (omega (arith, len))

pub number_in_run : (insts : List Instance) (from to i : ℕ) (x : plain.Instance) → from ≤ to → to ≤ length insts
    → IsNumberOf (map instance_of (slice_range insts from to)) i x → IsNumberOf (map instance_of insts) (from + i) x
number_in_run insts from to i x le within h =
    let run = slice_range insts from to in
    let len = length-run insts from to le within in
    let low : i < length run = omega (arith, h.within, length-map run instance_of) in
    let inside : from + i < length insts = omega (arith, len) in
    record {
      within = omega (arith, inside, length-map insts instance_of);
      same = λ e.
          name_at insts (from + i) first_instance e inside ∙ ap instance_of (sym (read-run insts from to i first_instance (omega (arith, len))))
          ∙ sym (name_at run i first_instance e low) ∙ h.same e;
    }

-- ---- what is not there

pub absent_in_run : (insts : List Instance) (firsts : List ℕ) (x : plain.Instance) → AreFirsts insts firsts → x.path + 1 < length firsts
    → (Contains (map instance_of (slice_range insts (slice_index firsts x.path) (slice_index firsts (x.path + 1)))) x → ⊥)
    → Contains (map instance_of insts) x → ⊥
absent_in_run insts firsts x f h none c =
    let n = x.path in
    let from = slice_index firsts n in
    let to = slice_index firsts (n + 1) in
    let run = slice_range insts from to in
    let k = c.0 in
    let inside : k < length insts = omega (arith, c.1, length-map insts instance_of) in
    let y = get_or insts k first_instance in
    let same : instance_of y ≡ x = sym (name_at insts k first_instance x inside) ∙ c.2 in
    let path : y.path.0 ≡ n = ap (λ z. z.path) same in
    let behind : from ≤ k = ⊎_elim
    (λ l. absurd (let a = ltb-true y.path.0 n ((f.counts.splits n (omega arith)).0 k first_instance (omega arith) l) in omega (arith, a, path)))
    (λ g. g) (cases_lt k from) in
    let before : k < to = ⊎_elim (λ l. l)
    (λ g. absurd (let a = ltb-false y.path.0 (n + 1) ((f.counts.splits (n + 1) h).1 k first_instance g inside) in omega (arith, a, path)))
    (cases_lt k to) in
    let len = length-run insts from to (omega arith) (f.counts.within (n + 1) h) in
    let low : k - from < length run = omega (arith, len, behind, before) in
    let back : from + (k - from) ≡ k = omega (arith, behind) in
    none (
      k - from,
      omega (arith, low, length-map run instance_of),
      name_at run (k - from) first_instance x low ∙ ap instance_of (read-run insts from to (k - from) first_instance (omega (arith, behind, before))
          ∙ ap (λ m. get_or insts m first_instance) back) ∙ same,
    )

pub absent_past : (insts : List Instance) (firsts : List ℕ) (x : plain.Instance) → AreFirsts insts firsts → length firsts ≤ x.path + 1
    → Contains (map instance_of insts) x → ⊥
absent_past insts firsts x f h c =
    let k = c.0 in
    let inside : k < length insts = omega (arith, c.1, length-map insts instance_of) in
    let same : instance_of (get_or insts k first_instance) ≡ x = sym (name_at insts k first_instance x inside) ∙ c.2 in
    let path : (get_or insts k first_instance).path.0 ≡ x.path = ap (λ z. z.path) same in
    omega (arith, f.all k first_instance inside, path, h)
