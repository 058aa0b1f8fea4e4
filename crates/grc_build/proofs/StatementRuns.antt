-- The instances of a statement stand one behind another among those of a body, the resumed one first.
use Rattle.std.proofs.Common.{◌⊎◌, drop}
use Rattle.std.proofs.lemmas.Bool.{cond-true, cond-false}
use Rattle.std.proofs.lemmas.List.{map-id, take-append-drop, drop_more, drop_all, get_or-drop, length-drop}
use Rattle.std.proofs.lemmas.List.Elements.{All-nil, All-cons, All-weaker, All-map, All-contains, Contains-append_right, filter-append}
use Rattle.base_facts.proofs.Lists.{filter-none}
use Rattle.grc_graph.specs.Instances.{instances}
use Rattle.grc_graph.specs.Layers.{liveness_at}
use Rattle.grc_graph.proofs.Exports.{instances_among}
use Rattle.grc_build.specs.Nexts.{is_of}
use Rattle.grc_build.proofs.Words.{◌≡◌, ℕ, ◌+◌, ◌-◌, ◌<◌, ◌≤◌, inl, inr, true, false, ◌==◌, List, [], ◌∷◌, ◌++◌, length, map, take, get_or, refl, sym, ap, ◌∙◌}
use Rattle.grc_build.proofs.Words.{subst, ⊎_elim, arith, All, filter, nat_lt, if◌then◌else◌, cases_lt, cases_eq, eq-eqb, ne_eqb, lt-ltb, le-ltb, append-nil}
use Rattle.grc_build.proofs.Words.{get_or_default, map-map, Term, Nothing, Pause, Emit, Exit, Present, Suspend, Seq, Loop, Par, Trap, Local, Awake}
use Rattle.grc_build.proofs.Words.{statement_count, IsKernel, Instance, instances_at, body_instances, LayerBefore, Before, Ascends, Layer, Resumed, Started}
use Rattle.grc_build.proofs.Words.{Liveness, layers_of, body_liveness, body_layers, part_liveness, second_liveness, loop_liveness, instance_at, at_layer}
use Rattle.grc_build.proofs.Words.{layers_from, IsRun}

-- ---- the instances of a statement are those with its path

own_kept : (n : ℕ) (ls : List Layer) → filter (is_of n) (map (at_layer n) ls) ≡ map (at_layer n) ls
own_kept n [] = refl
own_kept n (l ∷ ls) =
    let e : (n == n) ≡ true = eq-eqb n n refl in
    rw e (ap (λ xs. at_layer n l ∷ xs) (own_kept n ls))

others_left : (n m : ℕ) (ls : List Layer) → ¬ (n ≡ m) → filter (is_of m) (map (at_layer n) ls) ≡ []
others_left n m ls h =
    filter-none (is_of m) (map (at_layer n) ls)
    (All-map (λ x. is_of m x ≡ false) (at_layer n) ls (λ k d l. ne_eqb n m h))

apart : (a m : ℕ) (b : Liveness) (t : Term) → (m < a) ⊎ (a + statement_count t ≤ m) → filter (is_of m) (instances b t a) ≡ []
apart a m b t o =
    filter-none (is_of m) (instances b t a)
    (All-weaker (λ x. (a ≤ x.path) × (x.path < a + statement_count t)) (λ x. is_of m x ≡ false)
    (λ x k. ne_eqb x.path m (λ e. ⊎_elim (λ l. omega (arith, e, k.0, l)) (λ l. omega (arith, e, k.1, l)) o))
    (instances b t a) (instances_among b t a))

-- the instances of the statement with the number m, which is live so
abbrev live_at : ℕ → Liveness → List Instance
live_at m a = map (at_layer m) (layers_of a)

-- which of a statement at n and its parts has the number m
itself : (a x : Liveness) (n m : ℕ) → m ≡ n → live_at m a ≡ live_at m (if m == n then a else x)
itself a x n m e = ap (live_at m) (sym (cond-true (m == n) a x (eq-eqb m n e)))

inside : (a x : Liveness) (n m : ℕ) → ¬ (m ≡ n) → live_at m x ≡ live_at m (if m == n then a else x)
inside a x n m d = ap (live_at m) (sym (cond-false (m == n) a x (ne_eqb m n d)))

in_first : (a x y : Liveness) (n m k : ℕ) → ¬ (m ≡ n) → m < k → live_at m x ≡ live_at m (if m == n then a else if nat_lt m k then x else y)
in_first a x y n m k d l = ap (live_at m) (sym (cond-true (nat_lt m k) x y (lt-ltb m k l))) ∙ inside a (if nat_lt m k then x else y) n m d

in_second : (a x y : Liveness) (n m k : ℕ) → ¬ (m ≡ n) → k ≤ m → live_at m y ≡ live_at m (if m == n then a else if nat_lt m k then x else y)
in_second a x y n m k d l = ap (live_at m) (sym (cond-false (nat_lt m k) x y (le-ltb m k l))) ∙ inside a (if nat_lt m k then x else y) n m d

-- the statement itself
leaf_run : (a : Liveness) (n m : ℕ) → n ≡ m → filter (is_of m) (instances_at a n) ≡ live_at m a
leaf_run a n m e = subst (λ m. filter (is_of m) (instances_at a n) ≡ live_at m a) e (own_kept n (layers_of a))

one_run : (a b x : Liveness) (p : Term) (n m : ℕ)
    → (n + 1 ≤ m → m < n + 1 + statement_count p → filter (is_of m) (instances b p (n + 1)) ≡ live_at m x)
    → n ≤ m → m < n + (1 + statement_count p)
    → filter (is_of m) (instances_at a n ++ instances b p (n + 1)) ≡ live_at m (if m == n then a else x)
one_run a b x p n m f le lt =
    filter-append (is_of m) (instances_at a n) (instances b p (n + 1))
    ∙ ⊎_elim
    (λ e.
    (λ i. leaf_run a n m (sym e) i ++ apart (n + 1) m b p (inl (omega (arith, e))) i)
    ∙ append-nil (live_at m a) ∙ itself a x n m e)
    (λ d.
    (λ i. others_left n m (layers_of a) (λ e. d (sym e)) i ++ f (omega (arith, le, d)) (omega arith) i)
    ∙ inside a x n m d)
    (cases_eq m n)

two_runs : (a b c x y : Liveness) (p q : Term) (n m k : ℕ)
    → k ≡ n + 1 + statement_count p
    → (n + 1 ≤ m → m < k → filter (is_of m) (instances b p (n + 1)) ≡ live_at m x)
    → (k ≤ m → m < k + statement_count q → filter (is_of m) (instances c q k) ≡ live_at m y)
    → n ≤ m → m < n + (1 + statement_count p + statement_count q)
    → filter (is_of m) (instances_at a n ++ (instances b p (n + 1) ++ instances c q k))
    ≡ live_at m (if m == n then a else if nat_lt m k then x else y)
two_runs a b c x y p q n m k z f g le lt =
    let H = instances_at a n in
    let P = instances b p (n + 1) in
    let Q = instances c q k in
    filter-append (is_of m) H (P ++ Q) ∙ ap (λ l. filter (is_of m) H ++ l) (filter-append (is_of m) P Q)
    ∙ ⊎_elim
    (λ e.
    (λ i. leaf_run a n m (sym e) i ++ (apart (n + 1) m b p (inl (omega (arith, e))) i ++ apart k m c q (inl (omega (arith, e, z))) i))
    ∙ append-nil (live_at m a) ∙ itself a (if nat_lt m k then x else y) n m e)
    (λ d.
    ⊎_elim
    (λ l.
    (λ i. others_left n m (layers_of a) (λ e. d (sym e)) i ++ (f (omega (arith, le, d)) l i ++ apart k m c q (inl l) i))
    ∙ append-nil (live_at m x) ∙ in_first a x y n m k d l)
    (λ l.
    (λ i. others_left n m (layers_of a) (λ e. d (sym e)) i ++ (apart (n + 1) m b p (inr (omega (arith, l, z))) i ++ g l (omega (arith, z)) i))
    ∙ in_second a x y n m k d l)
    (cases_lt m k))
    (cases_eq m n)

abbrev Runs : Liveness → Term → (n m : ℕ) → Type 0
Runs a t n m = filter (is_of m) (instances a t n) ≡ live_at m (liveness_at a t n m)

runs : (a : Liveness) (t : Term) (n m : ℕ) → IsKernel t → n ≤ m → m < n + statement_count t → Runs a t n m
runs a Nothing n m h le lt = leaf_run a n m (omega arith)
runs a Pause n m h le lt = leaf_run a n m (omega arith)
runs a (Emit s) n m h le lt = leaf_run a n m (omega arith)
runs a (Exit k) n m h le lt = leaf_run a n m (omega arith)
runs a (Present e p q) n m h le lt =
    let k = n + 1 + statement_count p in
    let b = part_liveness a p in
    let c = part_liveness a q in
    two_runs a b c (liveness_at b p (n + 1) m) (liveness_at c q k m) p q n m k refl (runs b p (n + 1) m h.0) (runs c q k m h.1) le lt
runs a (Suspend e p) n m h le lt = let b = part_liveness a p in one_run a b (liveness_at b p (n + 1) m) p n m (runs b p (n + 1) m h) le lt
runs a (Seq p q) n m h le lt =
    let k = n + 1 + statement_count p in
    let b = part_liveness a p in
    let c = second_liveness a p q k in
    two_runs a b c (liveness_at b p (n + 1) m) (liveness_at c q k m) p q n m k refl (runs b p (n + 1) m h.0) (runs c q k m h.1) le lt
runs a (Loop at p) n m h le lt = let b = loop_liveness a p (n + 1) in one_run a b (liveness_at b p (n + 1) m) p n m (runs b p (n + 1) m h) le lt
runs a (Par p q) n m h le lt =
    let k = n + 1 + statement_count p in
    let b = part_liveness a p in
    let c = part_liveness a q in
    two_runs a b c (liveness_at b p (n + 1) m) (liveness_at c q k m) p q n m k refl (runs b p (n + 1) m h.0) (runs c q k m h.1) le lt
runs a (Trap p) n m h le lt = let b = part_liveness a p in one_run a b (liveness_at b p (n + 1) m) p n m (runs b p (n + 1) m h) le lt
runs a (Local s p) n m h le lt = let b = part_liveness a p in one_run a b (liveness_at b p (n + 1) m) p n m (runs b p (n + 1) m h) le lt
runs a (Awake e p) n m h le lt = absurd h

pub layers_of_statement : (body : Term) (n : ℕ) → IsKernel body → n < statement_count body → layers_from (body_instances body) n 0 ≡ body_layers body n
layers_of_statement body n k h =
    let ls = layers_of (liveness_at (body_liveness body) body 0 n) in
    ap (map (λ x. x.layer)) (runs (body_liveness body) body 0 n k (omega arith) (omega arith)) ∙ map-map (λ x. x.layer) (at_layer n) ls ∙ map-id ls

-- ---- where they stand

rest_ascends : (xs ys : List Instance) → Ascends (xs ++ ys) → Ascends ys
rest_ascends [] ys h = h
rest_ascends (x ∷ xs) ys h = rest_ascends xs ys h.1

all_before : (xs ys : List Instance) (y : Instance) → Ascends (xs ++ y ∷ ys) → All (λ x. Before x y) xs
all_before [] ys y h = All-nil (λ x. Before x y)
all_before (x ∷ xs) ys y h =
    All-cons (λ x. Before x y) x xs
    (All-contains (Before x) (xs ++ y ∷ ys) y h.0 (Contains-append_right xs (y ∷ ys) y (0, omega arith, refl)))
    (all_before xs ys y h.1)

-- an instance among others that ascend
record Stands (insts : List Instance) (i : ℕ) (x : Instance) : Type 0 where
  pub before : All (λ y. Before y x) (take i insts)
  pub behind : All (Before x) (drop (i + 1) insts)

stands : (insts : List Instance) (i : ℕ) → Ascends insts → i < length insts → Stands insts i (instance_at insts i)
stands insts i h l =
    let x = instance_at insts i in
    let split : insts ≡ take i insts ++ x ∷ drop (i + 1) insts
    = sym (take-append-drop i insts) ∙ ap (λ xs. take i insts ++ xs) (drop_more insts i _ l) in
    let whole = subst Ascends split h in
    record {
      before = all_before (take i insts) (drop (i + 1) insts) x whole;
      behind = (rest_ascends (take i insts) (x ∷ drop (i + 1) insts) whole).0;
    }

comes_behind : (insts : List Instance) (i j : ℕ) → Ascends insts → i < j → j < length insts → Before (instance_at insts i) (instance_at insts j)
comes_behind insts i j h l lt =
    let s = stands insts i h (omega arith) in
    let k = j - (i + 1) in
    let e : i + 1 + k ≡ j = omega arith in
    All-contains (Before (instance_at insts i)) (drop (i + 1) insts) (instance_at insts j) s.behind
    (k, omega (arith, length-drop (i + 1) insts), get_or-drop (i + 1) insts k _ ∙ ap (λ m. get_or insts m (instance_at insts j)) e ∙ same j lt)
  where
    same : (j : ℕ) → j < length insts → get_or insts j (instance_at insts j) ≡ instance_at insts j
    same j lt = get_or_default insts j (instance_at insts j) _ lt

-- instances of lesser paths are not of a statement
lesser_left : (n : ℕ) (xs : List Instance) → All (λ x. x.path < n) xs → filter (is_of n) xs ≡ []
lesser_left n xs h =
    filter-none (is_of n) xs (All-weaker (λ x. x.path < n) (λ x. is_of n x ≡ false) (λ x l. ne_eqb x.path n (λ e. omega (arith, e, l))) xs h)

greater_left : (n : ℕ) (xs : List Instance) → All (λ x. n < x.path) xs → filter (is_of n) xs ≡ []
greater_left n xs h =
    filter-none (is_of n) xs (All-weaker (λ x. n < x.path) (λ x. is_of n x ≡ false) (λ x l. ne_eqb x.path n (λ e. omega (arith, e, l))) xs h)

before_path : (x y : Instance) → Before x y → x.path ≤ y.path
before_path x y h = ⊎_elim (λ l. omega (arith, l)) (λ e. omega (arith, e.0)) h

not_resumed : (x y : Instance) → y.layer ≡ Resumed → Before x y → x.path < y.path
not_resumed x y e h = ⊎_elim (λ l. l) (λ k. absurd (none x.layer (subst (LayerBefore x.layer) e k.1))) h
  where
    none : (l : Layer) → LayerBefore l Resumed → ⊥
    none Resumed k = k
    none (Started r) k = k

-- one instance of the statement more
pub layer_more : (insts : List Instance) (n j : ℕ) → j < length insts → (instance_at insts j).path ≡ n
    → layers_from insts n j ≡ (instance_at insts j).layer ∷ layers_from insts n (j + 1)
layer_more insts n j l e =
    let x = instance_at insts j in
    let is : (x.path == n) ≡ true = eq-eqb x.path n e in
    ap (λ xs. map (λ y. y.layer) (filter (is_of n) xs)) (drop_more insts j _ l) ∙ kept is
  where
    kept : ((instance_at insts j).path == n) ≡ true
        → map (λ y. y.layer) (filter (is_of n) (instance_at insts j ∷ drop (j + 1) insts)) ≡ (instance_at insts j).layer ∷ layers_from insts n (j + 1)
    kept is = rw is refl

-- the resumed instance is the first of its statement
pub resumed_first : (insts : List Instance) (i : ℕ) → Ascends insts → i < length insts → (instance_at insts i).layer ≡ Resumed
    → layers_from insts (instance_at insts i).path 0 ≡ Resumed ∷ layers_from insts (instance_at insts i).path (i + 1)
resumed_first insts i h l e =
    let x = instance_at insts i in
    let n = x.path in
    let none : filter (is_of n) (take i insts) ≡ []
    = lesser_left n (take i insts) (All-weaker (λ y. Before y x) (λ y. y.path < n) (λ y b. not_resumed y x e b) (take i insts) (stands insts i h l).before) in
    ap (λ xs. map (λ y. y.layer) (filter (is_of n) xs)) (sym (take-append-drop i insts))
    ∙ ap (map (λ y. y.layer)) (filter-append (is_of n) (take i insts) (drop i insts))
    ∙ ap (λ xs. map (λ y. y.layer) (xs ++ filter (is_of n) (drop i insts))) none
    ∙ layer_more insts n i l refl
    ∙ ap (λ k. k ∷ layers_from insts n (i + 1)) e

-- from the end of its run on there is none
pub run_over : (insts : List Instance) (i e : ℕ) → Ascends insts → IsRun insts i e → layers_from insts (instance_at insts i).path e ≡ []
run_over insts i e h r =
    let n = (instance_at insts i).path in
    ⊎_elim
    (λ l.
    let y = instance_at insts e in
    let from : n ≤ y.path = before_path (instance_at insts i) y (comes_behind insts i e h r.begun l) in
    let past : n < y.path = omega (arith, from, r.ended l) in
    ap (λ xs. map (λ y. y.layer) (filter (is_of n) xs)) (drop_more insts e _ l)
    ∙ ap (map (λ y. y.layer)) (greater_left n (y ∷ drop (e + 1) insts) (All-cons (λ x. n < x.path) y (drop (e + 1) insts) past
    (All-weaker (Before y) (λ x. n < x.path) (λ x b. omega (arith, past, before_path y x b)) (drop (e + 1) insts) (stands insts e h l).behind))))
    (λ l. ap (λ xs. map (λ y. y.layer) (filter (is_of n) xs)) (drop_all e insts l))
    (cases_lt e (length insts))

-- the others of its statement are started
pub is_started : (insts : List Instance) (i j : ℕ) → Ascends insts → i < j → j < length insts → (instance_at insts j).path ≡ (instance_at insts i).path
    → ¬ ((instance_at insts j).layer ≡ Resumed)
is_started insts i j h l lt e k = let b = not_resumed (instance_at insts i) (instance_at insts j) k (comes_behind insts i j h l lt) in omega (arith, e, b)
