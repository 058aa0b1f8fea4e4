-- The head of each live instance of a body is live.
use Rattle.std.proofs.Common.{◌≡◌, ℕ, ◌+◌, ◌<◌, ◌≤◌, ◌⊎◌, inl, inr, true, ◌==◌, ◌&&◌, cond, ltb, List, [], ◌∷◌, ◌++◌}
use Rattle.std.proofs.Common.{refl, sym, subst, arith, ⊎_elim}
use Rattle.std.specs.Prelude.{Contains}
use Rattle.std.proofs.lemmas.Bool.{cases_lt, eq-eqb, ne_eqb, cond-true, lt-ltb, le-ltb}
use Rattle.std.proofs.lemmas.List.Elements.{Contains-append_left, Contains-append_right, Contains-append_cases, All-contains}
use Rattle.est_kernel.specs.Preorder.{statement_count}
use Rattle.est_kernel.specs.StaticCodes.{started_codes, resumed_codes}
use Rattle.est_kernel.specs.Terms.{Term, Nothing, Pause, Emit, Exit, Present, Suspend, Seq, Loop, Par, Trap, Local, Awake}
use Rattle.grc_graph.specs.Instances.{Instance, instances_at, instances, body_instances, enclosing}
use Rattle.grc_graph.specs.Layers.{Layer, Resumed, Started, Liveness, layer_above, layers_of, root_if, body_liveness, part_liveness, second_liveness}
use Rattle.grc_graph.specs.Layers.{loop_liveness}
use Rattle.grc_graph.proofs.Exports.{at_layer, from_map, in_map, own_root, of_fewer, started_in, cases_of, instances_among, enclosing_are_live_lem}
use Rattle.grc_solutions_laws.specs.Heads.{head_in}
use Rattle.grc_regions.specs.HeadLists.{head_number}

-- ---- a resumed head is around its statements

encloses_itself : (t : Term) (n m : ℕ) → Contains (enclosing t n m) n
encloses_itself Nothing n m = (0, omega arith, refl)
encloses_itself _ n m = (0, omega arith, refl)

-- x is the head of the whole, or one of these
abbrev HeadOr : ℕ → List ℕ → ℕ → Type 0
HeadOr h bs x = (x ≡ h) ⊎ Contains bs x

one_around : (h n m x : ℕ) (bs : List ℕ) → n ≤ m → (n + 1 ≤ m → HeadOr h bs x) → HeadOr h (n ∷ cond (m == n) [] bs) (cond (m == n) h x)
one_around h n m x bs low f = ⊎_elim
    (λ e. inl (cond-true (m == n) h x (eq-eqb m n (omega (arith, e, low)))))
    (λ l. subst (λ b. HeadOr h (n ∷ cond b [] bs) (cond b h x)) (sym (ne_eqb m n (λ e. omega (arith, e, l))))
    (⊎_elim (λ e. inl e) (λ k. inr (Contains-append_right (n ∷ []) bs x k)) (f l)))
    (cases_lt m (n + 1))

two_around : (h n c m x y : ℕ) (bs cs : List ℕ) → n ≤ m → (n + 1 ≤ m → m < c → HeadOr h bs x) → (c ≤ m → HeadOr h cs y)
    → HeadOr h (n ∷ cond (m == n) [] (cond (ltb m c) bs cs)) (cond (m == n) h (cond (ltb m c) x y))
two_around h n c m x y bs cs low f g =
    one_around h n m (cond (ltb m c) x y) (cond (ltb m c) bs cs) low
    (λ l. ⊎_elim
    (λ b. subst (λ t. HeadOr h (cond t bs cs) (cond t x y)) (sym (lt-ltb m c b)) (f l b))
    (λ b. subst (λ t. HeadOr h (cond t bs cs) (cond t x y)) (sym (le-ltb m c b)) (g b))
    (cases_lt m c))

-- the head of a branch is the branch
branch_around : (t : Term) (h n m x : ℕ) → HeadOr n (enclosing t n m) x → HeadOr h (enclosing t n m) x
branch_around t h n m x k = ⊎_elim (λ e. inr (subst (Contains (enclosing t n m)) (sym e) (encloses_itself t n m))) (λ i. inr i) k

head_around : (h : ℕ) (t : Term) (n m : ℕ) → n ≤ m → m < n + statement_count t → HeadOr h (enclosing t n m) (head_in h t n m)
head_around h (Present e p q) n m l u =
    two_around h n (n + 1 + statement_count p) m _ _ (enclosing p (n + 1) m) (enclosing q (n + 1 + statement_count p) m) l
    (λ a b. head_around h p (n + 1) m a b) (λ a. head_around h q (n + 1 + statement_count p) m a (omega (arith, u)))
head_around h (Suspend e p) n m l u = one_around h n m _ (enclosing p (n + 1) m) l (λ a. head_around h p (n + 1) m a (omega (arith, u)))
head_around h (Seq p q) n m l u =
    two_around h n (n + 1 + statement_count p) m _ _ (enclosing p (n + 1) m) (enclosing q (n + 1 + statement_count p) m) l
    (λ a b. head_around h p (n + 1) m a b) (λ a. head_around h q (n + 1 + statement_count p) m a (omega (arith, u)))
head_around h (Loop at p) n m l u = one_around h n m _ (enclosing p (n + 1) m) l (λ a. head_around h p (n + 1) m a (omega (arith, u)))
head_around h (Par p q) n m l u =
    let c = n + 1 + statement_count p in
    two_around h n c m _ _ (enclosing p (n + 1) m) (enclosing q c m) l
    (λ a b. branch_around p h (n + 1) m _ (head_around (n + 1) p (n + 1) m a b)) (λ a. branch_around q h c m _ (head_around c q c m a (omega (arith, u))))
head_around h (Trap p) n m l u = one_around h n m _ (enclosing p (n + 1) m) l (λ a. head_around h p (n + 1) m a (omega (arith, u)))
head_around h (Local s p) n m l u = one_around h n m _ (enclosing p (n + 1) m) l (λ a. head_around h p (n + 1) m a (omega (arith, u)))
head_around h _ n m l u = inl refl

-- ---- a start is live where it began

own_instances : (a : Liveness) (t : Term) (n : ℕ) (x : Instance) → Contains (instances_at a n) x → Contains (instances a t n) x
own_instances a Nothing n x k = k
own_instances a Pause n x k = k
own_instances a (Emit s) n x k = k
own_instances a (Exit c) n x k = k
own_instances a _ n x k = Contains-append_left (instances_at a n) _ x k

-- the root of a start is one of those of the whole, or is live among these
abbrev RootOr : Liveness → List Instance → ℕ → Type 0
RootOr a live r = Contains a.roots r ⊎ Contains live (at_layer r (Started r))

abbrev is_root : Liveness → ℕ → Layer → Type 0
is_root a r Resumed = Unit {0}
is_root a r (Started s) = s ≡ r → Contains a.roots r

root_of : (a : Liveness) (n m r : ℕ) → Contains (instances_at a n) (at_layer m (Started r)) → Contains a.roots r
root_of a n m r k =
    cases_of (is_root a r) a (Started r) (from_map n m (layers_of a) (Started r) k).1 (λ e. tt) (λ s i e. subst (Contains a.roots) e i) refl

-- the roots of a part are those of the whole, but for one at the part
record RootsFrom (a b : Liveness) (c : ℕ) : Type 0 where
  from : (r : ℕ) → Contains b.roots r → Contains a.roots r ⊎ (r ≡ c)

part_root : (a b : Liveness) (p : Term) (c m r : ℕ) (live : List Instance) → RootsFrom a b c
    → ((x : Instance) → Contains (instances b p c) x → Contains live x)
    → RootOr b (instances b p c) r → RootOr a live r
part_root a b p c m r live f g k = ⊎_elim
    (λ i. ⊎_elim (λ j. inl j)
    (λ e. inr (g (at_layer r (Started r)) (subst (λ z. Contains (instances b p c) (at_layer z (Started r))) (sym e)
    (own_instances b p c (at_layer c (Started r)) (in_map c (layers_of b) (Started r) (started_in b r i))))))
    (f.from r i))
    (λ i. inr (g (at_layer r (Started r)) i)) k

one_root : (a b : Liveness) (p : Term) (n c m r : ℕ) → RootsFrom a b c
    → (Contains (instances b p c) (at_layer m (Started r)) → RootOr b (instances b p c) r)
    → Contains (instances_at a n ++ instances b p c) (at_layer m (Started r)) → RootOr a (instances_at a n ++ instances b p c) r
one_root a b p n c m r f g k = ⊎_elim (λ i. inl (root_of a n m r i))
    (λ i. part_root a b p c m r (instances_at a n ++ instances b p c) f (Contains-append_right (instances_at a n) (instances b p c)) (g i))
    (Contains-append_cases (instances_at a n) (instances b p c) (at_layer m (Started r)) k)

two_root : (a b d : Liveness) (p q : Term) (n c e m r : ℕ) → RootsFrom a b c → RootsFrom a d e
    → (Contains (instances b p c) (at_layer m (Started r)) → RootOr b (instances b p c) r)
    → (Contains (instances d q e) (at_layer m (Started r)) → RootOr d (instances d q e) r)
    → Contains (instances_at a n ++ (instances b p c ++ instances d q e)) (at_layer m (Started r))
    → RootOr a (instances_at a n ++ (instances b p c ++ instances d q e)) r
two_root a b d p q n c e m r f g u v k =
    let P = instances b p c in
    let Q = instances d q e in
    ⊎_elim (λ i. inl (root_of a n m r i))
    (λ i. ⊎_elim
    (λ j. part_root a b p c m r (instances_at a n ++ (P ++ Q)) f
    (λ x z. Contains-append_right (instances_at a n) (P ++ Q) x (Contains-append_left P Q x z)) (u j))
    (λ j. part_root a d q e m r (instances_at a n ++ (P ++ Q)) g
    (λ x z. Contains-append_right (instances_at a n) (P ++ Q) x (Contains-append_right P Q x z)) (v j))
    (Contains-append_cases P Q (at_layer m (Started r)) i))
    (Contains-append_cases (instances_at a n) (P ++ Q) (at_layer m (Started r)) k)

part_from : (a : Liveness) (p : Term) (c : ℕ) → RootsFrom a (part_liveness a p) c
part_from a p c = record { from = λ r k. inl k }

loop_from : (a : Liveness) (p : Term) (c : ℕ) → RootsFrom a (loop_liveness a p c) c
loop_from a p c = record {
  from = λ r k. ⊎_elim (λ i. inl i) (λ i. inr (own_root (a.resumed && resumed_codes p 0) c r i).1)
      (Contains-append_cases a.roots (root_if (a.resumed && resumed_codes p 0) c) r k);
}

second_from : (a : Liveness) (p q : Term) (c : ℕ) → RootsFrom a (second_liveness a p q c) c
second_from a p q c = record {
  from = λ r k. ⊎_elim (λ i. inl (of_fewer (started_codes p 0) a.roots r i)) (λ i. inr (own_root (a.resumed && resumed_codes p 0) c r i).1)
      (Contains-append_cases (cond (started_codes p 0) a.roots []) (root_if (a.resumed && resumed_codes p 0) c) r k);
}

start_live : (a : Liveness) (t : Term) (n m r : ℕ) → Contains (instances a t n) (at_layer m (Started r)) → RootOr a (instances a t n) r
start_live a (Present e p q) n m r k =
    let c = n + 1 + statement_count p in
    two_root a (part_liveness a p) (part_liveness a q) p q n (n + 1) c m r (part_from a p (n + 1)) (part_from a q c)
    (start_live (part_liveness a p) p (n + 1) m r) (start_live (part_liveness a q) q c m r) k
start_live a (Suspend e p) n m r k =
    one_root a (part_liveness a p) p n (n + 1) m r (part_from a p (n + 1)) (start_live (part_liveness a p) p (n + 1) m r) k
start_live a (Seq p q) n m r k =
    let c = n + 1 + statement_count p in
    two_root a (part_liveness a p) (second_liveness a p q c) p q n (n + 1) c m r (part_from a p (n + 1)) (second_from a p q c)
    (start_live (part_liveness a p) p (n + 1) m r) (start_live (second_liveness a p q c) q c m r) k
start_live a (Loop at p) n m r k =
    one_root a (loop_liveness a p (n + 1)) p n (n + 1) m r (loop_from a p (n + 1)) (start_live (loop_liveness a p (n + 1)) p (n + 1) m r) k
start_live a (Par p q) n m r k =
    let c = n + 1 + statement_count p in
    two_root a (part_liveness a p) (part_liveness a q) p q n (n + 1) c m r (part_from a p (n + 1)) (part_from a q c)
    (start_live (part_liveness a p) p (n + 1) m r) (start_live (part_liveness a q) q c m r) k
start_live a (Trap p) n m r k =
    one_root a (part_liveness a p) p n (n + 1) m r (part_from a p (n + 1)) (start_live (part_liveness a p) p (n + 1) m r) k
start_live a (Local s p) n m r k =
    one_root a (part_liveness a p) p n (n + 1) m r (part_from a p (n + 1)) (start_live (part_liveness a p) p (n + 1) m r) k
start_live a (Awake e p) n m r k =
    one_root a (part_liveness a p) p n (n + 1) m r (part_from a p (n + 1)) (start_live (part_liveness a p) p (n + 1) m r) k
start_live a _ n m r k = inl (root_of a n m r k)

-- ---- heads are live

pub heads_live : (body : Term) (m : ℕ) (l : Layer) → Contains (body_instances body) (at_layer m l)
    → Contains (body_instances body) (at_layer (head_number (head_in 0 body 0 m) l) l)
heads_live body m Resumed k =
    let range = All-contains (λ x. (0 ≤ x.path) × (x.path < 0 + statement_count body)) (body_instances body) (at_layer m Resumed)
    (instances_among (body_liveness body) body 0) k in
    let here = head_around 0 body 0 m (omega arith) range.1 in
    All-contains (λ b. Contains (body_instances body) (at_layer b (layer_above b Resumed))) (enclosing body 0 m) (head_in 0 body 0 m)
    (enclosing_are_live_lem body m Resumed k)
    (⊎_elim (λ e. subst (Contains (enclosing body 0 m)) (sym e) (encloses_itself body 0 m)) (λ i. i) here)
heads_live body m (Started r) k = ⊎_elim
    (λ i. let e = only i in
    subst (λ z. Contains (body_instances body) (at_layer z (Started z))) (sym e)
    (own_instances (body_liveness body) body 0 (at_layer 0 (Started 0))
    (in_map 0 (layers_of (body_liveness body)) (Started 0) (started_in (body_liveness body) 0 (0, omega arith, refl)))))
    (λ i. i) (start_live (body_liveness body) body 0 m r k)
  where
    only : Contains (0 ∷ []) r → r ≡ 0
    only i = (own_root true 0 r i).1
