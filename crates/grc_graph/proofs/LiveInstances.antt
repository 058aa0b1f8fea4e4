-- The live instances of a body stand once and in order, and with each those of the statements around it.
use Rattle.std.proofs.Common.{◌≡◌, ℕ, ◌+◌, ◌<◌, ◌≤◌, ◌⊎◌, inl, inr, Bool, true, false, ◌==◌, ◌&&◌, List, [], ◌∷◌, ◌++◌, length, map, get_or, refl, sym, ap, ◌∙◌}
use Rattle.std.proofs.Common.{subst, ⊎_elim, arith}
use Rattle.std.specs.Prelude.{nat_lt, nat_le, if◌then◌else◌, All, Contains}
use Rattle.std.proofs.lemmas.Bool.{cases_lt, and_parts, eq-eqb, ne_eqb, lt-ltb, le-ltb, le-leb, lt-leb}
use Rattle.std.proofs.lemmas.List.{map-append, length-map, get_or-map}
use Rattle.std.proofs.lemmas.Simd.{map-map}
use Rattle.std.proofs.lemmas.List.Elements.{All-append, All-nil, All-cons, All-weaker, All-head, All-tail, All-map, Contains-append_left, Contains-append_right}
use Rattle.std.proofs.lemmas.List.Elements.{Contains-append_cases, Contains-get_or, All-contains}
use Rattle.est_kernel.specs.Terms.{Term, Present, Suspend, Seq, Loop, Par, Trap, Local, Awake}
use Rattle.est_kernel.specs.Preorder.{statement_count}
use Rattle.est_kernel.specs.StaticCodes.{started_codes, resumed_codes}
use Rattle.grc_graph.specs.Layers.{Layer, Resumed, Started, Liveness, layer_above, layers_of, root_if, part_liveness, second_liveness, loop_liveness}
use Rattle.grc_graph.specs.Layers.{body_liveness}
use Rattle.grc_graph.specs.Instances.{Instance, instances_at, instances, Before, Ascends, enclosing}
use Rattle.grc_graph.specs.InstanceLaws.{InstancesAscend, EnclosingAreLive}

-- ---- roots ascend, and none is behind the statement

abbrev Rises : List ℕ → Type 0
Rises [] = Unit {0}
Rises (x ∷ xs) = All (λ y. x < y) xs × Rises xs

pub record RootsFit (n : ℕ) (roots : List ℕ) : Type 0 where
  pub rises : Rises roots
  pub within : All (λ r. r ≤ n) roots

rises_append : (xs ys : List ℕ) (n : ℕ) → Rises xs → Rises ys → All (λ r. r ≤ n) xs → All (λ r. n < r) ys → Rises (xs ++ ys)
rises_append [] ys n h g w v = g
rises_append (x ∷ xs) ys n h g w v =
    let at : x ≤ n = All-head (λ r. r ≤ n) x xs w in (
      All-append (λ y. x < y) xs ys h.0 (All-weaker (λ r. n < r) (λ y. x < y) (λ y l. omega (arith, at, l)) ys v),
      rises_append xs ys n h.1 g (All-tail (λ r. r ≤ n) x xs w) v,
    )

rises_if : (b : Bool) (m : ℕ) → Rises (root_if b m)
rises_if true m = (All-nil (λ y. m < y), tt)
rises_if false m = tt

within_if : (b : Bool) (m : ℕ) (P : ℕ → Type 0) → P m → All P (root_if b m)
within_if true m P h = All-cons P m [] h (All-nil P)
within_if false m P h = All-nil P

more_roots : (n m : ℕ) (b : Bool) (roots : List ℕ) → n < m → RootsFit n roots → RootsFit m (roots ++ root_if b m)
more_roots n m b roots l h = record {
  rises = rises_append roots (root_if b m) n h.rises (rises_if b m) h.within (within_if b m (λ r. n < r) l);
  within = All-append (λ r. r ≤ m) roots (root_if b m)
      (All-weaker (λ r. r ≤ n) (λ r. r ≤ m) (λ r e. omega arith) roots h.within) (within_if b m (λ r. r ≤ m) (omega arith));
}

fewer_roots : (n : ℕ) (b : Bool) (roots : List ℕ) → RootsFit n roots → RootsFit n (if b then roots else [])
fewer_roots n true roots h = h
fewer_roots n false roots h = record { rises = tt; within = All-nil (λ r. r ≤ n) }

same_roots : (n m : ℕ) (roots : List ℕ) → n ≤ m → RootsFit n roots → RootsFit m roots
same_roots n m roots l h = record { rises = h.rises; within = All-weaker (λ r. r ≤ n) (λ r. r ≤ m) (λ r e. omega arith) roots h.within }

pub part_fits : (a : Liveness) (p : Term) (n m : ℕ) → n ≤ m → RootsFit n a.roots → RootsFit m (part_liveness a p).roots
part_fits a p n m l h = same_roots n m a.roots l h

pub second_fits : (a : Liveness) (p q : Term) (n m : ℕ) → n < m → RootsFit n a.roots → RootsFit m (second_liveness a p q m).roots
second_fits a p q n m l h = more_roots n m (a.resumed && resumed_codes p 0) _ l (fewer_roots n (started_codes p 0) a.roots h)

pub loop_fits : (a : Liveness) (p : Term) (n m : ℕ) → n < m → RootsFit n a.roots → RootsFit m (loop_liveness a p m).roots
loop_fits a p n m l h = more_roots n m (a.resumed && resumed_codes p 0) a.roots l h

-- ---- in order

abbrev pub at_layer : ℕ → Layer → Instance
at_layer n l = record { path = n; layer = l }

starts_ascend : (n : ℕ) (roots : List ℕ) → Rises roots → Ascends (map (λ r. at_layer n (Started r)) roots)
starts_ascend n [] h = tt
starts_ascend n (r ∷ rs) h = (
  All-map (Before (at_layer n (Started r))) (λ r. at_layer n (Started r)) rs
      (All-weaker (λ y. r < y) (λ y. Before (at_layer n (Started r)) (at_layer n (Started y))) (λ y l. inr (refl, l)) rs h.0),
  starts_ascend n rs h.1,
)

resumed_first : (n : ℕ) (roots : List ℕ) → All (Before (at_layer n Resumed)) (map (λ r. at_layer n (Started r)) roots)
resumed_first n roots =
    All-map (Before (at_layer n Resumed)) (λ r. at_layer n (Started r)) roots (λ k d h. inr (refl, tt))

pub split_layers : (a : Liveness) (n : ℕ) → map (at_layer n) (if a.resumed then Resumed ∷ [] else []) ++ map (λ r. at_layer n (Started r)) a.roots ≡
    instances_at a n
split_layers a n =
    ap (λ l. map (at_layer n) (if a.resumed then Resumed ∷ [] else []) ++ l) (sym (map-map (at_layer n) Started a.roots))
    ∙ sym (map-append (at_layer n) (if a.resumed then Resumed ∷ [] else []) (map Started a.roots))

layers_ascend : (b : Bool) (n : ℕ) (roots : List ℕ) → Rises roots
    → Ascends (map (at_layer n) (if b then Resumed ∷ [] else []) ++ map (λ r. at_layer n (Started r)) roots)
layers_ascend true n roots h = (resumed_first n roots, starts_ascend n roots h)
layers_ascend false n roots h = starts_ascend n roots h

here_ascends : (a : Liveness) (n : ℕ) → Rises a.roots → Ascends (instances_at a n)
here_ascends a n h = subst Ascends (split_layers a n) (layers_ascend a.resumed n a.roots h)

-- the paths of instances lie from one number up to another
abbrev Among : (n m : ℕ) → List Instance → Type 0
Among n m xs = All (λ x. (n ≤ x.path) × (x.path < m)) xs

here_among : (a : Liveness) (n m : ℕ) → n < m → Among n m (instances_at a n)
here_among a n m h = All-map (λ x. (n ≤ x.path) × (x.path < m)) (at_layer n) (layers_of a) (λ k d l. (omega arith, h))

wider : (a b c d : ℕ) (xs : List Instance) → c ≤ a → b ≤ d → Among a b xs → Among c d xs
wider a b c d xs h g l = All-weaker (λ u. (a ≤ u.path) × (u.path < b)) (λ u. (c ≤ u.path) × (u.path < d)) (λ u x. (omega (arith, x.0), omega (arith, x.1))) xs l

both_among : (n m : ℕ) (xs ys : List Instance) → Among n m xs → Among n m ys → Among n m (xs ++ ys)
both_among n m xs ys h g = All-append (λ u. (n ≤ u.path) × (u.path < m)) xs ys h g

pub instances_among : (a : Liveness) (t : Term) (n : ℕ) → Among n (n + statement_count t) (instances a t n)
instances_among a (Present e p q) n = both_among n _ _ _ (here_among a n _ (omega arith)) (both_among n _ _ _
    (wider (n + 1) (n + 1 + statement_count p) n _ _ (omega arith) (omega arith) (instances_among (part_liveness a p) p (n + 1)))
    (wider (n + 1 + statement_count p) (n + 1 + statement_count p + statement_count q) n _ _ (omega arith) (omega arith)
    (instances_among (part_liveness a q) q (n + 1 + statement_count p))))
instances_among a (Suspend e p) n = both_among n _ _ _ (here_among a n _ (omega arith))
    (wider (n + 1) (n + 1 + statement_count p) n _ _ (omega arith) (omega arith) (instances_among (part_liveness a p) p (n + 1)))
instances_among a (Seq p q) n = both_among n _ _ _ (here_among a n _ (omega arith)) (both_among n _ _ _
    (wider (n + 1) (n + 1 + statement_count p) n _ _ (omega arith) (omega arith) (instances_among (part_liveness a p) p (n + 1)))
    (wider (n + 1 + statement_count p) (n + 1 + statement_count p + statement_count q) n _ _ (omega arith) (omega arith)
    (instances_among (second_liveness a p q (n + 1 + statement_count p)) q (n + 1 + statement_count p))))
instances_among a (Loop at p) n = both_among n _ _ _ (here_among a n _ (omega arith))
    (wider (n + 1) (n + 1 + statement_count p) n _ _ (omega arith) (omega arith) (instances_among (loop_liveness a p (n + 1)) p (n + 1)))
instances_among a (Par p q) n = both_among n _ _ _ (here_among a n _ (omega arith)) (both_among n _ _ _
    (wider (n + 1) (n + 1 + statement_count p) n _ _ (omega arith) (omega arith) (instances_among (part_liveness a p) p (n + 1)))
    (wider (n + 1 + statement_count p) (n + 1 + statement_count p + statement_count q) n _ _ (omega arith) (omega arith)
    (instances_among (part_liveness a q) q (n + 1 + statement_count p))))
instances_among a (Trap p) n = both_among n _ _ _ (here_among a n _ (omega arith))
    (wider (n + 1) (n + 1 + statement_count p) n _ _ (omega arith) (omega arith) (instances_among (part_liveness a p) p (n + 1)))
instances_among a (Local s p) n = both_among n _ _ _ (here_among a n _ (omega arith))
    (wider (n + 1) (n + 1 + statement_count p) n _ _ (omega arith) (omega arith) (instances_among (part_liveness a p) p (n + 1)))
instances_among a (Awake e p) n = both_among n _ _ _ (here_among a n _ (omega arith))
    (wider (n + 1) (n + 1 + statement_count p) n _ _ (omega arith) (omega arith) (instances_among (part_liveness a p) p (n + 1)))
instances_among a _ n = here_among a n _ (omega arith)

ascends_append : (xs ys : List Instance) → Ascends xs → Ascends ys → All (λ x. All (Before x) ys) xs → Ascends (xs ++ ys)
ascends_append [] ys h g c = g
ascends_append (x ∷ xs) ys h g c =
    (All-append (Before x) xs ys h.0 (All-head (λ x. All (Before x) ys) x xs c), ascends_append xs ys h.1 g (All-tail (λ x. All (Before x) ys) x xs c))

-- instances with lesser numbers, and then others
ascends_apart : (a m b : ℕ) (xs ys : List Instance) → Ascends xs → Ascends ys → Among a m xs → Among m b ys → Ascends (xs ++ ys)
ascends_apart a m b xs ys h g u v =
    ascends_append xs ys h g (All-weaker (λ x. (a ≤ x.path) × (x.path < m)) (λ x. All (Before x) ys)
    (λ x k. All-weaker (λ y. (m ≤ y.path) × (y.path < b)) (Before x) (λ y l. inl (omega (arith, k.1, l.0))) ys v) xs u)

one_ascends : (a b : Liveness) (p : Term) (n : ℕ) → Rises a.roots → Ascends (instances b p (n + 1)) → Ascends (instances_at a n ++ instances b p (n + 1))
one_ascends a b p n h g = ascends_apart n (n + 1) _ _ _ (here_ascends a n h) g (here_among a n (n + 1) (omega arith)) (instances_among b p (n + 1))

two_ascend : (a b c : Liveness) (p q : Term) (n : ℕ) → Rises a.roots → Ascends (instances b p (n + 1)) → Ascends (instances c q (n + 1 + statement_count p))
    → Ascends (instances_at a n ++ (instances b p (n + 1) ++ instances c q (n + 1 + statement_count p)))
two_ascend a b c p q n h g k =
    ascends_apart n (n + 1) (n + 1 + statement_count p + statement_count q) _ _ (here_ascends a n h)
    (ascends_apart (n + 1) (n + 1 + statement_count p) _ _ _ g k (instances_among b p (n + 1)) (instances_among c q (n + 1 + statement_count p)))
    (here_among a n (n + 1) (omega arith))
    (both_among (n + 1) (n + 1 + statement_count p + statement_count q) _ _
    (wider (n + 1) (n + 1 + statement_count p) (n + 1) _ _ (omega arith) (omega arith) (instances_among b p (n + 1)))
    (wider (n + 1 + statement_count p) (n + 1 + statement_count p + statement_count q) (n + 1) _ _ (omega arith) (omega arith)
    (instances_among c q (n + 1 + statement_count p))))

ascending : (a : Liveness) (t : Term) (n : ℕ) → RootsFit n a.roots → Ascends (instances a t n)
ascending a (Present e p q) n h = two_ascend a _ _ p q n h.rises
    (ascending (part_liveness a p) p (n + 1) (part_fits a p n (n + 1) (omega arith) h))
    (ascending (part_liveness a q) q (n + 1 + statement_count p) (part_fits a q n (n + 1 + statement_count p) (omega arith) h))
ascending a (Suspend e p) n h = one_ascends a _ p n h.rises (ascending (part_liveness a p) p (n + 1) (part_fits a p n (n + 1) (omega arith) h))
ascending a (Seq p q) n h = two_ascend a _ _ p q n h.rises
    (ascending (part_liveness a p) p (n + 1) (part_fits a p n (n + 1) (omega arith) h))
    (ascending (second_liveness a p q (n + 1 + statement_count p)) q (n + 1 + statement_count p)
    (second_fits a p q n (n + 1 + statement_count p) (omega arith) h))
ascending a (Loop at p) n h = one_ascends a _ p n h.rises (ascending (loop_liveness a p (n + 1)) p (n + 1) (loop_fits a p n (n + 1) (omega arith) h))
ascending a (Par p q) n h = two_ascend a _ _ p q n h.rises
    (ascending (part_liveness a p) p (n + 1) (part_fits a p n (n + 1) (omega arith) h))
    (ascending (part_liveness a q) q (n + 1 + statement_count p) (part_fits a q n (n + 1 + statement_count p) (omega arith) h))
ascending a (Trap p) n h = one_ascends a _ p n h.rises (ascending (part_liveness a p) p (n + 1) (part_fits a p n (n + 1) (omega arith) h))
ascending a (Local s p) n h = one_ascends a _ p n h.rises (ascending (part_liveness a p) p (n + 1) (part_fits a p n (n + 1) (omega arith) h))
ascending a (Awake e p) n h = one_ascends a _ p n h.rises (ascending (part_liveness a p) p (n + 1) (part_fits a p n (n + 1) (omega arith) h))
ascending a _ n h = here_ascends a n h.rises

pub body_fits : (body : Term) → RootsFit 0 (body_liveness body).roots
body_fits body = record {
  rises = (All-nil (λ y. 0 < y), tt);
  within = All-cons (λ r. r ≤ 0) 0 [] (omega arith) (All-nil (λ r. r ≤ 0));
}

pub instances_ascend_lem : InstancesAscend
instances_ascend_lem body = ascending (body_liveness body) body 0 (body_fits body)

-- ---- the statements around a live instance

-- a layer of a part, seen from its whole, is one of the whole's
pub record Upwards (a : Liveness) (n : ℕ) (b : Liveness) : Type 0 where
  pub up : (l : Layer) → Contains (layers_of b) l → Contains (layers_of a) (layer_above n l)

pub resumed_in : (a : Liveness) → a.resumed ≡ true → Contains (layers_of a) Resumed
resumed_in a h = Contains-append_left (if a.resumed then Resumed ∷ [] else []) (map Started a.roots) Resumed (rw h (0, omega arith, refl))

pub started_in : (a : Liveness) (r : ℕ) → Contains a.roots r → Contains (layers_of a) (Started r)
started_in a r h =
    Contains-append_right (if a.resumed then Resumed ∷ [] else []) (map Started a.roots) (Started r)
    (h.0, omega (arith, h.1, length-map a.roots Started), get_or-map Started a.roots h.0 r (Started r) h.1 ∙ ap Started h.2)

-- a layer is the resumed one, which is live, or that of a start at a root
from_resumed : (P : Layer → Type 0) (b : Bool) (l : Layer) → Contains (if b then Resumed ∷ [] else []) l → (b ≡ true → P Resumed) → P l
from_resumed P true l h f =
    let first : h.0 ≡ 0 = omega (arith, h.1) in
    subst P ((λ i. get_or (Resumed ∷ []) (sym first i) l) ∙ h.2) (f refl)
from_resumed P false l h f = absurd (omega (arith, h.1))

from_started : (P : Layer → Type 0) (roots : List ℕ) (l : Layer) → Contains (map Started roots) l → ((r : ℕ) → Contains roots r → P (Started r)) → P l
from_started P roots l h g =
    let inside : h.0 < length roots = omega (arith, h.1, length-map roots Started) in
    subst P (sym (get_or-map Started roots h.0 0 l inside) ∙ h.2) (g (get_or roots h.0 0) (Contains-get_or roots h.0 0 inside))

pub cases_of : (P : Layer → Type 0) (a : Liveness) (l : Layer) → Contains (layers_of a) l
    → (a.resumed ≡ true → P Resumed) → ((r : ℕ) → Contains a.roots r → P (Started r)) → P l
cases_of P a l h f g =
    ⊎_elim (λ u. from_resumed P a.resumed l u f) (λ u. from_started P a.roots l u g)
    (Contains-append_cases (if a.resumed then Resumed ∷ [] else []) (map Started a.roots) l h)

pub above_within : (n r : ℕ) → r ≤ n → layer_above n (Started r) ≡ Started r
above_within n r h = let e : nat_le r n ≡ true = le-leb r n h in rw e refl

pub above_behind : (n r : ℕ) → n < r → layer_above n (Started r) ≡ Resumed
above_behind n r h = let e : nat_le r n ≡ false = lt-leb r n h in rw e refl

pub above_above : (n c : ℕ) (l : Layer) → n ≤ c → layer_above n (layer_above c l) ≡ layer_above n l
above_above n c Resumed h = refl
above_above n c (Started r) h =
    ⊎_elim (λ lt. ap (λ l. layer_above n l) (above_behind c r lt) ∙ sym (above_behind n r (omega arith)))
    (λ ge. ap (λ l. layer_above n l) (above_within c r ge)) (cases_lt c r)

-- a layer of a statement is what it is from its own number
pub above_itself : (a : Liveness) (n : ℕ) (l : Layer) → RootsFit n a.roots → Contains (layers_of a) l → layer_above n l ≡ l
above_itself a n l fit h =
    cases_of (λ l. layer_above n l ≡ l) a l h (λ e. refl)
    (λ r k. above_within n r (All-contains (λ r. r ≤ n) a.roots r fit.within k))

up_of : (a b : Liveness) (n : ℕ) → RootsFit n a.roots
    → (b.resumed ≡ true → a.resumed ≡ true)
    → ((r : ℕ) → Contains b.roots r → Contains a.roots r ⊎ ((n < r) × (a.resumed ≡ true)))
    → Upwards a n b
up_of a b n fit f g = record {
  up = λ l h. cases_of (λ l. Contains (layers_of a) (layer_above n l)) b l h (λ e. resumed_in a (f e))
      (λ r k. ⊎_elim
      (λ u. subst (λ x. Contains (layers_of a) x) (sym (above_within n r (All-contains (λ r. r ≤ n) a.roots r fit.within u))) (started_in a r u))
      (λ u. subst (λ x. Contains (layers_of a) x) (sym (above_behind n r u.0)) (resumed_in a u.1))
      (g r k));
}

pub part_up : (a : Liveness) (p : Term) (n : ℕ) → RootsFit n a.roots → Upwards a n (part_liveness a p)
part_up a p n fit = up_of a (part_liveness a p) n fit (λ e. (and_parts a.resumed _ e).0) (λ r k. inl k)

pub own_root : (b : Bool) (m r : ℕ) → Contains (root_if b m) r → (b ≡ true) × (r ≡ m)
own_root true m r h =
    let first : h.0 ≡ 0 = omega (arith, h.1) in
    (refl, sym ((λ i. get_or (m ∷ []) (sym first i) r) ∙ h.2))
own_root false m r h = absurd (omega (arith, h.1))

pub of_fewer : (b : Bool) (roots : List ℕ) (r : ℕ) → Contains (if b then roots else []) r → Contains roots r
of_fewer true roots r h = h
of_fewer false roots r h = absurd (omega (arith, h.1))

pub second_up : (a : Liveness) (p q : Term) (n m : ℕ) → n < m → RootsFit n a.roots → Upwards a n (second_liveness a p q m)
second_up a p q n m lt fit =
    up_of a (second_liveness a p q m) n fit (λ e. (and_parts a.resumed _ e).0)
    (λ r k. ⊎_elim (λ u. inl (of_fewer (started_codes p 0) a.roots r u))
    (λ u. let o = own_root (a.resumed && resumed_codes p 0) m r u in inr (omega (arith, o.1, lt), (and_parts a.resumed _ o.0).0))
    (Contains-append_cases (if started_codes p 0 then a.roots else []) (root_if (a.resumed && resumed_codes p 0) m) r k))

pub loop_up : (a : Liveness) (p : Term) (n m : ℕ) → n < m → RootsFit n a.roots → Upwards a n (loop_liveness a p m)
loop_up a p n m lt fit =
    up_of a (loop_liveness a p m) n fit (λ e. (and_parts a.resumed _ e).0)
    (λ r k. ⊎_elim (λ u. inl u)
    (λ u. let o = own_root (a.resumed && resumed_codes p 0) m r u in inr (omega (arith, o.1, lt), (and_parts a.resumed _ o.0).0))
    (Contains-append_cases a.roots (root_if (a.resumed && resumed_codes p 0) m) r k))

-- what is true of an instance of a statement at n: from there it is one of its layers, and the instances around it are
-- live
record Around (a : Liveness) (n m : ℕ) (l : Layer) (live : List Instance) (bs : List ℕ) : Type 0 where
  pub layer : Contains (layers_of a) (layer_above n l)
  pub around : All (λ b. Contains live (at_layer b (layer_above b l))) bs

pub in_map : (n : ℕ) (ls : List Layer) (l : Layer) → Contains ls l → Contains (map (at_layer n) ls) (at_layer n l)
in_map n ls l h = (h.0, omega (arith, h.1, length-map ls (at_layer n)), get_or-map (at_layer n) ls h.0 l (at_layer n l) h.1 ∙ ap (at_layer n) h.2)

pub from_map : (n m : ℕ) (ls : List Layer) (l : Layer) → Contains (map (at_layer n) ls) (at_layer m l) → (m ≡ n) × Contains ls l
from_map n m ls l h =
    let inside : h.0 < length ls = omega (arith, h.1, length-map ls (at_layer n)) in
    let e : at_layer n (get_or ls h.0 l) ≡ at_layer m l = sym (get_or-map (at_layer n) ls h.0 l (at_layer m l) inside) ∙ h.2 in
    (ap (λ x. x.path) (sym e), (h.0, inside, ap (λ x. x.layer) e))

-- the statement itself
here_around : (a : Liveness) (n m : ℕ) (l : Layer) (live : List Instance) (bs : List ℕ)
    → ((x : Instance) → Contains (instances_at a n) x → Contains live x)
    → Contains (layers_of a) (layer_above n l)
    → All (λ b. Contains live (at_layer b (layer_above b l))) bs
    → Around a n m l live (n ∷ bs)
here_around a n m l live bs f h g = record {
  layer = h;
  around = All-cons (λ b. Contains live (at_layer b (layer_above b l))) n bs (f (at_layer n (layer_above n l)) (in_map n (layers_of a) (layer_above n l) h)) g;
}

-- an instance of the statement itself has nothing else around it
own_around : (a : Liveness) (n m : ℕ) (l : Layer) (live : List Instance) (bs : List ℕ) → RootsFit n a.roots
    → ((x : Instance) → Contains (instances_at a n) x → Contains live x)
    → Contains (instances_at a n) (at_layer m l)
    → Around a n m l live (n ∷ (if m == n then [] else bs))
own_around a n m l live bs fit f h =
    let k = from_map n m (layers_of a) l h in
    let none : (if m == n then [] else bs) ≡ [] = (let e : (m == n) ≡ true = eq-eqb m n k.0 in rw e refl) in
    here_around a n m l live _ f (subst (λ x. Contains (layers_of a) x) (sym (above_itself a n l fit k.1)) k.1)
    (subst (λ bs. All (λ b. Contains live (at_layer b (layer_above b l))) bs) (sym none) (All-nil (λ b. Contains live (at_layer b (layer_above b l)))))

-- an instance of a part
part_around : (a b : Liveness) (n c m : ℕ) (l : Layer) (part live : List Instance) (bs rest : List ℕ)
    → n < c
    → ((x : Instance) → Contains (instances_at a n) x → Contains live x)
    → ((x : Instance) → Contains part x → Contains live x)
    → Upwards a n b
    → rest ≡ bs
    → Around b c m l part bs
    → Around a n m l live (n ∷ rest)
part_around a b n c m l part live bs rest lt f g u e k =
    here_around a n m l live rest f
    (subst (λ x. Contains (layers_of a) x) (above_above n c l (omega arith)) (u.up (layer_above c l) k.layer))
    (subst (λ bs. All (λ b. Contains live (at_layer b (layer_above b l))) bs) (sym e)
    (All-weaker (λ b. Contains part (at_layer b (layer_above b l))) (λ b. Contains live (at_layer b (layer_above b l)))
    (λ b h. g (at_layer b (layer_above b l)) h) bs k.around))

path_among : (n c m : ℕ) (l : Layer) (xs : List Instance) → Among n c xs → Contains xs (at_layer m l) → (n ≤ m) × (m < c)
path_among n c m l xs h k = All-contains (λ x. (n ≤ x.path) × (x.path < c)) xs (at_layer m l) h k

past : (m n : ℕ) (bs : List ℕ) → n < m → (if m == n then [] else bs) ≡ bs
past m n bs h = let e : (m == n) ≡ false = ne_eqb m n (λ q. omega (arith, q, h)) in rw e refl

before_second : (m k : ℕ) (bs cs : List ℕ) → m < k → (if nat_lt m k then bs else cs) ≡ bs
before_second m k bs cs h = let e : nat_lt m k ≡ true = lt-ltb m k h in rw e refl

from_second : (m k : ℕ) (bs cs : List ℕ) → k ≤ m → (if nat_lt m k then bs else cs) ≡ cs
from_second m k bs cs h = let e : nat_lt m k ≡ false = le-ltb m k h in rw e refl

one_around : (a b : Liveness) (p : Term) (n m : ℕ) (l : Layer) → RootsFit n a.roots → Upwards a n b
    → (Contains (instances b p (n + 1)) (at_layer m l) → Around b (n + 1) m l (instances b p (n + 1)) (enclosing p (n + 1) m))
    → Contains (instances_at a n ++ instances b p (n + 1)) (at_layer m l)
    → Around a n m l (instances_at a n ++ instances b p (n + 1)) (n ∷ (if m == n then [] else enclosing p (n + 1) m))
one_around a b p n m l fit u f h =
    let left = λ (x : Instance) (k : Contains (instances_at a n) x). Contains-append_left (instances_at a n) (instances b p (n + 1)) x k in
    ⊎_elim (λ k. own_around a n m l _ _ fit left k)
    (λ k. part_around a b n (n + 1) m l _ _ _ _ (omega arith) left
    (λ x k. Contains-append_right (instances_at a n) (instances b p (n + 1)) x k) u
    (past m n _ (omega (arith, (path_among (n + 1) _ m l _ (instances_among b p (n + 1)) k).0))) (f k))
    (Contains-append_cases (instances_at a n) (instances b p (n + 1)) (at_layer m l) h)

two_around : (a b c : Liveness) (p q : Term) (n m : ℕ) (l : Layer) → RootsFit n a.roots → Upwards a n b → Upwards a n c
    → (Contains (instances b p (n + 1)) (at_layer m l) → Around b (n + 1) m l (instances b p (n + 1)) (enclosing p (n + 1) m))
    → (Contains (instances c q (n + 1 + statement_count p)) (at_layer m l)
    → Around c (n + 1 + statement_count p) m l (instances c q (n + 1 + statement_count p)) (enclosing q (n + 1 + statement_count p) m))
    → Contains (instances_at a n ++ (instances b p (n + 1) ++ instances c q (n + 1 + statement_count p))) (at_layer m l)
    → Around a n m l (instances_at a n ++ (instances b p (n + 1) ++ instances c q (n + 1 + statement_count p)))
    (n ∷ (if m == n then [] else if nat_lt m (n + 1 + statement_count p) then enclosing p (n + 1) m else enclosing q (n + 1 + statement_count p) m))
two_around a b c p q n m l fit u v f g h =
    let P = instances b p (n + 1) in
    let Q = instances c q (n + 1 + statement_count p) in
    let left = λ (x : Instance) (k : Contains (instances_at a n) x). Contains-append_left (instances_at a n) (P ++ Q) x k in
    ⊎_elim (λ k. own_around a n m l _ _ fit left k)
    (λ k. ⊎_elim
    (λ j. let range = path_among (n + 1) _ m l _ (instances_among b p (n + 1)) j in
    part_around a b n (n + 1) m l P _ _ _ (omega arith) left
    (λ x i. Contains-append_right (instances_at a n) (P ++ Q) x (Contains-append_left P Q x i)) u
    (past m n _ (omega (arith, range.0)) ∙ before_second m (n + 1 + statement_count p) _ _ (omega (arith, range.1))) (f j))
    (λ j. let range = path_among (n + 1 + statement_count p) _ m l _ (instances_among c q (n + 1 + statement_count p)) j in
    part_around a c n (n + 1 + statement_count p) m l Q _ _ _ (omega arith) left
    (λ x i. Contains-append_right (instances_at a n) (P ++ Q) x (Contains-append_right P Q x i)) v
    (past m n _ (omega (arith, range.0)) ∙ from_second m (n + 1 + statement_count p) _ _ range.0) (g j))
    (Contains-append_cases P Q (at_layer m l) k))
    (Contains-append_cases (instances_at a n) (P ++ Q) (at_layer m l) h)

leaf_around : (a : Liveness) (n m : ℕ) (l : Layer) → RootsFit n a.roots → Contains (instances_at a n) (at_layer m l) →
    Around a n m l (instances_at a n) (n ∷ [])
leaf_around a n m l fit h =
    let k = from_map n m (layers_of a) l h in
    here_around a n m l (instances_at a n) [] (λ x i. i) (subst (λ x. Contains (layers_of a) x) (sym (above_itself a n l fit k.1)) k.1)
    (All-nil (λ b. Contains (instances_at a n) (at_layer b (layer_above b l))))

around : (a : Liveness) (t : Term) (n m : ℕ) (l : Layer) → RootsFit n a.roots → Contains (instances a t n) (at_layer m l) →
    Around a n m l (instances a t n) (enclosing t n m)
around a (Present e p q) n m l h k = two_around a (part_liveness a p) (part_liveness a q) p q n m l h (part_up a p n h) (part_up a q n h)
    (around (part_liveness a p) p (n + 1) m l (part_fits a p n (n + 1) (omega arith) h))
    (around (part_liveness a q) q (n + 1 + statement_count p) m l (part_fits a q n (n + 1 + statement_count p) (omega arith) h)) k
around a (Suspend e p) n m l h k = one_around a (part_liveness a p) p n m l h (part_up a p n h)
    (around (part_liveness a p) p (n + 1) m l (part_fits a p n (n + 1) (omega arith) h)) k
around a (Seq p q) n m l h k = two_around a (part_liveness a p) (second_liveness a p q (n + 1 + statement_count p)) p q n m l h (part_up a p n h)
    (second_up a p q n (n + 1 + statement_count p) (omega arith) h)
    (around (part_liveness a p) p (n + 1) m l (part_fits a p n (n + 1) (omega arith) h))
    (around (second_liveness a p q (n + 1 + statement_count p)) q (n + 1 + statement_count p) m l
    (second_fits a p q n (n + 1 + statement_count p) (omega arith) h)) k
around a (Loop at p) n m l h k = one_around a (loop_liveness a p (n + 1)) p n m l h (loop_up a p n (n + 1) (omega arith) h)
    (around (loop_liveness a p (n + 1)) p (n + 1) m l (loop_fits a p n (n + 1) (omega arith) h)) k
around a (Par p q) n m l h k = two_around a (part_liveness a p) (part_liveness a q) p q n m l h (part_up a p n h) (part_up a q n h)
    (around (part_liveness a p) p (n + 1) m l (part_fits a p n (n + 1) (omega arith) h))
    (around (part_liveness a q) q (n + 1 + statement_count p) m l (part_fits a q n (n + 1 + statement_count p) (omega arith) h)) k
around a (Trap p) n m l h k = one_around a (part_liveness a p) p n m l h (part_up a p n h)
    (around (part_liveness a p) p (n + 1) m l (part_fits a p n (n + 1) (omega arith) h)) k
around a (Local s p) n m l h k = one_around a (part_liveness a p) p n m l h (part_up a p n h)
    (around (part_liveness a p) p (n + 1) m l (part_fits a p n (n + 1) (omega arith) h)) k
around a (Awake e p) n m l h k = one_around a (part_liveness a p) p n m l h (part_up a p n h)
    (around (part_liveness a p) p (n + 1) m l (part_fits a p n (n + 1) (omega arith) h)) k
around a _ n m l h k = leaf_around a n m l h k

pub enclosing_are_live_lem : EnclosingAreLive
enclosing_are_live_lem body m l h = (around (body_liveness body) body 0 m l (body_fits body) h).around
