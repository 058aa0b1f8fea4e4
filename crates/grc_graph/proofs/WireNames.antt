-- Which instances and wires a program has, by the rows of its statements.
use Rattle.std.proofs.Common.{◌≡◌, ℕ, zero, suc, ◌+◌, ◌-◌, ◌<◌, ◌≤◌, ◌⊎◌, inl, inr, Bool, true, false, ◌==◌, List, [], ◌∷◌, ◌++◌, length, map, get_or}
use Rattle.std.proofs.Common.{refl, sym, ap, ◌∙◌, subst, ⊎_elim, arith, append_assoc}
use Rattle.std.specs.Prelude.{Contains, if◌then◌else◌}
use Rattle.std.specs.List.{flat_map, list_any}
use Rattle.std.proofs.lemmas.Bool.{cases_lt, eq-eqb, eqb-true, or_cases, or_left, false≢true}
use Rattle.std.specs.Prelude.{◌||◌}
use Rattle.std.proofs.lemmas.List.{append-nil}
use Rattle.std.proofs.lemmas.List.FromFn.{get_or-map-range_with_len, length-map-range_with_len}
use Rattle.std.proofs.lemmas.List.Elements.{Contains-append_left, Contains-append_right, Contains-append_cases}
use Rattle.base_facts.proofs.Lists.{contains-flat_map, contains-map}
use Rattle.est_kernel.specs.Plain.{Program, interface_count, outgoing_count}
use Rattle.est_kernel.specs.WellFormed.{IsKernel}
use Rattle.est_kernel.specs.Terms.{Term, Present, Suspend, Seq, Loop, Par, Trap, Local, Awake}
use Rattle.est_kernel.specs.Preorder.{statement_count}
use Rattle.grc_graph.specs.Layers.{Layer, Resumed, Started, Liveness, layers_of, body_liveness, part_liveness, second_liveness, loop_liveness}
use Rattle.grc_graph.specs.Instances.{Instance, instances_at, instances, body_instances}
use Rattle.grc_graph.specs.Neighbouring.{program_wires}
use Rattle.grc_graph.specs.Scopes.{Scope, bind, program_scope}
use Rattle.grc_graph.specs.Statements.{Entry, Body, Part, Branch, Then, Else, Suspended, Second, Looped}
use Rattle.grc_graph.specs.Rows.{Row, rows, program_rows, row_at, live_in}
use Rattle.grc_graph.specs.Wires.{Wire, Out, Go, StatusOf, End, codes_below, listed, instance_codes, own_status, instance_wires}
use Rattle.grc_graph.specs.WireTables.{is_local}
use Rattle.grc_graph.proofs.LiveInstances.{at_layer, in_map, from_map, cases_of, resumed_in, started_in}
use Rattle.grc_graph.proofs.RowSpots.{length-rows}
use Rattle.grc_graph.proofs.RowReads.{length-program_rows}
use Rattle.grc_graph.proofs.WireFilling.{row_wires, outs_of, program_wires_by_row}
use Rattle.grc_graph.proofs.CodesBelow.{codes_below-none, codes_below-suc}

-- ---- instances

-- the instances of the statements in a list of rows, the first of which has the number n
abbrev pub row_instances : List Row → ℕ → List Instance
row_instances [] n = []
row_instances (r ∷ rs) n = instances_at r.live n ++ row_instances rs (n + 1)

pub row_instances-append : (rs qs : List Row) (n m : ℕ) → n + length rs ≡ m → row_instances (rs ++ qs) n ≡ row_instances rs n ++ row_instances qs m
row_instances-append [] qs n m e = ap (row_instances qs) (let z : n ≡ m = omega (arith, e) in z)
row_instances-append (r ∷ rs) qs n m e =
    ap (λ l. instances_at r.live n ++ l) (row_instances-append rs qs (n + 1) m (omega arith))
    ∙ sym (append_assoc (instances_at r.live n) (row_instances rs (n + 1)) (row_instances qs m))

alone : (a : Liveness) (n : ℕ) → instances_at a n ≡ instances_at a n ++ []
alone a n = sym (append-nil (instances_at a n))

with_two : (here xs ys : List Instance) (ps qs : List Row) (n m : ℕ) → n + length ps ≡ m → xs ≡ row_instances ps n → ys ≡ row_instances qs m
    → here ++ (xs ++ ys) ≡ here ++ row_instances (ps ++ qs) n
with_two here xs ys ps qs n m e h g = ap (λ l. here ++ l) ((λ i. h i ++ g i) ∙ sym (row_instances-append ps qs n m e))

instances_by_row : (a : Liveness) (B : Scope) (x : Entry) (t : Term) (n : ℕ) → instances a t n ≡ row_instances (rows a B x t n) n
instances_by_row a B x (Present e p q) n =
    with_two (instances_at a n) _ _ _ _ (n + 1) (n + 1 + statement_count p) (ap (λ k. n + 1 + k) (length-rows (part_liveness a p) B (Then n e) p (n + 1)))
    (instances_by_row (part_liveness a p) B (Then n e) p (n + 1)) (instances_by_row (part_liveness a q) B (Else n e) q (n + 1 + statement_count p))
instances_by_row a B x (Suspend e p) n = ap (λ l. instances_at a n ++ l) (instances_by_row (part_liveness a p) B (Suspended n e) p (n + 1))
instances_by_row a B x (Seq p q) n =
    with_two (instances_at a n) _ _ _ _ (n + 1) (n + 1 + statement_count p) (ap (λ k. n + 1 + k) (length-rows (part_liveness a p) B (Branch n) p (n + 1)))
    (instances_by_row (part_liveness a p) B (Branch n) p (n + 1))
    (instances_by_row (second_liveness a p q (n + 1 + statement_count p)) B (Second n) q (n + 1 + statement_count p))
instances_by_row a B x (Loop at p) n = ap (λ l. instances_at a n ++ l) (instances_by_row (loop_liveness a p (n + 1)) B (Looped n) p (n + 1))
instances_by_row a B x (Par p q) n =
    with_two (instances_at a n) _ _ _ _ (n + 1) (n + 1 + statement_count p) (ap (λ k. n + 1 + k) (length-rows (part_liveness a p) B (Branch n) p (n + 1)))
    (instances_by_row (part_liveness a p) B (Branch n) p (n + 1)) (instances_by_row (part_liveness a q) B (Branch n) q (n + 1 + statement_count p))
instances_by_row a B x (Trap p) n = ap (λ l. instances_at a n ++ l) (instances_by_row (part_liveness a p) B (Part n) p (n + 1))
instances_by_row a B x (Local s p) n = ap (λ l. instances_at a n ++ l) (instances_by_row (part_liveness a p) (bind B s n) (Part n) p (n + 1))
instances_by_row a B x (Awake e p) n = ap (λ l. instances_at a n ++ l) (instances_by_row (part_liveness a p) B (Part n) p (n + 1))
instances_by_row a B x _ n = alone a n

pub body_by_row : (p : Program) → body_instances p.body ≡ row_instances (program_rows p) 0
body_by_row p = instances_by_row (body_liveness p.body) (program_scope p.inputs (interface_count p)) Body p.body 0

-- whether a layer is one of those of a statement
pub in_layers : (a : Liveness) (l : Layer) → live_in a l ≡ true → Contains (layers_of a) l
in_layers a Resumed h = resumed_in a h
in_layers a (Started r) h = started_in a r (root_in a.roots h)
  where
    root_in : (rs : List ℕ) → list_any (λ q. q == r) rs ≡ true → Contains rs r
    root_in [] h = absurd (false≢true h)
    root_in (q ∷ rs) h = ⊎_elim
        (λ e. let same : q ≡ r = eqb-true q r e in (0, omega arith, same))
        (λ e. Contains-append_right (q ∷ []) rs r (root_in rs e)) (or_cases (q == r) (list_any (λ q. q == r) rs) h)

pub live_of : (a : Liveness) (l : Layer) → Contains (layers_of a) l → live_in a l ≡ true
live_of a l h = cases_of (λ j. live_in a j ≡ true) a l h (λ e. e) (λ r k. any_root a.roots r k)
  where
    any_root : (rs : List ℕ) (r : ℕ) → Contains rs r → list_any (λ q. q == r) rs ≡ true
    any_root [] r h = absurd (omega (arith, h.1))
    any_root (q ∷ rs) r h =
        ⊎_elim (λ e. or_left (q == r) _ (eq-eqb q r (first e)))
        (λ k. or_right (q == r) _ (any_root rs r k))
        (Contains-append_cases (q ∷ []) rs r h)
      where
        first : Contains (q ∷ []) r → q ≡ r
        first k = let z : k.0 ≡ 0 = omega (arith, k.1) in (λ i. get_or (q ∷ []) (sym z i) r) ∙ k.2

        or_right : (x y : Bool) → y ≡ true → (x || y) ≡ true
        or_right true y e = refl
        or_right false y e = e

-- an instance of a list of rows is one of the layers of its row, and the other way round
record InRows (rs : List Row) (n m : ℕ) (l : Layer) : Type 0 where
  pub from : n ≤ m
  pub below : m < n + length rs
  pub live : (d : Row) → Contains (layers_of (get_or rs (m - n) d).live) l

in_rows : (rs : List Row) (n m : ℕ) (l : Layer) → Contains (row_instances rs n) (at_layer m l) → InRows rs n m l
in_rows [] n m l h = absurd (omega (arith, h.1))
in_rows (r ∷ rs) n m l h =
    ⊎_elim
    (λ k.
    let x = from_map n m (layers_of r.live) l k in
    let z : m - n ≡ 0 = omega (arith, x.0) in
    record {
      from = omega (arith, x.0);
      below = omega (arith, x.0);
      live = λ d. subst (λ j. Contains (layers_of (get_or (r ∷ rs) j d).live) l) (sym z) x.1;
    })
    (λ k.
    let x = in_rows rs (n + 1) m l k in
    let z : m - n ≡ suc (m - (n + 1)) = omega (arith, x.from) in
    record {
      from = omega (arith, x.from);
      below = omega (arith, x.below);
      live = λ d. subst (λ j. Contains (layers_of (get_or (r ∷ rs) j d).live) l) (sym z) (x.live d);
    })
    (Contains-append_cases (instances_at r.live n) (row_instances rs (n + 1)) (at_layer m l) h)

from_rows : (rs : List Row) (n k : ℕ) (l : Layer) (d : Row) → k < length rs → Contains (layers_of (get_or rs k d).live) l →
    Contains (row_instances rs n) (at_layer (n + k) l)
from_rows [] n k l d h g = absurd (omega arith)
from_rows (r ∷ rs) n zero l d h g =
    Contains-append_left (instances_at r.live n) (row_instances rs (n + 1)) (at_layer (n + 0) l)
    (subst (λ m. Contains (instances_at r.live n) (at_layer m l)) (let z : n ≡ n + 0 = omega arith in z) (in_map n (layers_of r.live) l g))
from_rows (r ∷ rs) n (suc k) l d h g =
    Contains-append_right (instances_at r.live n) (row_instances rs (n + 1)) (at_layer (n + suc k) l)
    (subst (λ m. Contains (row_instances rs (n + 1)) (at_layer m l)) (let z : n + 1 + k ≡ n + suc k = omega arith in z)
    (from_rows rs (n + 1) k l d (omega arith) g))

pub record LiveAt (p : Program) (n : ℕ) (l : Layer) : Type 0 where
  pub within : n < statement_count p.body
  pub live : live_in (row_at (program_rows p) n).live l ≡ true

pub live_instance : (p : Program) (n : ℕ) (l : Layer) → Contains (body_instances p.body) (at_layer n l) → LiveAt p n l
live_instance p n l h =
    let x = in_rows (program_rows p) 0 n l (subst (λ xs. Contains xs (at_layer n l)) (body_by_row p) h) in
    let z : n - 0 ≡ n = omega arith in
    record {
      within = omega (arith, x.below, length-program_rows p);
      live = live_of _ l (subst (λ k. Contains (layers_of (row_at (program_rows p) k).live) l) z (x.live _));
    }

pub instance_live : (p : Program) (n : ℕ) (l : Layer) → n < statement_count p.body → live_in (row_at (program_rows p) n).live l ≡ true →
    Contains (body_instances p.body) (at_layer n l)
instance_live p n l h g =
    let z : 0 + n ≡ n = omega arith in
    subst (λ xs. Contains xs (at_layer n l)) (sym (body_by_row p))
    (subst (λ k. Contains (row_instances (program_rows p) 0) (at_layer k l)) z
    (from_rows (program_rows p) 0 n l _ (omega (arith, length-program_rows p)) (in_layers (row_at (program_rows p) n).live l g)))

-- ---- wires

pub below_has : (n : ℕ) (A : ℕ → Bool) (k : ℕ) → k < n → A k ≡ true → Contains (codes_below n A) k
below_has zero A k h e = absurd (omega arith)
below_has (suc n) A k h e =
    subst (λ l. Contains l k) (sym (codes_below-suc n A))
    (⊎_elim (λ l. Contains-append_left (codes_below n A) _ k (below_has n A k l e))
    (λ g.
    let z : k ≡ n = omega arith in
    let last : A n ≡ true = subst (λ j. A j ≡ true) z e in
    Contains-append_right (codes_below n A) (if A n then n ∷ [] else []) k
    (subst (λ b. Contains (if b then n ∷ [] else []) k) (sym last) (0, omega arith, sym z)))
    (cases_lt k n))

pub below_only : (n : ℕ) (A : ℕ → Bool) (k : ℕ) → Contains (codes_below n A) k → A k ≡ true
below_only zero A k h = let z : length (codes_below 0 A) ≡ 0 = ap length (codes_below-none A) in absurd (omega (arith, h.1))
below_only (suc n) A k h =
    ⊎_elim (λ l. below_only n A k l) (λ l. own (A n) refl l)
    (Contains-append_cases (codes_below n A) (if A n then n ∷ [] else []) k (subst (λ l. Contains l k) (codes_below-suc n A) h))
  where
    own : (b : Bool) → A n ≡ b → Contains (if b then n ∷ [] else []) k → A k ≡ true
    own true e l =
        let z : l.0 ≡ 0 = omega (arith, l.1) in
        let same : n ≡ k = (λ i. get_or (n ∷ []) (sym z i) k) ∙ l.2 in
        subst (λ j. A j ≡ true) same e
    own false e l = absurd (omega (arith, l.1))

listed_has : (A : ℕ → Bool) (k : ℕ) → k < 64 → A k ≡ true → Contains (listed A) k
unfolding listed
listed_has A k h e = below_has 64 A k h e

listed_only : (A : ℕ → Bool) (k : ℕ) → Contains (listed A) k → A k ≡ true
unfolding listed
listed_only A k h = below_only 64 A k h

from_flat_map : {X Y : Type 0} (f : X → List Y) (xs : List X) (y : Y) → Contains (flat_map f xs) y → (x : X) × (Contains xs x) × (Contains (f x) y)
from_flat_map f [] y h = absurd (omega (arith, h.1))
from_flat_map f (z ∷ zs) y h =
    ⊎_elim (λ k. (z, (0, omega arith, refl), k))
    (λ k. let r = from_flat_map f zs y k in (r.0, Contains-append_right (z ∷ []) zs r.0 r.1, r.2))
    (Contains-append_cases (f z) (flat_map f zs) y h)

-- what a wire's name says of the run in which it stands
contains_mapped : {X Y : Type 0} (f : X → Y) (xs : List X) (y : Y) → Contains (map f xs) y → (x : X) × (Contains xs x) × (f x ≡ y)
contains_mapped f [] y h = absurd (omega (arith, h.1))
contains_mapped f (x ∷ xs) y h =
    ⊎_elim
    (λ k. let i : k.0 ≡ 0 = omega (arith, k.1) in (x, (0, omega arith, refl), (λ j. get_or (f x ∷ []) (sym i j) y) ∙ k.2))
    (λ k. let r = contains_mapped f xs y k in (r.0, Contains-append_right (x ∷ []) xs r.0 r.1, r.2))
    (Contains-append_cases (f x ∷ []) (map f xs) y h)

-- a wire of an instance, by what it is of
pub data Kind : Type 0 where
  IsGo : Kind
  IsStatus : Kind
  IsEnd : (k : ℕ) → Kind

abbrev pub wire_named : Kind → ℕ → Layer → Wire
wire_named IsGo n l = Go n l
wire_named IsStatus n l = StatusOf n l
wire_named (IsEnd k) n l = End n l k

abbrev pub Has : Term → Layer → Kind → Type 0
Has t l IsGo = Unit {0}
Has t l IsStatus = is_local t ≡ true
Has t l (IsEnd k) = instance_codes t l k ≡ true

in_status : (t : Term) (n : ℕ) (l : Layer) (w : Wire) → Contains (own_status t n l) w → (is_local t ≡ true) × (StatusOf n l ≡ w)
in_status (Local s p) n l w h =
    let i : h.0 ≡ 0 = omega (arith, h.1) in
    (refl, (λ j. get_or (StatusOf n l ∷ []) (sym i j) w) ∙ h.2)
in_status _ n l w h = absurd (omega (arith, h.1))

status_in : (t : Term) (n : ℕ) (l : Layer) → is_local t ≡ true → Contains (own_status t n l) (StatusOf n l)
status_in (Local s p) n l h = (0, omega arith, refl)
status_in _ n l h = absurd (false≢true h)

abbrev Inside : Term → Wire → ℕ → Layer → Type 0
Inside t w n l = (Go n l ≡ w) ⊎ (((is_local t ≡ true) × (StatusOf n l ≡ w)) ⊎ ((k : ℕ) × (instance_codes t l k ≡ true) × (End n l k ≡ w)))

inside : (t : Term) (w : Wire) (n : ℕ) (l : Layer) → Contains (instance_wires t n l) w → Inside t w n l
inside t w n l h =
    let ends = map (λ k. End n l k) (listed (instance_codes t l)) in
    ⊎_elim
    (λ k. let i : k.0 ≡ 0 = omega (arith, k.1) in inl ((λ j. get_or (Go n l ∷ []) (sym i j) w) ∙ k.2))
    (λ k. ⊎_elim (λ u. inr (inl (in_status t n l w u)))
    (λ u.
    let r = contains_mapped (λ k. End n l k) (listed (instance_codes t l)) w u in
    inr (inr (r.0, listed_only (instance_codes t l) r.0 r.1, r.2)))
    (Contains-append_cases (own_status t n l) ends w k))
    (Contains-append_cases (Go n l ∷ []) (own_status t n l ++ ends) w h)

kind_inside : (t : Term) (c : Kind) (n m : ℕ) (l j : Layer) → Inside t (wire_named c m j) n l → (n ≡ m) × (l ≡ j) × Has t l c
kind_inside t IsGo n m l j h = ⊎_elim (λ e. (path e, layer e, tt)) (λ u. ⊎_elim (λ v. absurd (clash v.1)) (λ v. absurd (clash_end v.0 v.2)) u) h
  where
    path : Go n l ≡ Go m j → n ≡ m
    path e = cc

    layer : Go n l ≡ Go m j → l ≡ j
    layer e = cc

    clash : StatusOf n l ≡ Go m j → ⊥
    clash e = cc

    clash_end : (k : ℕ) → End n l k ≡ Go m j → ⊥
    clash_end k e = cc
kind_inside t IsStatus n m l j h = ⊎_elim (λ e. absurd (clash e)) (λ u. ⊎_elim (λ v. (path v.1, layer v.1, v.0)) (λ v. absurd (clash_end v.0 v.2)) u) h
  where
    path : StatusOf n l ≡ StatusOf m j → n ≡ m
    path e = cc

    layer : StatusOf n l ≡ StatusOf m j → l ≡ j
    layer e = cc

    clash : Go n l ≡ StatusOf m j → ⊥
    clash e = cc

    clash_end : (k : ℕ) → End n l k ≡ StatusOf m j → ⊥
    clash_end k e = cc
kind_inside t (IsEnd c) n m l j h = ⊎_elim (λ e. absurd (clash e))
    (λ u. ⊎_elim (λ v. absurd (clash_status v.1)) (λ v. (path v.0 v.2, layer v.0 v.2, subst (λ k. instance_codes t l k ≡ true) (code v.0 v.2) v.1)) u) h
  where
    path : (k : ℕ) → End n l k ≡ End m j c → n ≡ m
    path k e = cc

    layer : (k : ℕ) → End n l k ≡ End m j c → l ≡ j
    layer k e = cc

    code : (k : ℕ) → End n l k ≡ End m j c → k ≡ c
    code k e = cc

    clash : Go n l ≡ End m j c → ⊥
    clash e = cc

    clash_status : StatusOf n l ≡ End m j c → ⊥
    clash_status e = cc

not_out : (p : Program) (c : Kind) (n : ℕ) (l : Layer) → Contains (outs_of p) (wire_named c n l) → ⊥
not_out p IsGo n l h = let r = contains_mapped Out _ _ h in clash r.0 r.2
  where
    clash : (s : ℕ) → Out s ≡ Go n l → ⊥
    clash s e = cc
not_out p IsStatus n l h = let r = contains_mapped Out _ _ h in clash r.0 r.2
  where
    clash : (s : ℕ) → Out s ≡ StatusOf n l → ⊥
    clash s e = cc
not_out p (IsEnd k) n l h = let r = contains_mapped Out _ _ h in clash r.0 r.2
  where
    clash : (s : ℕ) → Out s ≡ End n l k → ⊥
    clash s e = cc

pub record WireAt (p : Program) (c : Kind) (n : ℕ) (l : Layer) : Type 0 where
  pub within : n < statement_count p.body
  pub live : live_in (row_at (program_rows p) n).live l ≡ true
  pub has : Has (row_at (program_rows p) n).statement l c

-- what the program has where it has a wire
pub wire_only : (p : Program) → IsKernel p.body → (c : Kind) (n : ℕ) (l : Layer) → Contains (program_wires p) (wire_named c n l) → WireAt p c n l
wire_only p kernel c n l h =
    let W = program_rows p in
    ⊎_elim (λ k. absurd (not_out p c n l k))
    (λ k.
    let r = from_flat_map (row_wires W) (body_instances p.body) (wire_named c n l) k in
    let x = r.0 in
    let i = kind_inside (row_at W x.path).statement c x.path n x.layer l (inside (row_at W x.path).statement (wire_named c n l) x.path x.layer r.2) in
    let v = live_instance p x.path x.layer r.1 in
    record {
      within = omega (arith, v.within, i.0);
      live = subst (λ m. live_in (row_at W m).live l ≡ true) i.0 (subst (λ j. live_in (row_at W x.path).live j ≡ true) i.1 v.live);
      has = subst (λ m. Has (row_at W m).statement l c) i.0 (subst (λ j. Has (row_at W x.path).statement j c) i.1 i.2);
    })
    (Contains-append_cases (outs_of p) (flat_map (row_wires W) (body_instances p.body)) (wire_named c n l)
    (subst (λ ws. Contains ws (wire_named c n l)) (program_wires_by_row p kernel) h))

abbrev pub Below : Kind → Type 0
Below (IsEnd k) = k < 64
Below _ = Unit {0}

has_inside : (t : Term) (c : Kind) (n : ℕ) (l : Layer) → Below c → Has t l c → Contains (instance_wires t n l) (wire_named c n l)
has_inside t IsGo n l b h = (0, omega arith, refl)
has_inside t IsStatus n l b h =
    Contains-append_right (Go n l ∷ []) _ (StatusOf n l) (Contains-append_left (own_status t n l) _ (StatusOf n l) (status_in t n l h))
has_inside t (IsEnd k) n l b h =
    Contains-append_right (Go n l ∷ []) _ (End n l k)
    (Contains-append_right (own_status t n l) _ (End n l k) (contains-map (λ k. End n l k) (listed (instance_codes t l)) k
    (listed_has (instance_codes t l) k b h)))

-- the wires that the program has
pub wire_there : (p : Program) → IsKernel p.body → (c : Kind) (n : ℕ) (l : Layer) → Below c → WireAt p c n l → Contains (program_wires p) (wire_named c n l)
wire_there p kernel c n l b h =
    let W = program_rows p in
    subst (λ ws. Contains ws (wire_named c n l)) (sym (program_wires_by_row p kernel))
    (Contains-append_right (outs_of p) (flat_map (row_wires W) (body_instances p.body)) (wire_named c n l)
    (contains-flat_map (row_wires W) (body_instances p.body) (at_layer n l) (wire_named c n l)
    (instance_live p n l h.within h.live) (has_inside (row_at W n).statement c n l b h.has)))

-- an outgoing signal that has a wire
pub out_only : (p : Program) → IsKernel p.body → (s : ℕ) → Contains (program_wires p) (Out s) → (p.inputs ≤ s) × (s < interface_count p)
out_only p kernel s h =
    let W = program_rows p in
    ⊎_elim
    (λ k.
    let few : k.0 < outgoing_count p = omega (arith, k.1, length-map-range_with_len Out p.inputs (outgoing_count p)) in
    let same : p.inputs + k.0 ≡ s = number (p.inputs + k.0) (sym (get_or-map-range_with_len Out p.inputs (outgoing_count p) k.0 (p.inputs + k.0)
    (Out s) few refl) ∙ k.2) in
    (omega (arith, same), omega (arith, same, few)))
    (λ k.
    let r = from_flat_map (row_wires W) (body_instances p.body) (Out s) k in
    let x = r.0 in
    absurd (⊎_elim (go x.path x.layer) (λ u. ⊎_elim (λ v. status x.path x.layer v.1) (λ v. end x.path x.layer v.0 v.2) u)
    (inside (row_at W x.path).statement (Out s) x.path x.layer r.2)))
    (Contains-append_cases (outs_of p) (flat_map (row_wires W) (body_instances p.body)) (Out s)
    (subst (λ ws. Contains ws (Out s)) (program_wires_by_row p kernel) h))
  where
    number : (q : ℕ) → Out q ≡ Out s → q ≡ s
    number q e = cc

    go : (n : ℕ) (l : Layer) → Go n l ≡ Out s → ⊥
    go n l e = cc

    status : (n : ℕ) (l : Layer) → StatusOf n l ≡ Out s → ⊥
    status n l e = cc

    end : (n : ℕ) (l : Layer) (k : ℕ) → End n l k ≡ Out s → ⊥
    end n l k e = cc
