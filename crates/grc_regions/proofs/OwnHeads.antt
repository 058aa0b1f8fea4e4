-- A head is its own head, so it lies in no region.
use Rattle.std.proofs.Common.{◌≡◌, ℕ, ◌+◌, ◌<◌, ◌≤◌, ◌⊎◌, inl, inr, Bool, true, false, ◌==◌, cond, ltb, List, length}
use Rattle.std.proofs.Common.{get_or, Option, Some, None}
use Rattle.std.proofs.Common.{refl, sym, ap, ◌∙◌, subst, arith, ⊎_elim}
use Rattle.std.specs.Prelude.{All, IsTrue}
use Rattle.std.proofs.lemmas.Bool.{cases_lt, eq-eqb, ne_eqb, cond-true, cond-false, cond_both, lt-ltb, le-ltb, ltb-true}
use Rattle.std.proofs.lemmas.List.{length-map, get_or-map}
use Rattle.std.proofs.lemmas.Option.{none-some, same_Some}
use Rattle.base_types.specs.declared.indices.WireId.{WireId}
use Rattle.est_kernel.specs.Plain.{term_of}
use Rattle.est_kernel.specs.Preorder.{statement_count}
use Rattle.est_kernel.specs.Terms.{Term, Nothing, Pause, Emit, Exit, Present, Suspend, Seq, Loop, Par, Trap, Local}
use Rattle.est_kernel.specs.Terms.{Awake}
use Rattle.est_kernel.proofs.Exports.{statement_count-pos}
use Rattle.grc_graph.specs.declared.graph.Graph.{Graph}
use Rattle.grc_graph.specs.declared.wires.Wire.{Wire as Stored}
use Rattle.grc_graph.specs.declared.wires.Wire.TheVariants as wires
use Rattle.grc_graph.specs.GraphShapes.{wire_fits}
use Rattle.grc_graph.specs.Instances as plain
use Rattle.grc_graph.specs.Layers.{Layer, Resumed, Started, body_liveness}
use Rattle.grc_graph.specs.PlainGraphs.{instances_of, names_of, wire_at, wire_of}
use Rattle.grc_graph.specs.PlainInstances.{instance_of, instance_at}
use Rattle.grc_graph.specs.Wires.{Wire, Go, End, same_wire}
use Rattle.grc_graph.proofs.Exports.{instances_among}
use Rattle.grc_solutions_laws.specs.Heads.{head_in, head_go, region_of}
use Rattle.grc_regions.specs.HeadLists.{head_number}
use Rattle.grc_regions.specs.Regions.{IsRegion, AreRegions, HeadsAreFree}
use Rattle.grc_regions.proofs.RegionReads.{head-wire, own-region}

-- ---- resumed heads

head_itself : (h : ℕ) (t : Term) (n : ℕ) → head_in h t n n ≡ h
head_itself h Nothing n = refl
head_itself h Pause n = refl
head_itself h (Emit s) n = refl
head_itself h (Exit k) n = refl
head_itself h (Present e p q) n = cond-true (n == n) h _ (eq-eqb n n refl)
head_itself h (Suspend e p) n = cond-true (n == n) h _ (eq-eqb n n refl)
head_itself h (Seq p q) n = cond-true (n == n) h _ (eq-eqb n n refl)
head_itself h (Loop at p) n = cond-true (n == n) h _ (eq-eqb n n refl)
head_itself h (Par p q) n = cond-true (n == n) h _ (eq-eqb n n refl)
head_itself h (Trap p) n = cond-true (n == n) h _ (eq-eqb n n refl)
head_itself h (Local s p) n = cond-true (n == n) h _ (eq-eqb n n refl)
head_itself h (Awake e p) n = refl

-- x is the head of the whole, or one from n on and below e that has itself as its head by F
record IsOwn (F : ℕ → ℕ) (n e x : ℕ) : Type 0 where
  from : n ≤ x
  below : x < e
  own : F x ≡ x

abbrev OwnOr : (ℕ → ℕ) → ℕ → ℕ → ℕ → ℕ → Type 0
OwnOr F h n e x = (x ≡ h) ⊎ IsOwn F n e x

one_own : (f : ℕ → ℕ) (h n e m : ℕ) → n ≤ m
    → (n + 1 ≤ m → OwnOr f h (n + 1) e (f m)) → OwnOr (λ k. cond (k == n) h (f k)) h n e (cond (m == n) h (f m))
one_own f h n e m low g = ⊎_elim
    (λ a. inl (cond-true (m == n) h (f m) (eq-eqb m n (omega (arith, a, low)))))
    (λ l. let past = cond-false (m == n) h (f m) (ne_eqb m n (λ d. omega (arith, d, l))) in
    subst (OwnOr (λ k. cond (k == n) h (f k)) h n e) (sym past)
    (⊎_elim (λ d. inl d)
    (λ o. inr (record {
      from = omega (arith, o.from);
      below = o.below;
      own = cond-false (f m == n) h (f (f m)) (ne_eqb (f m) n (λ d. omega (arith, d, o.from))) ∙ o.own;
    }))
    (g l)))
    (cases_lt m (n + 1))

two_own : (f g : ℕ → ℕ) (h n c e m : ℕ) → n ≤ m → c ≤ e
    → (n + 1 ≤ m → m < c → OwnOr f h (n + 1) c (f m)) → (c ≤ m → OwnOr g h c e (g m)) → n + 1 ≤ c
    → OwnOr (λ k. cond (k == n) h (cond (ltb k c) (f k) (g k))) h n e (cond (m == n) h (cond (ltb m c) (f m) (g m)))
two_own f g h n c e m low high u v mid =
    one_own (λ k. cond (ltb k c) (f k) (g k)) h n e m low
    (λ l. ⊎_elim
    (λ b. subst (OwnOr (λ k. cond (ltb k c) (f k) (g k)) h (n + 1) e) (sym (cond-true (ltb m c) (f m) (g m) (lt-ltb m c b)))
    (⊎_elim (λ d. inl d)
    (λ o. inr (record {
      from = o.from;
      below = omega (arith, o.below, high);
      own = cond-true (ltb (f m) c) (f (f m)) (g (f m)) (lt-ltb (f m) c o.below) ∙ o.own;
    }))
    (u l b)))
    (λ b. subst (OwnOr (λ k. cond (ltb k c) (f k) (g k)) h (n + 1) e) (sym (cond-false (ltb m c) (f m) (g m) (le-ltb m c b)))
    (⊎_elim (λ d. inl d)
    (λ o. inr (record {
      from = omega (arith, o.from, mid);
      below = o.below;
      own = cond-false (ltb (g m) c) (f (g m)) (g (g m)) (le-ltb (g m) c o.from) ∙ o.own;
    }))
    (v b)))
    (cases_lt m c))

-- the head of a branch is the branch
branch_own : (t : Term) (h n e x : ℕ) → n + statement_count t ≡ e → OwnOr (head_in n t n) n n e x → OwnOr (head_in n t n) h n e x
branch_own t h n e x wide k = ⊎_elim
    (λ d. inr (record {
      from = omega (arith, d);
      below = omega (arith, d, wide, statement_count-pos t);
      own = ap (head_in n t n) d ∙ head_itself n t n ∙ sym d;
    }))
    (λ o. inr o) k

own_head : (h : ℕ) (t : Term) (n m e : ℕ) → n + statement_count t ≡ e → n ≤ m → m < e → OwnOr (head_in h t n) h n e (head_in h t n m)
own_head h Nothing n m e w l u = inl refl
own_head h Pause n m e w l u = inl refl
own_head h (Emit s) n m e w l u = inl refl
own_head h (Exit k) n m e w l u = inl refl
own_head h (Present t p q) n m e w l u =
    let c = n + 1 + statement_count p in
    two_own (head_in h p (n + 1)) (head_in h q c) h n c e m l (omega (arith, w)) (λ a b. own_head h p (n + 1) m c (omega arith) a b)
    (λ a. own_head h q c m e (omega (arith, w)) a u) (omega arith)
own_head h (Suspend t p) n m e w l u = one_own (head_in h p (n + 1)) h n e m l (λ a. own_head h p (n + 1) m e (omega (arith, w)) a u)
own_head h (Seq p q) n m e w l u =
    let c = n + 1 + statement_count p in
    two_own (head_in h p (n + 1)) (head_in h q c) h n c e m l (omega (arith, w)) (λ a b. own_head h p (n + 1) m c (omega arith) a b)
    (λ a. own_head h q c m e (omega (arith, w)) a u) (omega arith)
own_head h (Loop at p) n m e w l u = one_own (head_in h p (n + 1)) h n e m l (λ a. own_head h p (n + 1) m e (omega (arith, w)) a u)
own_head h (Par p q) n m e w l u =
    let c = n + 1 + statement_count p in
    two_own (head_in (n + 1) p (n + 1)) (head_in c q c) h n c e m l (omega (arith, w))
    (λ a b. branch_own p h (n + 1) c _ (omega arith) (own_head (n + 1) p (n + 1) m c (omega arith) a b))
    (λ a. branch_own q h c e _ (omega (arith, w)) (own_head c q c m e (omega (arith, w)) a u)) (omega arith)
own_head h (Trap p) n m e w l u = one_own (head_in h p (n + 1)) h n e m l (λ a. own_head h p (n + 1) m e (omega (arith, w)) a u)
own_head h (Local s p) n m e w l u = one_own (head_in h p (n + 1)) h n e m l (λ a. own_head h p (n + 1) m e (omega (arith, w)) a u)
own_head h (Awake t p) n m e w l u = inl refl

-- ---- heads in any layer

own_number : (body : Term) (n : ℕ) (l : Layer) → n < statement_count body
    → head_number (head_in 0 body 0 (head_number (head_in 0 body 0 n) l)) l ≡ head_number (head_in 0 body 0 n) l
own_number body n (Started r) low = refl
own_number body n Resumed low = ⊎_elim
    (λ d. ap (head_in 0 body 0) d ∙ head_itself 0 body 0 ∙ sym d) (λ o. o.own)
    (own_head 0 body 0 n (statement_count body) (omega arith) (omega arith) low)

-- the wire that says whether a head runs lies in no region
head_free : (body : Term) (n : ℕ) (l : Layer) → n < statement_count body → region_of body (head_go body n l) ≡ None
head_free body n l low = ap (region_of body) (head-wire body n l)
    ∙ own-region body (head_number (head_in 0 body 0 n) l) l (own_number body n l low)

from_go : (body : Term) (n : ℕ) (l : Layer) (w : Wire) → region_of body (Go n l) ≡ Some w → w ≡ head_go body n l
from_go body n l w = cond_both (same_wire (Go n l) (head_go body n l)) None (Some (head_go body n l)) (λ o. o ≡ Some w → w ≡ head_go body n l)
    (λ e z. absurd (none-some w z)) (λ e z. sym (same_Some (head_go body n l) w z))

-- ---- the regions of a graph

module _ (g : Graph) where
  abbrev body : Term
  body = term_of g.program.body

  place-low : (i : ℕ)
      → IsTrue (wire_fits (length g.instances.list.items) (wires.Go (record { 0 = i }))) → (instance_at (instances_of g) i).path < statement_count body
  place-low i fits =
      let few = ltb-true i (length g.instances.list.items) fits in
      g.laid_out.within i (omega (arith, few, length-map g.instances.list.items instance_of))

  by-wire : (x : Stored) (w : Wire) → IsTrue (wire_fits (length g.instances.list.items) x) → region_of body (wire_of (instances_of g) x) ≡ Some w
      → region_of body w ≡ None
  by-wire (wires.Out s) w fits e = absurd (none-some w e)
  by-wire (wires.Local i) w fits e = absurd (none-some w e)
  by-wire (wires.Go i) w fits e =
      let y = instance_at (instances_of g) i.0 in
      ap (region_of body) (from_go body y.path y.layer w e) ∙ head_free body y.path y.layer (place-low i.0 fits)
  by-wire (wires.End i k) w fits e =
      let y = instance_at (instances_of g) i.0 in
      ap (region_of body) (sym (same_Some (head_go body y.path y.layer) w e)) ∙ head_free body y.path y.layer (place-low i.0 fits)

  told : (names : List Wire) (region : Option Wire) (found : Option WireId) (v : WireId) → found ≡ Some v → IsRegion names region found
      → region ≡ Some (wire_at names v.0)
  told names None None v e h = absurd (none-some v e)
  told names None (Some u) v e h = absurd h
  told names (Some head) None v e h = absurd h
  told names (Some head) (Some u) v e h = ap Some (sym h.1) ∙ ap (λ (w : WireId). Some (wire_at names w.0)) (same_Some u v e)

  low_of : (names : List Wire) (region : Option Wire) (found : Option WireId) (v : WireId) → found ≡ Some v
      → IsRegion names region found → v.0 < length names
  low_of names None None v e h = absurd (none-some v e)
  low_of names None (Some u) v e h = absurd h
  low_of names (Some head) None v e h = absurd h
  low_of names (Some head) (Some u) v e h = subst (λ (w : WireId). w.0 < length names) (same_Some u v e) h.0

  none_of : (names : List Wire) (region : Option Wire) (found : Option WireId) → region ≡ None → IsRegion names region found → found ≡ None
  none_of names None None e h = refl
  none_of names None (Some u) e h = absurd h
  none_of names (Some head) found e h = absurd (none-some head (sym e))

  pub heads-free : (regions : List (Option WireId)) → AreRegions g regions → HeadsAreFree regions
  heads-free regions are w v low e =
      let many = length-map g.wires.items (wire_of (instances_of g)) in
      let here : w < length g.wires.items = omega (arith, low, are.each) in
      let x = get_or g.wires.items w (wires.Go (record { 0 = 0 })) in
      let region = are.are w here in
      let name : wire_at (names_of g) w ≡ wire_of (instances_of g) x
      = get_or-map (wire_of (instances_of g)) g.wires.items w (wires.Go (record { 0 = 0 })) _ here in
      let free = by-wire x (wire_at (names_of g) v.0) (g.indices.wires_fit w (wires.Go (record { 0 = 0 })) here)
      (ap (region_of body) (sym name) ∙ told (names_of g) (region_of body (wire_at (names_of g) w)) (get_or regions w None) v e region) in
      let below = low_of (names_of g) (region_of body (wire_at (names_of g) w)) (get_or regions w None) v e region in
      none_of (names_of g) (region_of body (wire_at (names_of g) v.0)) (get_or regions v.0 None) free (are.are v.0 (omega (arith, below, many)))
