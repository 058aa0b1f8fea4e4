-- No two wires of a program's graph have one name.
use Rattle.std.proofs.Common.{◌≡◌, ℕ, zero, suc, ◌+◌, ◌<◌, ◌≤◌, ◌⊎◌, Bool, true, false, List, [], ◌∷◌, ◌++◌, length, map, get_or, refl, ap}
use Rattle.std.proofs.Common.{sym, subst, ◌∙◌, arith}
use Rattle.std.proofs.Common.{⊎_elim, inl, inr, Option, Some, None}
use Rattle.std.specs.Prelude.{All, Contains, flat_map, if◌then◌else◌, ⊤}
use Rattle.std.specs.List.{range_with_len}
use Rattle.std.proofs.lemmas.List.{get_or_default}
use Rattle.std.proofs.lemmas.List.Elements.{All-contains, All-cons, All-append, All-map, All-nil}
use Rattle.std.proofs.lemmas.List.Elements.{Contains-append_cases}
use Rattle.est_kernel.specs.Plain.{Program, outgoing_count}
use Rattle.est_kernel.specs.Terms.{Term, Nothing, Pause, Emit, Exit, Present, Suspend, Seq, Loop, Par, Trap, Local, Awake}
use Rattle.est_kernel.specs.WellFormed.{IsKernel}
use Rattle.grc_graph.specs.Layers.{Layer}
use Rattle.grc_graph.specs.Instances.{Instance, body_instances, Before, Ascends}
use Rattle.grc_graph.specs.Neighbouring.{program_wires}
use Rattle.grc_graph.specs.Rows.{Row, program_rows, row_at}
use Rattle.grc_graph.specs.Wires.{Wire, Out, Go, StatusOf, End, codes_below, listed, instance_codes, own_status, instance_wires}
use Rattle.grc_graph.proofs.Exports.{instances_ascend_lem, row_wires, outs_of, program_wires_by_row, layer_irrefl}
use Rattle.grc_dep.specs.Names.{Apart}

-- ---- lists in which nothing stands twice

abbrev pub Once : {X : Type 0} → List X → Type 0
Once [] = ⊤
Once (x ∷ xs) = (¬ Contains xs x) × Once xs

first_or_later : {X : Type 0} (x : X) (xs : List X) (y : X) → Contains (x ∷ xs) y → (x ≡ y) ⊎ Contains xs y
first_or_later x xs y (zero, l, e) = inl e
first_or_later x xs y (suc k, l, e) = inr (k, omega (arith, l), e)

once_append : {X : Type 0} (xs ys : List X) → Once xs → Once ys → ((x : X) → Contains xs x → ¬ Contains ys x) → Once (xs ++ ys)
once_append [] ys h g d = g
once_append (x ∷ xs) ys h g d = (
  λ c. ⊎_elim h.0 (d x (0, omega arith, refl)) (Contains-append_cases xs ys x c),
  once_append xs ys h.1 g (λ y c. d y (suc c.0, omega (arith, c.1), c.2)),
)

in_map : {X Y : Type 0} (f : X → Y) (xs : List X) (y : Y) → Contains (map f xs) y → (x : X) × Contains xs x × (f x ≡ y)
in_map f [] y c = absurd (omega (arith, c.1))
in_map {X = X} {Y = Y} f (x ∷ xs) y c = ⊎_elim (λ e. (x, (0, omega arith, refl), e)) (λ k. later (in_map f xs y k)) (first_or_later (f x) (map f xs) y c)
  where
    later : (z : X) × Contains xs z × (f z ≡ y) → (z : X) × Contains (x ∷ xs) z × (f z ≡ y)
    later h = (h.0, (suc h.1.0, omega (arith, h.1.1), h.1.2), h.2)

once_map : {X Y : Type 0} (f : X → Y) (xs : List X) → ((x z : X) → f x ≡ f z → x ≡ z) → Once xs → Once (map f xs)
once_map f [] inj h = tt
once_map f (x ∷ xs) inj h = (
  λ c. let z = in_map f xs (f x) c in h.0 (subst (λ w. Contains xs w) (inj z.0 x z.2) z.1),
  once_map f xs inj h.1,
)

pub in_flat_map : {X Y : Type 0} (f : X → List Y) (xs : List X) (y : Y) → Contains (flat_map f xs) y → (x : X) × Contains xs x × Contains (f x) y
in_flat_map f [] y c = absurd (omega (arith, c.1))
in_flat_map {X = X} {Y = Y} f (x ∷ xs) y c =
    ⊎_elim (λ e. (x, (0, omega arith, refl), e)) (λ k. later (in_flat_map f xs y k)) (Contains-append_cases (f x) (flat_map f xs) y c)
  where
    later : (z : X) × Contains xs z × Contains (f z) y → (z : X) × Contains (x ∷ xs) z × Contains (f z) y
    later h = (h.0, (suc h.1.0, omega (arith, h.1.1), h.1.2), h.2)

-- what stands in a list has one place
once_apart : {X : Type 0} (xs : List X) (i j : ℕ) (d : X) → Once xs → i < length xs → j < length xs → get_or xs i d ≡ get_or xs j d → i ≡ j
once_apart [] i j d h l m e = absurd (omega arith)
once_apart (x ∷ xs) zero zero d h l m e = refl
once_apart (x ∷ xs) zero (suc j) d h l m e = absurd (h.0 (j, omega arith, get_or_default xs j x d (omega arith) ∙ sym e))
once_apart (x ∷ xs) (suc i) zero d h l m e = absurd (h.0 (i, omega arith, get_or_default xs i x d (omega arith) ∙ e))
once_apart (x ∷ xs) (suc i) (suc j) d h l m e = ap (λ k. suc k) (once_apart xs i j d h.1 (omega arith) (omega arith) e)

-- ---- the wires of an instance

below_less : (n : ℕ) (A : ℕ → Bool) (k : ℕ) → Contains (codes_below n A) k → k < n
unfolding codes_below
below_less zero A k c = absurd (omega (arith, c.1))
below_less (suc n) A k c =
    ⊎_elim (λ h. omega (arith, below_less n A k h)) (λ h. last (A n) h) (Contains-append_cases (codes_below n A) (if A n then n ∷ [] else []) k c)
  where
    last : (b : Bool) → Contains (if b then n ∷ [] else []) k → k < suc n
    last true h = ⊎_elim (λ e. omega (arith, e)) (λ z. absurd (omega (arith, z.1))) (first_or_later n [] k h)
    last false h = absurd (omega (arith, h.1))

once_below : (n : ℕ) (A : ℕ → Bool) → Once (codes_below n A)
unfolding codes_below
once_below zero A = tt
once_below (suc n) A = once_append (codes_below n A) (if A n then n ∷ [] else []) (once_below n A) (one (A n)) (λ k c. apart (A n) k (below_less n A k c))
  where
    one : (b : Bool) → Once (if b then n ∷ [] else [])
    one true = (λ c. absurd (omega (arith, c.1)), tt)
    one false = tt

    apart : (b : Bool) (k : ℕ) → k < n → ¬ Contains (if b then n ∷ [] else []) k
    apart true k l c = ⊎_elim (λ e. omega (arith, e, l)) (λ z. absurd (omega (arith, z.1))) (first_or_later n [] k c)
    apart false k l c = absurd (omega (arith, c.1))

once_listed : (A : ℕ → Bool) → Once (listed A)
unfolding listed
once_listed A = once_below 64 A

abbrev is_go : Wire → Bool
is_go (Out s) = false
is_go (Go n l) = true
is_go (StatusOf n l) = false
is_go (End n l k) = false

abbrev is_end : Wire → Bool
is_end (Out s) = false
is_end (Go n l) = false
is_end (StatusOf n l) = false
is_end (End n l k) = true

status_all : (P : Wire → Type 0) (t : Term) (n : ℕ) (l : Layer) → P (StatusOf n l) → All P (own_status t n l)
status_all P (Local s p) n l h = All-cons P (StatusOf n l) [] h (All-nil P)
status_all P _ n l h = All-nil P

once_status : (t : Term) (n : ℕ) (l : Layer) → Once (own_status t n l)
once_status (Local s p) n l = (λ c. absurd (omega (arith, c.1)), tt)
once_status _ n l = tt

ends_all : (P : Wire → Type 0) (n : ℕ) (l : Layer) (ks : List ℕ) → ((k : ℕ) → P (End n l k)) → All P (map (λ k. End n l k) ks)
ends_all P n l ks h = All-map P (λ k. End n l k) ks (λ i d z. h (get_or ks i d))

once_wires : (t : Term) (n : ℕ) (l : Layer) → Once (instance_wires t n l)
once_wires t n l =
    let ends = map (λ k. End n l k) (listed (instance_codes t l)) in (
      λ c. let no : true ≡ false = All-contains (λ w. is_go w ≡ false) (own_status t n l ++ ends) (Go n l)
          (All-append (λ w. is_go w ≡ false) (own_status t n l) ends (status_all (λ w. is_go w ≡ false) t n l refl)
          (ends_all (λ w. is_go w ≡ false) n l (listed (instance_codes t l)) (λ k. refl))) c in cc,
      once_append (own_status t n l) ends (once_status t n l)
          (once_map (λ k. End n l k) (listed (instance_codes t l)) (λ j k e. cc) (once_listed (instance_codes t l)))
          (λ w c h. let no : is_end w ≡ false = All-contains (λ w. is_end w ≡ false) (own_status t n l) w (status_all (λ w. is_end w ≡ false) t n l refl) c in
          let yes : is_end w ≡ true = All-contains (λ w. is_end w ≡ true) ends w
          (ends_all (λ w. is_end w ≡ true) n l (listed (instance_codes t l)) (λ k. refl)) h in
          cc),
    )

-- ---- the instance that a wire is of

abbrev owner : Wire → Option Instance
owner (Out s) = None
owner (Go n l) = Some (record { path = n; layer = l })
owner (StatusOf n l) = Some (record { path = n; layer = l })
owner (End n l k) = Some (record { path = n; layer = l })

owned : (t : Term) (x : Instance) → All (λ w. owner w ≡ Some x) (instance_wires t x.path x.layer)
owned t x =
    let P : Wire → Type 0 = λ w. owner w ≡ Some x in
    All-cons P (Go x.path x.layer) _ refl
    (All-append P (own_status t x.path x.layer) _ (status_all P t x.path x.layer refl)
    (ends_all P x.path x.layer (listed (instance_codes t x.layer)) (λ k. refl)))

before_irrefl : (x : Instance) → ¬ Before x x
before_irrefl x h = ⊎_elim (λ l. omega (arith, l)) (λ g. layer_irrefl x.layer g.1) h

some_same : (x y : Instance) → Some x ≡ Some y → x ≡ y
some_same x y e = cc

once_rows : (W : List Row) (insts : List Instance) → Ascends insts → Once (flat_map (row_wires W) insts)
once_rows W [] h = tt
once_rows W (x ∷ xs) h =
    once_append (row_wires W x) (flat_map (row_wires W) xs) (once_wires (row_at W x.path).statement x.path x.layer) (once_rows W xs h.1) (λ w c k.
    let y = in_flat_map (row_wires W) xs w k in
    let mine = All-contains (λ w. owner w ≡ Some x) (row_wires W x) w (owned (row_at W x.path).statement x) c in
    let other = All-contains (λ w. owner w ≡ Some y.0) (row_wires W y.0) w (owned (row_at W y.0.path).statement y.0) y.2 in
    let same : y.0 ≡ x = some_same y.0 x (sym other ∙ mine) in
    before_irrefl x (subst (Before x) same (All-contains (Before x) xs y.0 h.0 y.1)))

-- ---- all wires

range_from : (a n k : ℕ) → Contains (range_with_len a n) k → a ≤ k
range_from a zero k c = absurd (omega (arith, c.1))
range_from a (suc n) k c = ⊎_elim (λ e. omega (arith, e)) (λ h. omega (arith, range_from (a + 1) n k h)) (first_or_later a (range_with_len (a + 1) n) k c)

once_range : (a n : ℕ) → Once (range_with_len a n)
once_range a zero = tt
once_range a (suc n) = (λ c. omega (arith, range_from (a + 1) n a c), once_range (a + 1) n)

signal_same : (s t : ℕ) → Out s ≡ Out t → s ≡ t
signal_same s t e = cc

pub wires_apart : (p : Program) → IsKernel p.body → Apart (program_wires p)
wires_apart p k i j d l m e = once_apart (program_wires p) i j d (subst Once (sym (program_wires_by_row p k)) once) l m e
  where
    W : List Row
    W = program_rows p

    once : Once (outs_of p ++ flat_map (row_wires W) (body_instances p.body))
    once =
        once_append (outs_of p) (flat_map (row_wires W) (body_instances p.body)) (once_map Out (range_with_len p.inputs (outgoing_count p)) signal_same
        (once_range p.inputs (outgoing_count p))) (once_rows W (body_instances p.body) (instances_ascend_lem p.body)) (λ w c h.
        let s = in_map Out (range_with_len p.inputs (outgoing_count p)) w c in
        let y = in_flat_map (row_wires W) (body_instances p.body) w h in
        let mine : None ≡ owner w = ap owner s.2 in
        let other = All-contains (λ w. owner w ≡ Some y.0) (row_wires W y.0) w (owned (row_at W y.0.path).statement y.0) y.2 in
        let no : None ≡ Some y.0 = mine ∙ other in cc)
