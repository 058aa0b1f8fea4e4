-- The wires of a program's graph: one equation each, and all different.
use Rattle.std.proofs.Common.{◌≡◌, ℕ, ◌+◌, ◌<◌, true, List, [], ◌∷◌, ◌++◌, map, refl, sym, ap, ◌∙◌, subst, ⊎_elim, arith}
use Rattle.std.specs.Prelude.{◌≢◌}
use Rattle.std.specs.List.{flat_map, range_with_len}
use Rattle.std.proofs.lemmas.List.{map-append}
use Rattle.std.proofs.lemmas.Simd.{map-map}
use Rattle.base_facts.proofs.Lists.{Every, every-append}
use Rattle.est_kernel.specs.Plain.{interface_count, outgoing_count, given_count}
use Rattle.est_kernel.specs.Terms.{Term, Nothing, Present, Suspend, Seq, Loop, Par, Trap, Local, Awake}
use Rattle.est_kernel.specs.Preorder.{statement_count}
use Rattle.grc_graph.specs.Layers.{Layer, Resumed, Started, Liveness, body_liveness, body_layers, part_liveness, second_liveness, loop_liveness}
use Rattle.grc_graph.specs.Instances.{Instance, instances, instances_at, Before, Ascends, LayerBefore}
use Rattle.grc_graph.specs.Scopes.{Scope, bind, program_scope}
use Rattle.grc_graph.specs.Wires.{Wire, Out, Go, StatusOf, End, listed, instance_codes, own_status, instance_wires}
use Rattle.grc_graph.specs.Formulas.{Formula}
use Rattle.grc_graph.specs.Spots.{Spot, spots, spots_at, body_entry}
use Rattle.grc_graph.specs.Equations.{Equation, output_equation, instance_equations, instance_status, end_formula, equations, wires}
use Rattle.grc_graph.specs.Selected.{HasExitCodes}
use Rattle.grc_graph.specs.GraphRuns.{program_spots}
use Rattle.grc_graph.proofs.Exports.{instances_ascend_lem, Agrees, body_agrees, here_agrees, only_agrees, first_agrees, second_agrees}
use Rattle.grc_solutions.specs.GraphWires.{equation_wires, program_wires, WiresDiffer}
use Rattle.grc_solutions.proofs.Lists.{every_from, every_all, every_of_all}
use Rattle.grc_solutions.proofs.Each.{spot}
use Rattle.grc_solutions.proofs.Pairwise.{Pairwise, joined, all_pairs, pairwise_append, pairwise_from, pairwise_map, pairwise_flat, every_mapped, every_flat}
use Rattle.grc_solutions.proofs.Pairwise.{listed_every, listed_ascend, range_ascends}

-- ---- one equation a wire

status_wires : (all : List Spot) (t : Term) (n : ℕ) (l : Layer) → map (λ (e : Equation). e.wire) (instance_status all t n l) ≡ own_status t n l
status_wires all Nothing n l = refl
status_wires all _ n l = refl

own_wires : (all : List Spot) (x : Spot) → equation_wires (instance_equations all x) ≡ instance_wires x.statement x.path x.layer
own_wires all x =
    ap (λ ws. Go x.path x.layer ∷ ws)
    (map-append (λ (e : Equation). e.wire) (instance_status all x.statement x.path x.layer) _
    ∙ joined (status_wires all x.statement x.path x.layer)
    (map-map (λ (e : Equation). e.wire) (λ k. record { wire = End x.path x.layer k; formula = end_formula x.scope x.statement x.path x.layer k })
    (listed (instance_codes x.statement x.layer))))

map_flat : {A B C : Type 0} (f : B → C) (g : A → List B) (h : A → List C) → ((x : A) → map f (g x) ≡ h x) → (xs : List A) →
    map f (flat_map g xs) ≡ flat_map h xs
map_flat f g h e [] = refl
map_flat f g h e (x ∷ xs) = map-append f (g x) (flat_map g xs) ∙ joined (e x) (map_flat f g h e xs)

pub equation_wires_are : (given : ℕ) (outgoing : List ℕ) (all : List Spot) → equation_wires (equations given outgoing all) ≡ wires outgoing all
equation_wires_are given outgoing all =
    map-append (λ (e : Equation). e.wire) (map (output_equation given all) outgoing) (flat_map (instance_equations all) all)
    ∙ joined (map-map (λ (e : Equation). e.wire) (output_equation given all) outgoing)
    (map_flat (λ (e : Equation). e.wire) (instance_equations all) (λ x. instance_wires x.statement x.path x.layer) (own_wires all) all)

-- ---- the instances of the spots

abbrev pub place : Spot → Instance
place x = record { path = x.path; layer = x.layer }

module _ (L : ℕ → List Layer) where
  here : (a : Liveness) (B : Scope) (f : Layer → Formula) (t : Term) (n : ℕ) → Agrees L a t n → map place (spots_at L B f t n) ≡ instances_at a n
  here a B f t n g = map-map place (λ l. spot B f t n l) (L n) ∙ ap (map (λ l. record { path = n; layer = l })) (here_agrees L a t n g)

  one : (a b : Liveness) (B C : Scope) (f h : Layer → Formula) (t p : Term) (n : ℕ) → Agrees L a t n →
      map place (spots L C h p (n + 1)) ≡ instances b p (n + 1) → map place (spots_at L B f t n ++ spots L C h p (n + 1)) ≡
      instances_at a n ++ instances b p (n + 1)
  one a b B C f h t p n g e =
      map-append place (spots_at L B f t n) (spots L C h p (n + 1)) ∙ joined (here a B f t n g) e

  two : (a b c : Liveness) (B : Scope) (f h k : Layer → Formula) (t p q : Term) (n : ℕ) → Agrees L a t n →
      map place (spots L B h p (n + 1)) ≡ instances b p (n + 1) → map place (spots L B k q (n + 1 + statement_count p)) ≡
      instances c q (n + 1 + statement_count p) → map place (spots_at L B f t n ++ (spots L B h p (n + 1) ++ spots L B k q (n + 1 + statement_count p))) ≡
      instances_at a n ++ (instances b p (n + 1) ++ instances c q (n + 1 + statement_count p))
  two a b c B f h k t p q n g d e =
      map-append place (spots_at L B f t n) (spots L B h p (n + 1) ++ spots L B k q (n + 1 + statement_count p))
      ∙ joined (here a B f t n g) (map-append place (spots L B h p (n + 1)) (spots L B k q (n + 1 + statement_count p)) ∙ joined d e)

  pub places_are : (a : Liveness) (B : Scope) (f : Layer → Formula) (t : Term) (n : ℕ) → HasExitCodes t → Agrees L a t n →
      map place (spots L B f t n) ≡ instances a t n
  places_are a B f (Present e p q) n k g =
      two a (part_liveness a p) (part_liveness a q) B f _ _ (Present e p q) p q n g
      (places_are (part_liveness a p) B _ p (n + 1) k.0 (first_agrees L a (part_liveness a p) (part_liveness a q) (Present e p q) p q n refl (λ j. refl) g))
      (places_are (part_liveness a q) B _ q (n + 1 + statement_count p) k.1
      (second_agrees L a (part_liveness a p) (part_liveness a q) (Present e p q) p q n refl (λ j. refl) g))
  places_are a B f (Suspend e p) n k g =
      one a (part_liveness a p) B B f _ (Suspend e p) p n g (places_are (part_liveness a p) B _ p (n + 1) k
      (only_agrees L a (part_liveness a p) (Suspend e p) p n refl (λ j. refl) g))
  places_are a B f (Seq p q) n k g =
      let b = second_liveness a p q (n + 1 + statement_count p) in
      two a (part_liveness a p) b B f _ _ (Seq p q) p q n g
      (places_are (part_liveness a p) B _ p (n + 1) k.0 (first_agrees L a (part_liveness a p) b (Seq p q) p q n refl (λ j. refl) g))
      (places_are b B _ q (n + 1 + statement_count p) k.1 (second_agrees L a (part_liveness a p) b (Seq p q) p q n refl (λ j. refl) g))
  places_are a B f (Loop at p) n k g =
      one a (loop_liveness a p (n + 1)) B B f _ (Loop at p) p n g (places_are (loop_liveness a p (n + 1)) B _ p (n + 1) k
      (only_agrees L a (loop_liveness a p (n + 1)) (Loop at p) p n refl (λ j. refl) g))
  places_are a B f (Par p q) n k g =
      two a (part_liveness a p) (part_liveness a q) B f _ _ (Par p q) p q n g
      (places_are (part_liveness a p) B _ p (n + 1) k.0 (first_agrees L a (part_liveness a p) (part_liveness a q) (Par p q) p q n refl (λ j. refl) g))
      (places_are (part_liveness a q) B _ q (n + 1 + statement_count p) k.1
      (second_agrees L a (part_liveness a p) (part_liveness a q) (Par p q) p q n refl (λ j. refl) g))
  places_are a B f (Trap p) n k g =
      one a (part_liveness a p) B B f _ (Trap p) p n g (places_are (part_liveness a p) B _ p (n + 1) k
      (only_agrees L a (part_liveness a p) (Trap p) p n refl (λ j. refl) g))
  places_are a B f (Local s p) n k g =
      one a (part_liveness a p) B (bind B s n) f _ (Local s p) p n g
      (places_are (part_liveness a p) (bind B s n) _ p (n + 1) k (only_agrees L a (part_liveness a p) (Local s p) p n refl (λ j. refl) g))
  places_are a B f (Awake e p) n k g = absurd k
  places_are a B f t n k g = here a B f t n g

-- ---- all different

abbrev shape : Wire → ℕ
shape (Out s) = 0
shape (Go n l) = 1
shape (StatusOf n l) = 2
shape (End n l k) = 3

abbrev number : Wire → ℕ
number (Out s) = s
number (Go n l) = 0
number (StatusOf n l) = 0
number (End n l k) = k

-- the instance of a wire that has one
abbrev owner : Wire → Instance
owner (Out s) = record { path = 0; layer = Resumed }
owner (Go n l) = record { path = n; layer = l }
owner (StatusOf n l) = record { path = n; layer = l }
owner (End n l k) = record { path = n; layer = l }

other_shape : (u w : Wire) → shape u < shape w → u ≢ w
other_shape u w h e = let i = ap shape e in omega arith

other_number : (u w : Wire) → number u < number w → u ≢ w
other_number u w h e = let i = ap number e in omega arith

not_before : (l : Layer) → LayerBefore l l → ⊥
not_before Resumed h = h
not_before (Started r) h = omega arith

other_place : (x y : Instance) → Before x y → x ≡ y → ⊥
other_place x y b e =
    ⊎_elim (λ h. let i = ap (λ z. z.path) e in omega arith)
    (λ h. not_before y.layer (subst (λ l. LayerBefore l y.layer) (ap (λ z. z.layer) e) h.1)) b

other_owner : (u w : Wire) (x y : Instance) → Before x y → owner u ≡ x → owner w ≡ y → u ≢ w
other_owner u w x y b h g e = other_place x y b (sym h ∙ ap owner e ∙ g)

abbrev Other : Wire → Wire → Type 0
Other u w = u ≢ w

own_statuses : (P : Wire → Type 0) (t : Term) (n : ℕ) (l : Layer) → P (StatusOf n l) → Every P (own_status t n l)
own_statuses P (Local s p) n l h = (h, tt)
own_statuses P _ n l h = tt

statuses_differ : (t : Term) (n : ℕ) (l : Layer) → Pairwise Other (own_status t n l)
statuses_differ (Local s p) n l = (tt, tt)
statuses_differ _ n l = tt

-- what holds of each form of wire of an instance holds of its wires
pub instance_every : (P : Wire → Type 0) (t : Term) (n : ℕ) (l : Layer) → P (Go n l) → P (StatusOf n l) →
    ((k : ℕ) → k < 64 → instance_codes t l k ≡ true → P (End n l k)) → Every P (instance_wires t n l)
instance_every P t n l g s e = (
  g,
  every-append P (own_status t n l) (map (λ k. End n l k) (listed (instance_codes t l))) (own_statuses P t n l s)
      (every_mapped P (λ k. End n l k) (listed (instance_codes t l)) (listed_every _ (instance_codes t l) e)),
)

instance_differ : (t : Term) (n : ℕ) (l : Layer) → Pairwise Other (instance_wires t n l)
instance_differ t n l =
    let ends = map (λ k. End n l k) (listed (instance_codes t l)) in (
      every-append (Other (Go n l)) (own_status t n l) ends
          (own_statuses (Other (Go n l)) t n l (other_shape (Go n l) (StatusOf n l) (omega arith)))
          (every_mapped (Other (Go n l)) (λ k. End n l k) (listed (instance_codes t l)) (every_all _ _ (λ k. other_shape (Go n l) (End n l k) (omega arith)))),
      pairwise_append Other (own_status t n l) ends (statuses_differ t n l)
          (pairwise_map Other (λ k. End n l k) (listed (instance_codes t l))
          (pairwise_from (λ i j. i < j) (λ i j. Other (End n l i) (End n l j)) (listed (instance_codes t l)) (λ i j h. other_number (End n l i) (End n l j) h)
          (listed_ascend (instance_codes t l))))
          (own_statuses (λ u. Every (Other u) ends) t n l
          (every_mapped (Other (StatusOf n l)) (λ k. End n l k) (listed (instance_codes t l))
          (every_all _ _ (λ k. other_shape (StatusOf n l) (End n l k) (omega arith))))),
    )

two_instances : (x y : Spot) → Before (place x) (place y) → Every (λ u. Every (Other u) (instance_wires y.statement y.path y.layer))
    (instance_wires x.statement x.path x.layer)
two_instances x y b =
    every_from (λ u. owner u ≡ place x) (λ u. Every (Other u) (instance_wires y.statement y.path y.layer)) (instance_wires x.statement x.path x.layer)
    (λ u h. every_from (λ w. owner w ≡ place y) (Other u) (instance_wires y.statement y.path y.layer) (λ w g. other_owner u w (place x) (place y) b h g)
    (instance_every (λ w. owner w ≡ place y) y.statement y.path y.layer refl refl (λ k u e. refl)))
    (instance_every (λ u. owner u ≡ place x) x.statement x.path x.layer refl refl (λ k u e. refl))

ascend_pairwise : (xs : List Spot) → Ascends (map place xs) → Pairwise (λ x y. Before (place x) (place y)) xs
ascend_pairwise [] h = tt
ascend_pairwise (x ∷ xs) h = (mapped xs (every_of_all (Before (place x)) (map place xs) h.0), ascend_pairwise xs h.1)
  where
    mapped : (ys : List Spot) → Every (Before (place x)) (map place ys) → Every (λ y. Before (place x) (place y)) ys
    mapped [] g = tt
    mapped (y ∷ ys) g = (g.0, mapped ys g.1)

pub wires_differ_lem : WiresDiffer
wires_differ_lem p kernel =
    let all = program_spots p in
    let outgoing = range_with_len p.inputs (outgoing_count p) in
    let places = places_are (body_layers p.body) (body_liveness p.body) (program_scope p.inputs (interface_count p)) body_entry p.body 0 kernel
    (body_agrees p.body) in (
      equation_wires_are (given_count p) outgoing all,
      all_pairs Other (program_wires p)
          (pairwise_append Other (map Out outgoing) (flat_map (λ x. instance_wires x.statement x.path x.layer) all)
          (pairwise_map Other Out outgoing
          (pairwise_from (λ i j. i < j) (λ i j. Other (Out i) (Out j)) outgoing (λ i j h. other_number (Out i) (Out j) h)
          (range_ascends p.inputs (outgoing_count p))))
          (pairwise_flat (λ x y. Before (place x) (place y)) Other (λ x. instance_wires x.statement x.path x.layer)
          (λ x. instance_differ x.statement x.path x.layer) two_instances all
          (ascend_pairwise all (subst Ascends (sym places) (instances_ascend_lem p.body))))
          (every_mapped (λ u. Every (Other u) (flat_map (λ x. instance_wires x.statement x.path x.layer) all)) Out outgoing
          (every_all _ outgoing
          (λ s. every_flat (Other (Out s)) (λ x. instance_wires x.statement x.path x.layer) all
          (every_all _ all
          (λ x. instance_every (Other (Out s)) x.statement x.path x.layer (other_shape (Out s) (Go x.path x.layer) (omega arith))
          (other_shape (Out s) (StatusOf x.path x.layer) (omega arith))
          (λ k u e. other_shape (Out s) (End x.path x.layer k) (omega arith)))))))),
    )
