-- The live instances of a body, with what their equations need, are read from the rows of its statements.
use Rattle.std.proofs.Common.{◌≡◌, ℕ, ◌+◌, ◌<◌, List, ◌∷◌, ◌++◌, length, map, refl, sym, ap, ◌∙◌, arith, length-append}
use Rattle.std.proofs.lemmas.List.{map-append}
use Rattle.std.proofs.lemmas.Simd.{map-map}
use Rattle.est_kernel.specs.Plain.{Program, interface_count}
use Rattle.est_kernel.specs.Terms.{Term, Nothing, Present, Suspend, Seq, Loop, Par, Trap, Local, Awake}
use Rattle.est_kernel.specs.Preorder.{statement_count}
use Rattle.grc_graph.specs.Layers.{Layer, Liveness, layers_of, body_liveness, part_liveness, second_liveness, loop_liveness, body_layers}
use Rattle.grc_graph.specs.Instances.{Instance, instances_at, instances, body_instances}
use Rattle.est_kernel.specs.WellFormed.{IsKernel}
use Rattle.grc_graph.specs.Scopes.{Scope, bind, program_scope}
use Rattle.grc_graph.specs.Spots.{Spot, spots_at, spots}
use Rattle.grc_graph.specs.GraphRuns.{program_spots}
use Rattle.grc_graph.specs.Statements.{Entry, Body, Part, Branch, Then, Else, Suspended, Second, Looped}
use Rattle.grc_graph.specs.Rows.{Row, row, rows, second_of, program_rows, row_at, entry_formula, spot_at}
use Rattle.grc_graph.proofs.CodeReads.{StandsAt, stands_whole, stands_left, stands_right, stands_tail, stands_head}
use Rattle.grc_graph.proofs.LiveLayers.{Agrees, body_agrees, here_agrees, only_agrees, first_agrees, second_agrees}
use Rattle.grc_graph.proofs.LiveInstances.{at_layer}

one : (r : Row) (xs : List Row) (p : Term) → length xs ≡ statement_count p → length (r ∷ xs) ≡ 1 + statement_count p
one r xs p h = omega arith

two : (r : Row) (xs ys : List Row) (p q : Term) → length xs ≡ statement_count p → length ys ≡ statement_count q →
    length (r ∷ (xs ++ ys)) ≡ 1 + statement_count p + statement_count q
two r xs ys p q h g = omega (arith, length-append xs ys)

pub length-rows : (a : Liveness) (B : Scope) (x : Entry) (t : Term) (n : ℕ) → length (rows a B x t n) ≡ statement_count t
length-rows a B x (Present e p q) n = two (row a B x (Present e p q) (n + 1 + statement_count p)) _ _ p q
    (length-rows (part_liveness a p) B (Then n e) p (n + 1)) (length-rows (part_liveness a q) B (Else n e) q (n + 1 + statement_count p))
length-rows a B x (Suspend e p) n = one (row a B x (Suspend e p) 0) _ p (length-rows (part_liveness a p) B (Suspended n e) p (n + 1))
length-rows a B x (Seq p q) n = two (row a B x (Seq p q) (n + 1 + statement_count p)) _ _ p q (length-rows (part_liveness a p) B (Branch n) p (n + 1))
    (length-rows (second_liveness a p q (n + 1 + statement_count p)) B (Second n) q (n + 1 + statement_count p))
length-rows a B x (Loop at p) n = one (row a B x (Loop at p) 0) _ p (length-rows (loop_liveness a p (n + 1)) B (Looped n) p (n + 1))
length-rows a B x (Par p q) n = two (row a B x (Par p q) (n + 1 + statement_count p)) _ _ p q (length-rows (part_liveness a p) B (Branch n) p (n + 1))
    (length-rows (part_liveness a q) B (Branch n) q (n + 1 + statement_count p))
length-rows a B x (Trap p) n = one (row a B x (Trap p) 0) _ p (length-rows (part_liveness a p) B (Part n) p (n + 1))
length-rows a B x (Local s p) n = one (row a B x (Local s p) 0) _ p (length-rows (part_liveness a p) (bind B s n) (Part n) p (n + 1))
length-rows a B x (Awake e p) n = one (row a B x (Awake e p) 0) _ p (length-rows (part_liveness a p) B (Part n) p (n + 1))
length-rows a B x _ n = refl

-- the rows of a statement's parts stand behind its own
pub stands_one : (W : List Row) (n : ℕ) (r : Row) (ps : List Row) → StandsAt W n (r ∷ ps) → StandsAt W (n + 1) ps
stands_one W n r ps h = stands_tail W n r ps h

pub stands_first : (W : List Row) (n : ℕ) (r : Row) (ps qs : List Row) → StandsAt W n (r ∷ (ps ++ qs)) → StandsAt W (n + 1) ps
stands_first W n r ps qs h = stands_left W (n + 1) ps qs (stands_tail W n r (ps ++ qs) h)

pub stands_second : (W : List Row) (n : ℕ) (r : Row) (p : Term) (ps qs : List Row) → length ps ≡ statement_count p → StandsAt W n (r ∷ (ps ++ qs)) →
    StandsAt W (n + 1 + statement_count p) qs
stands_second W n r p ps qs e h = stands_right W (n + 1) (n + 1 + statement_count p) ps qs (ap (λ k. n + 1 + k) e) (stands_tail W n r (ps ++ qs) h)

-- the row of the statement itself
pub record Read (W : List Row) (n : ℕ) (r : Row) : Type 0 where
  pub within : n < length W
  pub same : row_at W n ≡ r

read : (W : List Row) (n : ℕ) (r : Row) (rs : List Row) → StandsAt W n (r ∷ rs) → Read W n r
read W n r rs h = record { within = omega (arith, h.within); same = stands_head W n r _ rs h }

pub row_read : (W : List Row) (a : Liveness) (B : Scope) (x : Entry) (t : Term) (n : ℕ) → StandsAt W n (rows a B x t n) → Read W n (row a B x t (second_of t n))
row_read W a B x Nothing n h = read W n _ _ h
row_read W a B x _ n h = read W n _ _ h

-- the instances of one statement
here_spots : (W : List Row) (L : ℕ → List Layer) (a : Liveness) (B : Scope) (x : Entry) (t : Term) (n : ℕ)
    → Agrees L a t n
    → row_at W n ≡ row a B x t (second_of t n)
    → spots_at L B (entry_formula B x n) t n ≡ map (spot_at W) (instances_at a n)
here_spots W L a B x t n g e =
    (λ i. map (λ l. record {
      statement = (sym e i).statement;
      path = n;
      layer = l;
      scope = (sym e i).scope;
      entry = entry_formula (sym e i).scope (sym e i).entry n l;
    }) (here_agrees L a t n g i))
    ∙ sym (map-map (spot_at W) (at_layer n) (layers_of a))

here_and : (W : List Row) (ss ps : List Spot) (xs ys : List Instance) → ss ≡ map (spot_at W) xs → ps ≡ map (spot_at W) ys →
    ss ++ ps ≡ map (spot_at W) (xs ++ ys)
here_and W ss ps xs ys h g = (λ i. h i ++ g i) ∙ sym (map-append (spot_at W) xs ys)

pub spots_by_row : (W : List Row) (L : ℕ → List Layer) (a : Liveness) (B : Scope) (x : Entry) (t : Term) (n : ℕ)
    → IsKernel t
    → Agrees L a t n
    → StandsAt W n (rows a B x t n)
    → spots L B (entry_formula B x n) t n ≡ map (spot_at W) (instances a t n)
spots_by_row W L a B x (Present e p q) n k g h =
    let m = n + 1 + statement_count p in
    let t = Present e p q in
    here_and W _ _ _ _ (here_spots W L a B x t n g (row_read W a B x t n h).same) (here_and W _ _ _ _
    (spots_by_row W L (part_liveness a p) B (Then n e) p (n + 1) k.0 (first_agrees L a (part_liveness a p) (part_liveness a q) t p q n refl (λ j. refl) g)
    (stands_first W n _ _ _ h))
    (spots_by_row W L (part_liveness a q) B (Else n e) q m k.1 (second_agrees L a (part_liveness a p) (part_liveness a q) t p q n refl (λ j. refl) g)
    (stands_second W n _ p _ _ (length-rows (part_liveness a p) B (Then n e) p (n + 1)) h)))
spots_by_row W L a B x (Suspend e p) n k g h =
    let t = Suspend e p in
    here_and W _ _ _ _ (here_spots W L a B x t n g (row_read W a B x t n h).same)
    (spots_by_row W L (part_liveness a p) B (Suspended n e) p (n + 1) k (only_agrees L a (part_liveness a p) t p n refl (λ j. refl) g) (stands_one W n _ _ h))
spots_by_row W L a B x (Seq p q) n k g h =
    let m = n + 1 + statement_count p in
    let t = Seq p q in
    here_and W _ _ _ _ (here_spots W L a B x t n g (row_read W a B x t n h).same) (here_and W _ _ _ _
    (spots_by_row W L (part_liveness a p) B (Branch n) p (n + 1) k.0 (first_agrees L a (part_liveness a p) (second_liveness a p q m) t p q n refl (λ j. refl) g)
    (stands_first W n _ _ _ h))
    (spots_by_row W L (second_liveness a p q m) B (Second n) q m k.1
    (second_agrees L a (part_liveness a p) (second_liveness a p q m) t p q n refl (λ j. refl) g)
    (stands_second W n _ p _ _ (length-rows (part_liveness a p) B (Branch n) p (n + 1)) h)))
spots_by_row W L a B x (Loop at p) n k g h =
    let t = Loop at p in
    here_and W _ _ _ _ (here_spots W L a B x t n g (row_read W a B x t n h).same)
    (spots_by_row W L (loop_liveness a p (n + 1)) B (Looped n) p (n + 1) k (only_agrees L a (loop_liveness a p (n + 1)) t p n refl (λ j. refl) g)
    (stands_one W n _ _ h))
spots_by_row W L a B x (Par p q) n k g h =
    let m = n + 1 + statement_count p in
    let t = Par p q in
    here_and W _ _ _ _ (here_spots W L a B x t n g (row_read W a B x t n h).same) (here_and W _ _ _ _
    (spots_by_row W L (part_liveness a p) B (Branch n) p (n + 1) k.0 (first_agrees L a (part_liveness a p) (part_liveness a q) t p q n refl (λ j. refl) g)
    (stands_first W n _ _ _ h))
    (spots_by_row W L (part_liveness a q) B (Branch n) q m k.1 (second_agrees L a (part_liveness a p) (part_liveness a q) t p q n refl (λ j. refl) g)
    (stands_second W n _ p _ _ (length-rows (part_liveness a p) B (Branch n) p (n + 1)) h)))
spots_by_row W L a B x (Trap p) n k g h =
    let t = Trap p in
    here_and W _ _ _ _ (here_spots W L a B x t n g (row_read W a B x t n h).same)
    (spots_by_row W L (part_liveness a p) B (Part n) p (n + 1) k (only_agrees L a (part_liveness a p) t p n refl (λ j. refl) g) (stands_one W n _ _ h))
spots_by_row W L a B x (Local s p) n k g h =
    let t = Local s p in
    here_and W _ _ _ _ (here_spots W L a B x t n g (row_read W a B x t n h).same)
    (spots_by_row W L (part_liveness a p) (bind B s n) (Part n) p (n + 1) k (only_agrees L a (part_liveness a p) t p n refl (λ j. refl) g)
    (stands_one W n _ _ h))
spots_by_row W L a B x (Awake e p) n k g h = absurd k
spots_by_row W L a B x t n k g h = here_spots W L a B x t n g (row_read W a B x t n h).same

pub program_spots_by_row : (p : Program) → IsKernel p.body → program_spots p ≡ map (spot_at (program_rows p)) (body_instances p.body)
program_spots_by_row p k =
    spots_by_row (program_rows p) (body_layers p.body) (body_liveness p.body) (program_scope p.inputs (interface_count p)) Body p.body 0 k
    (body_agrees p.body) (stands_whole (program_rows p))
