-- From facts of each edge of an instance to its rows.
use Rattle.std.proofs.Common.{◌≡◌, ℕ, ◌+◌, ◌<◌, Bool, true, ◌&&◌, leb, List, [], ◌∷◌, ◌++◌, map, filter, Option, Some, None}
use Rattle.std.proofs.lemmas.Bool.{and_parts, le-leb}
use Rattle.base_facts.proofs.Lists.{Every}
use Rattle.base_types.specs.Codes.{except}
use Rattle.est_kernel.specs.Terms.{Expression, Tick, Sig, Not, And, Or, Term, Pause, Emit, Present, Suspend, Seq, Loop, Par, Trap, Local, Awake}
use Rattle.est_kernel.specs.Preorder.{statement_count}
use Rattle.est_kernel.specs.Steps.{trap_code}
use Rattle.est_kernel.specs.StaticCodes.{codes_if, has_code, started_codes, resumed_codes}
use Rattle.est_kernel.proofs.Exports.{except-parts}
use Rattle.grc_graph.specs.Layers.{Layer, Resumed, Started, can_pass}
use Rattle.grc_graph.specs.Scopes.{Scope}
use Rattle.grc_graph.specs.Wires.{Wire, Go, End, status_wire, listed}
use Rattle.grc_graph.specs.Spots.{Spot}
use Rattle.grc_graph.specs.Edges.{Edge, edge, edges_if, edges_at, test_to, status_to, to_status, go_to_part, go_to_ends, ends_to_ends, branch_to_ends}
use Rattle.grc_graph.specs.Edges.{trapped_to_ends}
use Rattle.grc_graph.specs.Selected.{HasExitCodes}
use Rattle.grc_graph.proofs.Exports.{started_below, resumed_below}
use Rattle.grc_solutions.proofs.Lists.{every_left, every_right, every_map, every_flat_map, every_filter, every_if, every_listed}
use Rattle.grc_solutions.proofs.Rows.{RowOf, RowAt, Between, Passes, ToEnds, Branches, Trapped, FromStatus, ToStatus, Reads, StartedRow, ResumedRow}

-- the rows of the edges at one instance
module _ (Q : Between) where
  abbrev OnEdge : Edge → Type 0
  OnEdge e = Q e.from e.to

  row_passes : (A : ℕ → Bool) (c : ℕ) (j : Layer) (n : ℕ) (l : Layer) → ((k : ℕ) → A k ≡ true → k < 64) → Every OnEdge (ends_to_ends A c j n l) →
      Passes Q A c j n l
  row_passes A c j n l b h k e =
      every_listed (λ i. Q (End c j i) (End n l i)) A (every_map OnEdge (λ i. edge (End c j i) (End n l i)) (listed A) h) k (b k e) e

  row_ends : (A : ℕ → Bool) (n : ℕ) (l : Layer) → ((k : ℕ) → A k ≡ true → k < 64) → Every OnEdge (go_to_ends A n l) → ToEnds Q A n l
  row_ends A n l b h k e =
      every_listed (λ i. Q (Go n l) (End n l i)) A (every_map OnEdge (λ i. edge (Go n l) (End n l i)) (listed A) h) k (b k e) e

  row_branches : (A C : ℕ → Bool) (c n : ℕ) (l : Layer) → ((k : ℕ) → A k ≡ true → k < 64) → ((k : ℕ) → C k ≡ true → k < 64) →
      Every OnEdge (branch_to_ends A C c n l) → Branches Q A C c n l
  row_branches A C c n l a b h i k x y o =
      let g = λ (j : ℕ). map (λ m. edge (End c l j) (End n l m)) (filter (λ m. leb j m) (listed C)) in
      let one = every_listed (λ j. Every OnEdge (g j)) A (every_flat_map OnEdge g (listed A) h) i (a i x) x in
      let two = every_filter (λ m. Q (End c l i) (End n l m)) (λ m. leb i m) (listed C)
      (every_map OnEdge (λ m. edge (End c l i) (End n l m)) (filter (λ m. leb i m) (listed C)) one) in
      every_listed (λ m. leb i m ≡ true → Q (End c l i) (End n l m)) C two k (b k y) y (le-leb i k o)

  row_trapped : (A : ℕ → Bool) (c n : ℕ) (l : Layer) → ((k : ℕ) → A k ≡ true → k < 64) → Every OnEdge (trapped_to_ends A c n l) → Trapped Q A c n l
  row_trapped A c n l b h k e =
      every_listed (λ i. Q (End c l i) (End n l (trap_code i))) A
      (every_map OnEdge (λ i. edge (End c l i) (End n l (trap_code i))) (listed A) h) k (b k e) e

  row_status : (o : Option Wire) (w : Wire) → Every OnEdge (status_to o w) → FromStatus Q o w
  row_status None w h = tt
  row_status (Some u) w h = h.0

  row_test : (B : Scope) (e : Expression) (l : Layer) (w : Wire) → Every OnEdge (test_to B e l w) → Reads Q B e l w
  row_test B Tick l w h = tt
  row_test B (Sig s) l w h = row_status (status_wire (B s) s l) w h
  row_test B (Not a) l w h = row_test B a l w h
  row_test B (And a b) l w h = (
    row_test B a l w (every_left OnEdge (test_to B a l w) (test_to B b l w) h),
    row_test B b l w (every_right OnEdge (test_to B a l w) (test_to B b l w) h),
  )
  row_test B (Or a b) l w h = (
    row_test B a l w (every_left OnEdge (test_to B a l w) (test_to B b l w) h),
    row_test B b l w (every_right OnEdge (test_to B a l w) (test_to B b l w) h),
  )

  row_to_status : (u : Wire) (o : Option Wire) → Every OnEdge (to_status u o) → ToStatus Q u o
  row_to_status u None h = tt
  row_to_status u (Some w) h = h.0

  row_if : (b : Bool) (es : List Edge) → Every OnEdge (edges_if b es) → b ≡ true → Every OnEdge es
  row_if b es h e = every_if OnEdge b es e h

  -- a list of edges in two parts
  first : (xs ys : List Edge) → Every OnEdge (xs ++ ys) → Every OnEdge xs
  first xs ys h = every_left OnEdge xs ys h

  rest : (xs ys : List Edge) → Every OnEdge (xs ++ ys) → Every OnEdge ys
  rest xs ys h = every_right OnEdge xs ys h

  started_row : (B : Scope) (t : Term) (n r : ℕ) → HasExitCodes t → Every OnEdge (edges_at B t n (Started r)) → StartedRow Q B t n (Started r)
  started_row B (Emit s) n r b h =
      let A = started_codes (Emit s) in
      let l = Started r in
      let o = status_wire (B s) s l in (
        row_ends A n l (started_below (Emit s) b) (first (go_to_ends A n l) (to_status (Go n l) o) h),
        row_to_status (Go n l) o (rest (go_to_ends A n l) (to_status (Go n l) o) h),
      )
  started_row B (Present e p q) n r b h =
      let m = n + 1 + statement_count p in
      let l = Started r in
      let h2 = h.1 in
      let tp = test_to B e l (Go (n + 1) l) in
      let tq = test_to B e l (Go m l) in
      let ep = ends_to_ends (started_codes p) (n + 1) l n l in
      let eq = ends_to_ends (started_codes q) m l n l in
      let h3 = h2.1 in
      let h4 = rest tp (tq ++ (ep ++ eq)) h3 in
      let h5 = rest tq (ep ++ eq) h4 in (
        h.0,
        h2.0,
        row_test B e l (Go (n + 1) l) (first tp (tq ++ (ep ++ eq)) h3),
        row_test B e l (Go m l) (first tq (ep ++ eq) h4),
        row_passes (started_codes p) (n + 1) l n l (started_below p b.0) (first ep eq h5),
        row_passes (started_codes q) m l n l (started_below q b.1) (rest ep eq h5),
      )
  started_row B (Suspend e p) n r b h =
      (h.0, row_passes (started_codes p) (n + 1) (Started r) n (Started r) (started_below p b) h.1)
  started_row B (Seq p q) n r b h =
      let m = n + 1 + statement_count p in
      let l = Started r in
      let z = edges_if (started_codes p 0) (edge (End (n + 1) l 0) (Go m l) ∷ []) in
      let ep = ends_to_ends (except 0 (started_codes p)) (n + 1) l n l in
      let eq = ends_to_ends (codes_if (started_codes p 0) (started_codes q)) m l n l in
      let h2 = rest z (ep ++ eq) h.1 in (
        h.0,
        (λ e. (row_if (started_codes p 0) (edge (End (n + 1) l 0) (Go m l) ∷ []) (first z (ep ++ eq) h.1) e).0),
        row_passes (except 0 (started_codes p)) (n + 1) l n l (λ k e. started_below p b.0 k (except-parts (started_codes p) 0 k e).0) (first ep eq h2),
        row_passes (codes_if (started_codes p 0) (started_codes q)) m l n l (λ k e. started_below q b.1 k (and_parts _ _ e).1) (rest ep eq h2),
      )
  started_row B (Loop at p) n r b h = (
    h.0,
    row_passes (except 0 (started_codes p)) (n + 1) (Started r) n (Started r) (λ k e. started_below p b k (except-parts (started_codes p) 0 k e).0) h.1,
  )
  started_row B (Par p q) n r b h =
      let m = n + 1 + statement_count p in
      let l = Started r in
      let C = started_codes (Par p q) in
      let ep = branch_to_ends (started_codes p) C (n + 1) n l in
      let eq = branch_to_ends (started_codes q) C m n l in
      let h2 = h.1 in (
        h.0,
        h2.0,
        row_branches (started_codes p) C (n + 1) n l (started_below p b.0) (started_below (Par p q) b) (first ep eq h2.1),
        row_branches (started_codes q) C m n l (started_below q b.1) (started_below (Par p q) b) (rest ep eq h2.1),
      )
  started_row B (Trap p) n r b h = (h.0, row_trapped (started_codes p) (n + 1) n (Started r) (started_below p b) h.1)
  started_row B (Local s p) n r b h =
      (h.0, row_passes (started_codes p) (n + 1) (Started r) n (Started r) (started_below p b) h.1)
  started_row B (Awake e p) n r b h = absurd b
  started_row B t n r b h = row_ends (started_codes t) n (Started r) (started_below t b) h

  -- `go` of a resumed part
  row_go : (p : Term) (n c : ℕ) (es : List Edge) → Every OnEdge (go_to_part p n c Resumed ++ es) → has_code (resumed_codes p) ≡ true →
      Q (Go n Resumed) (Go c Resumed)
  row_go p n c es h e =
      (row_if (has_code (resumed_codes p)) (edge (Go n Resumed) (Go c Resumed) ∷ []) (first (go_to_part p n c Resumed) es h) e).0

  resumed_row : (B : Scope) (t : Term) (n : ℕ) → HasExitCodes t → Every OnEdge (edges_at B t n Resumed) → ResumedRow Q B t n
  resumed_row B Pause n b h = row_ends (resumed_codes Pause) n Resumed (resumed_below Pause b) h
  resumed_row B (Present e p q) n b h =
      let m = n + 1 + statement_count p in
      let l = Resumed in
      let gp = go_to_part p n (n + 1) l in
      let gq = go_to_part q n m l in
      let ep = ends_to_ends (resumed_codes p) (n + 1) l n l in
      let eq = ends_to_ends (resumed_codes q) m l n l in
      let h2 = rest gp (gq ++ (ep ++ eq)) h in
      let h3 = rest gq (ep ++ eq) h2 in (
        row_go p n (n + 1) (gq ++ (ep ++ eq)) h,
        row_go q n m (ep ++ eq) h2,
        row_passes (resumed_codes p) (n + 1) l n l (resumed_below p b.0) (first ep eq h3),
        row_passes (resumed_codes q) m l n l (resumed_below q b.1) (rest ep eq h3),
      )
  resumed_row B (Suspend e p) n b h =
      let l = Resumed in
      let one = resumed_codes (Suspend e p) 1 in
      let live = has_code (resumed_codes p) in
      let gp = go_to_part p n (n + 1) l in
      let g1 = edges_if one (edge (Go n l) (End n l 1) ∷ []) in
      let tp = edges_if live (test_to B e l (Go (n + 1) l)) in
      let t1 = edges_if one (test_to B e l (End n l 1)) in
      let ep = ends_to_ends (resumed_codes p) (n + 1) l n l in
      let h2 = rest gp (g1 ++ (tp ++ (t1 ++ ep))) h in
      let h3 = rest g1 (tp ++ (t1 ++ ep)) h2 in
      let h4 = rest tp (t1 ++ ep) h3 in (
        row_go p n (n + 1) (g1 ++ (tp ++ (t1 ++ ep))) h,
        (λ x. (row_if one (edge (Go n l) (End n l 1) ∷ []) (first g1 (tp ++ (t1 ++ ep)) h2) x).0),
        (λ x. row_test B e l (Go (n + 1) l) (row_if live (test_to B e l (Go (n + 1) l)) (first tp (t1 ++ ep) h3) x)),
        (λ x. row_test B e l (End n l 1) (row_if one (test_to B e l (End n l 1)) (first t1 ep h4) x)),
        row_passes (resumed_codes p) (n + 1) l n l (resumed_below p b) (rest t1 ep h4),
      )
  resumed_row B (Seq p q) n b h =
      let m = n + 1 + statement_count p in
      let l = Resumed in
      let second = can_pass p && has_code (resumed_codes q) in
      let gp = go_to_part p n (n + 1) l in
      let gq = edges_if second (edge (Go n l) (Go m l) ∷ []) in
      let z = edges_if (resumed_codes p 0) (edge (End (n + 1) l 0) (Go m (Started m)) ∷ []) in
      let ep = ends_to_ends (except 0 (resumed_codes p)) (n + 1) l n l in
      let eq = ends_to_ends (codes_if (can_pass p) (resumed_codes q)) m l n l in
      let er = ends_to_ends (codes_if (resumed_codes p 0) (started_codes q)) m (Started m) n l in
      let h2 = rest gp (gq ++ (z ++ (ep ++ (eq ++ er)))) h in
      let h3 = rest gq (z ++ (ep ++ (eq ++ er))) h2 in
      let h4 = rest z (ep ++ (eq ++ er)) h3 in
      let h5 = rest ep (eq ++ er) h4 in (
        row_go p n (n + 1) (gq ++ (z ++ (ep ++ (eq ++ er)))) h,
        (λ x. (row_if second (edge (Go n l) (Go m l) ∷ []) (first gq (z ++ (ep ++ (eq ++ er))) h2) x).0),
        (λ x. (row_if (resumed_codes p 0) (edge (End (n + 1) l 0) (Go m (Started m)) ∷ []) (first z (ep ++ (eq ++ er)) h3) x).0),
        row_passes (except 0 (resumed_codes p)) (n + 1) l n l (λ k e. resumed_below p b.0 k (except-parts (resumed_codes p) 0 k e).0) (first ep (eq ++ er) h4),
        row_passes (codes_if (can_pass p) (resumed_codes q)) m l n l (λ k e. resumed_below q b.1 k (and_parts _ _ e).1) (first eq er h5),
        row_passes (codes_if (resumed_codes p 0) (started_codes q)) m (Started m) n l (λ k e. started_below q b.1 k (and_parts _ _ e).1) (rest eq er h5),
      )
  resumed_row B (Loop at p) n b h =
      let l = Resumed in
      let gp = go_to_part p n (n + 1) l in
      let z = edges_if (resumed_codes p 0) (edge (End (n + 1) l 0) (Go (n + 1) (Started (n + 1))) ∷ []) in
      let ep = ends_to_ends (except 0 (resumed_codes p)) (n + 1) l n l in
      let er = ends_to_ends (codes_if (resumed_codes p 0) (except 0 (started_codes p))) (n + 1) (Started (n + 1)) n l in
      let h2 = rest gp (z ++ (ep ++ er)) h in
      let h3 = rest z (ep ++ er) h2 in (
        row_go p n (n + 1) (z ++ (ep ++ er)) h,
        (λ x. (row_if (resumed_codes p 0) (edge (End (n + 1) l 0) (Go (n + 1) (Started (n + 1))) ∷ []) (first z (ep ++ er) h2) x).0),
        row_passes (except 0 (resumed_codes p)) (n + 1) l n l (λ k e. resumed_below p b k (except-parts (resumed_codes p) 0 k e).0) (first ep er h3),
        row_passes (codes_if (resumed_codes p 0) (except 0 (started_codes p))) (n + 1) (Started (n + 1)) n l
            (λ k e. started_below p b k (except-parts (started_codes p) 0 k (and_parts _ _ e).1).0) (rest ep er h3),
      )
  resumed_row B (Par p q) n b h =
      let m = n + 1 + statement_count p in
      let l = Resumed in
      let C = resumed_codes (Par p q) in
      let gp = go_to_part p n (n + 1) l in
      let gq = go_to_part q n m l in
      let own = go_to_ends C n l in
      let ep = branch_to_ends (resumed_codes p) C (n + 1) n l in
      let eq = branch_to_ends (resumed_codes q) C m n l in
      let h2 = rest gp (gq ++ (own ++ (ep ++ eq))) h in
      let h3 = rest gq (own ++ (ep ++ eq)) h2 in
      let h4 = rest own (ep ++ eq) h3 in (
        row_go p n (n + 1) (gq ++ (own ++ (ep ++ eq))) h,
        row_go q n m (own ++ (ep ++ eq)) h2,
        row_ends C n l (resumed_below (Par p q) b) (first own (ep ++ eq) h3),
        row_branches (resumed_codes p) C (n + 1) n l (resumed_below p b.0) (resumed_below (Par p q) b) (first ep eq h4),
        row_branches (resumed_codes q) C m n l (resumed_below q b.1) (resumed_below (Par p q) b) (rest ep eq h4),
      )
  resumed_row B (Trap p) n b h =
      let gp = go_to_part p n (n + 1) Resumed in
      let ep = trapped_to_ends (resumed_codes p) (n + 1) n Resumed in (
        row_go p n (n + 1) ep h,
        row_trapped (resumed_codes p) (n + 1) n Resumed (resumed_below p b) (rest gp ep h),
      )
  resumed_row B (Local s p) n b h =
      let gp = go_to_part p n (n + 1) Resumed in
      let ep = ends_to_ends (resumed_codes p) (n + 1) Resumed n Resumed in (
        row_go p n (n + 1) ep h,
        row_passes (resumed_codes p) (n + 1) Resumed n Resumed (resumed_below p b) (rest gp ep h),
      )
  resumed_row B (Awake e p) n b h = absurd b
  resumed_row B _ n b h = tt

  pub row_at : (x : Spot) → HasExitCodes x.statement → Every OnEdge (edges_at x.scope x.statement x.path x.layer) → RowAt Q x
  row_at x = go x.scope x.statement x.path x.layer
    where
      go : (B : Scope) (t : Term) (n : ℕ) (l : Layer) → HasExitCodes t → Every OnEdge (edges_at B t n l) → RowOf Q B t n l
      go B t n Resumed b h = resumed_row B t n b h
      go B t n (Started r) b h = started_row B t n r b h
