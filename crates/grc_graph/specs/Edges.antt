-- To believe: the dependency relation of a graph, edge by edge. An edge leads from a wire to one that may depend on
-- it, and stands only where both wires exist.
use Rattle.std.specs.Prelude.{ℕ, ◌+◌, Bool, true, ◌&&◌, nat_le, if◌then◌else◌, List, [], ◌∷◌, ◌++◌, map, filter, Option}
use Rattle.std.specs.Prelude.{Some, None}
use Rattle.std.specs.List.{flat_map}
use Rattle.base_types.specs.Codes.{except}
use Rattle.est_kernel.specs.Terms.{Expression, Tick, Sig, Not, And, Or, Term, Nothing, Pause, Emit, Exit, Present}
use Rattle.est_kernel.specs.Terms.{Suspend, Seq, Loop, Par, Trap, Local, Awake}
use Rattle.est_kernel.specs.Preorder.{statement_count}
use Rattle.est_kernel.specs.Steps.{trap_code}
use Rattle.est_kernel.specs.StaticCodes.{codes_if, has_code, started_codes, resumed_codes}
use Rattle.grc_graph.specs.Layers.{Layer, Resumed, Started, can_pass}
use Rattle.grc_graph.specs.Scopes.{Scope}
use Rattle.grc_graph.specs.Wires.{Wire, Go, End, listed, instance_codes, status_wire}
use Rattle.grc_graph.specs.Spots.{Spot}

pub record Edge : Type 0 where
  pub from : Wire
  pub to : Wire

abbrev pub edge : Wire → Wire → Edge
edge u w = record { from = u; to = w }

-- edges where a condition holds
abbrev pub edges_if : Bool → List Edge → List Edge
edges_if b es = if b then es else []

-- from the `go` of an instance to each of its ends
abbrev pub go_to_ends : (A : ℕ → Bool) (n : ℕ) (l : Layer) → List Edge
go_to_ends A n l = map (λ k. edge (Go n l) (End n l k)) (listed A)

-- from `end k` of a part at c to `end k` of its whole at n, for each code k of the part
abbrev pub ends_to_ends : (A : ℕ → Bool) (c : ℕ) (j : Layer) (n : ℕ) (l : Layer) → List Edge
ends_to_ends A c j n l = map (λ k. edge (End c j k) (End n l k)) (listed A)

-- from each end of a branch at c to each end of its parallel at n with a code that is no less
abbrev pub branch_to_ends : (A C : ℕ → Bool) (c n : ℕ) (l : Layer) → List Edge
branch_to_ends A C c n l =
    flat_map (λ j. map (λ k. edge (End c l j) (End n l k)) (filter (λ k. nat_le j k) (listed C))) (listed A)

-- from each end of a trap's body at c to the trap's end
abbrev pub trapped_to_ends : (A : ℕ → Bool) (c n : ℕ) (l : Layer) → List Edge
trapped_to_ends A c n l = map (λ j. edge (End c l j) (End n l (trap_code j))) (listed A)

-- from a status wire, where there is one
abbrev pub status_to : Option Wire → Wire → List Edge
status_to None w = []
status_to (Some u) w = edge u w ∷ []

-- from each status wire that a test reads
abbrev pub test_to : Scope → Expression → Layer → Wire → List Edge
test_to B Tick l w = []
test_to B (Sig s) l w = status_to (status_wire (B s) s l) w
test_to B (Not a) l w = test_to B a l w
test_to B (And a b) l w = test_to B a l w ++ test_to B b l w
test_to B (Or a b) l w = test_to B a l w ++ test_to B b l w

-- from an emission to the status wire
abbrev pub to_status : Wire → Option Wire → List Edge
to_status u None = []
to_status u (Some w) = edge u w ∷ []

-- whether a part is live in a layer in which its whole is
abbrev pub part_runs : Term → Layer → Bool
part_runs p Resumed = has_code (resumed_codes p)
part_runs p (Started r) = true

-- from `go` to `go` of a part in the same layer
abbrev pub go_to_part : Term → ℕ → ℕ → Layer → List Edge
go_to_part p n c l = edges_if (part_runs p l) (edge (Go n l) (Go c l) ∷ [])

-- the edges at a statement at n in a layer: to the `go` of its parts and to its own ends; of an Emit, to the status
-- wire of its signal
abbrev pub edges_at : Scope → Term → ℕ → Layer → List Edge
edges_at B Nothing n l = go_to_ends (instance_codes Nothing l) n l
edges_at B Pause n l = go_to_ends (instance_codes Pause l) n l
edges_at B (Emit s) n l = go_to_ends (instance_codes (Emit s) l) n l ++ to_status (Go n l) (status_wire (B s) s l)
edges_at B (Exit k) n l = go_to_ends (instance_codes (Exit k) l) n l
edges_at B (Present e p q) n Resumed =
    let m = n + 1 + statement_count p in
    go_to_part p n (n + 1) Resumed ++ (go_to_part q n m Resumed
    ++ (ends_to_ends (resumed_codes p) (n + 1) Resumed n Resumed ++ ends_to_ends (resumed_codes q) m Resumed n Resumed))
edges_at B (Present e p q) n (Started r) =
    let m = n + 1 + statement_count p in
    go_to_part p n (n + 1) (Started r) ++ (go_to_part q n m (Started r)
    ++ (test_to B e (Started r) (Go (n + 1) (Started r)) ++ (test_to B e (Started r) (Go m (Started r))
    ++ (ends_to_ends (started_codes p) (n + 1) (Started r) n (Started r)
    ++ ends_to_ends (started_codes q) m (Started r) n (Started r)))))
edges_at B (Suspend e p) n Resumed =
    go_to_part p n (n + 1) Resumed
    ++ (edges_if (resumed_codes (Suspend e p) 1) (edge (Go n Resumed) (End n Resumed 1) ∷ [])
    ++ (edges_if (has_code (resumed_codes p)) (test_to B e Resumed (Go (n + 1) Resumed))
    ++ (edges_if (resumed_codes (Suspend e p) 1) (test_to B e Resumed (End n Resumed 1))
    ++ ends_to_ends (resumed_codes p) (n + 1) Resumed n Resumed)))
edges_at B (Suspend e p) n (Started r) =
    go_to_part p n (n + 1) (Started r) ++ ends_to_ends (started_codes p) (n + 1) (Started r) n (Started r)
edges_at B (Seq p q) n Resumed =
    let m = n + 1 + statement_count p in
    go_to_part p n (n + 1) Resumed
    ++ (edges_if (can_pass p && has_code (resumed_codes q)) (edge (Go n Resumed) (Go m Resumed) ∷ [])
    ++ (edges_if (resumed_codes p 0) (edge (End (n + 1) Resumed 0) (Go m (Started m)) ∷ [])
    ++ (ends_to_ends (except 0 (resumed_codes p)) (n + 1) Resumed n Resumed
    ++ (ends_to_ends (codes_if (can_pass p) (resumed_codes q)) m Resumed n Resumed
    ++ ends_to_ends (codes_if (resumed_codes p 0) (started_codes q)) m (Started m) n Resumed))))
edges_at B (Seq p q) n (Started r) =
    let m = n + 1 + statement_count p in
    go_to_part p n (n + 1) (Started r)
    ++ (edges_if (started_codes p 0) (edge (End (n + 1) (Started r) 0) (Go m (Started r)) ∷ [])
    ++ (ends_to_ends (except 0 (started_codes p)) (n + 1) (Started r) n (Started r)
    ++ ends_to_ends (codes_if (started_codes p 0) (started_codes q)) m (Started r) n (Started r)))
edges_at B (Loop at p) n Resumed =
    go_to_part p n (n + 1) Resumed
    ++ (edges_if (resumed_codes p 0) (edge (End (n + 1) Resumed 0) (Go (n + 1) (Started (n + 1))) ∷ [])
    ++ (ends_to_ends (except 0 (resumed_codes p)) (n + 1) Resumed n Resumed
    ++ ends_to_ends (codes_if (resumed_codes p 0) (except 0 (started_codes p))) (n + 1) (Started (n + 1)) n Resumed))
edges_at B (Loop at p) n (Started r) =
    go_to_part p n (n + 1) (Started r) ++ ends_to_ends (except 0 (started_codes p)) (n + 1) (Started r) n (Started r)
edges_at B (Par p q) n Resumed =
    let m = n + 1 + statement_count p in
    go_to_part p n (n + 1) Resumed ++ (go_to_part q n m Resumed
    ++ (go_to_ends (resumed_codes (Par p q)) n Resumed
    ++ (branch_to_ends (resumed_codes p) (resumed_codes (Par p q)) (n + 1) n Resumed
    ++ branch_to_ends (resumed_codes q) (resumed_codes (Par p q)) m n Resumed)))
edges_at B (Par p q) n (Started r) =
    let m = n + 1 + statement_count p in
    go_to_part p n (n + 1) (Started r) ++ (go_to_part q n m (Started r)
    ++ (branch_to_ends (started_codes p) (started_codes (Par p q)) (n + 1) n (Started r)
    ++ branch_to_ends (started_codes q) (started_codes (Par p q)) m n (Started r)))
edges_at B (Trap p) n l = go_to_part p n (n + 1) l ++ trapped_to_ends (instance_codes p l) (n + 1) n l
edges_at B (Local s p) n l = go_to_part p n (n + 1) l ++ ends_to_ends (instance_codes p l) (n + 1) l n l
edges_at B (Awake e p) n l = []

-- the edges of a graph
abbrev pub edges : List Spot → List Edge
edges all = flat_map (λ x. edges_at x.scope x.statement x.path x.layer) all
