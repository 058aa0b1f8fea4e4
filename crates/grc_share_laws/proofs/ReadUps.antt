-- What the edges between shared wires give of what they join, the equations of shared wires give of what they read.
use Rattle.std.proofs.Common.{◌≡◌, ℕ, ◌<◌, Bool, true, false, cond, List, [], ◌∷◌, ◌++◌, refl, sym, ap, ◌∙◌, subst}
use Rattle.std.proofs.Common.{Option, Some, None, arith}
use Rattle.std.specs.Prelude.{Contains, filter, option_map}
use Rattle.std.proofs.lemmas.Bool.{and_parts, false≢true}
use Rattle.std.proofs.lemmas.List.Elements.{Contains-append_right}
use Rattle.std.proofs.lemmas.Option.{none-some}
use Rattle.base_facts.proofs.Lists.{Every, contains-flat_map, contains-map}
use Rattle.est_kernel.specs.Plain.{Program, interface_count}
use Rattle.est_kernel.specs.Preorder.{statement_count}
use Rattle.est_kernel.specs.Terms.{Term, Nothing, Pause, Emit, Exit, Present, Suspend, Seq, Loop, Par, Trap, Local, Awake}
use Rattle.est_kernel.specs.WellFormed.{IsKernel, KeepsLimits}
use Rattle.grc_graph.specs.Edges.{Edge, edge, edges_at, go_to_ends, to_status}
use Rattle.grc_graph.specs.Equations.{is_wire}
use Rattle.grc_graph.specs.Formulas.{Formula, Input, any_of}
use Rattle.grc_graph.specs.GraphRuns.{program_edges, program_spots, program_wires}
use Rattle.grc_graph.specs.Instances.{body_instances}
use Rattle.grc_graph.specs.Layers.{Layer, Resumed, Started, body_layers, body_liveness}
use Rattle.grc_graph.specs.Nodes.{node_at, spot_node}
use Rattle.grc_graph.specs.Reads.{ReadsOnly}
use Rattle.grc_graph.specs.Rows.{live_in, program_rows, row_at, spot_at}
use Rattle.grc_graph.specs.Scopes.{Scope, program_scope}
use Rattle.grc_graph.specs.Spots.{Spot, body_entry}
use Rattle.grc_graph.specs.Wires.{Wire, Go, End, instance_codes, status_wire}
use Rattle.grc_graph.proofs.Exports.{IsEnd, instance_live, wire_only, body_agrees, program_spots_by_row, same_layer-true, same_wire-true}
use Rattle.grc_share.specs.SharedGraphs.{emits_on, emitted_on, go_value, is_least, shared_emissions}
use Rattle.grc_share.specs.SharedInstances.{Sharing, body_sharing}
use Rattle.grc_share.specs.SharedWires.{shared_layer, shared_wire, shared_wires}
use Rattle.grc_share.proofs.Exports.{IsLive, body_codes}
use Rattle.grc_solutions.proofs.Exports.{every_at, every_contained}
use Rattle.grc_share_laws.proofs.EndsUp.{Below, below}
use Rattle.grc_share_laws.proofs.Lists.{filter-some, head-or-later, of-mapped}
use Rattle.grc_share_laws.proofs.SharedThere.{back, shared-there}
use Rattle.grc_share_laws.proofs.GoEnds.{Rises}

-- ---- lists

-- an or reads what its members read
pub any-reads : (Q : Wire → Type 0) (fs : List Formula) → ((a : Formula) → Contains fs a → ReadsOnly Q a) → ReadsOnly Q (any_of fs)
any-reads Q [] h = tt
any-reads Q (a ∷ []) h = h a (0, omega arith, refl)
any-reads Q (a ∷ (b ∷ fs)) h =
    (h a (0, omega arith, refl), any-reads Q (b ∷ fs) (λ c d. h c (Contains-append_right (a ∷ []) (b ∷ fs) c d)))

pub if-given : (Q : Wire → Type 0) (b : Bool) (s : ℕ) (fs : List Formula) → ((a : Formula) → Contains fs a → ReadsOnly Q a) → (a : Formula)
    → Contains (cond b (Input s ∷ []) [] ++ fs) a → ReadsOnly Q a
if-given Q true s fs h a c = head-or-later (ReadsOnly Q) (Input s) fs a c tt (h a)
if-given Q false s fs h a c = h a c

-- ---- an instance that emits has an edge to the status

emits-edge : (t : Term) (B : Scope) (n : ℕ) (l : Layer) (v : Wire) → emitted_on (node_at B t n l) ≡ Some v → Contains (edges_at B t n l) (edge (Go n l) v)
emits-edge Nothing B n l v e = absurd (none-some v e)
emits-edge Pause B n Resumed v e = absurd (none-some v e)
emits-edge Pause B n (Started r) v e = absurd (none-some v e)
emits-edge (Emit s) B n l v e =
    Contains-append_right (go_to_ends (instance_codes (Emit s) l) n l) (to_status (Go n l) (status_wire (B s) s l)) (edge (Go n l) v)
    (subst (λ w. Contains (to_status (Go n l) w) (edge (Go n l) v)) (sym e) (0, omega arith, refl))
emits-edge (Exit k) B n l v e = absurd (none-some v e)
emits-edge (Present t p q) B n Resumed v e = absurd (none-some v e)
emits-edge (Present t p q) B n (Started r) v e = absurd (none-some v e)
emits-edge (Suspend t p) B n Resumed v e = absurd (none-some v e)
emits-edge (Suspend t p) B n (Started r) v e = absurd (none-some v e)
emits-edge (Seq p q) B n Resumed v e = absurd (none-some v e)
emits-edge (Seq p q) B n (Started r) v e = absurd (none-some v e)
emits-edge (Loop at p) B n l v e = absurd (none-some v e)
emits-edge (Par p q) B n Resumed v e = absurd (none-some v e)
emits-edge (Par p q) B n (Started r) v e = absurd (none-some v e)
emits-edge (Trap p) B n l v e = absurd (none-some v e)
emits-edge (Local s p) B n l v e = absurd (none-some v e)
emits-edge (Awake t p) B n l v e = absurd (none-some v e)

-- ---- a program

-- T is what each edge of the program gives of the shared wires that it joins, and can be joined
module _ (p : Program) (kernel : IsKernel p.body) (limits : KeepsLimits p.body) (T : Wire → Wire → Type 0) (join : (u v w : Wire) → T u v → T v w → T u w)
    (up : (e : Edge) → Contains (program_edges p) e → T (shared_wire (body_sharing p.body) e.from) (shared_wire (body_sharing p.body) e.to)) where
  abbrev K : Sharing
  K = body_sharing p.body

  -- what holds of the shared wires of two wires
  abbrev Between : Wire → Wire → Type 0
  Between u w = T (shared_wire (body_sharing p.body) u) (shared_wire (body_sharing p.body) w)

  joined : (u v w : Wire) → Between u v → Between v w → Between u w
  joined u v w a b =
      join (shared_wire (body_sharing p.body) u) (shared_wire (body_sharing p.body) v) (shared_wire (body_sharing p.body) w) a b

  rises : Every (Rises Between joined) (program_spots p)
  rises = every_contained (Rises Between joined) (program_spots p) (λ x c. record {
    up = λ e d. up e (contains-flat_map (λ (y : Spot). edges_at y.scope y.statement y.path y.layer) (program_spots p) x e c d);
  })

  all-below : Every (Below Between joined (body_layers p.body)) (program_spots p)
  all-below =
      below Between joined (body_layers p.body) (body_liveness p.body) (program_scope p.inputs (interface_count p)) body_entry p.body 0
      (body_codes p kernel limits) (body_agrees p.body) rises

  -- the instance of a wire of the program
  there : (n : ℕ) (l : Layer) → n < statement_count p.body → live_in (row_at (program_rows p) n).live l ≡ true
      → Contains (program_spots p) (spot_at (program_rows p) (record { path = n; layer = l }))
  there n l low v =
      subst (λ xs. Contains xs (spot_at (program_rows p) (record { path = n; layer = l }))) (sym (program_spots_by_row p kernel))
      (contains-map (spot_at (program_rows p)) (body_instances p.body) (record { path = n; layer = l }) (instance_live p n l low v))

  -- what runs is below what it ends with
  pub end-above : (n : ℕ) (l : Layer) (k : ℕ) → Contains (program_wires p) (End n l k) → Between (Go n l) (End n l k)
  end-above n l k c =
      let w = wire_only p kernel (IsEnd k) n l c in
      every_at (Below Between joined (body_layers p.body)) (program_spots p) all-below (spot_at (program_rows p) (record { path = n; layer = l }))
      (there n l w.within w.live) k w.has

  -- ---- what an equation of the program reads

  -- the shared wires of which this holds, to another
  abbrev Lower : Wire → Wire → Type 0
  Lower v w = Contains (shared_wires p) w → T w v

  abbrev N : Wire → Wire
  N u = shared_wire (body_sharing p.body) u

  pub read-below : (u w : Wire) → (Contains (program_wires p) w → Contains (program_edges p) (edge w u)) × IsLive (body_sharing p.body) w
      → Lower (N u) (shared_wire (body_sharing p.body) w)
  read-below u w h c = up (edge w u) (h.0 (back p kernel limits w h.1 (shared-there p kernel limits (shared_wire (body_sharing p.body) w) c)))

  -- ---- emissions

  emission-below : (u : Wire) → shared_wire (body_sharing p.body) u ≡ u → (x : Spot) → Contains (program_spots p) x
      → emits_on (body_sharing p.body) u x ≡ true → Lower (N u) (Go x.path x.layer)
  emission-below u own x c h s = by (emitted_on (spot_node x)) refl
    where
      parts : (is_least (body_sharing p.body) x ≡ true) × (is_wire (option_map (shared_wire (body_sharing p.body)) (emitted_on (spot_node x))) u ≡ true)
      parts = and_parts (is_least (body_sharing p.body) x) _ h

      by : (w : Option Wire) → emitted_on (spot_node x) ≡ w → T (Go x.path x.layer) (shared_wire (body_sharing p.body) u)
      by None e = absurd (false≢true (ap (λ w. is_wire (option_map (shared_wire (body_sharing p.body)) w) u) (sym e) ∙ parts.1))
      by (Some v) e =
          let status : shared_wire (body_sharing p.body) v ≡ u =
          same_wire-true _ u (ap (λ w. is_wire (option_map (shared_wire (body_sharing p.body)) w) u) (sym e) ∙ parts.1) in
          let least : shared_layer (body_sharing p.body) x.path x.layer ≡ x.layer = same_layer-true _ x.layer parts.0 in
          let edge-up = up (edge (Go x.path x.layer) v)
          (contains-flat_map (λ (y : Spot). edges_at y.scope y.statement y.path y.layer) (program_spots p) x (edge (Go x.path x.layer) v) c
          (emits-edge x.statement x.scope x.path x.layer v e)) in
          subst (λ w. T (Go x.path x.layer) w) (status ∙ sym own) (subst (λ l. T (Go x.path l) (shared_wire (body_sharing p.body) v)) least edge-up)

  pub emissions-below : (u : Wire) → shared_wire (body_sharing p.body) u ≡ u → (a : Formula) → Contains (shared_emissions p u) a
      → ReadsOnly (Lower (N u)) a
  emissions-below u own =
      of-mapped (ReadsOnly (Lower (N u))) go_value (filter (emits_on (body_sharing p.body) u) (program_spots p)) (λ x c.
      let f = filter-some (emits_on (body_sharing p.body) u) (program_spots p) x c in emission-below u own x f.0 f.1)
