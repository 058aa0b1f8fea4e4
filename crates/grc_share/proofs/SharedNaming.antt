-- The wires and nodes of a shared graph, by name.
use Rattle.std.proofs.Common.{◌≡◌, ℕ, ◌<◌, ◌&&◌, ◌==◌, Bool, true, false, cond, List, [], ◌∷◌, ◌++◌, length, map, get_or, refl, sym, ap, ◌∙◌, subst, arith}
use Rattle.std.specs.Prelude.{All, IsTrue, filter}
use Rattle.std.proofs.lemmas.List.{append-nil, get_or-map, length-map, map-append}
use Rattle.std.proofs.lemmas.List.Elements.{All-append, All-cons, All-get_or, All-nil}
use Rattle.base_types.specs.declared.indices.WireId.{WireId}
use Rattle.est_kernel.specs.Plain.{Program, program_of}
use Rattle.est_kernel.specs.WellFormed.{IsKernel}
use Rattle.grc_graph.specs.declared.graph.Graph.{Graph}
use Rattle.grc_graph.specs.declared.wires.Node.{Node}
use Rattle.grc_graph.specs.BuiltGraphs.{IsGraphOf}
use Rattle.grc_graph.specs.GraphRuns.{program_spots}
use Rattle.grc_graph.specs.GraphShapes.{node_fits}
use Rattle.grc_graph.specs.Instances.{Instance, body_instances}
use Rattle.grc_graph.specs.Layers.{Layer, Resumed}
use Rattle.grc_graph.specs.PlainGraphs.{names_of, node_form, wire_at}
use Rattle.grc_graph.specs.Rows.{program_rows, spot_at}
use Rattle.grc_graph.specs.Wires.{Wire, Out, Go, StatusOf, End, same_wire}
use Rattle.grc_graph.proofs.Exports.{program_spots_by_row, same_wire-true}
use Rattle.grc_share.specs.Renamings.{AreLeastMembers, GainsNode, by_instance, node_at}
use Rattle.grc_share.specs.SharedGraphs.{is_least, names_itself, shared_instances, shared_nodes}
use Rattle.grc_share.specs.SharedInstances.{Sharing, body_sharing, key}
use Rattle.grc_share.specs.SharedWires.{shared_layer, shared_wire, shared_wires, status_layer}

-- what a filter lets through passes the test
pub passes : {X : Type 0} (p : X → Bool) (xs : List X) → All (λ x. p x ≡ true) (filter p xs)
passes p [] = All-nil (λ x. p x ≡ true)
passes p (x ∷ xs) = by (p x) refl (passes p xs)
  where
    by : (b : Bool) → p x ≡ b → All (λ x. p x ≡ true) (filter p xs) → All (λ x. p x ≡ true) (cond b (x ∷ filter p xs) (filter p xs))
    by true e h = All-cons (λ x. p x ≡ true) x (filter p xs) e h
    by false e h = h

-- ---- wires that are their own shared wires

instance-layer : (K : Sharing) (n : ℕ) (l : Layer) → status_layer K n l ≡ l → shared_layer K n l ≡ l
instance-layer K n l e = by ((K.live n).resumed && K.resumed n == key K n l) refl
  where
    by : (b : Bool) → ((K.live n).resumed && K.resumed n == key K n l) ≡ b → shared_layer K n l ≡ l
    by true f =
        let r : Resumed ≡ l = sym (ap (λ b. cond b Resumed (shared_layer K n l)) f) ∙ e in
        subst (λ j. shared_layer K n j ≡ j) r refl
    by false f = sym (ap (λ b. cond b Resumed (shared_layer K n l)) f) ∙ e

abbrev named_layer : Wire → Layer
named_layer (Out s) = Resumed
named_layer (Go n l) = l
named_layer (StatusOf n l) = l
named_layer (End n l k) = l

pub own-layer-go : (K : Sharing) (n : ℕ) (l : Layer) → shared_wire K (Go n l) ≡ Go n l → shared_layer K n l ≡ l
own-layer-go K n l e = ap named_layer e

pub own-layer-end : (K : Sharing) (n : ℕ) (l : Layer) (k : ℕ) → shared_wire K (End n l k) ≡ End n l k → shared_layer K n l ≡ l
own-layer-end K n l k e = ap named_layer e

pub own-by_instance : (K : Sharing) (u : Wire) → shared_wire K u ≡ u → by_instance K u ≡ u
own-by_instance K (Out s) e = refl
own-by_instance K (Go n l) e = ap (Go n) (ap named_layer e)
own-by_instance K (StatusOf n l) e = ap (StatusOf n) (instance-layer K n l (ap named_layer e))
own-by_instance K (End n l k) e = ap (λ j. End n j k) (ap named_layer e)

-- the least members of shared wires are their own shared wires
module _ (g : Graph) (built : IsGraphOf g (program_of g.program)) (least : List WireId) (are : AreLeastMembers g least) where
  pub least-own : (k : ℕ) (d : WireId) → k < length least
      → shared_wire (body_sharing (program_of g.program).body) (wire_at (names_of g) (get_or least k d).0) ≡ wire_at (names_of g) (get_or least k d).0
  least-own k d l =
      let K = body_sharing (program_of g.program).body in
      let at = λ (w : WireId). wire_at (names_of g) w.0 in
      let all : All (λ u. same_wire (shared_wire K u) u ≡ true) (map at least) =
      subst (λ us. All (λ u. same_wire (shared_wire K u) u ≡ true) us)
      (sym (are.names ∙ ap (λ us. filter (λ u. same_wire (shared_wire K u) u) us) (sym built.wires)))
      (passes (λ u. same_wire (shared_wire K u) u) (names_of g)) in
      let many : k < length (map at least) = omega (arith, l, length-map least at) in
      let here : get_or (map at least) k (Go 0 Resumed) ≡ at (get_or least k d) = get_or-map at least k d (Go 0 Resumed) l in
      same_wire-true _ _
      (subst (λ u. same_wire (shared_wire K u) u ≡ true) here (All-get_or (λ u. same_wire (shared_wire K u) u ≡ true) (map at least) k (Go 0 Resumed) many all))

  pub least-low : (k : ℕ) (d : WireId) → k < length least → (get_or least k d).0 < length g.wires.items
  least-low k d l = All-get_or (λ (w : WireId). w.0 < length g.wires.items) least k d l are.within

  pub least-many : length least ≡ length (shared_wires (program_of g.program))
  least-many = sym (length-map least (λ (w : WireId). wire_at (names_of g) w.0)) ∙ ap length are.names

  pub least-at : (k : ℕ) (d : WireId) → k < length least
      → wire_at (shared_wires (program_of g.program)) k ≡ wire_at (names_of g) (get_or least k d).0
  least-at k d l =
      ap (λ us. wire_at us k) (sym are.names) ∙ get_or-map (λ (w : WireId). wire_at (names_of g) w.0) least k d (Go 0 Resumed) l

-- ---- nodes

-- what a program's nodes and instances have in common: one for each instance that names its shared one
pub nodes-many : (p : Program) → IsKernel p.body → length (shared_nodes p) ≡ length (shared_instances p)
nodes-many p kernel =
    length-map (filter (is_least (body_sharing p.body)) (program_spots p)) _
    ∙ ap (λ xs. length (filter (is_least (body_sharing p.body)) xs)) (program_spots_by_row p kernel)
    ∙ each (body_instances p.body)
  where
    each : (xs : List Instance)
        → length (filter (is_least (body_sharing p.body)) (map (spot_at (program_rows p)) xs))
        ≡ length (filter (λ x. names_itself (body_sharing p.body) x.path x.layer) xs)
    each [] = refl
    each (x ∷ xs) = by (names_itself (body_sharing p.body) x.path x.layer) (each xs)
      where
        by : (b : Bool)
            → length (filter (is_least (body_sharing p.body)) (map (spot_at (program_rows p)) xs))
            ≡ length (filter (λ x. names_itself (body_sharing p.body) x.path x.layer) xs)
            → length (cond b (spot_at (program_rows p) x ∷ filter (is_least (body_sharing p.body)) (map (spot_at (program_rows p)) xs))
            (filter (is_least (body_sharing p.body)) (map (spot_at (program_rows p)) xs)))
            ≡ length (cond b (x ∷ filter (λ x. names_itself (body_sharing p.body) x.path x.layer) xs)
            (filter (λ x. names_itself (body_sharing p.body) x.path x.layer) xs))
        by true e = omega (arith, e)
        by false e = e

-- no node more
pub same-nodes : (p : Program) (i : ℕ) (list : List Node) → node_at p i ≡ [] → GainsNode p i list list
same-nodes p i list e = record {
  gained = let nodes = map (node_form (shared_instances p) (shared_wires p)) list in sym (ap (λ xs. nodes ++ xs) e ∙ append-nil nodes);
  within = λ h. h;
}

-- one node more
pub more-nodes : (p : Program) (i : ℕ) (list : List Node) (x : Node) → node_form (shared_instances p) (shared_wires p) x ∷ [] ≡ node_at p i
    → IsTrue (node_fits (length (shared_instances p)) (length (shared_wires p)) x) → GainsNode p i list (list ++ (x ∷ []))
more-nodes p i list x e fits =
    let P = λ (y : Node). IsTrue (node_fits (length (shared_instances p)) (length (shared_wires p)) y) in
    record {
      gained =
          let F = node_form (shared_instances p) (shared_wires p) in
          map-append F list (x ∷ []) ∙ ap (λ xs. map F list ++ xs) e;
      within = λ h. All-append P list (x ∷ []) h (All-cons P x [] fits (All-nil P));
    }
