-- A program's own graph is laid out over all its live instances and wires.
use Rattle.std.proofs.Common.{◌≡◌, ℕ, ◌<◌, ◌==◌, ◌&&◌, Bool, true, false, cond, List, [], ◌∷◌, ◌++◌, length, map, get_or, refl, sym, ap, ◌∙◌, subst, arith}
use Rattle.std.proofs.Common.{Some, ⊎_elim}
use Rattle.std.specs.Prelude.{Contains}
use Rattle.std.specs.List.{flat_map}
use Rattle.std.proofs.lemmas.Bool.{and_from, both_ways, cases_Bool, eq-eqb}
use Rattle.std.proofs.lemmas.List.Elements.{Contains-append_right, Contains-get_or}
use Rattle.std.proofs.lemmas.List.Folds.{list_any_at, list_any_none}
use Rattle.est_kernel.specs.Plain.{Program}
use Rattle.est_kernel.specs.Terms.{Term, Local}
use Rattle.est_kernel.specs.WellFormed.{IsKernel, IsWellFormed}
use Rattle.grc_graph.specs.declared.trees.SelNode.{SelNode}
use Rattle.grc_graph.specs.declared.wires.Wire as stored
use Rattle.grc_graph.specs.GraphRuns.{program_wires}
use Rattle.grc_graph.specs.Instances.{Instance, body_instances}
use Rattle.grc_graph.specs.Layers.{Layer, Resumed, layer_above, same_layer}
use Rattle.grc_graph.specs.Layouts.{IsLaidOut, has_status, is_among, laid_names, laid_wires}
use Rattle.grc_graph.specs.PlainInstances.{instance_at, wire_of}
use Rattle.grc_graph.specs.Rows.{program_rows, row_at}
use Rattle.grc_graph.specs.SelectionTrees.{body_leaves, body_tree}
use Rattle.grc_graph.specs.Statements.{around}
use Rattle.grc_graph.specs.TreeForms.{tree_node}
use Rattle.grc_graph.specs.Wires.{Wire, Go, StatusOf, End, instance_codes, listed, own_status, same_wire}
use Rattle.grc_graph.specs.WireTables.{is_local}
use Rattle.grc_graph.proofs.Beside.{row-around}
use Rattle.grc_graph.proofs.SameWires.{same_layer-self, same_wire-self, same_wire-true}
use Rattle.grc_graph.proofs.WireFilling.{outs_of, program_wires_by_row, row_wires}
use Rattle.grc_graph.proofs.WireNames.{IsStatus, LiveAt, live_instance, wire_only, wire_there}

-- functions that agree on a list
flat_map-same : {X Y : Type 0} (f g : X → List Y) (xs : List X) → ((x : X) → Contains xs x → f x ≡ g x) → flat_map f xs ≡ flat_map g xs
flat_map-same f g [] h = refl
flat_map-same f g (x ∷ xs) h =
    let here = h x (0, omega arith, refl) in
    let rest = flat_map-same f g xs (λ y c. h y (Contains-append_right (x ∷ []) xs y c)) in
    λ i. here i ++ rest i

own_status-if : (t : Term) (n : ℕ) (l : Layer) → own_status t n l ≡ cond (is_local t) (StatusOf n l ∷ []) []
own_status-if (Local s p) n l = refl
own_status-if _ n l = refl

module _ (p : Program) (kernel : IsKernel p.body) where
  -- a live instance has a status exactly where it is one of a Local
  status-told : (x : Instance) → LiveAt p x.path x.layer
      → has_status (program_wires p) x.path x.layer ≡ is_local (row_at (program_rows p) x.path).statement
  status-told x live = by (is_local (row_at (program_rows p) x.path).statement) refl
    where
      u : Wire
      u = StatusOf x.path x.layer

      by : (b : Bool) → is_local (row_at (program_rows p) x.path).statement ≡ b
          → has_status (program_wires p) x.path x.layer ≡ is_local (row_at (program_rows p) x.path).statement
      by true e =
          let there = wire_there p kernel IsStatus x.path x.layer tt (record { within = live.within; live = live.live; has = e }) in
          list_any_at (same_wire u) (program_wires p) there.0 u there.1 (ap (same_wire u) there.2 ∙ same_wire-self u) ∙ sym e
      by false e =
          let none = λ (w : Wire) (c : Contains (program_wires p) w) (q : same_wire u w ≡ true).
          both_ways (is_local (row_at (program_rows p) x.path).statement) e
          (wire_only p kernel IsStatus x.path x.layer (subst (λ v. Contains (program_wires p) v) (sym (same_wire-true u w q)) c)).has in
          list_any_none (same_wire u) (program_wires p)
          (λ k d l. ⊎_elim (λ q. absurd (none (get_or (program_wires p) k d) (Contains-get_or (program_wires p) k d l) q)) (λ q. q)
          (cases_Bool (same_wire u (get_or (program_wires p) k d))))
          ∙ sym e

  instance-wires : (x : Instance) → LiveAt p x.path x.layer → row_wires (program_rows p) x ≡ laid_wires p (program_wires p) x
  instance-wires x live =
      let t = (row_at (program_rows p) x.path).statement in
      ap (λ us. Go x.path x.layer ∷ (us ++ map (End x.path x.layer) (listed (instance_codes t x.layer))))
      (own_status-if t x.path x.layer ∙ ap (λ b. cond b (StatusOf x.path x.layer ∷ []) []) (sym (status-told x live)))

  names-laid : program_wires p ≡ laid_names p (body_instances p.body) (program_wires p)
  names-laid =
      program_wires_by_row p kernel
      ∙ ap (λ us. outs_of p ++ us)
      (flat_map-same (row_wires (program_rows p)) (laid_wires p (program_wires p)) (body_instances p.body)
      (λ x c. instance-wires x (live_instance p x.path x.layer c)))

  pub laid-out : (insts : List Instance) (wires : List stored.Wire) (nodes : List SelNode) (count : ℕ) → IsWellFormed p → insts ≡ body_instances p.body
      → map (wire_of insts) wires ≡ program_wires p → map tree_node nodes ≡ body_tree p.body → count ≡ length (body_leaves p.body)
      → IsLaidOut p insts wires nodes count
  laid-out insts wires nodes count formed e names tree leaves = record {
    formed = formed;
    within = λ i l. (at i l).within;
    live = λ i l. (at i l).live;
    enclosed = λ i n l is. beside i n l is;
    names = names ∙ names-laid ∙ (λ t. laid_names p (sym e t) (sym names t));
    tree = tree;
    leaves = leaves;
  }
    where
      at : (i : ℕ) → i < length insts → LiveAt p (instance_at insts i).path (instance_at insts i).layer
      at i l =
          live_instance p (instance_at insts i).path (instance_at insts i).layer
          (subst (λ (xs : List Instance). Contains xs (instance_at insts i)) e (Contains-get_or insts i (record { path = 0; layer = Resumed }) l))

      beside : (i n : ℕ) → i < length insts → around (row_at (program_rows p) (instance_at insts i).path).entry ≡ Some n
          → is_among insts n (layer_above n (instance_at insts i).layer) ≡ true
      beside i n l is =
          let j = layer_above n (instance_at insts i).layer in
          let y : Instance = record { path = n; layer = j } in
          let test = λ (x : Instance). x.path == n && same_layer x.layer j in
          let own = instance_at insts i in
          let c = subst (λ (xs : List Instance). Contains xs y) (sym e) (row-around p n own.path own.layer (at i l) is).live in
          list_any_at test insts c.0 y c.1 (ap test c.2 ∙ and_from (n == n) (same_layer j j) (eq-eqb n n refl) (same_layer-self j))
