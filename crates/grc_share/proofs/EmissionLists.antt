-- The emissions on shared status wires, instance by instance.
use Rattle.std.proofs.Common.{◌≡◌, ℕ, ◌+◌, ◌<◌, ◌==◌, ◌&&◌, Bool, true, false, cond, List, [], ◌∷◌, ◌++◌, length, map, get_or, take, set, refl}
use Rattle.std.proofs.Common.{sym, ap, ◌∙◌, subst, Option, Some, None, ⊎_elim, arith}
use Rattle.std.specs.Prelude.{All, MatchOption, filter, option_map, slice_index}
use Rattle.std.proofs.lemmas.Bool.{cases_eq, cases_Bool, eq-eqb, ne_eqb}
use Rattle.std.proofs.lemmas.List.{append-nil, get_or-map, get_or-set_other, get_or-set_same, length-map, map-append}
use Rattle.std.proofs.lemmas.List.Elements.{All-append, All-cons, All-nil, filter_more}
use Rattle.base_types.specs.declared.indices.InstId.{InstId}
use Rattle.base_types.specs.declared.indices.WireId.{WireId}
use Rattle.est_kernel.specs.Plain.{Program, program_of}
use Rattle.est_kernel.specs.Terms.{Nothing}
use Rattle.est_kernel.specs.WellFormed.{IsKernel}
use Rattle.est_kernel.proofs.Exports.{trees_are_kernels_lem}
use Rattle.grc_graph.specs.declared.graph.Graph.{Graph}
use Rattle.grc_graph.specs.declared.wires.Node as stored
use Rattle.grc_graph.specs.BuiltGraphs.{IsGraphOf}
use Rattle.grc_graph.specs.Equations.{is_wire}
use Rattle.grc_graph.specs.Formulas.{Const, Value}
use Rattle.grc_graph.specs.GraphRuns.{program_spots}
use Rattle.grc_graph.specs.Instances.{Instance}
use Rattle.grc_graph.specs.Layers.{Resumed}
use Rattle.grc_graph.specs.Nodes as plain
use Rattle.grc_graph.specs.PlainGraphs.{instance_at, instances_of, names_of, node_form, wire_at}
use Rattle.grc_graph.specs.PlainInstances.{instance_of}
use Rattle.grc_graph.specs.Rows.{program_rows, spot_at}
use Rattle.grc_graph.specs.Scopes.{Unbound}
use Rattle.grc_graph.specs.Spots.{Spot}
use Rattle.grc_graph.specs.Wires.{Wire, Go, same_wire}
use Rattle.grc_graph.specs.WireTables.{IsNumberOf}
use Rattle.grc_graph.proofs.Exports.{program_spots_by_row, same_wire-self, same_wire-true}
use Rattle.grc_share.specs.Renamings.{AreNumbersOf, GainsEmission, emits_at, is_named, spot_in, values}
use Rattle.grc_share.specs.SharedGraphs.{emitted_on, go_value, is_least}
use Rattle.grc_share.specs.SharedInstances.{Sharing, body_sharing}
use Rattle.grc_share.specs.SharedWires.{shared_wire, shared_wires}
use Rattle.grc_share.proofs.InstanceNumbers.{named-itself, tell-named}
use Rattle.grc_share.proofs.Leaders.{Apart}
use Rattle.grc_share.proofs.SharedNumbering.{shared-apart}

-- what is read behind the last instance
abbrev no_spot : Spot
no_spot = record { statement = Nothing; path = 0; layer = Resumed; scope = λ s. Unbound; entry = Const false }

module _ (g : Graph) (built : IsGraphOf g (program_of g.program)) where
  kernel : IsKernel (program_of g.program).body
  kernel = trees_are_kernels_lem g.program.body

  spots : program_spots (program_of g.program) ≡ map (spot_at (program_rows (program_of g.program))) (instances_of g)
  spots =
      program_spots_by_row (program_of g.program) kernel
      ∙ ap (map (spot_at (program_rows (program_of g.program)))) (sym built.instances)

  pub spots-many : length (program_spots (program_of g.program)) ≡ length g.instances.list.items
  spots-many =
      ap length spots ∙ length-map (instances_of g) (spot_at (program_rows (program_of g.program))) ∙ length-map g.instances.list.items _

  -- the instance with a number, and its node
  pub spot-at : (i : ℕ) → i < length g.instances.list.items
      → spot_in (program_of g.program) i ≡ spot_at (program_rows (program_of g.program)) (instance_at (instances_of g) i)
  spot-at i low =
      ap (λ xs. get_or xs i no_spot) spots
      ∙ get_or-map (spot_at (program_rows (program_of g.program))) (instances_of g) i (record { path = 0; layer = Resumed }) no_spot
      (omega (arith, low, length-map g.instances.list.items instance_of))

  pub node-at : (i : ℕ) (d : stored.Node) → i < length g.instances.list.items
      → node_form (instances_of g) (names_of g) (get_or g.nodes.items i d) ≡ plain.spot_node (spot_in (program_of g.program) i)
  node-at i d low =
      let many : i < length g.nodes.items = omega (arith, low, g.indices.nodes_all) in
      sym (get_or-map (node_form (instances_of g) (names_of g)) g.nodes.items i d (plain.Through 0 Resumed) many)
      ∙ ap (λ xs. get_or xs i (plain.Through 0 Resumed)) built.nodes
      ∙ get_or-map plain.spot_node (program_spots (program_of g.program)) i no_spot (plain.Through 0 Resumed) (omega (arith, low, spots-many))

  -- one more instance of those that name their shared ones
  pub next-least : {X : Type 0} (test : Spot → Bool) (f : Spot → X) (n : ℕ) → n < length g.instances.list.items
      → map f (filter test (take (n + 1) (program_spots (program_of g.program))))
      ≡ map f (filter test (take n (program_spots (program_of g.program))))
      ++ cond (test (spot_in (program_of g.program) n)) (f (spot_in (program_of g.program) n) ∷ []) []
  next-least test f n l =
      let low : n < length (program_spots (program_of g.program)) = omega (arith, l, spots-many) in
      let x = spot_in (program_of g.program) n in
      ap (map f) (filter_more test (program_spots (program_of g.program)) n no_spot low)
      ∙ map-append f (filter test (take n (program_spots (program_of g.program)))) (cond (test x) (x ∷ []) [])
      ∙ ap (λ l. map f (filter test (take n (program_spots (program_of g.program)))) ++ l) (one (test x) x)
    where
      one : (b : Bool) (x : Spot) → map f (cond b (x ∷ []) []) ≡ cond b (f x ∷ []) []
      one true x = refl
      one false x = refl

module _ (g : Graph) (built : IsGraphOf g (program_of g.program)) (least instances : List InstId) (wires : List ℕ)
    (are : AreNumbersOf g least instances wires) (i : ℕ) (low : i < length g.instances.list.items) where
  abbrev y : Instance
  y = instance_at (instances_of g) i

  -- whether it names its shared instance
  pub least-told : (d : InstId) → ((get_or least i d).0 == i) ≡ is_least (body_sharing (program_of g.program).body) (spot_in (program_of g.program) i)
  least-told d =
      (tell-named g least are.each_least are.least_instances).named i d (omega (arith, low, are.each_least))
      ∙ sym (ap (is_least (body_sharing (program_of g.program).body)) (spot-at g built i low))

  pub is-least : (d : InstId) → (get_or least i d).0 ≡ i → is_least (body_sharing (program_of g.program).body) (spot_in (program_of g.program) i) ≡ true
  is-least d e = sym (least-told d) ∙ eq-eqb (get_or least i d).0 i e

  pub not-least : (d : InstId) → ((get_or least i d).0 ≡ i → ⊥)
      → is_least (body_sharing (program_of g.program).body) (spot_in (program_of g.program) i) ≡ false
  not-least d apart = sym (least-told d) ∙ ne_eqb (get_or least i d).0 i apart

  -- what an instance that names its shared instance emits on
  pub emitted : (d : InstId) (r : Option WireId) → (get_or least i d).0 ≡ i
      → emitted_on (plain.spot_node (spot_in (program_of g.program) i)) ≡ option_map (λ v. wire_at (names_of g) v.0) r
      → MatchOption r ((w : Wire) → emits_at (program_of g.program) w i ≡ false)
      (λ v. (w : Wire) → emits_at (program_of g.program) w i ≡ same_wire (shared_wire (body_sharing (program_of g.program).body) (wire_at (names_of g) v.0)) w)
  emitted d None e h = λ w t. is-least d e t && is_wire (option_map (shared_wire (body_sharing (program_of g.program).body)) (h t)) w
  emitted d (Some v) e h = λ w t. is-least d e t && is_wire (option_map (shared_wire (body_sharing (program_of g.program).body)) (h t)) w

  pub nothing-emitted : (d : InstId) → ((get_or least i d).0 ≡ i → ⊥) → (w : Wire) → emits_at (program_of g.program) w i ≡ false
  nothing-emitted d apart w =
      let node = plain.spot_node (spot_in (program_of g.program) i) in
      λ t. not-least d apart t && is_wire (option_map (shared_wire (body_sharing (program_of g.program).body)) (emitted_on node)) w

  -- no emission is noted
  pub same-list : (list : List WireId) (w : Wire) → emits_at (program_of g.program) w i ≡ false
      → GainsEmission (program_of g.program) i w list list
  same-list list w h = record {
    gained = sym (ap (λ b. values (shared_wires (program_of g.program)) list ++ cond b (go_value (spot_in (program_of g.program) i) ∷ []) []) h
        ∙ append-nil (values (shared_wires (program_of g.program)) list));
    within = λ l. l;
  }

  -- an emission is noted in the list of its shared wire
  pub more-lists : (old new : List (List WireId)) (v : ℕ) (go : ℕ) (k : ℕ) → length old ≡ length (shared_wires (program_of g.program))
      → v < length wires → go < length wires → k < length (shared_wires (program_of g.program))
      → wire_at (names_of g) go ≡ Go (instance_at (instances_of g) i).path (instance_at (instances_of g) i).layer
      → is_named (body_sharing (program_of g.program).body) (instance_at (instances_of g) i) ≡ true
      → ((w : Wire) → emits_at (program_of g.program) w i ≡ same_wire (shared_wire (body_sharing (program_of g.program).body) (wire_at (names_of g) v)) w)
      → new ≡ set old (slice_index wires v) (get_or old (slice_index wires v) [] ++ (record { 0 = slice_index wires go } ∷ []))
      → GainsEmission (program_of g.program) i (wire_at (shared_wires (program_of g.program)) k) (get_or old k []) (get_or new k [])
  more-lists old new v go k long low-v low-go low-k names own test made =
      subst (λ (ls : List (List WireId)). GainsEmission p i (wire_at (shared_wires p) k) (get_or old k []) (get_or ls k [])) (sym made)
      (⊎_elim same other (cases_eq place k))
    where
      place : ℕ
      place = slice_index wires v

      number : WireId
      number = record { 0 = slice_index wires go }

      p : Program
      p = program_of g.program

      K : Sharing
      K = body_sharing (program_of g.program).body

      shared-at : IsNumberOf (shared_wires (program_of g.program)) (slice_index wires v) (shared_wire K (wire_at (names_of g) v))
      shared-at = are.numbers.wire_numbers v low-v

      go-at : IsNumberOf (shared_wires (program_of g.program)) (slice_index wires go) (shared_wire K (wire_at (names_of g) go))
      go-at = are.numbers.wire_numbers go low-go

      named : wire_at (shared_wires (program_of g.program)) (slice_index wires go)
          ≡ Go (spot_in (program_of g.program) i).path (spot_in (program_of g.program) i).layer
      named =
          go-at.same _ ∙ ap (shared_wire K) names
          ∙ ap (λ (x : Instance). Go x.path x.layer) (named-itself K (instance_at (instances_of g) i) own)
          ∙ sym (ap (λ (z : Spot). Go z.path z.layer) (spot-at g built i low))

      low-place : place < length old
      low-place = omega (arith, shared-at.within, long)

      apart : Apart (shared_wires (program_of g.program))
      apart = shared-apart (program_of g.program) (trees_are_kernels_lem g.program.body) g.laid_out.formed.body

      same : place ≡ k → GainsEmission p i (wire_at (shared_wires p) k) (get_or old k [])
          (get_or (set old place (get_or old place [] ++ (number ∷ []))) k [])
      same e =
          let emits : emits_at p (wire_at (shared_wires p) k) i ≡ true =
          test (wire_at (shared_wires p) k)
          ∙ ap (λ u. same_wire u (wire_at (shared_wires p) k)) (sym (shared-at.same _) ∙ ap (wire_at (shared_wires p)) e)
          ∙ same_wire-self (wire_at (shared_wires p) k) in
          let read : get_or (set old place (get_or old place [] ++ (number ∷ []))) k [] ≡ get_or old k [] ++ (number ∷ []) =
          ap (λ j. get_or (set old place (get_or old place [] ++ (number ∷ []))) j []) (sym e)
          ∙ get_or-set_same old place (get_or old place [] ++ (number ∷ [])) [] low-place
          ∙ ap (λ j. get_or old j [] ++ (number ∷ [])) e in
          record {
            gained = ap (values (shared_wires p)) read
                ∙ map-append (λ (u : WireId). Value (wire_at (shared_wires p) u.0)) (get_or old k []) (number ∷ [])
                ∙ ap (λ u. values (shared_wires p) (get_or old k []) ++ (Value u ∷ [])) named
                ∙ ap (λ b. values (shared_wires p) (get_or old k []) ++ cond b (go_value (spot_in p i) ∷ []) []) (sym emits);
            within = λ h. subst (λ (l : List WireId). All (λ w. w.0 < length (shared_wires p)) l) (sym read)
                (All-append (λ w. w.0 < length (shared_wires p)) (get_or old k []) (number ∷ []) h
                (All-cons (λ w. w.0 < length (shared_wires p)) number [] go-at.within (All-nil (λ w. w.0 < length (shared_wires p)))));
          }

      other : (place ≡ k → ⊥) → GainsEmission p i (wire_at (shared_wires p) k) (get_or old k [])
          (get_or (set old place (get_or old place [] ++ (number ∷ []))) k [])
      other differs =
          let own = shared_wire K (wire_at (names_of g) v) in
          let u = wire_at (shared_wires p) k in
          let never : same_wire own u ≡ true → ⊥
          = λ q. differs (apart place k shared-at.within low-k (shared-at.same (Go 0 Resumed) ∙ same_wire-true own u q)) in
          let silent : emits_at p u i ≡ false = test u ∙ ⊎_elim (λ q. absurd (never q)) (λ q. q) (cases_Bool (same_wire own u)) in
          subst (λ (l : List WireId). GainsEmission p i u (get_or old k []) l)
          (sym (get_or-set_other old place k (get_or old place [] ++ (number ∷ [])) [] (λ z. differs (sym z))))
          (same-list (get_or old k []) u silent)
