-- The numbers of wires that name their shared ones are their places among these.
use Rattle.std.proofs.Common.{◌≡◌, ℕ, ◌+◌, ◌<◌, Bool, true, List, [], ◌∷◌, ◌++◌, length, sym, ap, ◌∙◌, arith, length-append}
use Rattle.std.specs.Prelude.{filter, slice_index}
use Rattle.std.proofs.lemmas.List.{get_or_append_left, get_or-append-add, get_or-map, length-map}
use Rattle.base_types.specs.declared.indices.InstId.{InstId}
use Rattle.est_kernel.specs.Plain.{program_of}
use Rattle.est_kernel.proofs.Exports.{trees_are_kernels_lem}
use Rattle.grc_graph.specs.declared.graph.Graph.{Graph}
use Rattle.grc_graph.specs.declared.wires.Wire as stored
use Rattle.grc_graph.specs.declared.wires.Wire.TheVariants as wires
use Rattle.grc_graph.specs.BuiltGraphs.{IsGraphOf}
use Rattle.grc_graph.specs.Layers.{Resumed}
use Rattle.grc_graph.specs.PlainGraphs.{instance_at, instances_of, names_of, wire_at, wire_of}
use Rattle.grc_graph.specs.PlainInstances.{instance_of}
use Rattle.grc_graph.specs.Wires.{Wire, Go, same_wire}
use Rattle.grc_graph.proofs.Exports.{same_wire-self, same_wire-true}
use Rattle.grc_share.specs.Renamings.{AreNumbersOf, is_named}
use Rattle.grc_share.specs.SharedGraphs.{shared_instances}
use Rattle.grc_share.specs.SharedInstances.{body_sharing}
use Rattle.grc_share.specs.SharedWires.{shared_wire, shared_wires}
use Rattle.grc_share.specs.Tables.{AreFirstWires, AreFirstsOf, named_before, shared_before}
use Rattle.grc_share.proofs.InstanceNumbers.{named-itself}
use Rattle.grc_share.proofs.Ranks.{rank-all, rank-low, rank-read}
use Rattle.grc_share.proofs.SharedNumbering.{shared-apart}

module _ (g : Graph) (built : IsGraphOf g (program_of g.program)) where
  -- a wire that names its shared one
  abbrev pub names_own : Wire → Bool
  names_own u = same_wire (shared_wire (body_sharing (program_of g.program).body) u) u

  pub shared-filter : shared_wires (program_of g.program) ≡ filter names_own (names_of g)
  shared-filter = ap (filter names_own) (sym built.wires)

  pub named-filter : shared_instances (program_of g.program) ≡ filter (is_named (body_sharing (program_of g.program).body)) (instances_of g)
  named-filter = ap (filter (is_named (body_sharing (program_of g.program).body))) (sym built.instances)

  pub insts-many : length (instances_of g) ≡ length g.instances.list.items
  insts-many = length-map g.instances.list.items instance_of

  pub names-many : length (names_of g) ≡ length g.wires.items
  names-many = length-map g.wires.items (wire_of (instances_of g))

  pub first-low : (i : ℕ) → i < length (instances_of g) → slice_index g.first_wires.items i < length (names_of g)
  first-low i l =
      let low : i < length g.instances.list.items = omega (arith, insts-many) in
      omega (arith, g.tables.runs.runs i low, g.tables.runs.within i low, names-many)

  pub go-at : (i : ℕ) → i < length (instances_of g)
      → wire_at (names_of g) (slice_index g.first_wires.items i) ≡ Go (instance_at (instances_of g) i).path (instance_at (instances_of g) i).layer
  go-at i l =
      let d : stored.Wire = wires.Go (record { 0 = i }) in
      get_or-map (wire_of (instances_of g)) g.wires.items (slice_index g.first_wires.items i) d (Go 0 Resumed) (omega (arith, first-low i l, names-many))
      ∙ ap (wire_of (instances_of g)) (g.tables.runs.go i d (omega (arith, insts-many)))

  pub go-named : (i : ℕ) → i < length (instances_of g) → is_named (body_sharing (program_of g.program).body) (instance_at (instances_of g) i) ≡ true
      → names_own (wire_at (names_of g) (slice_index g.first_wires.items i)) ≡ true
  go-named i l h =
      let K = body_sharing (program_of g.program).body in
      let x = instance_at (instances_of g) i in
      ap names_own (go-at i l) ∙ ap (λ j. same_wire (Go x.path j) (Go x.path x.layer)) (λ t. (named-itself K x h t).layer) ∙ same_wire-self (Go x.path x.layer)

  module _ (least instances : List InstId) (numbers : List ℕ) (are : AreNumbersOf g least instances numbers) where
    -- the number of a wire that names its shared one
    pub number-rank : (w : ℕ) → w < length (names_of g) → names_own (wire_at (names_of g) w) ≡ true → slice_index numbers w ≡ shared_before g w
    number-rank w l h =
        let p = program_of g.program in
        let number = are.numbers.wire_numbers w (omega (arith, are.numbers.each_wire)) in
        let low : shared_before g w < length (shared_wires p) =
        omega (arith, rank-low names_own (names_of g) w (Go 0 Resumed) l h, ap length shared-filter) in
        let there : wire_at (shared_wires p) (shared_before g w) ≡ wire_at (names_of g) w =
        ap (λ (us : List Wire). wire_at us (shared_before g w)) shared-filter ∙ rank-read names_own (names_of g) w (Go 0 Resumed) (Go 0 Resumed) l h in
        shared-apart p (trees_are_kernels_lem g.program.body) g.laid_out.formed.body (slice_index numbers w) (shared_before g w) number.within low
        (number.same (Go 0 Resumed) ∙ same_wire-true _ _ h ∙ sym there)

    -- the first wires of all shared instances
    pub firsts-all : (firsts : List ℕ) (end count : ℕ) → end ≡ length (instances_of g) → count ≡ length (shared_wires (program_of g.program))
        → AreFirstsOf g numbers end firsts → AreFirstWires g (firsts ++ count ∷ [])
    firsts-all firsts end count e c h =
        let many : length firsts ≡ length (shared_instances (program_of g.program)) =
        h.each ∙ ap (named_before g) e ∙ rank-all (is_named (body_sharing (program_of g.program).body)) (instances_of g) ∙ sym (ap length named-filter) in
        record {
          each = omega (arith, many, length-append firsts (count ∷ []));
          own = λ i l n.
              let before = rank-low (is_named (body_sharing (program_of g.program).body)) (instances_of g) i (record { path = 0; layer = Resumed }) l n in
              get_or_append_left firsts (count ∷ []) 0 (named_before g i) (omega (arith, many, before, ap length named-filter))
              ∙ h.own i (omega (arith, e)) n ∙ number-rank (slice_index g.first_wires.items i) (first-low i l) (go-named i l n);
          last = ap (λ k. slice_index (firsts ++ count ∷ []) k)
              (let z : length (shared_instances (program_of g.program)) ≡ length firsts + 0 = omega (arith, many) in z)
              ∙ get_or-append-add firsts (count ∷ []) 0 0 ∙ c;
        }
