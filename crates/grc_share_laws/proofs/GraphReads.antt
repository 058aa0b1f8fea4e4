-- What the equations of a built graph read: wires of live instances, each with an edge to the equation's own wire.
use Rattle.std.proofs.Common.{◌≡◌, ℕ, ◌<◌, true, List, length, get_or, sym, ◌∙◌, subst}
use Rattle.std.proofs.Common.{arith}
use Rattle.std.specs.Prelude.{Contains, IsTrue}
use Rattle.std.proofs.lemmas.List.{get_or_default, length-map}
use Rattle.std.proofs.lemmas.List.Elements.{Contains-get_or}
use Rattle.est_kernel.specs.Plain.{Program, program_of}
use Rattle.est_kernel.specs.WellFormed.{IsKernel, KeepsLimits}
use Rattle.est_kernel.proofs.Exports.{trees_are_kernels_lem}
use Rattle.grc_graph.specs.declared.formulas.Formula.TheVariants as formulas
use Rattle.grc_graph.specs.declared.graph.Graph.{Graph}
use Rattle.grc_graph.specs.BuiltGraphs.{IsGraphOf}
use Rattle.grc_graph.specs.Edges.{edge}
use Rattle.grc_graph.specs.Equations.{Equation}
use Rattle.grc_graph.specs.GraphRuns.{graph_of, program_edges, program_wires}
use Rattle.grc_graph.specs.GraphShapes.{formula_fits}
use Rattle.grc_graph.specs.Instances.{Instance, body_instances}
use Rattle.grc_graph.specs.Layers.{Resumed}
use Rattle.grc_graph.specs.PlainGraphs.{instance_at, instances_of, names_of, wire_at, wire_of}
use Rattle.grc_graph.specs.PlainInstances.{instance_of}
use Rattle.grc_graph.specs.Reads.{ReadsOnly}
use Rattle.grc_graph.specs.Rows.{live_in}
use Rattle.grc_graph.specs.Wires.{Wire, Go}
use Rattle.grc_graph.specs.WireTables.{IsNumberOf}
use Rattle.grc_graph.proofs.Exports.{live_instance}
use Rattle.grc_share.specs.Renamings.{formula_at}
use Rattle.grc_share.specs.SharedGraphs.{formula_for}
use Rattle.grc_share.specs.SharedInstances.{Sharing, body_sharing}
use Rattle.grc_share.proofs.Exports.{IsLive, wires_live, body_codes, equation-at, equations-each, formula-found, program_gives}
use Rattle.grc_solutions.proofs.Exports.{reads_are_edges_lem}
use Rattle.grc_share_laws.proofs.SharedReads.{reads-live}

module _ (g : Graph) (built : IsGraphOf g (program_of g.program)) where
  abbrev p : Program
  p = program_of g.program

  pub kernel : IsKernel (program_of g.program).body
  kernel = trees_are_kernels_lem g.program.body

  pub limits : KeepsLimits (program_of g.program).body
  limits = g.laid_out.formed.body

  abbrev K : Sharing
  K = body_sharing (program_of g.program).body

  instances-live : (i : ℕ) → i < length (instances_of g)
      → live_in (K.live (instance_at (instances_of g) i).path) (instance_at (instances_of g) i).layer ≡ true
  instances-live i l =
      let x = instance_at (instances_of g) i in
      let c : Contains (body_instances p.body) x =
      subst (λ (xs : List Instance). Contains xs x) built.instances (Contains-get_or (instances_of g) i (record { path = 0; layer = Resumed }) l) in
      let a = live_instance p x.path x.layer c in
      subst (λ a. live_in a x.layer ≡ true) (program_gives p kernel x.path (omega arith) (omega (arith, a.within))) a.live

  names-live : (w : ℕ) → w < length (names_of g) → IsLive K (wire_at (names_of g) w)
  names-live w l =
      wires_live p kernel (wire_at (names_of g) w)
      (subst (λ (ws : List Wire). Contains ws (wire_at (names_of g) w)) built.wires (Contains-get_or (names_of g) w (Go 0 Resumed) l))

  fits-at : (v : ℕ) → v < length g.wires.items
      → IsTrue (formula_fits (length (instances_of g)) (length (names_of g)) (get_or g.equations.items v formulas.Boot))
  fits-at v low =
      let f = get_or g.equations.items v formulas.Boot in
      subst (λ n. IsTrue (formula_fits n (length (names_of g)) f)) (sym (length-map g.instances.list.items instance_of))
      (subst (λ n. IsTrue (formula_fits (length g.instances.list.items) n f)) (sym (length-map g.wires.items (wire_of (instances_of g))))
      (g.indices.equations_fit v formulas.Boot (omega (arith, low, g.indices.equations_all))))

  -- what the equation of a wire reads
  abbrev pub Edged : Wire → Wire → Type 0
  Edged u w = Contains (program_wires (program_of g.program)) w → Contains (program_edges (program_of g.program)) (edge w u)

  reads-at : (v : ℕ) → v < length g.wires.items → ReadsOnly (Edged (wire_at (names_of g) v)) (formula_at g v)
  reads-at v low =
      let d : Equation = record { wire = Go 0 Resumed; formula = formula_at g v } in
      subst (λ (e : Equation). ReadsOnly (Edged e.wire) e.formula) (equation-at g built v d low)
      (reads_are_edges_lem p (body_codes p kernel limits) v d (omega (arith, low, equations-each g built)))

  -- by the name of the equation's wire
  pub reads-found : (u : Wire) → Contains (program_wires (program_of g.program)) u
      → ReadsOnly (λ w. Edged u w × IsLive (body_sharing (program_of g.program).body) w) (formula_for (graph_of (program_of g.program)).equations u)
  reads-found u c =
      let d = subst (λ (ws : List Wire). Contains ws u) (sym built.wires) c in
      let low : d.0 < length g.wires.items = omega (arith, d.1, length-map g.wires.items (wire_of (instances_of g))) in
      let same : wire_at (names_of g) d.0 ≡ u = get_or_default (names_of g) d.0 (Go 0 Resumed) u d.1 ∙ d.2 in
      let number : IsNumberOf (names_of g) d.0 u = record { within = d.1; same = λ e. get_or_default (names_of g) d.0 e u d.1 ∙ d.2 } in
      subst (λ f. ReadsOnly (λ w. Edged u w × IsLive K w) f) (formula-found g built d.0 u number)
      (subst (λ v. ReadsOnly (λ w. Edged v w × IsLive K w) (formula_at g d.0)) same
      (reads-live K (Edged (wire_at (names_of g) d.0)) (instances_of g) (names_of g) instances-live names-live
      (get_or g.equations.items d.0 formulas.Boot) (fits-at d.0 low) (reads-at d.0 low)))
