-- The shared graph of a program, part by part.
use Rattle.std.proofs.Common.{◌≡◌, ℕ, ◌<◌, ◌≤◌, List, length, map, get_or, sym, ap, ◌∙◌, subst, arith}
use Rattle.std.specs.Prelude.{All, IsTrue, slice_index}
use Rattle.std.proofs.lemmas.List.{get_or_default, length-map}
use Rattle.std.proofs.lemmas.List.Elements.{All-get_or}
use Rattle.base_types.specs.declared.indices.InstId.{InstId}
use Rattle.base_types.specs.declared.indices.WireId.{WireId}
use Rattle.est_kernel.specs.Plain.{Program, program_of}
use Rattle.est_kernel.specs.WellFormed.{IsKernel}
use Rattle.grc_graph.specs.declared.graph.Graph.{Graph}
use Rattle.grc_graph.specs.declared.formulas.Formula as formulas
use Rattle.grc_graph.specs.declared.wires.Node as nodes
use Rattle.grc_graph.specs.declared.wires.Wire as wires
use Rattle.grc_graph.specs.BuiltGraphs.{IsGraphOf}
use Rattle.grc_graph.specs.GraphRuns.{program_wires}
use Rattle.grc_graph.specs.GraphShapes.{IndicesFit, formula_fits, node_fits, wire_fits}
use Rattle.grc_graph.specs.PlainGraphs.{instances_of, names_of, node_form, wire_at, wire_of}
use Rattle.grc_graph.specs.PlainInstances.{instance_of}
use Rattle.grc_graph.specs.Wires.{Wire, same_wire}
use Rattle.grc_graph.specs.WireTables.{IsNumberOf}
use Rattle.grc_share.specs.declared.graphs.GraphParts.{GraphParts}
use Rattle.grc_share.specs.LeastMembers.{AreLeast}
use Rattle.grc_share.specs.Renamings.{AreInstanceNumbers, AreLeastMembers, AreNumbersOf, formula_at, formula_in}
use Rattle.grc_share.specs.SharedGraphs.{shared_formula, shared_instances}
use Rattle.grc_share.specs.SharedInstances.{body_sharing}
use Rattle.grc_share.specs.SharedNumbers.{AreSharedWires}
use Rattle.grc_share.specs.SharedParts.{AreGraphParts}
use Rattle.grc_share.specs.SharedWires.{shared_wire, shared_wires}
use Rattle.grc_share.proofs.EquationLists.{equations-fit, formula-found}
use Rattle.grc_share.proofs.Ranks.{rank-all, rank-few}
use Rattle.grc_share.proofs.SharedNaming.{least-at, least-low, nodes-many}

module _ (g : Graph) (built : IsGraphOf g (program_of g.program)) (least : List WireId) (numbers : List ℕ)
    (shared : AreSharedWires (program_of g.program) least numbers) where
  pub least-of : AreLeastMembers g least
  least-of = record {
    names = ap (λ (ns : List Wire). map (λ (w : WireId). wire_at ns w.0) least) built.wires ∙ shared.least_members;
    within = λ w d l. omega (arith, shared.least_within w d l, ap length built.wires, length-map g.wires.items (wire_of (instances_of g)));
  }

  pub least-many : length least ≡ length (shared_wires (program_of g.program))
  least-many = sym (length-map least (λ (v : WireId). wire_at (program_wires (program_of g.program)) v.0)) ∙ ap length shared.least_members

  -- there are no more shared wires than wires
  pub least-few : length least ≤ length g.wires.items
  least-few =
      let S = λ (u : Wire). same_wire (shared_wire (body_sharing (program_of g.program).body) u) u in
      let names = program_wires (program_of g.program) in
      omega (arith, least-many, rank-few S names (length names), rank-all S names, ap length built.wires, length-map g.wires.items (wire_of (instances_of g)))

  pub numbers-of : (own instances : List InstId) → length own ≡ length g.instances.list.items
      → AreLeast (body_sharing (program_of g.program).body) g.instances.list.items own
      → length instances ≡ length g.instances.list.items
      → AreInstanceNumbers (body_sharing (program_of g.program).body) (instances_of g) (shared_instances (program_of g.program)) instances
      → AreNumbersOf g own instances numbers
  numbers-of own instances each_least are_least each are = record {
    each_least = each_least;
    least_instances = are_least;
    numbers = record {
      each_instance = each ∙ sym (length-map g.instances.list.items instance_of);
      each_wire = shared.each_wire ∙ sym (ap length built.wires);
      instance_numbers = are;
      wire_numbers = λ w l.
          let p = program_of g.program in
          let K = body_sharing p.body in
          let low : slice_index numbers w < length (shared_wires p)
          = omega (arith, least-many, All-get_or (λ k. k < length least) numbers w 0 l shared.within) in
          record {
            within = low;
            same = λ d. get_or_default (shared_wires p) (slice_index numbers w) d _ low ∙ shared.named w (omega (arith, l, shared.each_wire))
                ∙ ap (λ (ns : List Wire). shared_wire K (wire_at ns w)) (sym built.wires);
          };
    };
  }

-- numbers as they are read
pub numbers-read : (g : Graph) (least instances l i : List InstId) (numbers n : List ℕ) → l ≡ least → i ≡ instances → n ≡ numbers
    → AreNumbersOf g least instances numbers → AreNumbersOf g l i n
numbers-read g least instances l i numbers n a b c h =
    subst (λ (xs : List InstId). AreNumbersOf g xs i n) (sym a)
    (subst (λ (xs : List InstId). AreNumbersOf g least xs n) (sym b) (subst (λ (xs : List ℕ). AreNumbersOf g least instances xs) (sym c) h))

-- the parts have the indices of a graph
module _ (g : Graph) (s : GraphParts) (are : AreGraphParts g s) where
  abbrev p : Program
  p = program_of g.program

  insts-many : length s.instances.items ≡ length (shared_instances p)
  insts-many = sym (length-map s.instances.items instance_of) ∙ ap length are.instances

  pub wires-many : length s.named.wires.items ≡ length (shared_wires p)
  wires-many = sym (length-map s.named.wires.items (wire_of (shared_instances p))) ∙ ap length are.named.wires

  nodes-all : IsKernel p.body → length s.named.nodes.items ≡ length (shared_instances p)
  nodes-all kernel =
      sym (length-map s.named.nodes.items (node_form (shared_instances p) (shared_wires p))) ∙ ap length are.named.nodes ∙ nodes-many p kernel

  pub parts-fit : IsKernel p.body
      → IndicesFit (length s.instances.items) s.named.wires.items s.named.nodes.items s.formulas.equations.items s.formulas.next.items
  parts-fit kernel = record {
    nodes_all = nodes-all kernel ∙ sym insts-many;
    equations_all = are.formulas.equations.each ∙ sym wires-many;
    wires_fit = subst (λ n. All (λ (w : wires.Wire). IsTrue (wire_fits n w)) s.named.wires.items) (sym insts-many) are.named.wires_fit;
    nodes_fit = subst (λ n. All (λ (x : nodes.Node). IsTrue (node_fits n (length s.named.wires.items) x)) s.named.nodes.items) (sym insts-many)
        (subst (λ n. All (λ (x : nodes.Node). IsTrue (node_fits (length (shared_instances p)) n x)) s.named.nodes.items) (sym wires-many) are.named.nodes_fit);
    equations_fit = fit s.formulas.equations.items (equations-fit p s.formulas.equations.items are.formulas.equations);
    next_fit = fit s.formulas.next.items are.formulas.next_fit;
  }
    where
      fit : (fs : List formulas.Formula) → All (λ f. IsTrue (formula_fits (length (shared_instances p)) (length (shared_wires p)) f)) fs
          → All (λ f. IsTrue (formula_fits (length s.instances.items) (length s.named.wires.items) f)) fs
      fit fs h =
          subst (λ n. All (λ f. IsTrue (formula_fits n (length s.named.wires.items) f)) fs) (sym insts-many)
          (subst (λ n. All (λ f. IsTrue (formula_fits (length (shared_instances p)) n f)) fs) (sym wires-many) h)

-- the formula of a shared wire, from its least member's
pub formula-named : (g : Graph) → IsGraphOf g (program_of g.program) → (least : List WireId) → AreLeastMembers g least → (k : ℕ) (v : WireId) → k < length least
    → v ≡ get_or least k v
    → shared_formula (program_of g.program) (wire_at (names_of g) v.0) (formula_at g v.0)
    ≡ formula_in (program_of g.program) (wire_at (shared_wires (program_of g.program)) k)
formula-named g built least are k v l e =
    let p = program_of g.program in
    let m = (get_or least k v).0 in
    let u = wire_at (names_of g) m in
    let low : m < length (names_of g) = omega (arith, least-low g built least are k v l, length-map g.wires.items (wire_of (instances_of g))) in
    let number : IsNumberOf (names_of g) m u = record { within = low; same = λ d. get_or_default (names_of g) m d _ low } in
    ap (λ (x : WireId). shared_formula p (wire_at (names_of g) x.0) (formula_at g x.0)) e
    ∙ ap (shared_formula p u) (formula-found g built m u number) ∙ ap (formula_in p) (sym (least-at g built least are k v l))
