-- Worked plain forms, by hand: what numbers of instances and wires stand for in formulas, nodes and names.
use Rattle.std.proofs.Common.{◌≡◌, true, false, List, [], ◌∷◌, map, None, Some, codes, refl, ap, ap₂, ◌∙◌, Vec, Global}
use Rattle.base_types.specs.declared.indices.WireId.{WireId}
use Rattle.est_kernel.specs.Plain.{program_of, interface_of, interface_count}
use Rattle.est_kernel.specs.Terms.{Term, Pause, Loop}
use Rattle.grc_graph.specs.declared.formulas.Formula.TheVariants as formulas
use Rattle.grc_graph.specs.declared.graph.Graph.{Graph}
use Rattle.grc_graph.specs.declared.instances.Layer.TheVariants as layers
use Rattle.grc_graph.specs.declared.loops.LoopBodies.{LoopBodies}
use Rattle.grc_graph.specs.declared.wire_names.LayerName.TheVariants as layer_names
use Rattle.grc_graph.specs.declared.wire_names.Path.{Path}
use Rattle.grc_graph.specs.declared.wire_names.WireName.TheVariants as wire_names
use Rattle.grc_graph.specs.declared.wires.Node.TheVariants as nodes
use Rattle.grc_graph.specs.declared.wires.Wire.TheVariants as wires
use Rattle.grc_graph.specs.Formulas as plain_formulas
use Rattle.grc_graph.specs.Instances.{Instance}
use Rattle.grc_graph.specs.Layers.{Resumed, Started}
use Rattle.grc_graph.specs.Nodes as plain_nodes
use Rattle.grc_graph.specs.PlainGraphs.{wire_at, formula_of, node_form, equations_of, instances_of, names_of, lasting_in, plain_graph}
use Rattle.grc_graph.specs.PlainInstances.{instance_of, instance_at, wire_of}
use Rattle.grc_graph.specs.PlainWireNames.{wire_name_of}
use Rattle.grc_graph.specs.Scopes.{program_scope}
use Rattle.grc_graph.specs.SelectionTrees.{body_leaves}
use Rattle.grc_graph.specs.WireNames as plain_names
use Rattle.grc_graph.specs.Wires.{Wire, Out, Go, StatusOf, End, same_wire}

-- two instances, and two wires
abbrev insts : List Instance
insts = record { path = 3; layer = Resumed } ∷ record { path = 5; layer = Started 2 } ∷ []

abbrev names : List Wire
names = Out 1 ∷ Go 5 (Started 2) ∷ []

of_instances : map instance_of (record { path = record { 0 = 3 }; layer = layers.Resumed }
    ∷ record { path = record { 0 = 5 }; layer = layers.Started (record { 0 = 2 }) } ∷ []) ≡ insts
of_instances = refl

by_number : map (instance_at insts) (0 ∷ 1 ∷ 2 ∷ [])
    ≡ record { path = 3; layer = Resumed } ∷ record { path = 5; layer = Started 2 } ∷ record { path = 0; layer = Resumed } ∷ []
by_number = refl

of_wires : map (wire_of insts)
    (wires.Go (record { 0 = 1 }) ∷ wires.End (record { 0 = 0 }) 4 ∷ wires.Local (record { 0 = 1 }) ∷ wires.Out (record { 0 = 7 }) ∷ [])
    ≡ Go 5 (Started 2) ∷ End 3 Resumed 4 ∷ StatusOf 5 (Started 2) ∷ Out 7 ∷ []
of_wires = refl

wires_by_number : map (wire_at names) (0 ∷ 1 ∷ 2 ∷ []) ≡ Out 1 ∷ Go 5 (Started 2) ∷ Go 0 Resumed ∷ []
wires_by_number = refl

-- ---- formulas

abbrev plain : List plain_formulas.Formula
plain = plain_formulas.Const true ∷ plain_formulas.Boot ∷ plain_formulas.Input 7 ∷ plain_formulas.Value (Go 5 (Started 2))
    ∷ plain_formulas.Selected 4
    ∷ plain_formulas.Upto 5 (Started 2) 6 ∷ plain_formulas.Kept 5 (Started 2) ∷ plain_formulas.Held 3 Resumed ∷ []

of_words : map (formula_of insts names) (formulas.Const true ∷ formulas.Boot ∷ formulas.Input (record { 0 = 7 }) ∷ formulas.Wire (record { 0 = 1 })
    ∷ formulas.Selected (record { 0 = 4 }) ∷ formulas.Upto (record { 0 = 1 }) 6 ∷ formulas.Kept (record { 0 = 1 }) ∷ formulas.Held (record { 0 = 0 }) ∷ [])
    ≡ plain
of_words = refl

abbrev one : plain_formulas.Formula
one = plain_formulas.Value (Out 1)

of_operators : (p q r : _) → map (formula_of insts names) (formulas.Not' p formulas.Boot ∷ formulas.And' p formulas.Boot q (formulas.Const false)
    ∷ formulas.Or' q formulas.Boot r (formulas.Const false) ∷ [])
    ≡ plain_formulas.Negation plain_formulas.Boot ∷ plain_formulas.Conjunction plain_formulas.Boot (plain_formulas.Const false)
    ∷ plain_formulas.Disjunction plain_formulas.Boot (plain_formulas.Const false) ∷ []
of_operators p q r = refl

of_lists : (v : Vec WireId Global) → v.items ≡ record { 0 = 0 } ∷ record { 0 = 1 } ∷ []
    → formula_of insts names (formulas.AnyOf v) ≡ plain_formulas.Disjunction one (plain_formulas.Value (Go 5 (Started 2)))
of_lists v is = ap (λ ws. plain_formulas.any_of (map (λ w. plain_formulas.Value (wire_at names w.0)) ws)) is

-- ---- nodes

of_nodes : map (node_form insts names) (nodes.Fork (record { 0 = 1 }) (record { 0 = 0 }) ∷ nodes.Sync (record { 0 = 1 }) ∷ nodes.Switch (record { 0 = 1 })
    ∷ nodes.Test (record { 0 = 1 }) ∷ nodes.Enter (record { 0 = 1 }) ∷ nodes.Emit (record { 0 = 1 }) (record { 0 = 0 })
    ∷ nodes.Define (record { 0 = 1 }) (record { 0 = 0 }) ∷ nodes.Exit (record { 0 = 1 }) 4 ∷ nodes.Through (record { 0 = 1 }) ∷ [])
    ≡ plain_nodes.Fork 5 3 (Started 2) ∷ plain_nodes.Sync 5 (Started 2) ∷ plain_nodes.Switch 5 (Started 2) ∷ plain_nodes.Tested 5 (Started 2)
    ∷ plain_nodes.Enter 5 (Started 2) ∷ plain_nodes.Emission 5 (Started 2) (Some (Out 1)) ∷ plain_nodes.Definition 5 (Started 2) (Out 1)
    ∷ plain_nodes.Leave 5 (Started 2) 4 ∷ plain_nodes.Through 5 (Started 2) ∷ []
of_nodes = refl

-- ---- graphs

each_wire_its_formula : equations_of insts names (formulas.Boot ∷ formulas.Kept (record { 0 = 0 }) ∷ [])
    ≡ record { wire = Out 1; formula = plain_formulas.Boot } ∷ record { wire = Go 5 (Started 2); formula = plain_formulas.Kept 3 Resumed } ∷ []
each_wire_its_formula = refl

-- a graph whose one wire is the first outgoing signal, true in the first instant, which is its next formula too
of_a_graph : (g : Graph) → g.wires.items ≡ wires.Out (record { 0 = 0 }) ∷ [] → g.equations.items ≡ formulas.Boot ∷ [] → g.next.items ≡ formulas.Boot ∷ []
    → ((plain_graph g).equations ≡ record { wire = Out 0; formula = plain_formulas.Boot } ∷ []) × ((plain_graph g).next ≡ plain_formulas.Boot ∷ [])
of_a_graph g wires equations next = (
  ap (λ ws. equations_of (instances_of g) (map (wire_of (instances_of g)) ws) g.equations.items) wires
      ∙ ap (equations_of (instances_of g) (Out 0 ∷ [])) equations,
  ap (map (formula_of (instances_of g) (names_of g))) next,
)

of_its_program : (g : Graph) → ((plain_graph g).interface ≡ interface_of (program_of g.program)) × ((plain_graph g).body ≡ (program_of g.program).body)
    × ((plain_graph g).scope ≡ program_scope (program_of g.program).inputs (interface_count (program_of g.program)))
    × ((plain_graph g).leaves ≡ body_leaves (program_of g.program).body) × ((plain_graph g).lasting ≡ lasting_in g.loops (program_of g.program).body)
of_its_program g = (refl, refl, refl, refl, refl)

-- a loop around a pause, started at its own root, sees the resumed end where instances are shared ones
abbrev body : Term
body = Loop (record { start = 0; end = 1 }) (Loop (record { start = 0; end = 1 }) Pause)

own_ends : lasting_in None body (same_wire (End 2 Resumed 1)) (End 2 (Started 1) 1)
    ∷ lasting_in None body (same_wire (End 1 Resumed 1)) (End 1 (Started 2) 1) ∷ []
    ≡ false ∷ false ∷ []
own_ends = refl

shared_ends : (loops : Vec LoopBodies Global) → lasting_in (Some loops) body (same_wire (End 1 Resumed 1)) (End 1 (Started 2) 1)
    ∷ lasting_in (Some loops) body (same_wire (End 2 Resumed 1)) (End 2 (Started 1) 1) ∷ [] ≡ true ∷ false ∷ []
shared_ends loops = refl

-- ---- names

of_names : (p q : Path) → p.steps.items ≡ 1 ∷ [] → q.steps.items ≡ 2 ∷ []
    → (wire_name_of (wire_names.Go p layer_names.Resumed) ≡ plain_names.Go (1 ∷ []) plain_names.Resumed)
    × (wire_name_of (wire_names.Go p (layer_names.Started q)) ≡ plain_names.Go (1 ∷ []) (plain_names.Started (2 ∷ [])))
    × (wire_name_of (wire_names.End p (layer_names.Started q) 4) ≡ plain_names.End (1 ∷ []) (plain_names.Started (2 ∷ [])) 4)
    × (wire_name_of (wire_names.Local p (layer_names.Started q) (codes "S")) ≡ plain_names.StatusOf (1 ∷ []) (plain_names.Started (2 ∷ [])) (codes "S"))
    × (wire_name_of (wire_names.Out (codes "O")) ≡ plain_names.Out (codes "O"))
of_names p q one two = (
  ap (λ s. plain_names.Go s plain_names.Resumed) one,
  ap₂ (λ s r. plain_names.Go s (plain_names.Started r)) one two,
  ap₂ (λ s r. plain_names.End s (plain_names.Started r) 4) one two,
  ap₂ (λ s r. plain_names.StatusOf s (plain_names.Started r) (codes "S")) one two,
  refl,
)
