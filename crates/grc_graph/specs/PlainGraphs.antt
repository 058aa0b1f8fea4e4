-- To believe: the plain form of a graph: its nodes and formulas by name. A number of a wire is read through the list of
-- wires; a number that is out of range, which no graph has, is read as the `go` of the body's resumed instance.
use Rattle.std.specs.Prelude.{ℕ, List, map, zip, slice_index_or}
use Rattle.est_kernel.specs.Plain.{program_of, interface_of, interface_count}
use Rattle.grc_graph.specs.declared.formulas.Formula.{Formula}
use Rattle.grc_graph.specs.declared.formulas.Formula.TheVariants as formulas
use Rattle.grc_graph.specs.declared.wires.Node.{Node}
use Rattle.grc_graph.specs.declared.wires.Node.TheVariants as nodes
use Rattle.grc_graph.specs.Layers.{Resumed}
use Rattle.grc_graph.specs.Instances.{Instance}
use Rattle.grc_graph.specs.Wires as plain
use Rattle.grc_graph.specs.Nodes as plain_nodes
use Rattle.grc_graph.specs.Formulas as plain_formulas
use Rattle.std.specs.Prelude.{None, Option, Some, Vec}
use Rattle.std.specs.Global.{Global}
use Rattle.est_kernel.specs.Terms.{Term}
use Rattle.grc_graph.specs.declared.loops.LoopBodies.{LoopBodies}
use Rattle.grc_graph.specs.LoopKeys.{body_sharing, lasting}
use Rattle.grc_graph.specs.Readings.{Valuation}
use Rattle.grc_graph.specs.declared.graph.Graph.{Graph}
use Rattle.grc_graph.specs.PlainInstances.{instance_of}
use Rattle.grc_graph.specs.Scopes.{program_scope}
use Rattle.grc_graph.specs.SelectionTrees.{body_leaves}
use Rattle.grc_graph.specs.Equations.{Equation}
use Rattle.grc_graph.specs.GraphRuns.{PlainGraph}
pub use Rattle.grc_graph.specs.PlainInstances.{instance_at, wire_of}

-- the wire with a number
abbrev pub wire_at : List plain.Wire → ℕ → plain.Wire
wire_at names w = slice_index_or names w (plain.Go 0 Resumed)

-- a formula by names
abbrev pub formula_of : List Instance → List plain.Wire → Formula → plain_formulas.Formula
formula_of insts names (formulas.Const b) = plain_formulas.Const b
formula_of insts names formulas.Boot = plain_formulas.Boot
formula_of insts names (formulas.Input s) = plain_formulas.Input s.0
formula_of insts names (formulas.Wire w) = plain_formulas.Value (wire_at names w.0)
formula_of insts names (formulas.Selected p) = plain_formulas.Selected p.0
formula_of insts names (formulas.Upto i k) = plain_formulas.Upto (instance_at insts i.0).path
    (instance_at insts i.0).layer k
formula_of insts names (formulas.Kept i) = plain_formulas.Kept (instance_at insts i.0).path
    (instance_at insts i.0).layer
formula_of insts names (formulas.Held i) = plain_formulas.Held (instance_at insts i.0).path
    (instance_at insts i.0).layer
formula_of insts names (formulas.Not' _ a) = plain_formulas.Negation (formula_of insts names a)
formula_of insts names (formulas.And' _ a _ b) =
    plain_formulas.Conjunction (formula_of insts names a) (formula_of insts names b)
formula_of insts names (formulas.Or' _ a _ b) = plain_formulas.Disjunction (formula_of insts names a)
    (formula_of insts names b)
formula_of insts names (formulas.AnyOf v) = plain_formulas.any_of
    (map (λ w. plain_formulas.Value (wire_at names w.0)) v.items)

-- a node by names
abbrev pub node_form : List Instance → List plain.Wire → Node → plain_nodes.Node
node_form insts names (nodes.Fork i j) =
    plain_nodes.Fork (instance_at insts i.0).path (instance_at insts j.0).path (instance_at insts i.0).layer
node_form insts names (nodes.Sync i) = plain_nodes.Sync (instance_at insts i.0).path (instance_at insts i.0).layer
node_form insts names (nodes.Switch i) = plain_nodes.Switch (instance_at insts i.0).path (instance_at insts i.0).layer
node_form insts names (nodes.Test i) = plain_nodes.Tested (instance_at insts i.0).path (instance_at insts i.0).layer
node_form insts names (nodes.Enter i) = plain_nodes.Enter (instance_at insts i.0).path (instance_at insts i.0).layer
node_form insts names (nodes.Emit i w) =
    plain_nodes.Emission (instance_at insts i.0).path (instance_at insts i.0).layer (Some (wire_at names w.0))
node_form insts names (nodes.Define i w) =
    plain_nodes.Definition (instance_at insts i.0).path (instance_at insts i.0).layer (wire_at names w.0)
node_form insts names (nodes.Exit i k) = plain_nodes.Leave (instance_at insts i.0).path (instance_at insts i.0).layer k
node_form insts names (nodes.Through i) = plain_nodes.Through (instance_at insts i.0).path (instance_at insts i.0).layer

-- the instances and the wires of a graph by name, in order
abbrev pub instances_of : Graph → List Instance
instances_of g = map instance_of g.instances.list.items

abbrev pub names_of : Graph → List plain.Wire
names_of g = map (wire_of (instances_of g)) g.wires.items

-- the equations of these wires with these formulas
abbrev pub equations_of : List Instance → List plain.Wire → List Formula → List Equation
equations_of insts names formulas =
    map (λ e. record { wire = e.0; formula = formula_of insts names e.1 }) (zip names formulas)

-- What is seen of the ends of parallels: in a graph that keeps the numbers of loop bodies around its statements, whose
-- instances are shared ones, what these see.
abbrev pub lasting_in : Option (Vec LoopBodies Global) → Term → Valuation → Valuation
lasting_in None body V = V
lasting_in (Some loops) body V = lasting (body_sharing body) V

-- a graph by names, with the leaves of its program's body
abbrev pub plain_graph : Graph → PlainGraph
plain_graph g = record {
  interface = interface_of (program_of g.program);
  scope = program_scope (program_of g.program).inputs (interface_count (program_of g.program));
  body = (program_of g.program).body;
  equations = equations_of (instances_of g) (names_of g) g.equations.items;
  leaves = body_leaves (program_of g.program).body;
  next = map (formula_of (instances_of g) (names_of g)) g.next.items;
  lasting = lasting_in g.loops (program_of g.program).body;
}
