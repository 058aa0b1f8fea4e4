-- Inner: what of a graph is made of its program.
use Rattle.std.specs.Prelude.{◌≡◌, ◌+◌, List, length, map}
use Rattle.est_kernel.specs.declared.programs.KernelProgram.{KernelProgram}
use Rattle.est_kernel.specs.Plain.{Program, program_of}
use Rattle.grc_graph.specs.declared.instances.Instances.{Instances}
use Rattle.grc_graph.specs.declared.layout.WireLayout.{WireLayout}
use Rattle.grc_graph.specs.declared.wires.Wire.{Wire as stored_wire}
use Rattle.grc_graph.specs.GraphRuns.{graph_of, program_spots}
use Rattle.grc_graph.specs.GraphShapes.{IndicesFit}
use Rattle.grc_graph.specs.Instances.{Instance}
use Rattle.grc_graph.specs.Neighbouring.{instances_in, names_in, program_wires}
use Rattle.grc_graph.specs.Nodes as plain
use Rattle.grc_graph.specs.PlainGraphs.{wire_of, node_form, formula_of, equations_of}
use Rattle.grc_graph.specs.PlainInstances.{instance_of}
use Rattle.grc_graph.specs.WireTables.{AreFirsts, AreNeighbours}
use Rattle.grc_graph.specs.Wires.{Wire}
use Rattle.grc_build.specs.declared.graphs.Formulas.{Formulas}
use Rattle.grc_build.specs.declared.graphs.Parts.{Parts}
use Rattle.grc_build.specs.declared.tables.Tables.{Tables}
use Rattle.grc_build.specs.Tabled.{program_in}

-- the wires are those of the program, whose live instances these are, and they and the instances are found
pub record IsLayoutOf (p : KernelProgram) (live : Instances) (x : WireLayout) : Type 0 where
  pub wires : map (wire_of (map instance_of live.list.items)) x.wires.items ≡ program_wires (program_of p)
  pub tables : AreNeighbours live.list.items x.wires.items x.first_wires.items p.inputs (p.both + p.outputs)
  pub firsts : AreFirsts live.list.items x.first_instances.items

-- nodes and formulas are those of the program, where its instances and wires are these, by number and by name
pub record AreFormulasBy (p : Program) (insts : List Instance) (raw : List stored_wire) (names : List Wire)
    (x : Formulas) : Type 0 where
  pub nodes : map (node_form insts names) x.nodes.items ≡ map plain.spot_node (program_spots p)
  pub equations : equations_of insts names x.equations.items ≡ (graph_of p).equations
  pub next : map (formula_of insts names) x.next.items ≡ (graph_of p).next
  pub indices : IndicesFit (length insts) raw x.nodes.items x.equations.items x.next.items

abbrev pub AreFormulas : Tables → Formulas → Type 0
AreFormulas t x = AreFormulasBy (program_in t) (instances_in t.wires) t.wires.wires.now (names_in t.wires) x

pub record AreParts (p : KernelProgram) (live : Instances) (x : Parts) : Type 0 where
  pub layout : IsLayoutOf p live x.layout
  pub formulas : AreFormulasBy (program_of p) (map instance_of live.list.items) x.layout.wires.items
      (map (wire_of (map instance_of live.list.items)) x.layout.wires.items) x.formulas
