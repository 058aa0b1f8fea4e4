-- To believe: what is made of a source where the latches of its BLIF text hold the state in a code.
use Rattle.std.specs.Prelude.{◌≡◌, ◌+◌, ◌*◌, ◌≤◌, true, false, ℕ, List, ◌∷◌, length, Option, replicate}
use Rattle.est_kernel.specs.Plain.{Program}
use Rattle.grc_graph.specs.SelectionTrees.{body_tree}
use Rattle.net_ir.specs.Gates.{carried}
use Rattle.net_ir.specs.Netlists.{Netlist, output_names}
use Rattle.net_ir.specs.Runs.{netlist_of, initial_latches}
use Rattle.net_simp.specs.SameRuns.{SameRuns}
use Rattle.net_simp.specs.SimpleNets.{IsSimple}
use Rattle.net_state_enc.specs.EncodedCounts.{encoded_bits, encoded_count}
use Rattle.blif_text.specs.Written as blif_texts
use Rattle.est_front.specs.Sources.{StandsFor}
use Rattle.cec_compile.specs.Compiling.{StandsForNet}
use Rattle.cec_compile.specs.Meaning.{TextKeeps}
use Rattle.cec_compile.specs.NetMeaning.{NetKeeps}
use Rattle.cec_compile.specs.Refusals.{Compiles}
use Rattle.cec_compile.specs.WireGroups.{SharesWires, is_shared}
use Rattle.cec_compile.specs.WireNames.{TextNames}
use Rattle.cec_compile.specs.declared.passes.Compiled.{Compiled}

-- A netlist is one of a compiled program whose latches hold the state in a code. It has the names of the program's own
-- netlist, and its carried wires in the same order. The first latch marks the first instant, and there is one for each
-- bit of the code, all false at first. Over all items it shows the same, carries the same values, and so keeps what the
-- program means. In addition to the gates of the program's netlist it has at most 64 for each pair of a node of the
-- selection tree and a latch, and nothing is left to simplify.
pub record IsEncoded (c : Compiled) (p : Program) (net : Netlist) : Type 0 where
  pub name : net.name ≡ (netlist_of c.net).name
  pub inputs : net.inputs ≡ (netlist_of c.net).inputs
  pub outputs : output_names net ≡ output_names (netlist_of c.net)
  pub carries : carried net.gates ≡ carried c.net.gates.items
  pub latches : initial_latches net ≡ true ∷ replicate (encoded_bits p.body) false
  pub runs : SameRuns (netlist_of c.net) net
  pub keeps : NetKeeps net p
  pub size : length net.gates ≤ length c.net.gates.items + 64 * (length (body_tree p.body) * length net.latches)
  pub simple : IsSimple net

-- The bytes stand for the program of the text, which has as many latches as the encoded state takes.
pub record StandsForEncoded (text : List ℕ) (main : Option (List ℕ)) (written : List ℕ) : Type 0 where
  pub program : Program
  pub source : StandsFor text main program
  pub compiles : Compiles program
  pub keeps : TextKeeps written program
  pub names : TextNames (encoded_count program.body) written program

-- The text is that of such a netlist, from the same bytes, whose wires are shared where they can be: it has a table for
-- each gate, in the order of the gates, and a gate that carries a wire is named by it.
pub record IsEncodedBlifOf (bytes : List ℕ) (main : Option (List ℕ)) (written : List ℕ) : Type 0 where
  pub made : Compiled
  pub compiled : StandsForNet bytes main made
  pub shares : SharesWires compiled.program (is_shared made.graph)
  pub net : Netlist
  pub encoded : IsEncoded made compiled.program net
  pub text : written ≡ blif_texts.written net
