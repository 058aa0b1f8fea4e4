-- Why a source has no constructive netlist.
use Rattle.std.proofs.Common.{ℕ, List, Option, sym, subst}
use Rattle.est_kernel.specs.Plain.{Program, program_of}
use Rattle.grc_graph.specs.declared.graph.Graph.{Graph}
use Rattle.net_ir.specs.Netlists.{Netlist}
use Rattle.cec_compile.specs.Graphs.{IsRefusedGraph, StandsForBuilt}
use Rattle.cec_compile.specs.NetMeaning.{NetKeeps}
use Rattle.cec_compile.specs.declared.refusal.Refusal.{Refusal}
use Rattle.cec_compile.specs.declared.refusal.Refusal.TheVariants as refusals
use Rattle.cec_compile.specs.declared.cycles.Cycle.{Cycle}
use Rattle.cec_cycles.specs.Constructive.{HasCycle, IsOtherRefusal, StandsForConstructiveMade, StandsForStuck}
use Rattle.cec_cycles.specs.Findings.{IsStuck}
use Rattle.cec_cycles.specs.declared.findings.Stuck.{Stuck}

-- a netlist that keeps what the program of a built graph means
pub built-made : (text : List ℕ) (main : Option (List ℕ)) (g : Graph) (net : Netlist) → StandsForBuilt text main g → NetKeeps net (program_of g.program)
    → StandsForConstructiveMade text main (program_of g.program) net
built-made text main g net s keeps =
    let b = s.built in
    subst (λ (p : Program). StandsForConstructiveMade text main p net) (sym b.graph.program) (record {
      source = s.source;
      formed = b.formed;
      limits = record { few_instances = b.few; few_wires = b.graph.few };
      keeps = subst (λ (p : Program). NetKeeps net p) b.graph.program keeps;
    })

-- the program of a built graph is not constructive
pub built-stuck : (text : List ℕ) (main : Option (List ℕ)) (g : Graph) (stuck : Stuck) (cycle : Cycle) → StandsForBuilt text main g
    → IsStuck (program_of g.program) stuck → HasCycle text main cycle → StandsForStuck text main stuck
built-stuck text main g stuck cycle s is has =
    let b = s.built in
    record {
      program = s.program;
      source = s.source;
      limits = record { few_instances = b.few; few_wires = b.graph.few };
      is_stuck = subst (λ (p : Program). IsStuck p stuck) b.graph.program is;
      cycle = cycle;
      has_cycle = has;
    }

-- a source without a graph is refused for another cause than a cycle
pub graph-refused : (text : List ℕ) (main : Option (List ℕ)) (refusal : Refusal) → IsRefusedGraph text main refusal → IsOtherRefusal text main refusal
graph-refused text main (refusals.Static fault) is = is
graph-refused text main (refusals.Cyclic cycle) is = is
graph-refused text main (refusals.Limit limit) is = is
graph-refused text main refusals.NoMemory is = is
