-- A guarded text that means a netlist over all items means it as a text that is run.
use Rattle.std.proofs.Common.{ℕ, List, Option}
use Rattle.base_types.specs.declared.indices.WireId.{WireId}
use Rattle.net_ir.specs.Netlists.{Netlist}
use Rattle.csub_guard_run.specs.Texts.{Means}
use Rattle.csub_guard_writer_laws.specs.Guarded.{GuardedRuns}

pub guarded_means : (text : List ℕ) (net : Netlist) (regions : List (Option WireId)) → GuardedRuns text net regions → Means text net
guarded_means text net regions runs = record {
  program = runs.program;
  describes = runs.describes;
  inputs = runs.inputs;
  outputs = runs.outputs;
  shows = runs.shows;
}
