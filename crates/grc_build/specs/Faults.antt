-- Contract: when a program has no graph.
use Rattle.std.specs.Prelude.{◌<◌, ⊤}
use Rattle.base_types.specs.declared.bounds.TheConstants.Limits.{WIRES}
use Rattle.est_kernel.specs.Plain.{Program}
use Rattle.grc_graph.specs.GraphSizes.{graph_size}
use Rattle.grc_build.specs.declared.refusal.BuildFault.{BuildFault}
use Rattle.grc_build.specs.declared.refusal.BuildFault.TheVariants.{TooManyWires, NoMemory}

-- the fault that a program calls for
abbrev pub FaultHasCause : Program → BuildFault → Type 0
FaultHasCause p TooManyWires = WIRES < graph_size p
FaultHasCause p NoMemory = ⊤
