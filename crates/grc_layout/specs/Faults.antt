-- Contract: when a body has too many live instances.
use Rattle.std.specs.Prelude.{◌<◌, length, ⊤}
use Rattle.base_types.specs.declared.bounds.TheConstants.Limits.{INSTANCES}
use Rattle.est_kernel.specs.Terms.{Term}
use Rattle.grc_graph.specs.Instances.{body_instances}
use Rattle.grc_layout.specs.declared.refusal.CopyFault.{CopyFault}
use Rattle.grc_layout.specs.declared.refusal.CopyFault.TheVariants.{TooManyInstances, NoMemory}

-- the fault that a body calls for
abbrev pub FaultHasCause : Term → CopyFault → Type 0
FaultHasCause body TooManyInstances = INSTANCES < length (body_instances body)
FaultHasCause body NoMemory = ⊤
