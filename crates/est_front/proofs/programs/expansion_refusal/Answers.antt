use Rattle.std.proofs.Common.{subst}
use Rattle.base_types.specs.Stops.{FaultIs}
use Rattle.est_dismantle.specs.Expansions.{expansion}
use Rattle.est_dismantle.specs.Faults.{FaultHasCause}
use Rattle.est_front.proofs.programs.expansion_refusal.Goals as goal

pub returns-in-Fault-clause-refusal : goal.returns-in-Fault-clause-refusal
returns-in-Fault-clause-refusal c = λ text main flat f cause.
    c.fault_refusal.ensures.refusal text main flat f (subst (FaultIs (FaultHasCause (expansion flat))) c.in-Fault.is cause)

pub returns-in-Fault-clause-lacks : goal.returns-in-Fault-clause-lacks
returns-in-Fault-clause-lacks c = λ text main flat f cause.
    c.fault_refusal.ensures.lacks text main flat f (subst (FaultIs (FaultHasCause (expansion flat))) c.in-Fault.is cause)
