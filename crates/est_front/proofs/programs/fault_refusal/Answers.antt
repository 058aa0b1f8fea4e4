use Rattle.std.proofs.Common.{subst}
use Rattle.est_dismantle.specs.Expansions.{expansion}
use Rattle.est_dismantle.specs.Faults.{FaultHasCause}
use Rattle.est_front.proofs.Unrefused.{few_traps, no_bad_count, not_too_high, not_too_large}
use Rattle.est_front.proofs.programs.fault_refusal.Goals as goal

pub returns-in-BadCount-clause-lacks : goal.returns-in-BadCount-clause-lacks
returns-in-BadCount-clause-lacks c = λ text main flat f cause p e.
    no_bad_count text main p _ e (record { flat = flat; flattens = f; ends = subst (FaultHasCause (expansion flat)) c.in-BadCount.is cause })

pub returns-in-TooLarge-clause-lacks : goal.returns-in-TooLarge-clause-lacks
returns-in-TooLarge-clause-lacks c = λ text main flat f cause p e.
    not_too_large text main p e (record { flat = flat; flattens = f; ends = subst (FaultHasCause (expansion flat)) c.in-TooLarge.is cause })

pub returns-in-TooHigh-clause-lacks : goal.returns-in-TooHigh-clause-lacks
returns-in-TooHigh-clause-lacks c = λ text main flat f cause p e.
    not_too_high text main p e (record { flat = flat; flattens = f; ends = subst (FaultHasCause (expansion flat)) c.in-TooHigh.is cause })

pub returns-in-TooManyTraps-clause-lacks : goal.returns-in-TooManyTraps-clause-lacks
returns-in-TooManyTraps-clause-lacks c = λ text main flat f cause p e.
    few_traps text main p e (record { flat = flat; flattens = f; ends = subst (FaultHasCause (expansion flat)) c.in-TooManyTraps.is cause })
