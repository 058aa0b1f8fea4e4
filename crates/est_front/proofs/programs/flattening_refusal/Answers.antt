use Rattle.std.proofs.Common.{ap}
use Rattle.est_expand.specs.Answers.{fault_of, scope_fault}
use Rattle.est_expand.specs.Faults as flattening
use Rattle.est_front.proofs.Unrefused.{no_unflattened}
use Rattle.est_front.proofs.programs.flattening_refusal.Goals as goal

pub returns-in-Scope-clause-lacks : goal.returns-in-Scope-clause-lacks
returns-in-Scope-clause-lacks c = λ text main h flat f.
    no_unflattened text main flat (scope_fault c.in-Scope.fault) f (h (scope_fault c.in-Scope.fault) (ap fault_of c.in-Scope.is))

pub returns-in-TooManyStatements-clause-lacks : goal.returns-in-TooManyStatements-clause-lacks
returns-in-TooManyStatements-clause-lacks c = λ text main h flat f.
    no_unflattened text main flat flattening.TooManyStatements f (h flattening.TooManyStatements (ap fault_of c.in-TooManyStatements.is))

pub returns-in-TooDeep-clause-lacks : goal.returns-in-TooDeep-clause-lacks
returns-in-TooDeep-clause-lacks c = λ text main h flat f.
    no_unflattened text main flat flattening.TooDeep f (h flattening.TooDeep (ap fault_of c.in-TooDeep.is))

pub returns-in-TooManySignals-clause-lacks : goal.returns-in-TooManySignals-clause-lacks
returns-in-TooManySignals-clause-lacks c = λ text main h flat f.
    no_unflattened text main flat flattening.TooManySignals f (h flattening.TooManySignals (ap fault_of c.in-TooManySignals.is))
