use Rattle.std.proofs.Common.{subst}
use Rattle.base_types.specs.Stops.{FaultIs}
use Rattle.est_names.specs.NameFaults.{IsFirst, name_faults}
use Rattle.est_front.proofs.Unrefused.{no_name_fault}
use Rattle.est_front.proofs.programs.name_refusal.Goals as goal

pub returns-in-Fault-clause-lacks : goal.returns-in-Fault-clause-lacks
returns-in-Fault-clause-lacks c = λ text main tree reads first flat f. no_name_fault text main f.tree c.in-Fault.fault f.declares (record {
  tree = tree;
  reads = reads;
  first = subst (FaultIs (IsFirst (name_faults main tree))) c.in-Fault.is first;
})
