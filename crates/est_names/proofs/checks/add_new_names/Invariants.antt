use Rattle.std.proofs.Common.{◌≡◌, ◌++◌, take, drop}
use Rattle.est_names.specs.declared.refusal.NameFault.TheVariants as faults
use Rattle.est_names.specs.Names.{texts}
use Rattle.est_names.specs.NameFaults.{again}
use Rattle.est_names.proofs.checks.add_new_names.Given as goal

-- the names so far stand before those that are left
abbrev pub invariant-loop-name : goal.invariant-loop-name
invariant-loop-name l = record {
  names : l.set ≡ l.fn.set ++ texts (take l.name-index l.names);
  left : again faults.DuplicateSignal l.fn.set l.names ≡ again faults.DuplicateSignal l.set (drop l.name-index l.names);
}
