use Rattle.std.proofs.Common.{◌≡◌, drop}
use Rattle.est_names.specs.NameFaults.{not_given}
use Rattle.est_names.proofs.checks.check_all_given.Given as goal

-- what is left has all faults
abbrev pub invariant-loop-name : goal.invariant-loop-name
invariant-loop-name l = not_given l.given l.names ≡ not_given l.given (drop l.name-index l.names)
