use Rattle.std.proofs.Common.{◌≡◌, [], map, drop}
use Rattle.std.specs.Prelude.{flat_map}
use Rattle.est_names.specs.declared.refusal.NameFault.TheVariants as faults
use Rattle.est_names.specs.NameFaults.{again}
use Rattle.est_names.proofs.checks.check_lists.Given as goal

-- what is left has all faults
abbrev pub invariant-loop-names : goal.invariant-loop-names
invariant-loop-names l =
    flat_map (again faults.DuplicateSignal []) (map (λ names. names.now) l.lists)
    ≡ flat_map (again faults.DuplicateSignal []) (map (λ names. names.now) (drop l.names-index l.lists))
