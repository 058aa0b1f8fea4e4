use Rattle.std.proofs.Common.{◌≡◌, map, drop}
use Rattle.std.specs.Prelude.{flat_map}
use Rattle.est_ast.specs.Views.{module_of}
use Rattle.est_names.specs.NameFaults.{module_faults}
use Rattle.est_names.proofs.checks.check_all.Given as goal

-- what is left has all faults
abbrev pub invariant-loop-module : goal.invariant-loop-module
invariant-loop-module l =
    flat_map module_faults (map module_of l.modules) ≡ flat_map module_faults (map module_of (drop l.module-index l.modules))
