use Rattle.std.proofs.Common.{◌≡◌, [], map, take, drop}
use Rattle.est_ast.specs.Views.{module_of}
use Rattle.est_names.specs.declared.refusal.NameFault.TheVariants as faults
use Rattle.est_names.specs.Names.{texts}
use Rattle.est_names.specs.NameFaults.{again}
use Rattle.est_names.proofs.checks.module_name_set.Given as goal

-- the names so far stand before those that are left
abbrev pub invariant-loop-module : goal.invariant-loop-module
invariant-loop-module l = record {
  names : l.names ≡ texts (map (λ m. m.name) (map module_of (take l.module-index l.modules)));
  left : again faults.DuplicateModule [] (map (λ m. m.name) (map module_of l.modules))
      ≡ again faults.DuplicateModule l.names (map (λ m. m.name) (map module_of (drop l.module-index l.modules)));
}
