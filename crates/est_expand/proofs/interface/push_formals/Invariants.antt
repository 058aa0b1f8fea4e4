use Rattle.std.proofs.Common.{◌≡◌, ◌++◌, map, take}
use Rattle.est_names.specs.Names.{texts}
use Rattle.est_expand.specs.Scopes.{formals_of}
use Rattle.est_expand.specs.Views.{formal_of}
use Rattle.est_expand.proofs.interface.push_formals.Given as goal

abbrev pub invariant-loop-name : goal.invariant-loop-name
invariant-loop-name l =
    map formal_of l.found.items ≡ map formal_of l.fn.found.items ++ formals_of l.input (texts (take l.name-index l.names))
