use Rattle.std.proofs.Common.{◌≡◌, map, take}
use Rattle.std.specs.Prelude.{flat_map}
use Rattle.est_ast.specs.Views.{decl_of}
use Rattle.est_expand.specs.Scopes.{formals_in}
use Rattle.est_expand.specs.Views.{formal_of}
use Rattle.est_expand.proofs.interface.formals.Given as goal

abbrev pub invariant-loop-decl : goal.invariant-loop-decl
invariant-loop-decl l =
    map formal_of l.found.items ≡ flat_map formals_in (map decl_of (take l.decl-index l.module.decls.items))
