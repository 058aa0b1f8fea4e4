use Rattle.std.proofs.Common.{◌≡◌, map, take}
use Rattle.std.specs.Prelude.{flat_map}
use Rattle.est_ast.specs.Views.{decl_of}
use Rattle.est_expand.specs.Scopes.{both_in}
use Rattle.est_expand.proofs.interface.both_names.Given as goal

abbrev pub invariant-loop-decl : goal.invariant-loop-decl
invariant-loop-decl l =
    map (λ name. name.now) l.found.items ≡ flat_map both_in (map decl_of (take l.decl-index l.decls))
