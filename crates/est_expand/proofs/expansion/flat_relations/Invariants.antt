use Rattle.std.proofs.Common.{◌≡◌, map, take}
use Rattle.std.specs.Prelude.{flat_map}
use Rattle.base_types.specs.Relations.{relation_of}
use Rattle.est_ast.specs.Views.{decl_of}
use Rattle.est_expand.specs.Flattening.{relation_in, relations_in}
use Rattle.est_expand.proofs.expansion.flat_relations.Given as goal

abbrev pub invariant-loop-decl : goal.invariant-loop-decl
invariant-loop-decl l =
    map relation_of l.found.items ≡ map (relation_in l.scope) (flat_map relations_in (map decl_of (take l.decl-index l.decls)))
