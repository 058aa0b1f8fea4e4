-- Inner: what a flat program has of its main module in addition to its signals and its body.
use Rattle.std.specs.Prelude.{◌≡◌, map, flat_map, length}
use Rattle.base_types.specs.Relations.{relation_of}
use Rattle.est_ast.specs.Trees.{Module}
use Rattle.est_expand.specs.declared.expansion.MainHead.{MainHead}
use Rattle.est_expand.specs.Scopes.{main_interface, main_scope}
use Rattle.est_expand.specs.Flattening.{relation_in, relations_in}

pub record IsHeadOf (main : Module) (head : MainHead) : Type 0 where
  pub name : head.name ≡ main.name.text
  pub inputs : head.inputs ≡ length (main_interface main).inputs
  pub both : head.both ≡ length (main_interface main).both
  pub outputs : head.outputs ≡ length (main_interface main).outputs
  pub relations : map relation_of head.relations.items
      ≡ map (relation_in (main_scope (main_interface main))) (flat_map relations_in main.decls)
