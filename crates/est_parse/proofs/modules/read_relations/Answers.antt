use Rattle.std.proofs.Common.{◌∷◌, ◌∙◌, map}
use Rattle.std.proofs.lemmas.List.{map-append}
use Rattle.est_ast.specs.declared.tokens.Mark.TheVariants as marks
use Rattle.est_ast.specs.Grammar.{mark}
use Rattle.est_ast.specs.Views.{relation_of}
use Rattle.base_reader.specs.Readings.{give}
use Rattle.base_reader.proofs.Exports.{loop-begun, optional_or-some, loop-grown}
use Rattle.est_parse.specs.Reading.{list_step, relation}
use Rattle.est_parse.proofs.ModuleLaws.{relations-advances}
use Rattle.est_parse.proofs.modules.read_relations.Goals as goal

pub loop-behind-init : goal.loop-behind-init
loop-behind-init c =
    rw (c.in_ok-push.ensures.items, c.new-found.ensures.items)
    (loop-begun relation (list_step marks.Comma relation) (λ value others. value ∷ others) c.args.tokens.now
    (relation_of c.in_ok-first.first) c.in_ok-first.rest.now c.in_ok-first.ensures)

pub loop-behind-smaller : goal.loop-behind-smaller
loop-behind-smaller c = relations-advances c.loop-behind.rest.now (relation_of c.in_ok-relation.relation) c.in_ok-relation.behind.now
    (optional_or-some (mark marks.Comma) (λ _. relation) (give tt) c.loop-behind.rest.now tt c.in-Some.behind.now
    (relation_of c.in_ok-relation.relation) c.in_ok-relation.behind.now c.in-Some.ensures c.in_ok-relation.ensures)

pub loop-behind-preserved : goal.loop-behind-preserved
loop-behind-preserved c =
    rw (c.in_ok-push-2.ensures.items, map-append)
    (loop-grown (list_step marks.Comma relation) (relations-advances) (λ all. all) (map relation_of c.loop-behind.found.items) c.loop-behind.rest.now
    (relation_of c.in_ok-relation.relation) c.in_ok-relation.behind.now
    (optional_or-some (mark marks.Comma) (λ _. relation) (give tt) c.loop-behind.rest.now tt c.in-Some.behind.now
    (relation_of c.in_ok-relation.relation) c.in_ok-relation.behind.now c.in-Some.ensures c.in_ok-relation.ensures)
    ∙ c.loop-behind.invariant)
