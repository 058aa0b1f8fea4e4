use Rattle.std.proofs.Common.{◌∷◌, ◌∙◌}
use Rattle.est_ast.specs.Grammar.{mark, name}
use Rattle.est_parse.specs.Reading.{list_step}
use Rattle.base_reader.specs.Readings.{give, the}
use Rattle.base_reader.proofs.Exports.{loop-begun, optional_or-some, loop-grown}
use Rattle.est_parse.proofs.Lists.{names-advances}
use Rattle.est_parse.proofs.names.read_names.Goals as goal

pub loop-behind-init : goal.loop-behind-init
loop-behind-init c =
    rw (c.in_ok-push.ensures.items, c.new-found.ensures.items)
    (loop-begun (the name) (list_step c.args.separator (the name)) (λ value others. value ∷ others) c.args.tokens.now c.in_ok-first.first c.in_ok-first.rest.now
    c.in_ok-first.ensures)

pub loop-behind-smaller : goal.loop-behind-smaller
loop-behind-smaller c =
    names-advances c.args.separator c.loop-behind.rest.now c.in_ok-name.name c.in_ok-name.behind.now
    (optional_or-some (mark c.args.separator) (λ _. (the name)) (give tt) c.loop-behind.rest.now tt c.in-Some.behind.now c.in_ok-name.name
    c.in_ok-name.behind.now c.in-Some.ensures c.in_ok-name.ensures)

pub loop-behind-preserved : goal.loop-behind-preserved
loop-behind-preserved c =
    rw c.in_ok-push-2.ensures.items
    (loop-grown (list_step c.args.separator (the name)) (names-advances c.args.separator)
    (λ all. all) c.loop-behind.found.items c.loop-behind.rest.now c.in_ok-name.name c.in_ok-name.behind.now
    (optional_or-some (mark c.args.separator) (λ _. (the name)) (give tt) c.loop-behind.rest.now tt c.in-Some.behind.now c.in_ok-name.name
    c.in_ok-name.behind.now c.in-Some.ensures c.in_ok-name.ensures)
    ∙ c.loop-behind.invariant)
