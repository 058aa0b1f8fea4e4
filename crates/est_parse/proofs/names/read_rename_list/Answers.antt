use Rattle.std.proofs.Common.{◌∷◌, ◌∙◌}
use Rattle.est_ast.specs.declared.tokens.Mark.TheVariants as marks
use Rattle.est_ast.specs.Grammar.{mark}
use Rattle.est_parse.specs.Reading.{list_step, rename}
use Rattle.base_reader.specs.Readings.{give}
use Rattle.base_reader.proofs.Exports.{loop-begun, optional_or-some, loop-grown}
use Rattle.est_parse.proofs.StmtLaws.{renames-advances}
use Rattle.est_parse.proofs.names.read_rename_list.Goals as goal

pub loop-behind-init : goal.loop-behind-init
loop-behind-init c =
    rw (c.in_ok-push.ensures.items, c.new-found.ensures.items)
    (loop-begun rename (list_step marks.Comma rename) (λ value others. value ∷ others) c.args.tokens.now c.in_ok-first.first c.in_ok-first.rest.now
    c.in_ok-first.ensures)

pub loop-behind-smaller : goal.loop-behind-smaller
loop-behind-smaller c =
    renames-advances c.loop-behind.rest.now c.in_ok-rename.rename c.in_ok-rename.behind.now
    (optional_or-some (mark marks.Comma) (λ _. rename) (give tt) c.loop-behind.rest.now tt c.in-Some.behind.now c.in_ok-rename.rename c.in_ok-rename.behind.now
    c.in-Some.ensures c.in_ok-rename.ensures)

pub loop-behind-preserved : goal.loop-behind-preserved
loop-behind-preserved c =
    rw c.in_ok-push-2.ensures.items
    (loop-grown (list_step marks.Comma rename) (renames-advances) (λ all. all) c.loop-behind.found.items c.loop-behind.rest.now c.in_ok-rename.rename
    c.in_ok-rename.behind.now
    (optional_or-some (mark marks.Comma) (λ _. rename) (give tt) c.loop-behind.rest.now tt c.in-Some.behind.now c.in_ok-rename.rename c.in_ok-rename.behind.now
    c.in-Some.ensures c.in_ok-rename.ensures)
    ∙ c.loop-behind.invariant)
