use Rattle.std.proofs.Common.{◌∙◌, map}
use Rattle.std.proofs.lemmas.List.{map-append}
use Rattle.csub_text.specs.Grammar.{name}
use Rattle.base_reader.proofs.Exports.{loop-started, loop-grown}
use Rattle.csub_read.specs.Reading.{makes_expr, assign_behind, assign_step, pair_of}
use Rattle.csub_read.specs.Tokens.{kind_in}
use Rattle.csub_read.proofs.Makers.{assigns-mean}
use Rattle.net_expressions.proofs.Exports.{shorter, maybe-both}
use Rattle.csub_read.proofs.text.read_assigns.Goals as goal

pub assigns-init : goal.assigns-init
assigns-init c = rw (c.nothing_read-body.ensures.left, c.nothing_read-body.ensures.read)
    (loop-started (assign_step makes_expr c.args.room) (map kind_in c.args.tokens.now))

pub assigns-smaller : goal.assigns-smaller
assigns-smaller c =
    shorter kind_in c.in_ok-assign.behind.now c.assigns.rest.now
    (assigns-mean c.args.room (map kind_in c.assigns.rest.now) (pair_of c.in_ok-assign.assign) (map kind_in c.in_ok-assign.behind.now)
    (maybe-both name (assign_behind makes_expr c.args.room) (map kind_in c.assigns.rest.now) c.in-Some.name.now (map kind_in c.in-Some.behind.now)
    (pair_of c.in_ok-assign.assign) (map kind_in c.in_ok-assign.behind.now) c.in-Some.ensures c.in_ok-assign.ensures))

pub assigns-preserved : goal.assigns-preserved
assigns-preserved c =
    rw (c.in_ok-push.ensures.items, map-append)
    (loop-grown (assign_step makes_expr c.args.room) (assigns-mean c.args.room) (λ all. all) (map pair_of c.assigns.body.items)
    (map kind_in c.assigns.rest.now) (pair_of c.in_ok-assign.assign) (map kind_in c.in_ok-assign.behind.now)
    (maybe-both name (assign_behind makes_expr c.args.room) (map kind_in c.assigns.rest.now) c.in-Some.name.now (map kind_in c.in-Some.behind.now)
    (pair_of c.in_ok-assign.assign) (map kind_in c.in_ok-assign.behind.now) c.in-Some.ensures c.in_ok-assign.ensures)
    ∙ c.assigns.invariant)
