use Rattle.std.proofs.Common.{◌∙◌, map}
use Rattle.std.proofs.lemmas.List.{map-append}
use Rattle.net_expressions.specs.Reading.{makes_expr}
use Rattle.net_expressions.proofs.Exports.{shorter, maybe-on}
use Rattle.vlog_text.specs.Tokens.{AssignWord}
use Rattle.vlog_text.specs.Grammar.{is}
use Rattle.vlog_read.specs.Reading.{assign_behind, assign_step}
use Rattle.vlog_read.proofs.Makers.{assigns-mean}
use Rattle.base_reader.proofs.Exports.{loop-started, loop-grown}
use Rattle.vlog_text.specs.Views.{assign_of}
use Rattle.vlog_read.specs.Lexed.{kind_in}
use Rattle.vlog_read.proofs.text.read_assigns.Goals as goal

pub assigns-init : goal.assigns-init
assigns-init c = rw (c.nothing_read-assigns.ensures.left, c.nothing_read-assigns.ensures.read)
    (loop-started (assign_step makes_expr c.args.room) (map kind_in c.args.tokens.now))

pub assigns-smaller : goal.assigns-smaller
assigns-smaller c =
    shorter kind_in c.in_ok-assign.behind.now c.assigns.rest.now
    (assigns-mean c.args.room (map kind_in c.assigns.rest.now) (assign_of c.in_ok-assign.assign) (map kind_in c.in_ok-assign.behind.now)
    (maybe-on (is AssignWord) (λ _. assign_behind makes_expr c.args.room) (map kind_in c.assigns.rest.now) tt (map kind_in c.in-Some.behind.now)
    (assign_of c.in_ok-assign.assign) (map kind_in c.in_ok-assign.behind.now) c.in-Some.ensures c.in_ok-assign.ensures))

pub assigns-preserved : goal.assigns-preserved
assigns-preserved c =
    rw (c.in_ok-push.ensures.items, map-append)
    (loop-grown (assign_step makes_expr c.args.room) (assigns-mean c.args.room) (λ all. all) (map assign_of c.assigns.assigns.items)
    (map kind_in c.assigns.rest.now) (assign_of c.in_ok-assign.assign)
    (map kind_in c.in_ok-assign.behind.now)
    (maybe-on (is AssignWord) (λ _. assign_behind makes_expr c.args.room) (map kind_in c.assigns.rest.now) tt (map kind_in c.in-Some.behind.now)
    (assign_of c.in_ok-assign.assign) (map kind_in c.in_ok-assign.behind.now) c.in-Some.ensures c.in_ok-assign.ensures)
    ∙ c.assigns.invariant)
