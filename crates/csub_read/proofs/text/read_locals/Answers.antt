use Rattle.std.proofs.Common.{◌∙◌, map}
use Rattle.csub_text.specs.Tokens.{Int}
use Rattle.csub_text.specs.Grammar.{is}
use Rattle.base_reader.proofs.Exports.{loop-started, loop-grown}
use Rattle.csub_read.specs.Reading.{local_behind, local_step}
use Rattle.csub_read.specs.Tokens.{kind_in}
use Rattle.net_expressions.proofs.Exports.{shorter, maybe-on}
use Rattle.csub_read.proofs.TextLaws.{local-advances}
use Rattle.csub_read.proofs.text.read_locals.Goals as goal

pub locals-init : goal.locals-init
locals-init c = rw (c.nothing_read-locals.ensures.left, c.nothing_read-locals.ensures.read) (loop-started local_step (map kind_in c.args.tokens.now))

pub locals-smaller : goal.locals-smaller
locals-smaller c =
    shorter kind_in c.in_ok-name.behind.now c.locals.rest.now
    (local-advances (map kind_in c.locals.rest.now) c.in_ok-name.name (map kind_in c.in_ok-name.behind.now)
    (maybe-on (is Int) (λ _. local_behind) (map kind_in c.locals.rest.now) tt (map kind_in c.in-Some.behind.now) c.in_ok-name.name
    (map kind_in c.in_ok-name.behind.now) c.in-Some.ensures c.in_ok-name.ensures))

pub locals-preserved : goal.locals-preserved
locals-preserved c =
    rw c.in_ok-push.ensures.items
    (loop-grown local_step local-advances (λ all. all) c.locals.locals.items (map kind_in c.locals.rest.now) c.in_ok-name.name
    (map kind_in c.in_ok-name.behind.now)
    (maybe-on (is Int) (λ _. local_behind) (map kind_in c.locals.rest.now) tt (map kind_in c.in-Some.behind.now) c.in_ok-name.name
    (map kind_in c.in_ok-name.behind.now) c.in-Some.ensures c.in_ok-name.ensures)
    ∙ c.locals.invariant)
