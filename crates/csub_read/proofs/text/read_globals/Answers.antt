use Rattle.std.proofs.Common.{None, ◌∙◌, map}
use Rattle.csub_text.specs.Tokens.{Int, React}
use Rattle.csub_text.specs.Grammar.{is}
use Rattle.base_reader.specs.Readings.{mapped, the}
use Rattle.base_reader.proofs.Exports.{loop-started, loop-grown}
use Rattle.csub_read.specs.Reading.{global_behind, global_step}
use Rattle.csub_read.specs.Tokens.{kind_in}
use Rattle.net_expressions.proofs.Exports.{shorter, on-apart}
use Rattle.csub_read.proofs.TextLaws.{global-advances}
use Rattle.csub_read.proofs.text.read_globals.Goals as goal

pub globals-init : goal.globals-init
globals-init c = rw (c.nothing_read-globals.ensures.left, c.nothing_read-globals.ensures.read) (loop-started global_step (map kind_in c.args.tokens.now))

pub globals-smaller : goal.globals-smaller
globals-smaller c =
    shorter kind_in c.in_ok-name.behind.now c.globals.rest.now
    (global-advances (map kind_in c.globals.rest.now) c.in_ok-name.name (map kind_in c.in_ok-name.behind.now)
    (on-apart (is Int) (is React) (mapped (λ _. None) (the (is React))) global_behind (map kind_in c.globals.rest.now) tt
    (map kind_in c.in-Some.behind.now) c.in_ok-name.name
    (map kind_in c.in_ok-name.behind.now) c.in-Some.ensures c.in_default-past.ensures c.in_ok-name.ensures))

pub globals-preserved : goal.globals-preserved
globals-preserved c =
    rw c.in_ok-push.ensures.items
    (loop-grown global_step global-advances (λ all. all) c.globals.globals.items (map kind_in c.globals.rest.now) c.in_ok-name.name
    (map kind_in c.in_ok-name.behind.now)
    (on-apart (is Int) (is React) (mapped (λ _. None) (the (is React))) global_behind (map kind_in c.globals.rest.now) tt
    (map kind_in c.in-Some.behind.now) c.in_ok-name.name
    (map kind_in c.in_ok-name.behind.now) c.in-Some.ensures c.in_default-past.ensures c.in_ok-name.ensures)
    ∙ c.globals.invariant)
