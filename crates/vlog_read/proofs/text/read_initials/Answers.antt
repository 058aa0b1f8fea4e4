use Rattle.std.proofs.Common.{◌∙◌, map}
use Rattle.std.proofs.lemmas.List.{map-append}
use Rattle.net_expressions.proofs.Exports.{shorter, maybe-on}
use Rattle.vlog_text.specs.Tokens.{InitialWord}
use Rattle.vlog_text.specs.Grammar.{is}
use Rattle.vlog_read.specs.Reading.{initial_behind, initial_step}
use Rattle.vlog_read.proofs.TextLaws.{initial-advances}
use Rattle.base_reader.proofs.Exports.{loop-started, loop-grown}
use Rattle.vlog_read.specs.Sources.{initial_of}
use Rattle.vlog_read.specs.Lexed.{kind_in}
use Rattle.vlog_read.proofs.text.read_initials.Goals as goal

pub initials-init : goal.initials-init
initials-init c = rw (c.nothing_read-initials.ensures.left, c.nothing_read-initials.ensures.read) (loop-started initial_step (map kind_in c.args.tokens.now))

pub initials-smaller : goal.initials-smaller
initials-smaller c =
    shorter kind_in c.in_ok-initial.behind.now c.initials.rest.now
    (initial-advances (map kind_in c.initials.rest.now) (initial_of c.in_ok-initial.initial) (map kind_in c.in_ok-initial.behind.now)
    (maybe-on (is InitialWord) (λ _. initial_behind) (map kind_in c.initials.rest.now) tt (map kind_in c.in-Some.behind.now)
    (initial_of c.in_ok-initial.initial) (map kind_in c.in_ok-initial.behind.now) c.in-Some.ensures c.in_ok-initial.ensures))

pub initials-preserved : goal.initials-preserved
initials-preserved c =
    rw (c.in_ok-push.ensures.items, map-append)
    (loop-grown initial_step initial-advances (λ all. all) (map initial_of c.initials.initials.items) (map kind_in c.initials.rest.now)
    (initial_of c.in_ok-initial.initial)
    (map kind_in c.in_ok-initial.behind.now)
    (maybe-on (is InitialWord) (λ _. initial_behind) (map kind_in c.initials.rest.now) tt (map kind_in c.in-Some.behind.now)
    (initial_of c.in_ok-initial.initial) (map kind_in c.in_ok-initial.behind.now) c.in-Some.ensures c.in_ok-initial.ensures)
    ∙ c.initials.invariant)
