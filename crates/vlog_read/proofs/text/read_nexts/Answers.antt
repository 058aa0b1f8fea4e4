use Rattle.std.proofs.Common.{◌∙◌, map}
use Rattle.std.proofs.lemmas.List.{map-append}
use Rattle.net_expressions.proofs.Exports.{shorter, maybe-made}
use Rattle.vlog_text.specs.Grammar.{name}
use Rattle.vlog_read.specs.Reading.{next_behind, next_step}
use Rattle.vlog_read.proofs.TextLaws.{next_as, next-advances}
use Rattle.base_reader.proofs.Exports.{loop-started, loop-grown}
use Rattle.vlog_read.specs.Sources.{next_of}
use Rattle.vlog_read.specs.Lexed.{kind_in}
use Rattle.vlog_read.proofs.text.read_nexts.Goals as goal

pub nexts-init : goal.nexts-init
nexts-init c = rw (c.nothing_read-nexts.ensures.left, c.nothing_read-nexts.ensures.read) (loop-started next_step (map kind_in c.args.tokens.now))

pub nexts-smaller : goal.nexts-smaller
nexts-smaller c =
    shorter kind_in c.in_ok-next.behind.now c.nexts.rest.now
    (next-advances (map kind_in c.nexts.rest.now) (next_of c.in_ok-next.next) (map kind_in c.in_ok-next.behind.now)
    (maybe-made name next_as next_behind (map kind_in c.nexts.rest.now) c.in-Some.target.now (map kind_in c.in-Some.behind.now) (next_of c.in_ok-next.next)
    (map kind_in c.in_ok-next.behind.now) c.in-Some.ensures c.in_ok-next.ensures))

pub nexts-preserved : goal.nexts-preserved
nexts-preserved c =
    rw (c.in_ok-push.ensures.items, map-append)
    (loop-grown next_step next-advances (λ all. all) (map next_of c.nexts.nexts.items) (map kind_in c.nexts.rest.now) (next_of c.in_ok-next.next)
    (map kind_in c.in_ok-next.behind.now)
    (maybe-made name next_as next_behind (map kind_in c.nexts.rest.now) c.in-Some.target.now (map kind_in c.in-Some.behind.now) (next_of c.in_ok-next.next)
    (map kind_in c.in_ok-next.behind.now) c.in-Some.ensures c.in_ok-next.ensures)
    ∙ c.nexts.invariant)
