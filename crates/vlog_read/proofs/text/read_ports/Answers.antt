use Rattle.std.proofs.Common.{◌∷◌, ◌∙◌, map}
use Rattle.std.proofs.Common.{ℕ, List, Bor}
use Rattle.std.proofs.lemmas.List.{map-append}
use Rattle.net_expressions.proofs.Exports.{shorter}
use Rattle.base_reader.specs.Readings.{give, the}
use Rattle.base_reader.proofs.Exports.{loop-begun, optional_or-some, loop-grown}
use Rattle.vlog_text.specs.Tokens.{Comma}
use Rattle.vlog_text.specs.Grammar.{is, name}
use Rattle.vlog_read.specs.Lexed.{kind_in}
use Rattle.vlog_read.specs.Reading.{port_step}
use Rattle.vlog_read.proofs.TextLaws.{port-advances}
use Rattle.vlog_read.proofs.text.read_ports.Goals as goal

pub ports-init : goal.ports-init
ports-init c =
    rw (c.in_ok-push.ensures.items, c.new-ports.ensures.items)
    (loop-begun (the name) port_step (λ value others. value ∷ others) (map kind_in c.args.tokens.now) c.in_ok-first.first.now
    (map kind_in c.in_ok-first.rest.now) c.in_ok-first.ensures)

pub ports-smaller : goal.ports-smaller
ports-smaller c =
    shorter kind_in c.in_ok-port.behind.now c.ports.rest.now
    (port-advances (map kind_in c.ports.rest.now) c.in_ok-port.port.now (map kind_in c.in_ok-port.behind.now)
    (optional_or-some (is Comma) (λ _. the name) (give tt) (map kind_in c.ports.rest.now) tt (map kind_in c.in-Some.behind.now) c.in_ok-port.port.now
    (map kind_in c.in_ok-port.behind.now) c.in-Some.ensures c.in_ok-port.ensures))

pub ports-preserved : goal.ports-preserved
ports-preserved c =
    rw (c.in_ok-push-2.ensures.items, map-append)
    (loop-grown port_step port-advances (λ all. all) (map (λ (w : Bor (List ℕ)). w.now) c.ports.ports.items) (map kind_in c.ports.rest.now)
    c.in_ok-port.port.now (map kind_in c.in_ok-port.behind.now)
    (optional_or-some (is Comma) (λ _. the name) (give tt) (map kind_in c.ports.rest.now) tt (map kind_in c.in-Some.behind.now) c.in_ok-port.port.now
    (map kind_in c.in_ok-port.behind.now) c.in-Some.ensures c.in_ok-port.ensures)
    ∙ c.ports.invariant)
