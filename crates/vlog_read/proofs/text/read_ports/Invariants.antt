use Rattle.std.proofs.Common.{◌≡◌, ◌++◌, length, map}
use Rattle.base_reader.specs.Readings.{mapped, loop}
use Rattle.vlog_read.specs.Lexed.{kind_in}
use Rattle.vlog_read.specs.Reading.{port_step, ports_rule}
use Rattle.vlog_read.proofs.text.read_ports.Given as goal

-- What was read so far, in front of the steps on the rest, is the whole.
abbrev pub invariant-ports : goal.invariant-ports
invariant-ports l =
    mapped (λ others. map (λ w. w.now) l.ports.items ++ others) (loop port_step) (map kind_in l.rest) ≡ ports_rule (map kind_in l.tokens)

abbrev pub decreases-ports : goal.decreases-ports
decreases-ports l = length l.rest
