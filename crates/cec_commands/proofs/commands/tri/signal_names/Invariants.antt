use Rattle.std.proofs.Common.{◌≡◌, map, take}
use Rattle.cec_commands.proofs.commands.tri.signal_names.Given as goal

-- the names so far
abbrev pub invariant-loop-signal : goal.invariant-loop-signal
invariant-loop-signal l = l.names.items ≡ map (λ s. s.name) (take l.signal-index l.signals)
