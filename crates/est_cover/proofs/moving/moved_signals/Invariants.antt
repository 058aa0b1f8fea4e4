use Rattle.std.proofs.Common.{◌≡◌, map, take}
use Rattle.est_cover.specs.Nodes.{signal_moved}
use Rattle.est_cover.proofs.moving.moved_signals.Given as goal

abbrev pub invariant-loop-signal : goal.invariant-loop-signal
invariant-loop-signal l = map (λ s. s.0) l.made.items ≡ map (λ s. signal_moved l.portion s.0) (take l.signal-index l.signals)
