use Rattle.std.proofs.Common.{◌≡◌, ◌+◌, ◌++◌, length, map, take}
use Rattle.est_cover.proofs.programs.push_signals.Given as goal

abbrev pub invariant-loop-signal : goal.invariant-loop-signal
invariant-loop-signal l = record {
  names : map (λ s. s.name) l.all.items ≡ map (λ s. s.name) l.fn.all.items ++ map (λ s. s.name) (take l.signal-index l.signals);
  count : length l.all.items ≡ length l.fn.all.items + l.signal-index;
}
