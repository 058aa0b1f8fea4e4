use Rattle.std.proofs.Common.{◌≡◌, ◌+◌, ◌++◌, length, map, take}
use Rattle.est_expand.proofs.met.push_signals.Given as goal

abbrev pub invariant-loop-name : goal.invariant-loop-name
invariant-loop-name l = record {
  names : map (λ s. s.name) l.signals.items ≡ map (λ s. s.name) l.fn.signals.items ++ map (λ name. name.now) (take l.name-index l.names);
  few : length l.signals.items ≡ length l.fn.signals.items + l.name-index;
}
