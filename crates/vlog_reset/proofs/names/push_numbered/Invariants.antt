use Rattle.std.proofs.Common.{◌≡◌, ◌++◌, map}
use Rattle.std.specs.Prelude.{decimal}
use Rattle.std.specs.List.{range_with_len}
use Rattle.vlog_reset.proofs.names.push_numbered.Given as goal

-- those so far are pushed
abbrev pub invariant-loop-k : goal.invariant-loop-k
invariant-loop-k l = l.names.items ≡ l.initial.names.items ++ map (λ k. l.mark ++ decimal k) (range_with_len 0 l.k)
