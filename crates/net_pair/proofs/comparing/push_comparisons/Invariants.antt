use Rattle.std.proofs.Common.{◌≡◌, ◌+◌, ◌*◌, ◌++◌, drop}
use Rattle.net_pair.specs.Layout.{comparisons}
use Rattle.net_pair.proofs.comparing.push_comparisons.Given as goal

abbrev pub invariant-loop-k : goal.invariant-loop-k
invariant-loop-k l =
    l.gates.items ++ comparisons (l.last + 5 * l.k) (drop l.k l.pairs) ≡ l.initial.gates.items ++ comparisons l.last l.pairs
