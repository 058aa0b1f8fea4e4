use Rattle.std.proofs.Common.{◌≡◌, ◌++◌, drop, map}
use Rattle.net_simp.specs.Renaming.{renamed_latch}
use Rattle.net_pair.specs.Layout.{moved}
use Rattle.net_pair.proofs.moving.push_latches.Given as goal

abbrev pub invariant-loop-latch : goal.invariant-loop-latch
invariant-loop-latch l =
    l.latches.items ++ map (renamed_latch (moved l.shift)) (drop l.latch-index l.own) ≡ l.initial.latches.items ++ map (renamed_latch (moved l.shift)) l.own
