use Rattle.std.proofs.Common.{◌≡◌, length}
use Rattle.est_kernel.specs.Plain.{term_of}
use Rattle.grc_share.specs.LoopCounts.{AreLoopCounts}
use Rattle.grc_share.proofs.loop_counts.loop_bodies.Given as goal

-- the counts of the statements so far
abbrev pub invariant-loop-statement : goal.invariant-loop-statement
invariant-loop-statement l = record {
  each : length l.list.items ≡ l.statement-index;
  counts : AreLoopCounts (term_of l.program.body) l.list.items;
}
