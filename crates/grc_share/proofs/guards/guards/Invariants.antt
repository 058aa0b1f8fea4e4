use Rattle.std.proofs.Common.{◌≡◌, length}
use Rattle.est_kernel.specs.Plain.{program_of}
use Rattle.grc_share.specs.Renamings.{AreGuards}
use Rattle.grc_share.proofs.guards.guards.Given as goal

-- those of the statements so far
abbrev pub invariant-loop-statement : goal.invariant-loop-statement
invariant-loop-statement l = record {
  each : length l.list.items ≡ l.statement-index;
  guards : AreGuards (program_of l.program) l.list.items;
}
