use Rattle.std.proofs.Common.{map, take}
use Rattle.csub_guard.specs.Views.{piece_of}
use Rattle.csub_guard_run.specs.Plans.{IsBody}
use Rattle.csub_guard_run.proofs.plan.body_of.Given as goal

abbrev pub invariant-loop-piece : goal.invariant-loop-piece
invariant-loop-piece l = IsBody (map (λ k. k.now) l.slots.keys) (map piece_of (take l.piece-index l.pieces)) l.body
