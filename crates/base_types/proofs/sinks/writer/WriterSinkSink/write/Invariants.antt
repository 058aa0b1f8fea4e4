use Rattle.std.proofs.Common.{◌≡◌, length}
use Rattle.base_types.proofs.Contents.{HeldSoFar}
use Rattle.base_types.proofs.sinks.writer.WriterSinkSink.write.Given as goal

-- no fault was counted so far, and the writer holds what was taken of the piece
abbrev pub invariant-loop-rest : goal.invariant-loop-rest
invariant-loop-rest g l =
    (l.self-inside.faults ≡ l.initial.self-inside.faults)
    × HeldSoFar (g.W.Write.contents l.initial.self-inside.writer) (g.W.Write.contents l.self-inside.writer) l.initial.rest l.rest

abbrev pub decreases-loop-rest : goal.decreases-loop-rest
decreases-loop-rest g l = length l.rest
