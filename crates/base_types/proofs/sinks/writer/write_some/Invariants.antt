use Rattle.std.specs.Prelude.{[]}
use Rattle.std.specs.Io.KnownBytes.{Appends}
use Rattle.base_types.proofs.sinks.writer.write_some.Given as goal

-- nothing was taken so far
abbrev pub invariant-loop : goal.invariant-loop
invariant-loop g l = Appends (g.W.Write.contents l.initial.writer) (g.W.Write.contents l.writer) []
