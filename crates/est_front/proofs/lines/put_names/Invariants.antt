use Rattle.std.proofs.Common.{take, ◌++◌, codes}
use Rattle.std.specs.List.{flat_map}
use Rattle.base_types.specs.Writing.{Appends}
use Rattle.est_front.proofs.lines.put_names.Given as goal

-- the names so far were appended
abbrev pub invariant-loop-name : goal.invariant-loop-name
invariant-loop-name g l = Appends (g.E.Sink.told l.initial.err) (g.E.Sink.told l.err) (g.E.Sink.faults l.initial.err) (g.E.Sink.faults l.err)
    (flat_map (λ name. codes " " ++ name) (take l.name-index l.names))
