use Rattle.std.proofs.Common.{◌≡◌, ◌++◌, drop, false}
use Rattle.run_trace_io.specs.Lines.{shown}
use Rattle.run_trace_io.proofs.lines.put_names.Given as goal

-- what is written, and what is still to write, are the whole
abbrev pub invariant-loop-k : goal.invariant-loop-k
invariant-loop-k l =
    l.text.items ++ shown l.any (drop l.k l.names) (drop l.k l.present) ≡ l.fn.text.items ++ shown false l.names l.present
