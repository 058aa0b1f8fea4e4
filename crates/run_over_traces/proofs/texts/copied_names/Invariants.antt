use Rattle.std.proofs.Common.{◌≡◌, take}
use Rattle.run_over_traces.proofs.texts.copied_names.Given as goal

-- the names so far
abbrev pub invariant-loop-name : goal.invariant-loop-name
invariant-loop-name l = l.copied.items ≡ take l.name-index l.names
