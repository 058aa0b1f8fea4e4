use Rattle.std.proofs.Common.{◌≡◌, map, take}
use Rattle.run_over_traces.proofs.texts.output_names.Given as goal

-- the names so far
abbrev pub invariant-loop-output : goal.invariant-loop-output
invariant-loop-output l = l.names.items ≡ map (λ o. o.name) (take l.output-index l.outputs)
