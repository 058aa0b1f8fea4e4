use Rattle.std.proofs.Common.{◌<◌, All}
use Rattle.grc_ternary_schedule.proofs.parts.repeat.Given as goal

abbrev pub invariant-loop-node : goal.invariant-loop-node
invariant-loop-node l = record { low : All (λ n. n < l.nodes) l.schedule.items }

abbrev pub invariant-loop-pass : goal.invariant-loop-pass
invariant-loop-pass l = record { low : All (λ n. n < l.nodes) l.schedule.items }
