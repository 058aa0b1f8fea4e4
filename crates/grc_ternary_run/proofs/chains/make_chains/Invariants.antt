use Rattle.grc_ternary_run.specs.Chains.{ChainsSoFar}
use Rattle.grc_ternary_run.proofs.chains.make_chains.Given as goal

abbrev pub invariant-loop-wire : goal.invariant-loop-wire
invariant-loop-wire l = ChainsSoFar l.graph l.words l.table.items l.chains.items l.wire
