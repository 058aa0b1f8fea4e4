use Rattle.std.proofs.Common.{sym, subst}
use Rattle.grc_ternary_run.specs.Chains.{ChainsSoFar}
use Rattle.grc_ternary_run.proofs.ChainSteps.{no-chains}
use Rattle.grc_ternary_run.proofs.chains.make_chains.Goals as goal

pub loop-wire-init : goal.loop-wire-init
loop-wire-init c =
    subst (λ chains. ChainsSoFar c.args.graph.now c.args.words.now c.args.table.now.items chains 0) (sym c.in_ok-chains.ensures.items)
    (no-chains c.args.graph.now c.args.words.now c.args.table.now.items c.requires.begun)
