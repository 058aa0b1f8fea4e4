use Rattle.std.proofs.Common.{◌+◌, sym, ap, subst}
use Rattle.est_kernel.specs.declared.programs.KernelProgram.{KernelProgram}
use Rattle.grc_formulas.specs.EndLists.{OutputsSaid}
use Rattle.grc_formulas.proofs.EndSteps.{outputs-step}
use Rattle.grc_formulas.proofs.assembly.output_sources.Goals as goal

pub loop-k-preserved : goal.loop-k-preserved
loop-k-preserved c =
    let g = c.args.graph.now in
    let step = outputs-step g c.args.near.now c.loop-k.k (c.program-program.result.now.inputs + c.loop-k.k) c.loop-k.outputs.items c.out.result
    c.wire_source.result
    c.requires.names c.loop-k.invariant (ap (λ (p : KernelProgram). p.inputs + c.loop-k.k) c.program-program.ensures) c.out.ensures c.wire_source.ensures in
    subst (λ xs. OutputsSaid g (c.loop-k.k + 1) xs) (sym c.in_ok-push.ensures.items) step
