use Rattle.std.proofs.Common.{ap, subst, sym, ◌∙◌}
use Rattle.est_kernel.specs.Plain.{program_of}
use Rattle.net_ir.specs.Runs.{netlist_of}
use Rattle.cec_compile.specs.NetMeaning.{NetKeeps}
use Rattle.cec_prove_sources.proofs.Exports.{replaced-keeps}
use Rattle.cec_prove_covers.specs.Stages.{IsCoveredProgram}
use Rattle.cec_prove_covers.proofs.nets.optimized.Goals as goal

pub returns : goal.returns
returns c = λ flat p made covered.
    let given = c.program_and_net-given in
    let program = ap program_of given.ensures.program ∙ made.program in
    let net = ap netlist_of given.ensures.net in
    record {
      program = subst (IsCoveredProgram flat) (sym program) covered;
      keeps = subst (NetKeeps (netlist_of c.in_ok-net.net)) (sym program)
          (replaced-keeps _ (netlist_of c.in_ok-net.net) p made.formed (subst (λ n. NetKeeps n p) (sym net) made.keeps)
          c.in_ok-net.ensures.optimizes);
    }
