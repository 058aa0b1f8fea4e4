use Rattle.std.proofs.Common.{arith, ◌∙◌}
use Rattle.net_ir.specs.Runs.{netlist_of}
use Rattle.csub_guard_blocks.proofs.BlockTexts.{count-before}
use Rattle.csub_guard_blocks.proofs.blocks.gates_begin.Goals as goal

pub returns-clause-number : goal.returns-clause-number
returns-clause-number c =
    let net = c.args.net.now in
    omega (
      arith,
      c.len-latches.ensures ∙ net.latches.ok.0,
      c.len-inputs.ensures ∙ net.inputs.ok.0,
      c.len.ensures ∙ net.outputs.ok.0,
      c.len-2.ensures ∙ net.gates.ok.0,
      count-before (netlist_of net),
    )
