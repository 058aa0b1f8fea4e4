use Rattle.std.proofs.Common.{arith}
use Rattle.net_ir.specs.Runs.{netlist_of}
use Rattle.csub_text.specs.Parts.{net_parts}
use Rattle.csub_guard_blocks.proofs.BlockTexts.{gate-part}
use Rattle.csub_guard_blocks.proofs.blocks.put_gate.Goals as goal

pub returns : goal.returns
unfolding net_parts
returns c g =
    gate-part (netlist_of c.args.net.now) c.args.k _ g _ _ _ c.requires (omega (arith, c.gates_begin.ensures.number)) c.in_ok-put_part.ensures.puts
