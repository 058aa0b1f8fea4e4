use Rattle.std.proofs.Common.{refl}
use Rattle.net_ir.specs.Runs.{netlist_of}
use Rattle.net_writer.proofs.Exports.{put-counted}
use Rattle.net_expressions.specs.NetNames.{state_name}
use Rattle.vlog_text.specs.Parts.{parts_in}
use Rattle.vlog_text.specs.Trees.{Reg}
use Rattle.vlog_text.specs.Written.{declaration_line, declares}
use Rattle.vlog_text.specs.declared.parts.VerilogSection.TheVariants.{Regs}
use Rattle.vlog_text.proofs.parts.VlogWriterNetText.put_in.Goals as goal

pub returns-in-Regs : goal.returns-in-Regs
returns-in-Regs c =
    let net = netlist_of c.args.net.now in
    put-counted (parts_in net) c.args.section Regs (λ j. declaration_line (declares Reg (state_name j))) net.latches c.args.k _ _ c.put_reg.result
    c.in-Regs.is refl c.requires.within c.put_reg.ensures
