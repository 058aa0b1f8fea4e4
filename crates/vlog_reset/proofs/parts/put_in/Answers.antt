use Rattle.std.proofs.Common.{refl}
use Rattle.net_ir.specs.Runs.{netlist_of}
use Rattle.net_writer.proofs.Exports.{put-counted}
use Rattle.vlog_reset.specs.Parts.{parts_in}
use Rattle.vlog_reset.specs.Views.{options_of}
use Rattle.vlog_reset.specs.Written.{gate_word, reg_line, state_word, wire_declaration}
use Rattle.vlog_reset.specs.declared.parts.ResetSection.TheVariants.{Registers, Wires}
use Rattle.vlog_reset.proofs.parts.put_in.Goals as goal

pub returns-in-Registers : goal.returns-in-Registers
returns-in-Registers c =
    let net = netlist_of c.args.net.now in
    put-counted (parts_in (options_of c.args.options) net) c.args.section Registers (λ j. reg_line (state_word j)) net.latches c.args.k _ _ c.put_reg.result
    c.in-Registers.is refl c.requires c.put_reg.ensures

pub returns-in-Wires : goal.returns-in-Wires
returns-in-Wires c =
    let net = netlist_of c.args.net.now in
    put-counted (parts_in (options_of c.args.options) net) c.args.section Wires (λ k. wire_declaration (gate_word k)) net.gates c.args.k _ _ c.put_wire.result
    c.in-Wires.is refl c.requires c.put_wire.ensures
