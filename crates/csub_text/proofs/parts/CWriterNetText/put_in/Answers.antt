use Rattle.std.proofs.Common.{refl}
use Rattle.net_ir.specs.Runs.{netlist_of}
use Rattle.net_writer.proofs.Exports.{put-counted}
use Rattle.csub_text.specs.Parts.{parts_in}
use Rattle.csub_text.specs.Written.{declaration, input_name, next_name}
use Rattle.csub_text.specs.declared.parts.CSection.TheVariants.{InputLocals, NextLocals}
use Rattle.csub_text.proofs.parts.CWriterNetText.put_in.Goals as goal

pub returns-in-InputLocals : goal.returns-in-InputLocals
returns-in-InputLocals c =
    let net = netlist_of c.args.net.now in
    put-counted (parts_in net) c.args.section InputLocals (λ j. declaration (input_name j)) net.inputs c.args.k _ _ c.put_input_local.result
    c.in-InputLocals.is refl c.requires.within c.put_input_local.ensures

pub returns-in-NextLocals : goal.returns-in-NextLocals
returns-in-NextLocals c =
    let net = netlist_of c.args.net.now in
    put-counted (parts_in net) c.args.section NextLocals (λ j. declaration (next_name j)) net.latches c.args.k _ _ c.put_next_local.result
    c.in-NextLocals.is refl c.requires.within c.put_next_local.ensures
