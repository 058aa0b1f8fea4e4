use Rattle.std.proofs.Common.{sym, subst, ◌∙◌}
use Rattle.std.proofs.lemmas.Result.{IfOk-weaker}
use Rattle.net_ir.specs.Netlists.{Netlist}
use Rattle.blif_text.specs.Plain.{plain_circuit}
use Rattle.blif_text.proofs.Exports.{described-sound}
use Rattle.blif_run.proofs.Exports.{names-are}
use Rattle.blif_net.specs.Conversions.{IsNetOf}
use Rattle.blif_net.proofs.Netlists.{net-is}
use Rattle.blif_net.proofs.conversion.made_net.Goals as goal

pub assembled_net-requires-clause-slots : goal.assembled_net-requires-clause-slots
assembled_net-requires-clause-slots c = c.requires.resolved.keys_are ∙ names-are (plain_circuit c.args.blif.now)

pub returns : goal.returns
returns c =
    let circuit = plain_circuit c.args.blif.now in
    let sound = described-sound c.requires.described.0 circuit c.requires.described.1 in
    let drawing = c.in_ok-drawing.drawing in
    IfOk-weaker c.assembled_net.result _ _ (λ net a. subst (λ (net : Netlist). IsNetOf circuit net) (sym a.net_is)
    (net-is circuit sound c.requires.fits c.args.order.now c.requires.order drawing.gates.items drawing.nets.items
    c.in_ok-drawing.ensures.settles c.in_ok-drawing.ensures.count c.in_ok-drawing.ensures.deep
    a.named a.are_named)) c.assembled_net.ensures
