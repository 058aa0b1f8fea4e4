use Rattle.std.specs.Prelude.{option_map, Some}
use Rattle.base_types.specs.SinkChanges.{change}
use Rattle.base_types.proofs.Exports.{appends-nothing}
use Rattle.net_ir.specs.Runs.{netlist_of}
use Rattle.cec_text_io.specs.NetWriting.{IsWrittenIn}
use Rattle.cec_text_io.proofs.Exports.{pieces_as}
use Rattle.cec_compile.specs.MadeNets.{IsWrittenOf}
use Rattle.cec_compile.proofs.NetTexts.{made_source}
use Rattle.cec_compile.proofs.source_texts.write_source_text.Goals as goal

pub returns-in-Ok-clause-compiles : goal.returns-in-Ok-clause-compiles
returns-in-Ok-clause-compiles g c =
    let main = option_map (λ m. m.now) c.args.main in
    made_source c.args.form c.args.source.now main c.in-Ok.made c.requires c.in-Ok.ensures.made

pub returns-in-Ok-clause-out : goal.returns-in-Ok-clause-out
returns-in-Ok-clause-out g c =
    let main = option_map (λ m. m.now) c.args.main in
    let made = c.in-Ok.made in
    let s = change g.O.Sink.told g.O.Sink.faults c.args.out.now c.write_net_in_pieces.new.out in
    pieces_as (λ text. IsWrittenIn g.T.NetText.written g.T.NetText.means text (netlist_of made.net))
    (IsWrittenOf c.args.form (IsWrittenIn g.T.NetText.written g.T.NetText.means) c.args.source.now main) s (Some c.write_net_in_pieces.result)
    (λ text writes. record { made = made; is_made = c.in-Ok.ensures.made; written = writes }) c.write_net_in_pieces.ensures

pub returns-in-Err-clause-out : goal.returns-in-Err-clause-out
returns-in-Err-clause-out g c = appends-nothing (g.O.Sink.told c.args.out.now) (g.O.Sink.faults c.args.out.now)
