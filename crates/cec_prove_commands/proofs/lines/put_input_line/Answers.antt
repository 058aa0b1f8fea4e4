use Rattle.std.proofs.Common.{◌++◌, append_assoc, codes}
use Rattle.base_types.proofs.Exports.{wrote-behind, stops-early}
use Rattle.cec_prove_commands.specs.Lines.{line_begin}
use Rattle.cec_prove_commands.specs.Views.{subject_is}
use Rattle.cec_prove_commands.proofs.lines.put_input_line.Goals as goal

pub returns-in-Err : goal.returns-in-Err
returns-in-Err g c = stops-early _ _ _ _ (line_begin (subject_is c.args.subject) c.args.which) ((c.args.said.now ++ c.args.of.now) ++ codes "\n") c.in-Err.ensures

pub returns : goal.returns
returns g c =
    wrote-behind _ _ _ _ _ _ (line_begin (subject_is c.args.subject) c.args.which) ((c.args.said.now ++ c.args.of.now) ++ codes "\n") c.write_pieces.result
    c.in_default.ensures (rw (append_assoc c.args.said.now c.args.of.now (codes "\n")) c.write_pieces.ensures)
