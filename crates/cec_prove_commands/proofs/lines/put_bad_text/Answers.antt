use Rattle.std.proofs.Common.{◌++◌, codes}
use Rattle.base_types.proofs.Exports.{wrote-behind, stops-early}
use Rattle.cec_prove_commands.specs.Lines.{line_begin}
use Rattle.cec_refusals.specs.BlifFaults.{blif_fault_text}
use Rattle.cec_prove_commands.specs.Views.{subject_is}
use Rattle.cec_prove_commands.proofs.lines.put_bad_text.Goals as goal

pub returns-in-Err : goal.returns-in-Err
returns-in-Err g c = stops-early _ _ _ _ (line_begin (subject_is c.args.subject) c.args.which) (blif_fault_text c.args.fault.now ++ codes "\n") c.in-Err.ensures

pub returns : goal.returns
returns g c =
    wrote-behind _ _ _ _ _ _ (line_begin (subject_is c.args.subject) c.args.which) (blif_fault_text c.args.fault.now ++ codes "\n") c.put_blif_fault.result
    c.in_default.ensures c.put_blif_fault.ensures
