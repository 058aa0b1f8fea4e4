use Rattle.std.proofs.Common.{◌++◌, codes}
use Rattle.base_types.proofs.Exports.{stops-behind}
use Rattle.cec_text_io.specs.ErrorLines.{joined_names}
use Rattle.base_types.proofs.Exports.{wrote-behind, stops-early, regroup}
use Rattle.cec_text_io.proofs.loops.put_loop.Goals as goal

pub returns-in-Err : goal.returns-in-Err
returns-in-Err g c =
    rw (regroup c.args.program.now (codes "loop: ") (joined_names c.args.names.now) (codes "\n"))
    (stops-early _ _ _ _ (c.args.program.now ++ codes "loop: ") (joined_names c.args.names.now ++ codes "\n") c.in-Err.ensures)

pub returns-in-Err-put_joined : goal.returns-in-Err-put_joined
returns-in-Err-put_joined g c =
    rw (regroup c.args.program.now (codes "loop: ") (joined_names c.args.names.now) (codes "\n"))
    (stops-behind _ _ _ _ _ _ (c.args.program.now ++ codes "loop: ") (joined_names c.args.names.now) (codes "\n") c.in_default.ensures
    c.in-Err-put_joined.ensures)

pub returns : goal.returns
returns g c =
    let names = joined_names c.args.names.now in
    rw (regroup c.args.program.now (codes "loop: ") names (codes "\n"))
    (wrote-behind _ _ _ _ _ _ (c.args.program.now ++ codes "loop: ") (names ++ codes "\n") c.write_pieces-2.result c.in_default.ensures
    (wrote-behind _ _ _ _ _ _ names (codes "\n") c.write_pieces-2.result c.in_default-put_joined.ensures c.write_pieces-2.ensures))
