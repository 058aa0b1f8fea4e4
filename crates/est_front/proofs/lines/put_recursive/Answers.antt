use Rattle.std.proofs.Common.{◌++◌, codes, flat_map}
use Rattle.base_types.proofs.Exports.{stops-behind}
use Rattle.base_types.proofs.Exports.{wrote-behind, stops-early}
use Rattle.est_front.proofs.Written.{line_parts}
use Rattle.est_front.proofs.lines.put_recursive.Goals as goal

pub returns-in-Err : goal.returns-in-Err
returns-in-Err g c =
    rw (line_parts c.args.source.now c.args.place (codes "recursive run") (flat_map (λ name. codes " " ++ name) c.args.names.now) (codes "\n"))
    (stops-early _ _ _ _ _ _ c.in-Err.ensures)

pub returns-in-Err-put_names : goal.returns-in-Err-put_names
returns-in-Err-put_names g c =
    rw (line_parts c.args.source.now c.args.place (codes "recursive run") (flat_map (λ name. codes " " ++ name) c.args.names.now) (codes "\n"))
    (stops-behind _ _ _ _ _ _ _ _ _ c.in_default.ensures c.in-Err-put_names.ensures)

pub returns : goal.returns
returns g c =
    rw (line_parts c.args.source.now c.args.place (codes "recursive run") (flat_map (λ name. codes " " ++ name) c.args.names.now) (codes "\n"))
    (wrote-behind _ _ _ _ _ _ _ _ _ c.in_default.ensures (wrote-behind _ _ _ _ _ _ _ _ _ c.in_default-put_names.ensures c.write_pieces.ensures))
