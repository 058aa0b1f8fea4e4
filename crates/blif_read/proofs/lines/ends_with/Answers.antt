use Rattle.std.proofs.Common.{◌≢◌, length, sym, arith}
use Rattle.std.proofs.lemmas.Bool.{eqb-false}
use Rattle.blif_read.proofs.FirstLines.{ends_with-last}
use Rattle.blif_read.proofs.lines.ends_with.Goals as goal

pub returns-then-not-is_empty : goal.returns-then-not-is_empty
returns-then-not-is_empty c =
    let some : length c.args.line.now ≢ 0 = eqb-false (length c.args.line.now) 0 (sym c.if-not-is_empty.ensures) in
    sym (ends_with-last c.args.byte c.args.line.now (omega arith))
