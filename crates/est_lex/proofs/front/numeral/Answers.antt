use Rattle.std.proofs.Common.{refl, arith}
use Rattle.est_ast.proofs.Exports.{number_front, big_front}
use Rattle.est_lex.proofs.front.numeral.Goals as goal

pub returns-in-Some-clause-ok : goal.returns-in-Some-clause-ok
returns-in-Some-clause-ok c =
    let told = c.in-Some.ensures in
    rw told.1 (number_front _ _ c.requires.some c.requires.digit c.digits_len-width.ensures told.0)

pub returns-in-None-clause-err : goal.returns-in-None-clause-err
returns-in-None-clause-err c =
    let told = c.in-None.ensures in
    (big_front _ _ c.requires.some c.requires.digit c.digits_len-width.ensures (omega (arith, told)), refl)
