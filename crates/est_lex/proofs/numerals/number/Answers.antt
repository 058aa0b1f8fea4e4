use Rattle.std.proofs.Common.{◌+◌, ap, ◌∙◌, arith}
use Rattle.std.proofs.lemmas.List.{take_all}
use Rattle.est_ast.specs.Lexing.{number_of}
use Rattle.est_lex.proofs.Numbers.{front_le, number_more}
use Rattle.est_lex.proofs.numerals.number.Goals as goal

pub returns-in_err-checked_mul : goal.returns-in_err-checked_mul
returns-in_err-checked_mul c =
    let more = number_more c.args.digits.now c.loop-digit.digit-index c.loop-digit-test.true in
    let whole = front_le c.args.digits.now (c.loop-digit.digit-index + 1) in
    rw c.from_residual.ensures (λ fits. c.in_err-checked_mul.ensures (omega arith))

pub returns-in_err-value : goal.returns-in_err-value
returns-in_err-value c =
    let more = number_more c.args.digits.now c.loop-digit.digit-index c.loop-digit-test.true in
    let whole = front_le c.args.digits.now (c.loop-digit.digit-index + 1) in
    rw c.from_residual-in_err-value.ensures (λ fits. c.in_err-value.ensures (omega (arith, c.in_ok-checked_mul.ensures, c.from.ensures)))

pub returns : goal.returns
returns c =
    let whole = c.loop-digit.invariant.so_far ∙ ap number_of (take_all c.loop-digit.digit-index c.args.digits.now c.loop-digit-test.false) in
    (omega arith, whole)
