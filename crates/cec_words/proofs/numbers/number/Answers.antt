use Rattle.std.proofs.Common.{◌∙◌, length, ap, sym, arith}
use Rattle.std.specs.List.{list_all}
use Rattle.std.proofs.lemmas.Bool.{eqb-false}
use Rattle.std.proofs.lemmas.List.{take_all}
use Rattle.base_types.specs.Names.{is_digit}
use Rattle.cec_words.specs.Numbers.{decimal_value}
use Rattle.cec_words.proofs.DecimalValues.{number-over, number-whole}
use Rattle.cec_words.proofs.numbers.number.Goals as goal

pub returns-in_err-checked_mul : goal.returns-in_err-checked_mul
returns-in_err-checked_mul c =
    let inv = c.loop-byte.invariant in
    c.from_residual.ensures ∙ number-over c.args.bytes.now c.loop-byte.byte-index (omega arith) (omega (arith, c.in_err-checked_mul.ensures))

pub returns-in_err-value : goal.returns-in_err-value
returns-in_err-value c =
    let inv = c.loop-byte.invariant in
    c.from_residual-in_err-value.ensures ∙ number-over c.args.bytes.now c.loop-byte.byte-index (omega arith)
    (omega (arith, c.in_err-value.ensures, c.in_ok-checked_mul.ensures))

pub returns : goal.returns
returns c =
    let inv = c.loop-byte.invariant in
    let bytes = c.args.bytes.now in
    let all = take_all c.loop-byte.byte-index bytes c.loop-byte-test.false in
    let some = eqb-false (length bytes) 0 (sym c.if-is_empty.ensures) in
    number-whole bytes c.loop-byte.value (omega arith) (inv.value ∙ ap decimal_value all) (ap (list_all is_digit) (sym all) ∙ inv.digits) inv.fits
