use Rattle.std.proofs.Common.{◌≡◌, length, sym, ◌∙◌, arith}
use Rattle.std.proofs.lemmas.List.Sums.{position_or_len_is}
use Rattle.blif_text.specs.Lines.{is_blank}
use Rattle.blif_read.proofs.words.word_len.Goals as goal

pub returns-then-is_blank-clause-len : goal.returns-then-is_blank-clause-len
returns-then-is_blank-clause-len c =
    sym (position_or_len_is is_blank c.args.line.now c.loop-at.at 0 (omega arith) c.loop-at.invariant (λ h. sym c.if-is_blank.ensures))

pub returns-clause-len : goal.returns-clause-len
returns-clause-len c =
    let all : length c.args.line.now ≡ c.loop-at.at = omega arith in
    all ∙ sym (position_or_len_is is_blank c.args.line.now c.loop-at.at 0 (omega arith) c.loop-at.invariant (λ h. absurd (omega arith)))
