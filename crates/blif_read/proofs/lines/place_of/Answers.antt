use Rattle.std.proofs.Common.{◌≡◌, ◌==◌, length, get_or, eq-eqb, sym, ◌∙◌, arith}
use Rattle.std.proofs.lemmas.List.Sums.{position_or_len_is}
use Rattle.blif_read.proofs.lines.place_of.Goals as goal

pub returns-then-other-byte : goal.returns-then-other-byte
returns-then-other-byte c = sym (position_or_len_is (λ b. b == c.args.byte) c.args.bytes.now c.loop-at.at 0
    (omega arith) c.loop-at.invariant (λ h. eq-eqb (get_or c.args.bytes.now c.loop-at.at 0) c.args.byte c.if-other-byte.true))

pub returns : goal.returns
returns c =
    let all : length c.args.bytes.now ≡ c.loop-at.at = omega arith in
    all ∙ sym (position_or_len_is (λ b. b == c.args.byte) c.args.bytes.now c.loop-at.at 0 (omega arith) c.loop-at.invariant (λ h. absurd (omega arith)))
