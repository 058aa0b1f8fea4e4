use Rattle.std.proofs.Common.{◌+◌, ◌-◌, ◌<◌, ◌∷◌, [], ◌++◌, ◌∙◌, sym, ap, append_assoc, arith}
use Rattle.std.specs.Prelude.{nat_le, if◌then◌else◌}
use Rattle.net_state_enc.specs.Codes.{number_code}
use Rattle.net_state_enc.proofs.NumberCodes.{number-step}
use Rattle.net_state_enc.proofs.codes.+push_number.Goals as goal

pub returns : goal.returns
returns t c =
    let width = c.args.width in
    let number = c.args.number in
    let bit = c.args.bit in
    let old = c.args.literals.now.items in
    let p = c.power_of_two-power.ensures in
    let f = c.from.ensures in
    let low = c.low_bits.ensures in
    let some : 0 < width = omega (arith, c.if-width-eq0.false) in
    let same = (λ i. record { bit = bit; value = nat_le c.power_of_two-power.result c.from.result } ∷ number_code (width - 1) (low i) (bit + 1))
    ∙ (λ i. record { bit = bit; value = nat_le (p i) (f i) } ∷ number_code (width - 1) (if nat_le (p i) (f i) then number - p i else number) (bit + 1)) in
    c.in_ok-push_number.ensures ∙ ap (λ xs. xs ++ number_code (width - 1) c.low_bits.result (bit + 1)) c.in_ok-push.ensures.items
    ∙ append_assoc old (record { bit = bit; value = nat_le c.power_of_two-power.result c.from.result } ∷ []) (number_code (width - 1) c.low_bits.result (bit +
    1))
    ∙ ap (λ l. old ++ l) (same ∙ sym (number-step width number bit some))
