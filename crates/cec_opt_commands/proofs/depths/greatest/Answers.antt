use Rattle.std.proofs.Common.{rules, ◌≡◌, take, slice_index_or, sym, ap, ◌∙◌}
use Rattle.std.specs.Prelude.{max}
use Rattle.std.proofs.lemmas.List.{take_more}
use Rattle.blif_net.specs.Depths.{greatest}
use Rattle.blif_net.proofs.Exports.{greatest-push}
use Rattle.cec_opt_commands.proofs.depths.greatest.Goals as goal

pub loop-number-preserved : goal.loop-number-preserved
loop-number-preserved c =
    let xs = c.args.numbers.now in
    let i = c.loop-number.number-index in
    let more : c.max-most.result ≡ max c.loop-number.most (slice_index_or xs i 0) = search rules in
    more ∙ ap (λ m. max m (slice_index_or xs i 0)) c.loop-number.invariant ∙ sym (greatest-push (take i xs) (slice_index_or xs i 0))
    ∙ ap greatest (sym (take_more xs i 0 c.loop-number-test.true))
