use Rattle.std.proofs.Common.{◌+◌, ◌∷◌, [], ◌++◌, ◌∙◌, sym, ap, append_assoc}
use Rattle.net_state_enc.specs.Recodings.{numbers_from}
use Rattle.net_state_enc.proofs.Drawing.{numbers-more}
use Rattle.net_state_enc.proofs.netlist.push_numbers.Goals as goal

pub loop-k-preserved : goal.loop-k-preserved
loop-k-preserved c =
    let k = c.loop-k.k in
    let from = c.args.from in
    let old = c.args.names.now.items in
    c.in_ok-push.ensures.items ∙ ap (λ ns. ns ++ record { 0 = from + k } ∷ []) c.loop-k.invariant
    ∙ append_assoc old (numbers_from from k) (record { 0 = from + k } ∷ []) ∙ ap (λ ns. old ++ ns) (sym (numbers-more from k))
