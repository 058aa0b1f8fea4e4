use Rattle.std.proofs.Common.{ℕ, ◌++◌, ◌∷◌, [], map, sym, ap, ◌∙◌, arith, append_assoc}
use Rattle.std.specs.Prelude.{decimal}
use Rattle.std.specs.List.{range_with_len}
use Rattle.std.proofs.lemmas.List.FromFn.{map-range_with_len_more}
use Rattle.vlog_reset.proofs.names.push_numbered.Goals as goal

pub loop-k-preserved : goal.loop-k-preserved
loop-k-preserved c =
    let word = λ (k : ℕ). c.args.mark.now ++ decimal k in
    let old = c.args.names.now.items in
    let k = c.loop-k.k in
    c.in_ok-push.ensures.items ∙ ap (λ l. l ++ c.in_ok-text.text ∷ []) c.loop-k.invariant
    ∙ ap (λ x. (old ++ map word (range_with_len 0 k)) ++ x ∷ []) c.in_ok-text.ensures
    ∙ append_assoc old (map word (range_with_len 0 k)) (word k ∷ [])
    ∙ ap (λ l. old ++ l) (sym (map-range_with_len_more word 0 k k (omega arith)))
