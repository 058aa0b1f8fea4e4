use Rattle.std.proofs.Common.{◌+◌, ◌-◌, ◌++◌, ◌∙◌, ap, sym, arith}
use Rattle.est_gen.specs.Sources.{names_from}
use Rattle.est_gen.proofs.Written.{written-3, names_from-more}
use Rattle.est_gen.proofs.sources.put_names.Goals as goal

pub loop-number-preserved : goal.loop-number-preserved
loop-number-preserved c =
    let n = c.loop-number.number in
    written-3 _ _ _ (names_from c.args.mark.now (n + 1) (c.args.count - (n + 1))) _ _ c.in_ok-put_between.ensures c.in_ok-put_number.ensures
    ∙ ap (λ x. c.loop-number.text.items ++ x) (sym (names_from-more c.args.mark.now n c.args.count (omega arith))) ∙ c.loop-number.invariant
