use Rattle.std.proofs.Common.{◌∙◌}
use Rattle.std.proofs.lemmas.Result.{on_ok_weaker}
use Rattle.est_gen.proofs.Written.{written-6}
use Rattle.est_gen.proofs.sources.put_suspend.Goals as goal

pub returns : goal.returns
returns c = on_ok_weaker c.put-2.result (λ last. last ∙ written-6 _ _ _ _ _ _ _ _ _ _ _ _ c.in_ok-put.ensures c.in_ok-put_waited.ensures
    c.in_ok-put_number.ensures c.in_ok-put_number-2.ensures c.in_ok-put_number-3.ensures) c.put-2.ensures
