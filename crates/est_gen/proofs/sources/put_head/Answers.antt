use Rattle.std.proofs.Common.{◌∙◌}
use Rattle.std.proofs.lemmas.Result.{on_ok_weaker}
use Rattle.est_gen.proofs.Written.{written-7}
use Rattle.est_gen.proofs.sources.put_head.Goals as goal

pub returns : goal.returns
returns c = on_ok_weaker c.put-4.result (λ last. last ∙ written-7 _ _ _ _ _ _ _ _ _ _ _ _ _ _ c.in_ok-put.ensures c.in_ok-put_names.ensures
    c.in_ok-put-2.ensures c.in_ok-put_names-2.ensures c.in_ok-put-3.ensures c.in_ok-put_names-3.ensures) c.put-4.ensures
