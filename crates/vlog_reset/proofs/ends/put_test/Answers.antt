use Rattle.std.proofs.Common.{◌++◌, ap, ◌∙◌}
use Rattle.std.specs.Prelude.{codes}
use Rattle.std.proofs.lemmas.Result.{on_ok_weaker}
use Rattle.vlog_reset.proofs.Appends.{test-pieces}
use Rattle.vlog_reset.proofs.ends.put_test.Goals as goal

pub returns : goal.returns
returns c =
    let reset = c.args.reset.now in
    on_ok_weaker c.put-2.result
    (λ e. e ∙ ap (λ t. t ++ codes ") begin\n") (c.in_ok-put.ensures ∙ ap (λ t. t ++ reset) c.in_ok-put_either.ensures)
    ∙ test-pieces c.args.manner.is_active_low c.args.text.now.items reset) c.put-2.ensures
