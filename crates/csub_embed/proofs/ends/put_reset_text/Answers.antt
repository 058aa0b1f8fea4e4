use Rattle.std.proofs.Common.{◌++◌, ap, ◌∙◌}
use Rattle.std.specs.Prelude.{codes}
use Rattle.std.proofs.lemmas.Result.{on_ok_weaker}
use Rattle.csub_embed.specs.Written.{body_start, reset_head}
use Rattle.csub_embed.proofs.Appends.{three-pieces}
use Rattle.csub_embed.proofs.ends.put_reset_text.Goals as goal

pub returns : goal.returns
returns c =
    let reset = reset_head c.args.file c.args.name.now in
    on_ok_weaker c.put-2.result
    (λ e. e ∙ ap (λ t. t ++ body_start) (c.in_ok-put_reset_head.ensures ∙ ap (λ t. t ++ reset) c.in_ok-put.ensures)
    ∙ three-pieces c.args.text.now.items (codes "\n") reset body_start) c.put-2.ensures
