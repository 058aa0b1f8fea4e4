use Rattle.std.proofs.Common.{◌++◌, ap, ◌∙◌}
use Rattle.std.specs.Prelude.{codes}
use Rattle.std.proofs.lemmas.Result.{on_ok_weaker}
use Rattle.csub_embed.specs.Written.{linkage_text}
use Rattle.csub_embed.proofs.Appends.{reset-pieces}
use Rattle.csub_embed.proofs.ends.put_reset_head.Goals as goal

pub returns : goal.returns
returns c =
    let n = c.args.name.now in
    let text = c.args.text.now.items in
    on_ok_weaker c.put_named-2.result
    (λ e. e ∙ ap (λ t. t ++ (n ++ codes "_t *self)")) (c.in_ok-put_named.ensures ∙ ap (λ t. t ++ (codes "void " ++ (n ++ codes "_reset(")))
    (c.in_ok-put.ensures ∙ ap (λ l. text ++ l) c.linkage.ensures))
    ∙ reset-pieces text (linkage_text c.args.file) (codes "void ") n (codes "_reset") (codes "(") (codes "_t") (codes " *self)")) c.put_named-2.ensures
