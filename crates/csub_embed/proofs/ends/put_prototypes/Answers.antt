use Rattle.std.proofs.Common.{◌++◌, ap, ◌∙◌}
use Rattle.std.specs.Prelude.{codes}
use Rattle.std.proofs.lemmas.Result.{on_ok_weaker}
use Rattle.csub_embed.specs.Written.{line_end, react_head, reset_head}
use Rattle.csub_embed.specs.declared.layout.EmbedFile.TheVariants.{Declarations}
use Rattle.csub_embed.proofs.Appends.{five-pieces}
use Rattle.csub_embed.proofs.ends.put_prototypes.Goals as goal

pub returns : goal.returns
returns c =
    let reset = reset_head Declarations c.args.name.now in
    let react = react_head Declarations c.args.name.now in
    on_ok_weaker c.put-3.result
    (λ e. e ∙ ap (λ t. t ++ line_end) (c.in_ok-put_react_head.ensures ∙ ap (λ t. t ++ react) (c.in_ok-put-2.ensures
    ∙ ap (λ t. t ++ line_end) (c.in_ok-put_reset_head.ensures ∙ ap (λ t. t ++ reset) c.in_ok-put.ensures)))
    ∙ five-pieces c.args.text.now.items (codes "\n") reset line_end react line_end) c.put-3.ensures
