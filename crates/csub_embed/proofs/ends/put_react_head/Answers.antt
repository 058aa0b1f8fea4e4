use Rattle.std.proofs.Common.{◌++◌, ap, ◌∙◌}
use Rattle.std.specs.Prelude.{codes}
use Rattle.std.proofs.lemmas.Result.{on_ok_weaker}
use Rattle.csub_embed.specs.Written.{linkage_text}
use Rattle.csub_embed.proofs.Appends.{react-pieces}
use Rattle.csub_embed.proofs.ends.put_react_head.Goals as goal

pub returns : goal.returns
returns c =
    let n = c.args.name.now in
    let text = c.args.text.now.items in
    on_ok_weaker c.put_named-3.result
    (λ e. e ∙ ap (λ t. t ++ (codes "_inputs_t *in, " ++ (n ++ codes "_outputs_t *out)")))
    (c.in_ok-put_named-2.ensures ∙ ap (λ t. t ++ (n ++ (codes "_t *self, const " ++ n))) (c.in_ok-put_named.ensures
    ∙ ap (λ t. t ++ (codes "bool " ++ (n ++ codes "_react("))) (c.in_ok-put.ensures ∙ ap (λ l. text ++ l) c.linkage.ensures)))
    ∙ react-pieces text (linkage_text c.args.file) (codes "bool ") n (codes "_react") (codes "(") (codes "_t") (codes " *self, const ")
    (codes "_inputs_t") (codes " *in, ") (codes "_outputs_t") (codes " *out)")) c.put_named-3.ensures
