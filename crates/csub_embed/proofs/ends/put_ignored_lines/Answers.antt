use Rattle.std.proofs.Common.{◌++◌, ap, ◌∙◌}
use Rattle.std.proofs.lemmas.Result.{on_ok_weaker}
use Rattle.net_ir.specs.Runs.{netlist_of}
use Rattle.csub_embed.specs.Parts.{unread_line, unshown_line}
use Rattle.csub_embed.specs.Written.{untouched_line}
use Rattle.csub_embed.proofs.Appends.{three-pieces, ignored-lines}
use Rattle.csub_embed.proofs.ends.put_ignored_lines.Goals as goal

pub returns : goal.returns
returns c =
    let net = netlist_of c.args.net.now in
    let text = c.args.text.now.items in
    let a = untouched_line net.latches in
    let b = unread_line c.args.reads_input in
    let d = unshown_line net.outputs in
    on_ok_weaker c.put_unshown.result
    (λ e. e ∙ ap (λ t. t ++ d) (c.in_ok-put_unread.ensures ∙ ap (λ t. t ++ b) c.in_ok-put_untouched.ensures)
    ∙ three-pieces text a b d ∙ ap (λ l. text ++ l) (ignored-lines net c.args.reads_input c.requires)) c.put_unshown.ensures
