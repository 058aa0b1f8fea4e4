use Rattle.std.proofs.Common.{◌≡◌, ◌++◌, [], get_or, append-nil, sym, ap, ◌∙◌}
use Rattle.std.specs.Prelude.{codes}
use Rattle.std.proofs.lemmas.List.{get_or_default}
use Rattle.std.proofs.lemmas.Option.{slice_get-get_or}
use Rattle.std.proofs.lemmas.Result.{on_ok_weaker}
use Rattle.net_ir.specs.Runs.{netlist_of}
use Rattle.vlog_text.specs.Written.{name_at}
use Rattle.vlog_text.proofs.writer.VlogWriterGateText.put_input.Goals as goal

pub returns : goal.returns
returns c =
    let net = netlist_of c.args.net.now in
    let text = c.args.text.now.items in
    let n = c.args.n in
    let name = c.bytes.result.now in
    let named : name ≡ get_or net.inputs n [] = c.bytes.ensures ∙ c.index.ensures ∙ get_or_default net.inputs n _ [] c.requires in
    on_ok_weaker c.put_named.result
    (λ e. e ∙ ap (λ x. text ++ (codes "i_" ++ x)) (append-nil name ∙ named)
    ∙ ap (λ x. text ++ x) (sym (ap name_at (slice_get-get_or net.inputs n [] c.requires))))
    c.put_named.ensures
