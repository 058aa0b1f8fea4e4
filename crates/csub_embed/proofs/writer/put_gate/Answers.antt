use Rattle.std.proofs.Common.{◌++◌, ap, ◌∙◌}
use Rattle.std.specs.Prelude.{codes, decimal}
use Rattle.std.proofs.lemmas.Result.{on_ok_weaker}
use Rattle.net_ir.specs.Runs.{netlist_of}
use Rattle.csub_embed.specs.Written.{line_end, op_value_of, place_of, value_text}
use Rattle.csub_embed.proofs.Appends.{four-pieces}
use Rattle.csub_embed.proofs.writer.put_gate.Goals as goal

pub returns : goal.returns
returns c =
    let net = netlist_of c.args.net.now in
    let name = codes "    const bool g" ++ decimal c.args.k in
    let value = value_text (op_value_of (place_of net) c.args.gate.op) in
    on_ok_weaker c.put-2.result
    (λ e. e ∙ ap (λ t. t ++ line_end) (c.in_ok-put_value.ensures ∙ ap (λ t. t ++ value) (c.in_ok-put.ensures
    ∙ ap (λ t. t ++ codes " = ") c.in_ok-put_number.ensures))
    ∙ four-pieces c.args.text.now.items name (codes " = ") value line_end) c.put-2.ensures
