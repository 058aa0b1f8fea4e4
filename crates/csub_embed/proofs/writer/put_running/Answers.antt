use Rattle.std.proofs.Common.{◌++◌, ap, ◌∙◌}
use Rattle.std.specs.Prelude.{codes}
use Rattle.std.proofs.lemmas.Result.{on_ok_weaker}
use Rattle.net_ir.specs.Runs.{netlist_of}
use Rattle.csub_embed.specs.Written.{line_end, place_of, written_place}
use Rattle.csub_embed.proofs.Appends.{three-pieces}
use Rattle.csub_embed.proofs.writer.put_running.Goals as goal

pub returns : goal.returns
returns c =
    let net = netlist_of c.args.net.now in
    let value = written_place (place_of net net.paused) in
    on_ok_weaker c.put-2.result
    (λ e. e ∙ ap (λ t. t ++ line_end) (c.in_ok-put_place.ensures ∙ ap (λ t. t ++ value) c.in_ok-put.ensures)
    ∙ three-pieces c.args.text.now.items (codes "    const bool running = ") value line_end) c.put-2.ensures
