use Rattle.std.proofs.Common.{◌++◌, ap, ◌∙◌}
use Rattle.std.specs.Prelude.{codes}
use Rattle.std.proofs.lemmas.Result.{on_ok_weaker}
use Rattle.net_ir.specs.Runs.{netlist_of}
use Rattle.vlog_text.specs.Written.{clock_name, net_name, line_end, clock_line}
use Rattle.vlog_text.proofs.Joins.{around}
use Rattle.vlog_text.proofs.writer.put_paused_assign.Goals as goal

pub returns : goal.returns
returns c =
    let net = netlist_of c.args.net.now in
    let text = c.args.text.now.items in
    let name = net_name net net.paused in
    let front = codes "assign paused = " in
    let back = line_end ++ clock_line clock_name in
    on_ok_weaker c.put-2.result
    (λ e. e ∙ ap (λ t. t ++ back) (c.in_ok-put_net.ensures ∙ ap (λ t. t ++ name) c.in_ok-put.ensures)
    ∙ around text front name line_end (clock_line clock_name)) c.put-2.ensures
