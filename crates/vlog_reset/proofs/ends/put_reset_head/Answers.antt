use Rattle.std.proofs.Common.{◌++◌, ap, ◌∙◌}
use Rattle.std.specs.Prelude.{codes}
use Rattle.std.proofs.lemmas.Result.{on_ok_weaker}
use Rattle.net_ir.specs.Runs.{netlist_of}
use Rattle.vlog_text.specs.Written.{clock_name, line_end}
use Rattle.vlog_reset.specs.Grammar.{where_some}
use Rattle.vlog_reset.specs.Views.{options_of}
use Rattle.vlog_reset.specs.Written.{clock_lines, net_word}
use Rattle.vlog_reset.proofs.Appends.{paused-pieces}
use Rattle.vlog_reset.proofs.ends.put_reset_head.Goals as goal

pub returns : goal.returns
returns c =
    let o = options_of c.args.options in
    let net = netlist_of c.args.net.now in
    let source = net_word o net net.paused ++ line_end in
    let clock = where_some net.latches (clock_lines o.manner clock_name o.reset) in
    on_ok_weaker c.put_clock_of.result
    (λ e. e ∙ ap (λ t. t ++ clock) (c.in_ok-put_source.ensures ∙ ap (λ t. t ++ (codes " = " ++ source)) c.in_ok-put.ensures)
    ∙ paused-pieces c.args.text.now.items (codes "    assign paused") (codes " = ") source clock) c.put_clock_of.ensures
