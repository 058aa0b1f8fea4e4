use Rattle.std.proofs.Common.{◌++◌, sym, ap, ◌∙◌}
use Rattle.std.proofs.lemmas.Result.{on_ok_weaker}
use Rattle.net_ir.specs.Runs.{netlist_of}
use Rattle.vlog_reset.specs.Views.{options_of}
use Rattle.vlog_reset.proofs.NetWords.{word-state, word-gate}
use Rattle.vlog_reset.proofs.writer.put_net_name.Goals as goal

pub returns-in-Latch : goal.returns-in-Latch
returns-in-Latch c =
    let d = c.in-Latch.ensures in
    on_ok_weaker c.put_number.result (λ e. e ∙ ap (λ t. c.args.text.now.items ++ t)
    (sym (word-state (options_of c.args.options) (netlist_of c.args.net.now) c.args.from.0 c.in-Latch.j d.0 d.1 d.2))) c.put_number.ensures

pub returns-in-Gate : goal.returns-in-Gate
returns-in-Gate c =
    let d = c.in-Gate.ensures in
    on_ok_weaker c.put_number-in-Gate.result (λ e. e ∙ ap (λ t. c.args.text.now.items ++ t)
    (sym (word-gate (options_of c.args.options) (netlist_of c.args.net.now) c.args.from.0 c.in-Gate.k d.0 d.1 d.2))) c.put_number-in-Gate.ensures
