use Rattle.std.proofs.Common.{◌++◌, ap, ◌∙◌, append_assoc}
use Rattle.std.specs.Prelude.{codes}
use Rattle.std.proofs.lemmas.Result.{on_ok_weaker}
use Rattle.net_ir.specs.Runs.{netlist_of}
use Rattle.vlog_reset.specs.Grammar.{where_some}
use Rattle.vlog_reset.specs.Texts.{last_line}
use Rattle.vlog_reset.specs.Written.{end_line}
use Rattle.vlog_reset.proofs.ends.put_end.Goals as goal

pub returns : goal.returns
returns c =
    let last = codes "endmodule\n" ++ last_line in
    on_ok_weaker c.put.result
    (λ e. e ∙ ap (λ t. t ++ last) c.in_ok-put_end_line.ensures
    ∙ append_assoc c.args.text.now.items (where_some (netlist_of c.args.net.now).latches end_line) last) c.put.ensures
