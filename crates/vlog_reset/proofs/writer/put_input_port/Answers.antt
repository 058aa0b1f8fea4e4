use Rattle.std.proofs.Common.{◌++◌, ap, ◌∙◌, append_assoc}
use Rattle.std.specs.Prelude.{codes}
use Rattle.std.proofs.lemmas.Result.{on_ok_weaker}
use Rattle.vlog_reset.specs.Views.{options_of}
use Rattle.vlog_reset.specs.Written.{input_name}
use Rattle.vlog_reset.proofs.writer.put_input_port.Goals as goal

pub returns : goal.returns
returns c =
    let name = input_name (options_of c.args.options) c.args.name.now in
    on_ok_weaker c.put_input_name.result
    (λ e. e ∙ ap (λ t. t ++ name) c.in_ok-put.ensures ∙ append_assoc c.args.text.now.items (codes ",\n    input wire ") name) c.put_input_name.ensures
