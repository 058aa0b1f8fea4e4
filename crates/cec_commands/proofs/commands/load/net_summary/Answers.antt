use Rattle.std.proofs.Common.{◌∙◌, ap₂}
use Rattle.std.proofs.lemmas.Result.{IfOk-weaker}
use Rattle.cec_commands.specs.Loading.{counted_text}
use Rattle.cec_commands.proofs.commands.load.net_summary.Goals as goal

pub returns : goal.returns
returns c =
    let counts = c.in_ok-counts.ensures in
    IfOk-weaker c.summary_text.result _ _ (λ text is. is ∙ ap₂ (counted_text c.args.instants) counts.emitted counts.paused) c.summary_text.ensures
