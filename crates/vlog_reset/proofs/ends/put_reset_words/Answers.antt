use Rattle.std.proofs.Common.{◌++◌, ap, ◌∙◌}
use Rattle.std.specs.Prelude.{codes, if◌then◌else◌}
use Rattle.std.proofs.lemmas.Result.{on_ok_weaker}
use Rattle.vlog_reset.proofs.Appends.{words-pieces}
use Rattle.vlog_reset.proofs.ends.put_reset_words.Goals as goal

pub returns : goal.returns
returns c =
    let low = c.args.manner.is_active_low in
    let now = c.args.manner.is_asynchronous in
    on_ok_weaker c.put_either-2.result
    (λ e. e ∙ ap (λ t. t ++ (if now then codes ", at once" else codes " at such an edge"))
    (c.in_ok-put_either.ensures ∙ ap (λ t. t ++ (if low then codes "low" else codes "high")) c.in_ok-put_named.ensures)
    ∙ words-pieces low now c.args.text.now.items c.args.reset.now) c.put_either-2.ensures
