use Rattle.std.proofs.Common.{◌++◌, ap, ◌∙◌}
use Rattle.std.specs.Prelude.{codes}
use Rattle.std.proofs.lemmas.Result.{on_ok_weaker}
use Rattle.vlog_text.specs.Written.{clock_name}
use Rattle.vlog_reset.specs.Written.{level_word, lint_lines, name_tail, reset_tail, time_words}
use Rattle.vlog_reset.proofs.Appends.{comment-pieces}
use Rattle.vlog_reset.proofs.ends.put_comments.Goals as goal

pub returns : goal.returns
returns c =
    let reset = c.args.reset.now in
    let low = level_word c.args.manner.is_active_low in
    let now = time_words c.args.manner.is_asynchronous in
    on_ok_weaker c.put.result
    (λ e. e ∙ ap (λ t. t ++ (reset_tail ++ lint_lines)) (c.in_ok-put_reset_words.ensures
    ∙ ap (λ t. t ++ (codes "// " ++ (reset ++ (codes " resets it while it is " ++ (low ++ now))))) c.in_ok-put_name_line.ensures)
    ∙ comment-pieces c.args.text.now.items c.args.name.now name_tail clock_name reset (codes " resets it while it is ") low now reset_tail lint_lines)
    c.put.ensures
