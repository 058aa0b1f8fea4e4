use Rattle.std.proofs.Common.{sym, ap, ◌∙◌}
use Rattle.cec_words.specs.Readings.{asked_once}
use Rattle.cec_words.specs.Slots.{slots}
use Rattle.cec_words.specs.Views.{plain_command}
use Rattle.cec_words.proofs.AskedOnce.{run-once, exec-once}
use Rattle.cec_words.proofs.given.Given.asked.Goals as goal

pub returns-in_ok-self-in-Run : goal.returns-in_ok-self-in-Run
returns-in_ok-self-in-Run c =
    c.run_asked.ensures ∙ run-once c.args.self c.in_ok-file-in-Run.file c.in_ok-file-in-Run.trace c.in_ok-self-in-Run.field-0
    (sym c.two_files.ensures ∙ c.in_ok-file-in-Run.was) c.in_ok-self-in-Run.was
    ∙ ap (λ k. asked_once (plain_command k) (slots c.args.self)) (sym c.in-Run.is)

pub returns-in_ok-self-in-Exec : goal.returns-in_ok-self-in-Exec
returns-in_ok-self-in-Exec c =
    c.exec_asked.ensures ∙ exec-once c.args.self c.in_ok-text-in-Exec.text c.in_ok-text-in-Exec.trace c.in_ok-self-in-Exec.field-0
    (sym c.two_files-in-Exec.ensures ∙ c.in_ok-text-in-Exec.was) c.in_ok-self-in-Exec.was
    ∙ ap (λ k. asked_once (plain_command k) (slots c.args.self)) (sym c.in-Exec.is)
