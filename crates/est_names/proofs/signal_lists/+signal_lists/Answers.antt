use Rattle.std.proofs.Common.{arith}
use Rattle.std.proofs.lemmas.Grind.{common_steps}
use Rattle.est_names.proofs.FormLists.{signal_lists-PresentCase, signal_lists-AbortCase}
use Rattle.est_names.proofs.signal_lists.+signal_lists.Goals as goal

pub push_lists-returns-in_ok-push_part-in-PresentCase : goal.push_lists-returns-in_ok-push_part-in-PresentCase
push_lists-returns-in_ok-push_part-in-PresentCase t c =
    grind (arith, common_steps, signal_lists-PresentCase _ _ _ c.in-PresentCase.is)

pub push_lists-returns-in_ok-push_cases-in-AbortCase : goal.push_lists-returns-in_ok-push_cases-in-AbortCase
push_lists-returns-in_ok-push_cases-in-AbortCase t c =
    grind (arith, common_steps, signal_lists-AbortCase _ _ _ c.in-AbortCase.is)
