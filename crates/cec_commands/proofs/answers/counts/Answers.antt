use Rattle.std.proofs.lemmas.Result.{IfErr-weaker, IfOk-at_ok, IfOk-weaker}
use Rattle.cec_commands.proofs.Listings.{counts_stand}
use Rattle.cec_commands.proofs.answers.counts.Goals as goal

pub returns-in-Ok-clause-text : goal.returns-in-Ok-clause-text
returns-in-Ok-clause-text c = IfOk-weaker c.text_made.result _ _
    (λ text is. counts_stand _ _ c.in-Ok.found text.items c.in-Ok.ensures.compiles (IfOk-at_ok _ is c.counts_line.ensures)) c.text_made.ensures.text

pub returns-in-Ok-clause-refuses : goal.returns-in-Ok-clause-refuses
returns-in-Ok-clause-refuses c = IfErr-weaker c.text_made.result _ _ (λ r is. rw is tt) c.text_made.ensures.refuses
