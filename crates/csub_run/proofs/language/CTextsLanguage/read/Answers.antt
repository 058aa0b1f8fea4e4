use Rattle.std.proofs.lemmas.Result.{IfOk-weaker}
use Rattle.csub_run.proofs.Showing.{fresh_shows}
use Rattle.csub_run.proofs.language.CTextsLanguage.read.Goals as goal

pub returns-clause-shows : goal.returns-clause-shows
returns-clause-shows c =
    IfOk-weaker c.read_machine.result _ _ (λ machine fresh. record { told = λ items answers shows. fresh_shows machine fresh items answers shows })
    c.read_machine.ensures.fresh
