use Rattle.std.proofs.lemmas.Result.{on_ok_weaker}
use Rattle.est_kernel.specs.Plain.{expression_of}
use Rattle.grc_dep.proofs.tested.push_suspend.Goals as goal

pub returns-in-Resumed : goal.returns-in-Resumed
returns-in-Resumed c = rw c.in-Resumed.is c.push_resumed_suspend.ensures

pub returns-in-Started : goal.returns-in-Started
returns-in-Started c =
    rw c.in-Started.is (on_ok_weaker c.push_started_suspend.result (λ h B e. h B (expression_of c.args.test.now.test.now)) c.push_started_suspend.ensures)
