use Rattle.std.proofs.Common.{◌++◌, ◌∙◌, ap}
use Rattle.std.proofs.lemmas.Result.{on_ok_weaker}
use Rattle.est_gen.proofs.Written.{branch_text-is}
use Rattle.est_gen.proofs.sources.put_branch.Goals as goal

pub returns-in-1-clause-text : goal.returns-in-1-clause-text
returns-in-1-clause-text c =
    let shape = c.next-shape.ensures in
    let input = c.next-input.ensures in
    let output = c.next-output.ensures in
    on_ok_weaker c.put_await.result (λ last. last ∙ ap (λ s. c.args.text.now.items ++ s)
    (branch_text-is _ _ _ _ _ _ _ c.args.number 1 shape.state input.state output.state shape.draw input.draw output.draw c.in-1.is)) c.put_await.ensures
