use Rattle.std.proofs.lemmas.Result.{IfOk-weaker}
use Rattle.grc_build.proofs.GraphParts.{formulas_of}
use Rattle.grc_build.proofs.graphs.table_formulas.Goals as goal

pub returns : goal.returns
returns c =
    IfOk-weaker c.all_formulas.result _ _ (λ f h. formulas_of c.args.tables f c.requires
    (rw h.0 at c.nodes-nodes.ensures.same) (rw h.0 at c.nodes-nodes.ensures.fit)
    (rw h.1 at c.equations-equations.ensures.same) (rw h.1 at c.equations-equations.ensures.fit)
    (rw h.2 at c.next_formulas.ensures.same) (rw h.2 at c.next_formulas.ensures.fit)) c.all_formulas.ensures
