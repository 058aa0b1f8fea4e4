use Rattle.std.proofs.Common.{◌∷◌, [], ◌++◌, ◌∙◌, ap, map}
use Rattle.est_ast.specs.FlatTrees.{At, MoreStmts, NoStmts, Seq, stmts}
use Rattle.est_ast.specs.FlatViews.{flat_stmt_of}
use Rattle.est_ast.proofs.Exports.{flat_form-Seq}
use Rattle.est_cover.specs.Covered.{emission}
use Rattle.est_cover.specs.Portions.{portion_of}
use Rattle.est_cover.proofs.marks.after_emission.Goals as goal

pub returns : goal.returns
returns c =
    let pushed = c.in_ok-push-2.ensures.items
    ∙ ap (λ l. l ++ c.into_inner.result ∷ []) (c.in_ok-push.ensures.items ∙ ap (λ l. l ++ c.mark.result ∷ []) c.in_ok-parts.ensures.items) in
    let same = c.into_inner.ensures ∙ c.in_ok-statement.ensures.ok in
    ap (At c.args.at) (flat_form-Seq c.push-2.new.self ∙ ap (λ l. Seq (stmts (map flat_stmt_of l))) pushed
    ∙ ap (λ s. Seq (MoreStmts s (MoreStmts (flat_stmt_of c.into_inner.result) NoStmts))) c.mark.ensures
    ∙ ap (λ s. Seq (MoreStmts (emission (portion_of c.args.portion) c.args.number c.args.at) (MoreStmts (flat_stmt_of s) NoStmts))) same)
