use Rattle.std.proofs.Common.{◌≡◌, Bool, map, rules, sym, ap, ◌∙◌, subst, arith}
use Rattle.est_kernel.specs.Plain.{program_of}
use Rattle.grc_graph.specs.Rows.{program_rows, row_at}
use Rattle.grc_graph.specs.StatementViews.{view_of}
use Rattle.grc_graph.proofs.Exports.{length-statements, statement_read}
use Rattle.grc_share.specs.Renamings.{AreGuards}
use Rattle.grc_share.specs.SharedGraphs.{is_guarded}
use Rattle.grc_share.proofs.WireLeast.{each-more}
use Rattle.grc_share.proofs.guards.guards.Goals as goal

pub loop-statement-preserved : goal.loop-statement-preserved
loop-statement-preserved c =
    let p = program_of c.args.program.now in
    let i = c.loop-statement.statement-index in
    let listed = ap (map view_of) c.deref-statement-items.ensures.value ∙ c.in_ok-statements.ensures in
    let all = length-statements p c.deref-statement-items.result.now listed in
    let read = statement_read p c.deref-statement-items.result.now i c.statement-item.result listed (omega (arith, all, c.loop-statement-test.true))
    c.statement-item.is in
    record {
      each = search rules;
      guards = subst (AreGuards p) (sym c.in_ok-push.ensures.items)
          (each-more (λ n (b : Bool). b ≡ is_guarded (row_at (program_rows p) n).statement) c.loop-statement.list.items c.is_guarded.result i
          c.loop-statement.invariant.each c.loop-statement.invariant.guards (c.is_guarded.ensures ∙ ap (λ v. is_guarded v.statement) read));
    }

pub returns-clause-each : goal.returns-clause-each
returns-clause-each c =
    let listed = ap (map view_of) c.deref-statement-items.ensures.value ∙ c.in_ok-statements.ensures in
    omega (arith, length-statements (program_of c.args.program.now) c.deref-statement-items.result.now listed, c.loop-statement.invariant.each)
