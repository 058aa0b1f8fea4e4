use Rattle.std.proofs.Common.{◌≡◌, List, [], ◌∷◌, ◌++◌, length, map, sym, ap, ◌∙◌, subst, rules, arith}
use Rattle.est_kernel.specs.Plain.{program_of, term_of}
use Rattle.est_kernel.proofs.Exports.{trees_are_kernels_lem}
use Rattle.grc_graph.specs.StatementViews.{entry_view, view_of}
use Rattle.grc_graph.proofs.Exports.{length-statements, statement_count-le}
use Rattle.grc_share.specs.LoopCounts.{AreLoopCounts, Enters, counts_in}
use Rattle.grc_graph.specs.declared.loops.LoopBodies.{LoopBodies}
use Rattle.grc_share.proofs.LoopCounting.{counts-more, few, listed-counted}
use Rattle.grc_share.proofs.loop_counts.loop_bodies.Goals as goal

pub counts_at-counts-requires-clause-entered : goal.counts_at-counts-requires-clause-entered
counts_at-counts-requires-clause-entered c =
    let s = c.statement-item.result in
    let listed = ap (map view_of) c.deref-statement-items.ensures.value ∙ c.in_ok-statements.ensures in
    subst (λ (l : List LoopBodies). Enters (length l) (entry_view s.control)) (sym c.deref.ensures.value)
    (listed-counted (program_of c.args.program.now) c.deref-statement-items.result.now s c.loop-statement.list.items c.loop-statement.statement-index
    (trees_are_kernels_lem c.args.program.now.body) listed c.loop-statement-test.true c.statement-item.is
    c.loop-statement.invariant.each c.loop-statement.invariant.counts).enters

pub counts_at-counts-requires-clause-few : goal.counts_at-counts-requires-clause-few
counts_at-counts-requires-clause-few c = λ n d l.
    let list = c.deref.result.now in
    let are = subst (AreLoopCounts (term_of c.args.program.now.body)) (sym c.deref.ensures.value) c.loop-statement.invariant.counts in
    let long : length list ≡ c.loop-statement.statement-index = ap length c.deref.ensures.value ∙ c.loop-statement.invariant.each in
    let all = length-statements (program_of c.args.program.now) c.deref-statement-items.result.now
    (ap (map view_of) c.deref-statement-items.ensures.value ∙ c.in_ok-statements.ensures) in
    omega (
      arith,
      few (term_of c.args.program.now.body) list c.loop-statement.statement-index long are n d l,
      l,
      all,
      c.requires.body.size,
      statement_count-le (term_of c.args.program.now.body),
    )

pub loop-statement-preserved : goal.loop-statement-preserved
loop-statement-preserved c =
    let s = c.statement-item.result in
    let list = c.loop-statement.list.items in
    let x = entry_view s.control in
    let i = c.loop-statement.statement-index in
    let body = term_of c.args.program.now.body in
    let listed = ap (map view_of) c.deref-statement-items.ensures.value ∙ c.in_ok-statements.ensures in
    let known = listed-counted (program_of c.args.program.now) c.deref-statement-items.result.now s list i
    (trees_are_kernels_lem c.args.program.now.body) listed c.loop-statement-test.true c.statement-item.is
    c.loop-statement.invariant.each c.loop-statement.invariant.counts in
    let counts = c.counts_at-counts.ensures ∙ ap (λ (l : List LoopBodies). counts_in l x) c.deref.ensures.value in
    let items = c.in_ok-push.ensures.items ∙ ap (λ (y : LoopBodies). list ++ (y ∷ [])) counts in
    record {
      each = search rules;
      counts = subst (AreLoopCounts body) (sym items) (counts-more body list i x c.loop-statement.invariant.each c.loop-statement.invariant.counts known);
    }

pub returns-clause-each : goal.returns-clause-each
returns-clause-each c =
    let all = length-statements (program_of c.args.program.now) c.deref-statement-items.result.now
    (ap (map view_of) c.deref-statement-items.ensures.value ∙ c.in_ok-statements.ensures) in
    omega (arith, all, c.loop-statement.invariant.each)

pub returns-clause-counts : goal.returns-clause-counts
returns-clause-counts c = c.loop-statement.invariant.counts
