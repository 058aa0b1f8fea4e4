use Rattle.std.proofs.Common.{◌≡◌, ◌+◌, ◌++◌, ◌∷◌, [], ◌∙◌, length, length-append, sym, ap, subst, arith}
use Rattle.grc_graph.specs.WireTables.{AreCountsBefore}
use Rattle.grc_graph.proofs.InstanceRuns.{counts-none, counts-more, first-instances}
use Rattle.grc_graph.proofs.layout.first_instances.Goals as goal

pub loop-statement-init : goal.loop-statement-init
loop-statement-init c =
    (ap length c.new-firsts.ensures.items, subst (AreCountsBefore c.args.live.now) (sym c.new-firsts.ensures.items) (counts-none c.args.live.now))

pub loop-statement-preserved : goal.loop-statement-preserved
loop-statement-preserved c =
    let firsts = c.loop-statement.firsts.items in
    let p = c.count_before.result in
    let more : _ ≡ firsts ++ p ∷ [] = c.in_ok-push.ensures.items in (
      ap length more ∙ (let e : length (firsts ++ p ∷ []) ≡ c.loop-statement.statement + 1 =
          omega (arith, length-append firsts (p ∷ []), c.loop-statement.invariant.0) in e),
      subst (AreCountsBefore c.args.live.now) (sym more)
          (counts-more c.args.live.now firsts c.loop-statement.statement p c.loop-statement.invariant.1 c.loop-statement.invariant.0
          c.count_before.ensures.within
          c.count_before.ensures.place),
    )

pub returns : goal.returns
returns c =
    first-instances c.args.live.now c.loop-statement.firsts.items c.args.count c.requires.below
    (c.loop-statement.invariant.0 ∙ (let e : c.loop-statement.statement ≡ c.args.count + 1 = omega arith in e)) c.loop-statement.invariant.1
