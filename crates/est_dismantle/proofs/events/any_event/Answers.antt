use Rattle.std.proofs.Common.{map, sym, ◌∙◌, ap, arith}
use Rattle.std.proofs.lemmas.List.{take_all}
use Rattle.est_kernel.specs.Plain.{expression_of}
use Rattle.est_kernel.specs.Terms.{Or, Tick}
use Rattle.est_dismantle.specs.FlatNodes.{case_test}
use Rattle.est_dismantle.specs.Kernels.{nested}
use Rattle.est_dismantle.proofs.KernelNodes.{case-event, any-list}
use Rattle.est_dismantle.proofs.Lists.{map-pushed}
use Rattle.est_dismantle.proofs.events.any_event.Goals as goal

pub loop-case-preserved : goal.loop-case-preserved
loop-case-preserved c =
    map-pushed expression_of case_test _ _ _ c.args.cases.now c.loop-case.case-index c.case-item.result c.in_ok-push.ensures.items c.loop-case.invariant
    (omega arith) c.case-item.is (c.in_ok-test_of.ensures ∙ sym (case-event c.case-item.result))

pub returns : goal.returns
returns c =
    c.in_ok-disjunction.ensures ∙ ap (nested Or Tick) (c.loop-case.invariant ∙ ap (map case_test) (take_all _ c.args.cases.now (omega arith)))
    ∙ sym (any-list c.args.cases.now)
