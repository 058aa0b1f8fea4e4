use Rattle.std.proofs.Common.{map, sym, ◌∙◌, ap, arith}
use Rattle.std.proofs.lemmas.List.{take_all}
use Rattle.est_dismantle.specs.FlatNodes.{event_test}
use Rattle.est_dismantle.proofs.KernelNodes.{tests-list}
use Rattle.est_dismantle.proofs.events.+tests_of_events.Goals as goal

pub tests_of-returns : goal.tests_of-returns
tests_of-returns t c =
    c.loop-part.invariant ∙ ap (map event_test) (take_all _ c.args.parts.now (omega arith)) ∙ sym (tests-list c.args.parts.now)
