use Rattle.std.proofs.Common.{map, ◌∙◌, ap}
use Rattle.est_dismantle.specs.Boxes.{boxed_term}
use Rattle.est_dismantle.specs.Choices.{chosen_of, choice_of}
use Rattle.est_dismantle.proofs.Lists.{chosen-pop}
use Rattle.est_dismantle.proofs.choices.chosen.Goals as goal

pub loop-choice-preserved : goal.loop-choice-preserved
loop-choice-preserved c =
    ap (chosen_of (map choice_of c.pop.new.self.items)) c.in_ok-whole.ensures
    ∙ chosen-pop choice_of c.loop-choice.rest.items c.pop.new.self.items c.in-Some.choice (boxed_term c.loop-choice.whole) c.in-Some.ensures.items
    ∙ c.loop-choice.invariant
