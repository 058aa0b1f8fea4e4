use Rattle.std.proofs.Common.{◌≡◌, map, vec_len}
use Rattle.est_dismantle.specs.Boxes.{boxed_term}
use Rattle.est_dismantle.specs.Choices.{chosen_of, choice_of}
use Rattle.est_dismantle.proofs.choices.chosen.Given as goal

abbrev pub invariant-loop-choice : goal.invariant-loop-choice
invariant-loop-choice l =
    chosen_of (map choice_of l.rest.items) (boxed_term l.whole) ≡ chosen_of (map choice_of l.initial.rest.items) (boxed_term l.initial.whole)

abbrev pub decreases-loop-choice : goal.decreases-loop-choice
decreases-loop-choice l = vec_len l.rest
