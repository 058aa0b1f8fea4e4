-- Inner: cases as tests with terms.
use Rattle.std.specs.Prelude.{List, [], ◌∷◌}
use Rattle.est_kernel.specs.Plain.{expression_of}
use Rattle.est_kernel.specs.Terms as terms
use Rattle.est_kernel.specs.Terms.{Term, Expression}
use Rattle.est_dismantle.specs.Boxes.{boxed_term}
use Rattle.est_dismantle.specs.declared.choices.Choice.{Choice}

abbrev pub choice_of : Choice → Expression × Term
choice_of c = (expression_of c.event, boxed_term c.body)

-- the first term whose test is true, or else the last
abbrev pub chosen_of : List (Expression × Term) → Term → Term
chosen_of [] r = r
chosen_of (c ∷ others) r = terms.Present c.0 c.1 (chosen_of others r)
