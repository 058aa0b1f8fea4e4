-- The laws that tie a graph's equations to the walk of its program.
use Rattle.est_kernel.specs.Plain.{outgoing_count, given_count}
use Rattle.grc_solutions_laws.specs.Laws.{SolutionsAreWalks, WalksKeepStates}
use Rattle.grc_solutions_laws.proofs.NextTop.{keeps_state}
use Rattle.grc_solutions_laws.proofs.Solutions.{top_started, top_resumed}

pub solutions_are_walks_lem : SolutionsAreWalks
solutions_are_walks_lem p q event V kernel nl state s = (
  top_started p.inputs (outgoing_count p) (given_count p) p.body q event V nl kernel state s.met s.others,
  (λ live. top_resumed p.inputs (outgoing_count p) (given_count p) p.body q event V nl kernel state s.met s.others live),
)

pub walks_keep_states_lem : WalksKeepStates
walks_keep_states_lem p q Z v kernel nl state = keeps_state Z q p.body v kernel nl state
