-- What other crates use of these proofs.
pub use Rattle.est_ternary.proofs.Rails.{IsRail, impossible, possible_rail, rail_maxima, rail_met, same_rails, sure_rail}
pub use Rattle.est_ternary.proofs.Walks.{code_at, silent_codes, silent_signals, silent_walk, walk_decides, walk_tells}
pub use Rattle.est_ternary.proofs.Monotone.{below_equal, below_itself, choice_below, completes_below, decided_again, either_below, hidden_below, in_turn_below}
pub use Rattle.est_ternary.proofs.Monotone.{lowered_below, met_below, settles_at_once, together_below, trapped_below, upto_below, walk_below}
pub use Rattle.est_ternary.proofs.Solving.{known_where, settle_known, settle_solved, solved_least, solved_meets, solved_off}
pub use Rattle.est_ternary.proofs.Steps.{HasStep, idle_known, known_go, known_step, leaves_part, local_part, loop_part, parallel_parts, sequence_parts}
pub use Rattle.est_ternary.proofs.Steps.{step_known, step_walk_codes, step_walk_signals, trap_part}
