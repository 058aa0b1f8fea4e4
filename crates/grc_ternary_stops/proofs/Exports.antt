-- What other crates use of these proofs.
pub use Rattle.grc_ternary_stops.proofs.Reaching.{answers_reached, before_some, fresh_state, reaches_event, reaches_more}
pub use Rattle.grc_ternary_stops.proofs.Reaching.{reaches_nowhere, reaches_reset, stopped}
