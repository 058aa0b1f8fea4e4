-- What other crates use of these proofs.
pub use Rattle.base_machines.proofs.Showing.{computed-only, computed-shows, shows-computed, shows-event, shows-reset, shows-through, told-same}
