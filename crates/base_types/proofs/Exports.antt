-- What other crates use of these proofs.
pub use Rattle.base_types.proofs.Gains.{appends-nothing, appends-twice, gains-nothing, gains-twice, pieces_at, stops-behind}
pub use Rattle.base_types.proofs.Gains.{regroup, stops-early, wrote-behind}
pub use Rattle.base_types.proofs.NoCodes.{upto-none}
pub use Rattle.base_types.proofs.SameNames.{same_name-is, same_name-self}
pub use Rattle.base_types.proofs.Items.{wide_events}
