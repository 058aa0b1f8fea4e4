-- What other crates use of these proofs.
pub use Rattle.base_reader.proofs.Sets.{Test, apart, has, test-of, within}
pub use Rattle.base_reader.proofs.Nesting.{Below, by_room}
pub use Rattle.base_reader.proofs.Loops.{Advances, loop-begun, loop-last, loop-started, loop-unfolds, mapped-mapped}
pub use Rattle.base_reader.proofs.Readers.{Lang, Laws, Reads, Shape, Starts, Stops, ahead-reads, both-reads, either_shape, give-reads, led-reads, made-reads}
pub use Rattle.base_reader.proofs.Readers.{mapped-reads, may-reads, no_shape, one_shape, placed-reads, same-reads, same-total, shape-reads, the-reads}
pub use Rattle.base_reader.proofs.Readers.{then_shape, told-reads, trail-reads}
pub use Rattle.base_reader.proofs.Steps.{Advances-step, AfterStep, StepLaws, Steps, Turn, list_depth, look-steps, loop-grown, loop-reads, maybe-some}
pub use Rattle.base_reader.proofs.Steps.{optional_or-some, or-steps, or_turn, step-reads, step_depth, step_shape, trailing-some, trailing-steps}
pub use Rattle.base_reader.proofs.Whole.{GivesExactly-by}
pub use Rattle.base_reader.proofs.Choices.{Arm, arm, choose-lang, choose-reads, whole-reads}
pub use Rattle.base_reader.proofs.Depths.{list_depth-flat}
