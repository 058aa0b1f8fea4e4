-- What other crates use of these proofs.
pub use Rattle.run_over_traces.proofs.Groups.{Fits, fits-next}
pub use Rattle.run_over_traces.proofs.Leading.{front-leads, leads-more, led-more, led-nowhere, led-shown}
pub use Rattle.run_over_traces.proofs.Stepping.{SoFar, over, run-ends, run-stops, runs-so, step-end, step-event, step-stop, untouched}
pub use Rattle.run_over_traces.proofs.Fronts.{front-of, front-whole, lines-of}
pub use Rattle.run_over_traces.proofs.Events.{events-fit, runs-along, traces-begin}
pub use Rattle.run_over_traces.proofs.Written.{widths}
pub use Rattle.run_over_traces.proofs.Pauses.{answers-run, listed-last}
pub use Rattle.run_over_traces.proofs.Deciding.{event-told}
