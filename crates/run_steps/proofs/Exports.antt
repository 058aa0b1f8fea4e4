-- What other crates use of these proofs.
pub use Rattle.run_steps.proofs.Makings.{length-made, length-settled, made-append, same-step, says-is, taken-front, through}
pub use Rattle.run_steps.proofs.TermValues.{digits-number, number-below}
pub use Rattle.run_steps.proofs.Places.{driven-count, given-slot, output-slot, place-at}
pub use Rattle.run_steps.proofs.EquationEdges.{in-edges, reads-at}
pub use Rattle.run_steps.proofs.Solving.{solved}
pub use Rattle.run_steps.proofs.NoLoops.{IsRising, rising-no_loop}
pub use Rattle.run_steps.proofs.OnceNames.{among-element, differ-behind, differ-both, differ-filter, each-element, element-among, first-or_later, in-parts}
pub use Rattle.run_steps.proofs.OnceNames.{of-element, once-of}
pub use Rattle.run_steps.proofs.ExprValues.{value-is, value-local}
pub use Rattle.run_steps.proofs.Resolving.{acyclic, each-name, loop, ordered, parts-within, reads-count, reads-within, slots-are}
pub use Rattle.run_steps.proofs.Instants.{IsEquational, IsOnlyOne, all-made, all-of-made, decided, solved-only}
