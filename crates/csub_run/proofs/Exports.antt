-- What other crates use of these proofs.
pub use Rattle.csub_run.proofs.Machines.{Agree, Targets, among-back, first-fresh, inputs-among, inputs-low, outputs-low, put-inputs, run-agree, settled-body}
pub use Rattle.csub_run.proofs.Machines.{shown-front, slots-below, take-put, wide-first, wide-put}
pub use Rattle.csub_run.proofs.BareNames.{once-differ}
pub use Rattle.csub_run.proofs.Showing.{same-memory}
pub use Rattle.csub_run.proofs.NetTexts.{answers-shown}
