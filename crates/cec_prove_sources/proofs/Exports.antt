-- What other crates use of these proofs.
pub use Rattle.cec_prove_sources.proofs.Joint.{allowed, inputs-count, replaced-keeps}
pub use Rattle.cec_prove_sources.proofs.NetShows.{each-event, wide-items}
pub use Rattle.cec_prove_sources.proofs.PairedNets.{optimized-outputs}
pub use Rattle.cec_prove_sources.proofs.Rendering.{renders-comparison, renders-survey, renders-verdict}
