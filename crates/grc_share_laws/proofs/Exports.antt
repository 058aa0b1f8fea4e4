-- What other crates use of these proofs.
pub use Rattle.grc_share_laws.proofs.SharedRuns.{runs_are_shared_lem, shared_reactions_are_given_lem, shared_runs_answer_lem, shared_solutions_are_members_lem}
