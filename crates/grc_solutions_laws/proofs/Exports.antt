-- What other crates use of these proofs.
pub use Rattle.grc_solutions_laws.proofs.Premises.{program_kernel}
pub use Rattle.grc_solutions_laws.proofs.Residues.{loop_body, no_loops-left, no_loops-right, residual_codes, residual_static, resumed_live}
pub use Rattle.grc_solutions_laws.proofs.Bridge.{any_if, any_layers, any_root, resumed_any, split, started_any}
pub use Rattle.grc_solutions_laws.proofs.Emissions.{Whole, emission, emitted, whole_first, whole_only, whole_second}
pub use Rattle.grc_solutions_laws.proofs.WalkEmits.{Fresh, Shows, fresh_more, shows_bind, shows_root}
pub use Rattle.grc_solutions_laws.proofs.Meets.{Finds, any_nothing, code_lives, finds_first, finds_only, finds_second, finds_self, head_resumed, head_started}
pub use Rattle.grc_solutions_laws.proofs.Meets.{low_second, own_fresh, own_shows, resumed_at, root_own, started_at}
pub use Rattle.grc_solutions_laws.proofs.OwnStatus.{local_own, resumed_emissions, started_emissions}
pub use Rattle.grc_solutions_laws.proofs.Joint.{any_flat_none, any_listed_none, any_map_none, dead_in}
pub use Rattle.grc_solutions_laws.proofs.Tops.{InPart, above_top, enters, goes_out, no_bound, out_fresh, out_shows, scope_part, state_finds, state_reach}
pub use Rattle.grc_solutions_laws.proofs.Tops.{unbound}
pub use Rattle.grc_solutions_laws.proofs.WalkSolves.{equations_are_the_walk_lem, range_bounds}
pub use Rattle.grc_solutions_laws.proofs.Kept.{Same, keeps_branch, only_same, resumed_keeps, started_keeps}
pub use Rattle.grc_solutions_laws.proofs.Instants.{code_shown, codes_are_shown_lem, next_residual, next_state_is_kept_lem}
pub use Rattle.grc_solutions_laws.proofs.Regions.{regions_rest_in_runs_lem}
pub use Rattle.grc_solutions_laws.proofs.StepWalks.{Stepped, Two, awake_step, branch_step, first_left, held_first, held_second, held_step, lifted, local_left}
pub use Rattle.grc_solutions_laws.proofs.StepWalks.{par_step}
pub use Rattle.grc_solutions_laws.proofs.StepWalks.{present_step, second_left, seq_step, stepped_only, trap_left}
