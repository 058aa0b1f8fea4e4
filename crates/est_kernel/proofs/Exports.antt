-- What other crates use of these proofs.
pub use Rattle.est_kernel.proofs.Sets.{except-in, except-parts, lowered-in, lowered-parts, lowered-subset, maxima-in, maxima-parts, maxima-subset, upto-in}
pub use Rattle.est_kernel.proofs.Sets.{upto-parts}
pub use Rattle.est_kernel.proofs.PotentialLaws.{can_lies_in_may_lem, must_has_one_code_lem}
pub use Rattle.est_kernel.proofs.StepLaws.{same_step, step_is_what_must_be_done_lem}
pub use Rattle.est_kernel.proofs.CodeLaws.{append-nil, length-preorder, may_keeps_static_codes_lem, not_instant, step_keeps_static_codes_lem}
pub use Rattle.est_kernel.proofs.PreorderLaws.{statement_count-pos, statement_count-some}
pub use Rattle.est_kernel.proofs.ResidualLaws.{left_whole, trap_code-most, trap_code-one, trees_are_kernels_lem}
pub use Rattle.est_kernel.proofs.Statuses.{below_meets, below_self, below_trans, cond_below, conjunction-known, conjunction-minus, conjunction_below}
pub use Rattle.est_kernel.proofs.Statuses.{disjunction-known, disjunction-minus, disjunction_below, knows_self, opposite-known, opposite_below, value_below}
pub use Rattle.est_kernel.proofs.Statuses.{with_status-more}
