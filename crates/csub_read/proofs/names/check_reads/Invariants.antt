use Rattle.std.proofs.Common.{◌≡◌, not, map, drop}
use Rattle.std.specs.Prelude.{filter}
use Rattle.std.specs.HashSet.{contains_by}
use Rattle.base_types.specs.Names.{is_same_name}
use Rattle.csub_text.specs.Names.{unset, unset_from}
use Rattle.csub_text.specs.Views.{assign_of, expr_of, program_of}
use Rattle.csub_read.proofs.names.check_reads.Given as goal

-- what is read too early is read in what is left, where the locals that are assigned so far are none any more
abbrev pub invariant-loop-assign : goal.invariant-loop-assign
invariant-loop-assign l =
    unset (program_of l.program)
    ≡ unset_from (filter (λ n. not (contains_by (λ k. is_same_name n k.now) l.assigned)) l.program.locals.items)
    (map assign_of (drop l.assign-index l.program.body.items)) (expr_of l.program.answer)
