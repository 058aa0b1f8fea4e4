use Rattle.grc_build.proofs.Words.{ap, arith, term_of}
use Rattle.grc_build.proofs.AnyOf.{if_any}
use Rattle.grc_build.proofs.TableFacts.{number_fits, statements_within}
use Rattle.grc_build.proofs.EndFacts.{ending_here, form_at, go_here, present_first, present_second, seq_first, seq_second, par_first, par_second}
use Rattle.grc_build.proofs.EndFacts.{suspend_part, loop_part, trap_part, local_part, part_tells, loop_tells, second_tells, own_tells, restart_tells}
use Rattle.grc_build.proofs.EndFacts.{tells_live, sequence_same, loop_same, suspension_same, parallel_same, test_of, is_parallel}
use Rattle.grc_build.proofs.ends.end_formula.Goals as goal

pub index-statement-requires : goal.index-statement-requires
index-statement-requires c = omega (arith, statements_within _ _ c.requires.tables (ending_here _ _ _ _ c.requires).within)

pub overflow_add-next : goal.overflow_add-next
overflow_add-next c = omega (arith, number_fits _ _ c.requires.tables (ending_here _ _ _ _ c.requires).within)

pub returns-in-Nothing : goal.returns-in-Nothing
returns-in-Nothing c =
    let o = form_at c.requires c.index-statement.ensures (ap term_of c.in-Nothing.is) in
    rw o.statement (c.wire.ensures _ _ _ c.find_go.ensures (go_here o))

pub returns-in-Pause : goal.returns-in-Pause
returns-in-Pause c =
    let o = form_at c.requires c.index-statement.ensures (ap term_of c.in-Pause.is) in
    rw o.statement (c.wire-in-Pause.ensures _ _ _ c.find_go-in-Pause.ensures (go_here o))

pub returns-in-Emit : goal.returns-in-Emit
returns-in-Emit c =
    let o = form_at c.requires c.index-statement.ensures (ap term_of c.in-Emit.is) in
    rw o.statement (c.wire-in-Emit.ensures _ _ _ c.find_go-in-Emit.ensures (go_here o))

pub returns-in-Exit : goal.returns-in-Exit
returns-in-Exit c =
    let o = form_at c.requires c.index-statement.ensures (ap term_of c.in-Exit.is) in
    rw o.statement (c.wire-in-Exit.ensures _ _ _ c.find_go-in-Exit.ensures (go_here o))

pub returns-in-Present : goal.returns-in-Present
returns-in-Present c =
    let o = form_at c.requires c.index-statement.ensures (ap term_of c.in-Present.is) in
    rw (o.statement, ← o.second) (c.branch_ends.ensures _ _ (part_tells o (present_first o)) (part_tells o (present_second o)))

pub suspension_end-requires : goal.suspension_end-requires
suspension_end-requires c = test_of (form_at c.requires c.index-statement.ensures (ap term_of c.in-Suspend.is))

pub returns-in-Suspend : goal.returns-in-Suspend
returns-in-Suspend c =
    let o = form_at c.requires c.index-statement.ensures (ap term_of c.in-Suspend.is) in
    rw (← suspension_same o) (c.suspension_end.ensures _ (part_tells o (suspend_part o)))

pub returns-in-Seq : goal.returns-in-Seq
returns-in-Seq c =
    let o = form_at c.requires c.index-statement.ensures (ap term_of c.in-Seq.is) in
    rw (← sequence_same o) (c.sequence_end.ensures _ _ _ (part_tells o (seq_first o)) (second_tells o) (own_tells o))

pub returns-in-Loop : goal.returns-in-Loop
returns-in-Loop c =
    let o = form_at c.requires c.index-statement.ensures (ap term_of c.in-Loop.is) in
    rw (← loop_same o) (c.loop_end.ensures _ _ (loop_tells o (loop_part o)) (restart_tells o))

pub parallel_end-requires : goal.parallel_end-requires
parallel_end-requires c = is_parallel (form_at c.requires c.index-statement.ensures (ap term_of c.in-Par.is))

pub returns-in-Par : goal.returns-in-Par
returns-in-Par c =
    let o = form_at c.requires c.index-statement.ensures (ap term_of c.in-Par.is) in
    let r = par_first o in
    let s = par_second o in
    rw (← parallel_same o) (c.parallel_end.ensures _ _ _ _ (tells_live _ _ _ o.tables r.within) (tells_live _ _ _ o.tables s.within)
    (part_tells o r) (part_tells o s))

pub trap_end-requires : goal.trap_end-requires
trap_end-requires c = c.requires.below

pub returns-in-Trap : goal.returns-in-Trap
returns-in-Trap c =
    let o = form_at c.requires c.index-statement.ensures (ap term_of c.in-Trap.is) in
    rw o.statement (c.trap_end.ensures _ (λ j. part_tells o (trap_part o)))

pub returns-in-Local : goal.returns-in-Local
returns-in-Local c =
    let o = form_at c.requires c.index-statement.ensures (ap term_of c.in-Local.is) in
    rw o.statement (c.or_false.ensures _ _ _ (if_any _ _ c.part_end.result _ _ (c.part_end.ensures _ (part_tells o (local_part o)))))
