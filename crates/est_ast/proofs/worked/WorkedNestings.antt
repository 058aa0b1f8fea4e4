-- Worked nestings of trees and numbers of new signals, by hand: of each form each part in turn.
use Rattle.std.specs.Prelude.{◌≡◌, ℕ, List, [], ◌∷◌, codes}
use Rattle.std.proofs.Common.{refl}
use Rattle.est_ast.specs.declared.trees.Name.{Name}
use Rattle.est_ast.specs.Trees.{Expr, Tick, Sig, Not, And, Or, Round, Square, NoExprs, MoreExprs, Delay, Plain, Immediate, Count, Stmt, At, Form, Nothing}
use Rattle.est_ast.specs.Trees.{Pause, Halt, Emit, Sustain, Await, AwaitCase, Present, PresentCase, Loop, LoopEach, Every, Repeat, Abort, AbortCase, WeakAbort}
use Rattle.est_ast.specs.Trees.{Suspend, Trap, Exit, Signal, Run, Seq, Par, Group, Part, Missing, Written, NoHandler, Handled, NoStmts, MoreStmts, NoCases}
use Rattle.est_ast.specs.Trees.{MoreCases}
use Rattle.est_ast.specs.FlatTrees as flat
use Rattle.est_ast.specs.Nesting.{expr_nesting, form_nesting, program_nesting}
use Rattle.est_ast.specs.NewSignals.{new_by, new_in_form}
use Rattle.est_ast.proofs.worked.Spelled.{at, n, modul}

abbrev x : Name
x = n (codes "X") 1 2

-- tests that are nested 0 and 3 deep
abbrev a : Expr
a = Sig x

abbrev deep : Expr
deep = Not (Round (Square a))

-- statements that are nested 0 and 2 deep
abbrev p : Stmt
p = At (at 0 99) Pause

abbrev q : Stmt
q = At (at 0 99) (Group (At (at 0 99) (Group p)))

abbrev d : Delay
d = Plain a

-- ---- tests: each `not` and each pair of brackets counts, lists do not

one_not : expr_nesting (Not a) ≡ 1
one_not = refl

one_pair : expr_nesting (Round a) ≡ 1
one_pair = refl

square_pair : expr_nesting (Square a) ≡ 1
square_pair = refl

three_deep : expr_nesting deep ≡ 3
three_deep = refl

in_and : expr_nesting (And (MoreExprs a (MoreExprs deep (MoreExprs (Not a) NoExprs)))) ≡ 3
in_and = refl

in_or : expr_nesting (Or (MoreExprs (Not a) (MoreExprs (Tick (at 0 4)) (MoreExprs deep NoExprs)))) ≡ 3
in_or = refl

-- ---- statements that count nothing

nothing_deep : form_nesting Nothing ≡ 0
nothing_deep = refl

halt_deep : form_nesting Halt ≡ 0
halt_deep = refl

emit_deep : form_nesting (Emit x) ≡ 0
emit_deep = refl

sustain_deep : form_nesting (Sustain x) ≡ 0
sustain_deep = refl

exit_deep : form_nesting (Exit x) ≡ 0
exit_deep = refl

run_deep : form_nesting (Run x []) ≡ 0
run_deep = refl

sequence_deep : form_nesting (Seq (MoreStmts p (MoreStmts q (MoreStmts p NoStmts)))) ≡ 2
sequence_deep = refl

parallel_deep : form_nesting (Par (MoreStmts q (MoreStmts p NoStmts))) ≡ 2
parallel_deep = refl

-- ---- statements that count one, and each part in turn

group_deep : form_nesting (Group q) ≡ 3
group_deep = refl

await_deep : form_nesting (Await d Missing) ≡ 1
await_deep = refl

await_by : form_nesting (Await (Plain deep) (Written q)) ≡ 4
await_by = refl

await_immediate_by : form_nesting (Await (Immediate deep) (Written q)) ≡ 4
await_immediate_by = refl

await_counted_by : form_nesting (Await (Count 2 (at 0 1) deep) (Written q)) ≡ 4
await_counted_by = refl

await_part : form_nesting (Await d (Written q)) ≡ 3
await_part = refl

await_cases_event : form_nesting (AwaitCase (MoreCases a (Written q) (MoreCases deep Missing NoCases))) ≡ 4
await_cases_event = refl

await_cases_part : form_nesting (AwaitCase (MoreCases a Missing (MoreCases a (Written q) NoCases))) ≡ 3
await_cases_part = refl

present_test : form_nesting (Present deep (Written q) (Written q)) ≡ 4
present_test = refl

present_then : form_nesting (Present a (Written q) Missing) ≡ 3
present_then = refl

present_else : form_nesting (Present a (Written p) (Written q)) ≡ 3
present_else = refl

present_cases : form_nesting (PresentCase (MoreCases deep Missing NoCases) (Written q)) ≡ 4
present_cases = refl

present_cases_else : form_nesting (PresentCase (MoreCases a Missing NoCases) (Written q)) ≡ 3
present_cases_else = refl

loop_deep : form_nesting (Loop q) ≡ 3
loop_deep = refl

loop_each_body : form_nesting (LoopEach q d) ≡ 3
loop_each_body = refl

loop_each_delay : form_nesting (LoopEach q (Plain deep)) ≡ 4
loop_each_delay = refl

every_body : form_nesting (Every d q) ≡ 3
every_body = refl

every_delay : form_nesting (Every (Plain deep) q) ≡ 4
every_delay = refl

repeat_deep : form_nesting (Repeat 5 (at 0 1) q) ≡ 3
repeat_deep = refl

abort_body : form_nesting (Abort q d Missing) ≡ 3
abort_body = refl

abort_delay : form_nesting (Abort q (Plain deep) (Written q)) ≡ 4
abort_delay = refl

abort_part : form_nesting (Abort p d (Written q)) ≡ 3
abort_part = refl

abort_cases_body : form_nesting (AbortCase q (MoreCases a Missing NoCases)) ≡ 3
abort_cases_body = refl

abort_cases : form_nesting (AbortCase p (MoreCases a (Written q) NoCases)) ≡ 3
abort_cases = refl

weak_abort_body : form_nesting (WeakAbort q d) ≡ 3
weak_abort_body = refl

weak_abort_delay : form_nesting (WeakAbort q (Plain deep)) ≡ 4
weak_abort_delay = refl

suspend_body : form_nesting (Suspend q d) ≡ 3
suspend_body = refl

suspend_delay : form_nesting (Suspend q (Plain deep)) ≡ 4
suspend_delay = refl

trap_body : form_nesting (Trap x q NoHandler) ≡ 3
trap_body = refl

trap_handler : form_nesting (Trap x p (Handled x q)) ≡ 3
trap_handler = refl

signal_deep : form_nesting (Signal (x ∷ []) q) ≡ 3
signal_deep = refl

-- the greatest of the modules
in_programs : program_nesting (modul x [] p ∷ modul x [] q ∷ modul x [] p ∷ []) ≡ 2
in_programs = refl

-- ---- new signals: a count of 2 or more, in an abortion, and what stands in each part

abbrev two : flat.Delay
two = flat.Count 2 (at 0 1) (flat.Sig 0)

abbrev plain : flat.Delay
plain = flat.Plain (flat.Sig 0)

-- a statement that needs one
abbrev s : flat.Stmt
s = flat.At (at 0 99) (flat.Abort (flat.At (at 0 99) flat.Pause) two flat.Missing)

count_of_one : new_by (flat.Count 1 (at 0 1) (flat.Sig 0)) ≡ 0
count_of_one = refl

count_of_two : new_by two ≡ 1
count_of_two = refl

immediate_delay : new_by (flat.Immediate (flat.Sig 0)) ≡ 0
immediate_delay = refl

new_await : new_in_form (flat.Await two (flat.Written s)) ≡ 1
new_await = refl

new_await_cases : new_in_form (flat.AwaitCase (flat.MoreCases (flat.Sig 0) (flat.Written s) (flat.MoreCases (flat.Sig 0) (flat.Written s) flat.NoCases))) ≡ 2
new_await_cases = refl

new_present : new_in_form (flat.Present (flat.Sig 0) (flat.Written s) (flat.Written s)) ≡ 2
new_present = refl

new_present_cases : new_in_form (flat.PresentCase (flat.MoreCases (flat.Sig 0) (flat.Written s) flat.NoCases) (flat.Written s)) ≡ 2
new_present_cases = refl

new_loop : new_in_form (flat.Loop s) ≡ 1
new_loop = refl

new_loop_each : new_in_form (flat.LoopEach s two) ≡ 2
new_loop_each = refl

new_every : new_in_form (flat.Every two s) ≡ 2
new_every = refl

-- all copies of the body have the same
new_repeat : new_in_form (flat.Repeat 5 (at 0 1) s) ≡ 1
new_repeat = refl

new_abort : new_in_form (flat.Abort s two (flat.Written s)) ≡ 3
new_abort = refl

new_abort_plain : new_in_form (flat.Abort s plain (flat.Written s)) ≡ 2
new_abort_plain = refl

new_abort_cases : new_in_form (flat.AbortCase s (flat.MoreCases (flat.Sig 0) (flat.Written s) flat.NoCases)) ≡ 2
new_abort_cases = refl

new_weak_abort : new_in_form (flat.WeakAbort s two) ≡ 1
new_weak_abort = refl

new_suspend : new_in_form (flat.Suspend s plain) ≡ 1
new_suspend = refl

new_trap : new_in_form (flat.Trap s (flat.Written s)) ≡ 2
new_trap = refl

new_signal : new_in_form (flat.Signal (3 ∷ 4 ∷ []) s) ≡ 1
new_signal = refl

new_sequence : new_in_form (flat.Seq (flat.MoreStmts s (flat.MoreStmts s flat.NoStmts))) ≡ 2
new_sequence = refl

new_parallel : new_in_form (flat.Par (flat.MoreStmts s (flat.MoreStmts s flat.NoStmts))) ≡ 2
new_parallel = refl
