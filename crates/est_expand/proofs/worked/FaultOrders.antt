-- Inner: worked orders of faults, by hand: in every form of statement the fault that is written first, what is counted before
-- names are resolved, and each limit one below and one above.
use Rattle.std.specs.Prelude.{◌≡◌, ℕ, ◌+◌, true, false, List, [], ◌∷◌, Option, Some, None, Result, Ok, Err, codes, replicate}
use Rattle.std.proofs.Common.{refl}
use Rattle.base_types.specs.declared.place.Span.{Span}
use Rattle.est_ast.specs.declared.trees.Name.{Name}
use Rattle.est_ast.specs.FlatTrees as flat
use Rattle.est_ast.specs.Trees.{Expr, Sig, Not, And, Or, Round, Square, NoExprs, MoreExprs, Delay, Plain, Immediate, Count, Stmt, At, Form, Nothing, Pause}
use Rattle.est_ast.specs.Trees.{Emit}
use Rattle.est_ast.specs.Trees.{Sustain, Await, AwaitCase, Present, PresentCase, Loop, LoopEach, Every, Repeat, Abort, AbortCase, WeakAbort, Suspend, Trap}
use Rattle.est_ast.specs.Trees.{Exit}
use Rattle.est_ast.specs.Trees.{Signal, Run, Seq, Par, Group, Missing, Written, NoHandler, Handled, NoStmts, MoreStmts, NoCases, MoreCases, Output, Module}
use Rattle.est_names.proofs.worked.PlainTrees.{at, n, modul, as_}
use Rattle.est_expand.specs.Faults.{FlattenFault, UnknownModule, Recursive, BadRename, UnknownSignal, Unbound, UnknownTrap, EmitInput}
use Rattle.est_expand.specs.Faults.{TooManyStatements, TooDeep, TooManySignals}
use Rattle.est_expand.specs.Walks.{WalkCounts, meet_statement, meet_signals, meet_added}
use Rattle.est_expand.specs.Flattening.{Around, flattening, main_flattening, around_main}

-- around a statement of a main module with an input A and an output O, in one trap T
abbrev around : Around
around = record {
  scope = (codes "A", record { signal = 0; input = true }) ∷ (codes "O", record { signal = 1; input = false }) ∷ [];
  traps = codes "T" ∷ [];
  chain = codes "M" ∷ [];
}

-- a module with an output F
abbrev module_n : Module
module_n = modul (n (codes "N") 1 2) (Output (n (codes "F") 3 4 ∷ []) ∷ []) (At (at 0 99) Pause)

-- so many statements, signals and signals to add have been met
abbrev met : ℕ → ℕ → ℕ → WalkCounts
met statements signals added = record { statements = statements; signals = replicate signals (codes "S"); added = added }

abbrev walked : WalkCounts → Stmt → Result (flat.Stmt × WalkCounts) FlattenFault
walked before p = flattening (module_n ∷ []) 1 9 around p before

abbrev found : Form → Result (flat.Stmt × WalkCounts) FlattenFault
found form = walked (met 1 2 0) (At (at 0 99) form)

-- an unknown signal at this place
abbrev unknown : ℕ → Result (flat.Stmt × WalkCounts) FlattenFault
unknown k = Err (UnknownSignal (at k (k + 1)))

-- a statement, a test, a delay and a count that have it
abbrev p : ℕ → Stmt
p k = At (at 0 99) (Emit (n (codes "X") k (k + 1)))

abbrev e : ℕ → Expr
e k = Sig (n (codes "X") k (k + 1))

abbrev d : ℕ → Delay
d k = Plain (e k)

-- those that have none
abbrev well : Stmt
well = At (at 0 99) Pause

abbrev a : Expr
a = Sig (n (codes "A") 1 2)

abbrev on_a : Delay
on_a = Plain a

abbrev t : Name
t = n (codes "T") 3 4

-- ---- in every form the first fault of the text, and each part has its own

await_delay : found (Await (d 10) (Written (p 20))) ≡ unknown 10
unfolding flattening
await_delay = refl

await_part : found (Await on_a (Written (p 20))) ≡ unknown 20
unfolding flattening
await_part = refl

await_case_event : found (AwaitCase (MoreCases (e 10) (Written (p 20)) (MoreCases (e 30) Missing NoCases))) ≡ unknown 10
unfolding flattening
await_case_event = refl

await_case_part : found (AwaitCase (MoreCases a (Written (p 20)) (MoreCases (e 30) Missing NoCases))) ≡ unknown 20
unfolding flattening
await_case_part = refl

await_case_second : found (AwaitCase (MoreCases a (Written well) (MoreCases (e 30) (Written (p 40)) NoCases))) ≡ unknown 30
unfolding flattening
await_case_second = refl

present_test : found (Present (e 10) (Written (p 20)) (Written (p 30))) ≡ unknown 10
unfolding flattening
present_test = refl

present_then : found (Present a (Written (p 20)) (Written (p 30))) ≡ unknown 20
unfolding flattening
present_then = refl

present_else : found (Present a (Written well) (Written (p 30))) ≡ unknown 30
unfolding flattening
present_else = refl

present_case_event : found (PresentCase (MoreCases (e 10) (Written (p 20)) NoCases) (Written (p 30))) ≡ unknown 10
unfolding flattening
present_case_event = refl

present_case_part : found (PresentCase (MoreCases a (Written (p 20)) (MoreCases (e 25) Missing NoCases)) (Written (p 30))) ≡ unknown 20
unfolding flattening
present_case_part = refl

present_case_second : found (PresentCase (MoreCases a Missing (MoreCases (e 25) Missing NoCases)) (Written (p 30))) ≡ unknown 25
unfolding flattening
present_case_second = refl

present_case_else : found (PresentCase (MoreCases a (Written well) NoCases) (Written (p 30))) ≡ unknown 30
unfolding flattening
present_case_else = refl

loop_body : found (Loop (p 10)) ≡ unknown 10
unfolding flattening
loop_body = refl

loop_each_body : found (LoopEach (p 10) (d 20)) ≡ unknown 10
unfolding flattening
loop_each_body = refl

loop_each_delay : found (LoopEach well (d 20)) ≡ unknown 20
unfolding flattening
loop_each_delay = refl

every_delay : found (Every (d 10) (p 20)) ≡ unknown 10
unfolding flattening
every_delay = refl

every_body : found (Every on_a (p 20)) ≡ unknown 20
unfolding flattening
every_body = refl

repeat_body : found (Repeat 2 (at 5 6) (p 10)) ≡ unknown 10
unfolding flattening
repeat_body = refl

abort_body : found (Abort (p 10) (d 20) (Written (p 30))) ≡ unknown 10
unfolding flattening
abort_body = refl

abort_delay : found (Abort well (d 20) (Written (p 30))) ≡ unknown 20
unfolding flattening
abort_delay = refl

abort_part : found (Abort well on_a (Written (p 30))) ≡ unknown 30
unfolding flattening
abort_part = refl

abort_case_body : found (AbortCase (p 10) (MoreCases (e 20) (Written (p 30)) NoCases)) ≡ unknown 10
unfolding flattening
abort_case_body = refl

abort_case_event : found (AbortCase well (MoreCases (e 20) (Written (p 30)) NoCases)) ≡ unknown 20
unfolding flattening
abort_case_event = refl

abort_case_part : found (AbortCase well (MoreCases a (Written (p 30)) (MoreCases (e 40) Missing NoCases))) ≡ unknown 30
unfolding flattening
abort_case_part = refl

weak_abort_body : found (WeakAbort (p 10) (d 20)) ≡ unknown 10
unfolding flattening
weak_abort_body = refl

weak_abort_delay : found (WeakAbort well (d 20)) ≡ unknown 20
unfolding flattening
weak_abort_delay = refl

suspend_body : found (Suspend (p 10) (d 20)) ≡ unknown 10
unfolding flattening
suspend_body = refl

suspend_delay : found (Suspend well (d 20)) ≡ unknown 20
unfolding flattening
suspend_delay = refl

trap_body : found (Trap t (p 10) (Handled (n (codes "U") 20 21) (p 30))) ≡ unknown 10
unfolding flattening
trap_body = refl

trap_handle : found (Trap t well (Handled (n (codes "U") 20 21) (p 30))) ≡ Err (UnknownTrap (at 20 21))
unfolding flattening
trap_handle = refl

trap_handler : found (Trap t well (Handled t (p 30))) ≡ unknown 30
unfolding flattening
trap_handler = refl

sequence_parts : found (Seq (MoreStmts well (MoreStmts (p 10) (MoreStmts (p 20) NoStmts)))) ≡ unknown 10
unfolding flattening
sequence_parts = refl

parallel_parts : found (Par (MoreStmts well (MoreStmts (p 10) (MoreStmts (p 20) NoStmts)))) ≡ unknown 10
unfolding flattening
parallel_parts = refl

signal_body : found (Signal (n (codes "Y") 5 6 ∷ []) (p 10)) ≡ unknown 10
unfolding flattening
signal_body = refl

group_body : found (Group (p 10)) ≡ unknown 10
unfolding flattening
group_body = refl

sustained : found (Sustain (n (codes "X") 10 11)) ≡ unknown 10
unfolding flattening
sustained = refl

sustained_input : found (Sustain (n (codes "A") 10 11)) ≡ Err (EmitInput (at 10 11))
unfolding flattening
sustained_input = refl

-- ---- tests: from the left, through brackets and `not`

test_and : found (Present (And (MoreExprs a (MoreExprs (Not (e 10)) (MoreExprs (e 20) NoExprs)))) Missing Missing) ≡ unknown 10
unfolding flattening
test_and = refl

test_or : found (Present (Or (MoreExprs (Round (e 10)) (MoreExprs (Square (e 20)) NoExprs))) Missing Missing) ≡ unknown 10
unfolding flattening
test_or = refl

test_square : found (Present (Square (e 10)) Missing Missing) ≡ unknown 10
unfolding flattening
test_square = refl

immediate_delay : found (Await (Immediate (e 10)) Missing) ≡ unknown 10
unfolding flattening
immediate_delay = refl

counted_delay : found (Await (Count 2 (at 5 6) (e 10)) Missing) ≡ unknown 10
unfolding flattening
counted_delay = refl

-- ---- runs: the module, the way back to it, the formal and then the actual of each renaming, and what is left

run_module : found (Run (n (codes "P") 10 11) (as_ (n (codes "X") 12 13) (n (codes "X") 14 15) ∷ [])) ≡ Err (UnknownModule (at 10 11))
unfolding flattening
run_module = refl

-- run N [signal X/Y]: the formal is tested before what it is given
run_formal : found (Run (n (codes "N") 10 11) (as_ (n (codes "X") 12 13) (n (codes "Y") 14 15) ∷ [])) ≡ Err (BadRename (at 14 15))
unfolding flattening
run_formal = refl

-- run N [signal X/F, O/F]
run_actual : found (Run (n (codes "N") 10 11) (as_ (n (codes "X") 12 13) (n (codes "F") 14 15) ∷ as_ (n (codes "O") 16 17) (n (codes "F") 18 19) ∷ []))
    ≡ unknown 12
unfolding flattening
run_actual = refl

-- run N [signal O/F, X/F]
run_formal_again : found (Run (n (codes "N") 10 11) (as_ (n (codes "O") 12 13) (n (codes "F") 14 15) ∷ as_ (n (codes "X") 16 17) (n (codes "F") 18 19) ∷ []))
    ≡ Err (BadRename (at 18 19))
unfolding flattening
run_formal_again = refl

run_unbound : found (Run (n (codes "N") 10 11) []) ≡ Err (Unbound (at 10 11) (codes "F"))
unfolding flattening
run_unbound = refl

-- where N stands in itself: before its renamings are looked at
run_again : flattening (module_n ∷ []) 1 9 (record around { chain = codes "M" ∷ codes "N" ∷ codes "P" ∷ [] })
    (At (at 0 99) (Run (n (codes "N") 10 11) (as_ (n (codes "X") 12 13) (n (codes "Y") 14 15) ∷ []))) (met 0 0 0)
    ≡ Err (Recursive (at 10 11) (codes "M" ∷ codes "N" ∷ codes "P" ∷ codes "N" ∷ []))
unfolding flattening
run_again = refl

-- ---- limits: each number that is within, and the one above

statements_within : meet_statement (met 65535 0 0) ≡ Ok (tt, met 65536 0 0)
statements_within = refl

statements_above : meet_statement (met 65536 0 0) ≡ Err TooManyStatements
statements_above = refl

-- local signals, names among them
signals_within : meet_signals (codes "S" ∷ codes "S" ∷ []) (met 0 4091 3) ≡ Ok (4091, met 0 4093 3)
signals_within = refl

signals_above : meet_signals (codes "S" ∷ codes "S" ∷ []) (met 0 4092 3) ≡ Err TooManySignals
signals_above = refl

-- signals that counts will add
added_within : meet_added (met 0 4092 3) ≡ Ok (tt, met 0 4092 4)
added_within = refl

added_above : meet_added (met 0 4092 4) ≡ Err TooManySignals
added_above = refl

-- a statement is counted first, then its depth is tested, and then its names are resolved
counted_before_depth : flattening [] 1 0 around (p 10) (met 65536 0 0) ≡ Err TooManyStatements
unfolding flattening
counted_before_depth = refl

depth_before_names : flattening [] 1 0 around (p 10) (met 65535 0 0) ≡ Err TooDeep
unfolding flattening
depth_before_names = refl

depth_within : flattening [] 1 2 around (At (at 0 99) (Loop (p 10))) (met 0 0 0) ≡ unknown 10
unfolding flattening
depth_within = refl

depth_above : flattening [] 1 1 around (At (at 0 99) (Loop (p 10))) (met 0 0 0) ≡ Err TooDeep
unfolding flattening
depth_above = refl

-- a group and a `run` count as statements of their own
group_counts : walked (met 65535 0 0) (At (at 0 99) (Group well)) ≡ Err TooManyStatements
unfolding flattening
group_counts = refl

run_counts : walked (met 65535 0 0) (At (at 0 99) (Run (n (codes "N") 10 11) (as_ (n (codes "O") 12 13) (n (codes "F") 14 15) ∷ []))) ≡ Err TooManyStatements
unfolding flattening
run_counts = refl

-- the body of a main module may stand in 2048 statements
main_depth : main_flattening [] module_n ≡ flattening [] 0 2049 (around_main module_n) (At (at 0 99) Pause)
main_depth = refl

-- the own signals of a statement are counted before its names are resolved: in local signals, and in abortions by a count
abbrev full : Form → Result (flat.Stmt × WalkCounts) FlattenFault
full form = walked (met 0 4095 1) (At (at 0 99) form)

full_signal : full (Signal (n (codes "Y") 5 6 ∷ []) (p 10)) ≡ Err TooManySignals
unfolding flattening
full_signal = refl

full_abort : full (Abort (p 10) (Count 2 (at 5 6) (e 20)) Missing) ≡ Err TooManySignals
unfolding flattening
full_abort = refl

full_loop_each : full (LoopEach (p 10) (Count 2 (at 5 6) (e 20))) ≡ Err TooManySignals
unfolding flattening
full_loop_each = refl

full_every : full (Every (Count 2 (at 5 6) (e 10)) (p 20)) ≡ Err TooManySignals
unfolding flattening
full_every = refl

-- others have none, and a count of 1 has none
full_await : full (Await (Count 2 (at 5 6) (e 10)) Missing) ≡ unknown 10
unfolding flattening
full_await = refl

full_weak_abort : full (WeakAbort well (Count 2 (at 5 6) (e 10))) ≡ unknown 10
unfolding flattening
full_weak_abort = refl

full_by_one : full (Abort (p 10) (Count 1 (at 5 6) a) Missing) ≡ unknown 10
unfolding flattening
full_by_one = refl

full_plainly : full (Every (Immediate a) (p 10)) ≡ unknown 10
unfolding flattening
full_plainly = refl
