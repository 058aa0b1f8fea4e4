-- Inner: worked faults of names, by hand: two equal names behind one `signal` inside every form of statement, each part of
-- a relation, and the order of the faults of one module.
use Rattle.std.specs.Prelude.{◌≡◌, ℕ, ◌+◌, List, [], ◌∷◌, Some, None, codes}
use Rattle.std.proofs.Common.{refl}
use Rattle.est_ast.specs.declared.trees.Name.{Name}
use Rattle.est_ast.specs.Trees.{Expr, Sig, Delay, Plain, Stmt, At, Form, Nothing, Pause, Halt, Emit, Sustain, Await, AwaitCase, Present, PresentCase, Loop}
use Rattle.est_ast.specs.Trees.{LoopEach, Every, Repeat, Abort, AbortCase, WeakAbort, Suspend, Trap, Exit, Signal, Run, Seq, Par, Group, Missing, Written}
use Rattle.est_ast.specs.Trees.{NoHandler, Handled, NoStmts, MoreStmts, NoCases, MoreCases, Decl, Input, InputOutput, Output, Relations, NamedRelation, Implies}
use Rattle.est_ast.specs.Trees.{Excludes}
use Rattle.est_names.specs.declared.refusal.NameFault.{NameFault}
use Rattle.est_names.specs.declared.refusal.NameFault.TheVariants.{DuplicateModule, NoMain, DuplicateSignal, RelationName}
use Rattle.est_names.specs.NameFaults.{body_faults, interface_faults, module_faults, name_faults, main_place}
use Rattle.est_names.proofs.worked.PlainTrees.{at, n, modul}

abbrev a : Expr
a = Sig (n (codes "A") 1 2)

abbrev d : Delay
d = Plain a

abbrev t : Name
t = n (codes "T") 3 4

-- a statement whose one fault is at this place: signal X, X in nothing end
abbrev twice : ℕ → Stmt
twice k = At (at 0 99) (Signal (n (codes "X") 5 6 ∷ n (codes "X") k (k + 1) ∷ []) (At (at 0 99) Nothing))

-- the fault at this place
abbrev f : ℕ → NameFault
f k = DuplicateSignal (at k (k + 1))

abbrev found : Form → List NameFault
found form = body_faults (At (at 0 99) form)

-- ---- inside every form, part by part in the order of the text

in_await : found (Await d (Written (twice 10))) ≡ f 10 ∷ []
in_await = refl

in_await_cases : found (AwaitCase (MoreCases a (Written (twice 10)) (MoreCases a Missing (MoreCases a (Written (twice 20)) NoCases)))) ≡ f 10 ∷ f 20 ∷ []
in_await_cases = refl

in_present : found (Present a (Written (twice 10)) (Written (twice 20))) ≡ f 10 ∷ f 20 ∷ []
in_present = refl

in_present_cases : found (PresentCase (MoreCases a (Written (twice 10)) (MoreCases a (Written (twice 20)) NoCases)) (Written (twice 30)))
    ≡ f 10 ∷ f 20 ∷ f 30 ∷ []
in_present_cases = refl

in_loop : found (Loop (twice 10)) ≡ f 10 ∷ []
in_loop = refl

in_loop_each : found (LoopEach (twice 10) d) ≡ f 10 ∷ []
in_loop_each = refl

in_every : found (Every d (twice 10)) ≡ f 10 ∷ []
in_every = refl

in_repeat : found (Repeat 2 (at 7 8) (twice 10)) ≡ f 10 ∷ []
in_repeat = refl

in_abort : found (Abort (twice 10) d (Written (twice 20))) ≡ f 10 ∷ f 20 ∷ []
in_abort = refl

in_abort_cases : found (AbortCase (twice 10) (MoreCases a (Written (twice 20)) (MoreCases a (Written (twice 30)) NoCases))) ≡ f 10 ∷ f 20 ∷ f 30 ∷ []
in_abort_cases = refl

in_weak_abort : found (WeakAbort (twice 10) d) ≡ f 10 ∷ []
in_weak_abort = refl

in_suspend : found (Suspend (twice 10) d) ≡ f 10 ∷ []
in_suspend = refl

in_trap : found (Trap t (twice 10) (Handled t (twice 20))) ≡ f 10 ∷ f 20 ∷ []
in_trap = refl

in_trap_alone : found (Trap t (twice 10) NoHandler) ≡ f 10 ∷ []
in_trap_alone = refl

-- the outer list first, and its names do not count in the inner one: signal X, Y, X in signal X, Y, Y in nothing end end
in_signal : found (Signal (n (codes "X") 10 11 ∷ n (codes "Y") 12 13 ∷ n (codes "X") 14 15 ∷ [])
    (At (at 0 99) (Signal (n (codes "X") 20 21 ∷ n (codes "Y") 22 23 ∷ n (codes "Y") 24 25 ∷ []) (At (at 0 99) Nothing)))) ≡ f 14 ∷ f 24 ∷ []
in_signal = refl

in_sequence : found (Seq (MoreStmts (twice 10) (MoreStmts (twice 20) (MoreStmts (twice 30) NoStmts)))) ≡ f 10 ∷ f 20 ∷ f 30 ∷ []
in_sequence = refl

in_parallel : found (Par (MoreStmts (twice 10) (MoreStmts (twice 20) NoStmts))) ≡ f 10 ∷ f 20 ∷ []
in_parallel = refl

in_group : found (Group (twice 10)) ≡ f 10 ∷ []
in_group = refl

-- what has no statement in it: nothing; pause; halt; emit A; sustain A; exit T; run N; await A
in_others : found (Seq (MoreStmts (At (at 0 9) Nothing) (MoreStmts (At (at 0 9) Pause) (MoreStmts (At (at 0 9) Halt) (MoreStmts (At (at 0 9) (Emit t))
    (MoreStmts (At (at 0 9) (Sustain t)) (MoreStmts (At (at 0 9) (Exit t)) (MoreStmts (At (at 0 9) (Run t [])) (MoreStmts (At (at 0 9) (Await d Missing))
    NoStmts))))))))) ≡ []
in_others = refl

-- a third name like the first two, and two pairs in one list: signal X, X, X, Y, Y in nothing end
many_times : found (Signal (n (codes "X") 10 11 ∷ n (codes "X") 12 13 ∷ n (codes "X") 14 15 ∷ n (codes "Y") 16 17 ∷ n (codes "Y") 18 19 ∷ [])
    (At (at 0 99) Nothing)) ≡ f 12 ∷ f 14 ∷ f 18 ∷ []
many_times = refl

-- ---- interfaces: each with input A, B; inputoutput C; output O

abbrev with_relation : NamedRelation → List Decl
with_relation relation =
    Input (n (codes "A") 10 11 ∷ n (codes "B") 12 13 ∷ []) ∷ InputOutput (n (codes "C") 14 15 ∷ []) ∷ Output (n (codes "O") 16 17 ∷ []) ∷
    Relations (relation ∷ []) ∷ []

-- relation X => A
wrong_cause : interface_faults (with_relation (Implies (n (codes "X") 20 21) (n (codes "A") 22 23))) ≡ RelationName (at 20 21) ∷ []
wrong_cause = refl

-- relation A => X
wrong_effect : interface_faults (with_relation (Implies (n (codes "A") 20 21) (n (codes "X") 22 23))) ≡ RelationName (at 22 23) ∷ []
wrong_effect = refl

-- relation X => O: both, from the left
both_wrong : interface_faults (with_relation (Implies (n (codes "X") 20 21) (n (codes "O") 22 23))) ≡ RelationName (at 20 21) ∷ RelationName (at 22 23) ∷ []
both_wrong = refl

-- relation A # B # X
wrong_third : interface_faults (with_relation (Excludes (n (codes "A") 20 21 ∷ n (codes "B") 22 23 ∷ n (codes "X") 24 25 ∷ []))) ≡ RelationName (at 24 25) ∷ []
wrong_third = refl

-- relation C # A # A: what is an input too, and one name twice
may_be_related : interface_faults (with_relation (Excludes (n (codes "C") 20 21 ∷ n (codes "A") 22 23 ∷ n (codes "A") 24 25 ∷ []))) ≡ []
may_be_related = refl

-- input A; inputoutput A; output A; input A: each but the first
four_declarations : interface_faults (Input (n (codes "A") 10 11 ∷ []) ∷ InputOutput (n (codes "A") 12 13 ∷ []) ∷ Output (n (codes "A") 14 15 ∷ []) ∷
    Input (n (codes "A") 16 17 ∷ []) ∷ []) ≡ f 12 ∷ f 14 ∷ f 16 ∷ []
four_declarations = refl

-- ---- the order in one module: input A, A; relation A => X; and a body with a list of two equal names
interface_first : module_faults (modul (n (codes "M") 7 8) (Input (n (codes "A") 10 11 ∷ n (codes "A") 12 13 ∷ []) ∷
    Relations (Implies (n (codes "A") 14 15) (n (codes "X") 16 17) ∷ []) ∷ []) (twice 20)) ≡ f 12 ∷ RelationName (at 16 17) ∷ f 20 ∷ []
interface_first = refl

-- ---- the order in a program: M and M again, and then N, each with a fault of its own
all_faults : name_faults (Some (codes "X")) (modul (n (codes "M") 7 8) [] (twice 20) ∷ modul (n (codes "M") 9 10) [] (twice 30) ∷
    modul (n (codes "N") 11 12) (Output (n (codes "A") 40 41 ∷ n (codes "A") 42 43 ∷ []) ∷ []) (twice 50) ∷ [])
    ≡ DuplicateModule (at 9 10) ∷ NoMain ∷ f 20 ∷ f 30 ∷ f 42 ∷ f 50 ∷ []
all_faults = refl

-- the main module: the first, or the first of the given name
first_is_main : main_place None (codes "M" ∷ codes "N" ∷ []) ≡ Some 0
first_is_main = refl

named_is_main : main_place (Some (codes "N")) (codes "M" ∷ codes "N" ∷ codes "N" ∷ []) ≡ Some 1
named_is_main = refl

no_other_is_main : main_place (Some (codes "NN")) (codes "N" ∷ codes "NNN" ∷ []) ≡ None
no_other_is_main = refl
