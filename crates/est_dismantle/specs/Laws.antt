-- Contract: laws of kernel expansion.
use Rattle.std.specs.Prelude.{◌≡◌, ℕ, ◌+◌, ◌==◌, false, List, ◌∷◌, Some}
use Rattle.base_types.specs.declared.place.Span.{Span}
use Rattle.est_kernel.specs.Laws.{left_after}
use Rattle.est_kernel.specs.Plain.{Program}
use Rattle.est_kernel.specs.Statuses.{Plus, Environment, value}
use Rattle.est_kernel.specs.Steps.{Step, ended, step}
use Rattle.est_kernel.specs.Terms as terms
use Rattle.est_kernel.specs.Terms.{Term}
use Rattle.est_kernel.specs.WellFormed.{IsWellFormed, HasNames}
use Rattle.est_ast.specs.FlatTrees.{Flat, Expr, Plain, Immediate, Stmt, At, Await, Abort, Repeat, Sustain, LoopEach}
use Rattle.est_ast.specs.FlatTrees.{Seq, Missing, Written, NoStmts, MoreStmts}
use Rattle.est_dismantle.specs.Expansions.{Expanded, expansion}
use Rattle.est_ast.specs.FlatPrograms.{IsFlat, IsNamed}
use Rattle.est_dismantle.specs.Kernels.{Traps, expression, kernel}
use Rattle.est_ast.specs.NewSignals.{new_by, new_in}

-- The kernel program of a flat program keeps what a kernel program keeps: the limits, each exit in its trap, each
-- signal in its scope, no input emitted.
abbrev pub ExpansionsAreWellFormed : Type 0
ExpansionsAreWellFormed = (flat : Flat) (p : Program) → IsFlat flat → expansion flat ≡ Expanded p → IsWellFormed p

-- Where the names of the flat program and of its interface can be written, those of the kernel program can, and no two
-- signals of the interface have one name.
abbrev pub ExpansionsHaveNames : Type 0
ExpansionsHaveNames =
    (flat : Flat) (p : Program) → IsFlat flat → IsNamed flat → expansion flat ≡ Expanded p → HasNames p

-- ---- what derived statements do

-- An abortion by an immediate delay with `do` does what its rest does, where the event is there at the start: its first
-- step, and with it all that is left, is that of the rest inside the one trap that the abortion puts around it.
abbrev pub ImmediateAbortionsRunTheirRest : Type 0
ImmediateAbortionsRunTheirRest =
    (traps : Traps) (x : ℕ) (at : Span) (p q : Stmt) (e : Expr) (E : Environment) → value (expression e) E ≡ Plus →
    step (kernel traps x (At at (Abort p (Immediate e) (Written q)))) E
    ≡ step (terms.Trap (kernel (false ∷ traps) (x + new_by (Immediate e) + new_in p) q)) E

-- `await immediate e` terminates at once where e is there: nothing is emitted, and nothing is left
abbrev pub ImmediateAwaitsEndAtOnce : Type 0
ImmediateAwaitsEndAtOnce =
    (traps : Traps) (x : ℕ) (at : Span) (e : Expr) (E : Environment) → value (expression e) E ≡ Plus →
    step (kernel traps x (At at (Await (Immediate e) Missing))) E ≡ Some (ended 0)

-- `repeat 2 times p end` is `p` and then `p`, with the same new signals in both; where p has none, it is `p; p`
pub record RepetitionsAreSequences : Type 0 where
  pub twice : (traps : Traps) (x : ℕ) (at place : Span) (p : Stmt) →
      kernel traps x (At at (Repeat 2 place p)) ≡ terms.Seq (kernel traps x p) (kernel traps x p)
  pub in_source : (traps : Traps) (x : ℕ) (at place : Span) (p : Stmt) → new_in p ≡ 0 →
      kernel traps x (At at (Repeat 2 place p)) ≡ kernel traps x (At at (Seq (MoreStmts p (MoreStmts p NoStmts))))

-- a step that emits this signal and no other, and pauses
pub record Sustains (s : ℕ) (a : Step) : Type 0 where
  pub signals : (t : ℕ) → a.emitted t ≡ (t == s)
  pub pauses : a.code ≡ 1

-- `sustain s` emits s in each instant and never ends: after any instants it is there, and its next step emits s and
-- pauses
abbrev pub SustainedSignalsStay : Type 0
SustainedSignalsStay =
    (traps : Traps) (x : ℕ) (at : Span) (s : ℕ) (instants : List Environment) (E : Environment) →
    (r : Term) × (a : Step) × (left_after (kernel traps x (At at (Sustain s))) instants ≡ Some r)
    × (step r E ≡ Some a) × Sustains s a

-- `loop p each e` starts anew in each later instant in which e is there: what is left of it after one instant or more
-- does what the whole does when it starts
abbrev pub LoopsEachStartAnew : Type 0
LoopsEachStartAnew =
    (traps : Traps) (x : ℕ) (at : Span) (p : Stmt) (e : Expr) (first : Environment) (instants : List Environment)
    (r : Term) (E : Environment) →
    left_after (kernel traps x (At at (LoopEach p (Plain e)))) (first ∷ instants) ≡ Some r →
    value (expression e) E ≡ Plus →
    step r E ≡ step (kernel traps x (At at (LoopEach p (Plain e)))) E
