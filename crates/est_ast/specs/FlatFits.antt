-- Contract: what the statements of a flat program keep.
use Rattle.std.specs.Prelude.{ℕ, Bool, ◌+◌, ◌<◌, ◌≤◌, ◌==◌, ◌||◌, IsTrue, ⊤, List, [], ◌∷◌}
use Rattle.est_ast.specs.FlatTrees.{Expr, Tick, Sig, Not, And, Or, Exprs, NoExprs, MoreExprs, Delay}
use Rattle.est_ast.specs.FlatTrees.{Plain, Immediate, Count, Stmt, At, Form, Nothing, Pause, Halt, Emit, Sustain, Await}
use Rattle.est_ast.specs.FlatTrees.{AwaitCase, Present, PresentCase, Loop, LoopEach, Every, Repeat, Abort, AbortCase}
use Rattle.est_ast.specs.FlatTrees.{WeakAbort, Suspend, Trap, Exit, Signal, Seq, Par, Part, Missing, Written, Stmts}
use Rattle.est_ast.specs.FlatTrees.{NoStmts, MoreStmts, Cases, NoCases, MoreCases}

-- the signals that are visible at a place, and how many traps stand around it
pub record Scope : Type 0 where
  pub visible : ℕ → Bool
  pub traps : ℕ

-- inside a `signal`, the first signal outermost
abbrev pub binding : List ℕ → (ℕ → Bool) → ℕ → Bool
binding [] visible = visible
binding (s ∷ signals) visible = binding signals (λ t. t == s || visible t)

abbrev pub in_signals : List ℕ → Scope → Scope
in_signals signals scope = record { visible = binding signals scope.visible; traps = scope.traps }

abbrev pub in_trap : Scope → Scope
in_trap scope = record { visible = scope.visible; traps = scope.traps + 1 }

-- each signal of a test is visible
abbrev mutual
  pub TestFits : (ℕ → Bool) → Expr → Type 0
  TestFits visible (Tick span) = ⊤
  TestFits visible (Sig s) = IsTrue (visible s)
  TestFits visible (Not e) = TestFits visible e
  TestFits visible (And parts) = TestsFit visible parts
  TestFits visible (Or parts) = TestsFit visible parts

  pub TestsFit : (ℕ → Bool) → Exprs → Type 0
  TestsFit visible NoExprs = ⊤
  TestsFit visible (MoreExprs e others) = TestFits visible e × TestsFit visible others

abbrev pub DelayFits : (ℕ → Bool) → Delay → Type 0
DelayFits visible (Plain event) = TestFits visible event
DelayFits visible (Immediate event) = TestFits visible event
DelayFits visible (Count count span event) = TestFits visible event

-- The statements of a program that has this many inputs, interface signals and signals in all. What is emitted and
-- tested is visible: an interface signal, or one bound around it. No input is emitted. A `signal` binds signals of the
-- program that are no interface signals. An exit is in the trap that it leaves.
module _ (inputs interface all : ℕ) where
  abbrev pub AreLocal : List ℕ → Type 0
  AreLocal [] = ⊤
  AreLocal (s ∷ signals) = (interface ≤ s) × (s < all) × AreLocal signals

  abbrev mutual
    pub Fits : Scope → Stmt → Type 0
    Fits scope (At span form) = FormFits scope form

    pub FormFits : Scope → Form → Type 0
    FormFits scope Nothing = ⊤
    FormFits scope Pause = ⊤
    FormFits scope Halt = ⊤
    FormFits scope (Emit s) = IsTrue (scope.visible s) × (inputs ≤ s)
    FormFits scope (Sustain s) = IsTrue (scope.visible s) × (inputs ≤ s)
    FormFits scope (Await delay q) = DelayFits scope.visible delay × PartFits scope q
    FormFits scope (AwaitCase cases) = CasesFit scope cases
    FormFits scope (Present e p q) = TestFits scope.visible e × PartFits scope p × PartFits scope q
    FormFits scope (PresentCase cases q) = CasesFit scope cases × PartFits scope q
    FormFits scope (Loop p) = Fits scope p
    FormFits scope (LoopEach p delay) = Fits scope p × DelayFits scope.visible delay
    FormFits scope (Every delay p) = DelayFits scope.visible delay × Fits scope p
    FormFits scope (Repeat count span p) = Fits scope p
    FormFits scope (Abort p delay q) = Fits scope p × DelayFits scope.visible delay × PartFits scope q
    FormFits scope (AbortCase p cases) = Fits scope p × CasesFit scope cases
    FormFits scope (WeakAbort p delay) = Fits scope p × DelayFits scope.visible delay
    FormFits scope (Suspend p delay) = Fits scope p × DelayFits scope.visible delay
    FormFits scope (Trap p handler) = Fits (in_trap scope) p × PartFits scope handler
    FormFits scope (Exit k) = k < scope.traps
    FormFits scope (Signal signals p) = AreLocal signals × Fits (in_signals signals scope) p
    FormFits scope (Seq parts) = AllFit scope parts
    FormFits scope (Par parts) = AllFit scope parts

    pub PartFits : Scope → Part → Type 0
    PartFits scope Missing = ⊤
    PartFits scope (Written p) = Fits scope p

    pub AllFit : Scope → Stmts → Type 0
    AllFit scope NoStmts = ⊤
    AllFit scope (MoreStmts p others) = Fits scope p × AllFit scope others

    pub CasesFit : Scope → Cases → Type 0
    CasesFit scope NoCases = ⊤
    CasesFit scope (MoreCases event body others) =
        TestFits scope.visible event × PartFits scope body × CasesFit scope others
