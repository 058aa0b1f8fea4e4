-- Contract: the trees that the grammar has, whatever their places. A sequence is no part of a sequence, a parallel
-- is in neither, an `or` stands neither in an `or` nor in an `and`, nor an `and` in an `and`, and what `not` holds
-- is none of these: brackets make a part of them. Lists have two parts or more; cases, and the names of `signal`, of a
-- declaration and of its relations, one or more. An event is a signal, `tick` or a test in `[ ]`.
use Rattle.std.specs.Prelude.{⊤, ◌<◌, List, [], ◌∷◌, length}
use Rattle.std.specs.List.{All}
use Rattle.est_ast.specs.Trees.{Expr, Tick, Sig, Not, And, Or, Round, Square, Exprs, NoExprs, MoreExprs, Delay, Plain}
use Rattle.est_ast.specs.Trees.{Immediate, Count, Stmt, At, Form, Nothing, Pause, Halt, Emit, Sustain, Await, AwaitCase}
use Rattle.est_ast.specs.Trees.{Present, PresentCase, Loop, LoopEach, Every, Repeat, Abort, AbortCase, WeakAbort}
use Rattle.est_ast.specs.Trees.{Suspend, Trap, Exit, Signal, Run, Seq, Par, Group, Part, Missing, Written, Handler}
use Rattle.est_ast.specs.Trees.{NoHandler, Handled, Stmts, NoStmts, MoreStmts, Cases, NoCases, MoreCases, NamedRelation}
use Rattle.est_ast.specs.Trees.{Implies, Excludes, Decl, Input, InputOutput, Output, Relations, Module, SourceProgram}
use Rattle.est_ast.specs.Grammar.{TestTier, Disjunction, Conjunction, Negation, Level, Whole, Line, Item}

-- two parts or more
abbrev pub AreExprs : Exprs → Type 0
AreExprs (MoreExprs e (MoreExprs next others)) = ⊤
AreExprs _ = ⊥

abbrev pub AreStmts : Stmts → Type 0
AreStmts (MoreStmts p (MoreStmts next others)) = ⊤
AreStmts _ = ⊥

-- one or more
abbrev pub IsListed : {A : Type 0} → List A → Type 0
IsListed [] = ⊥
IsListed (first ∷ others) = ⊤

-- a test in a place for an expr, a conj or a neg
abbrev mutual
  pub IsExpr : TestTier → Expr → Type 0
  IsExpr tier (Tick span) = ⊤
  IsExpr tier (Sig n) = ⊤
  IsExpr tier (Not e) = IsExpr Negation e
  IsExpr tier (Round e) = IsExpr Disjunction e
  IsExpr tier (Square e) = IsExpr Disjunction e
  IsExpr Disjunction (And parts) = AreExprs parts × EachExpr Negation parts
  IsExpr Conjunction (And parts) = AreExprs parts × EachExpr Negation parts
  IsExpr Negation (And parts) = ⊥
  IsExpr Disjunction (Or parts) = AreExprs parts × EachExpr Conjunction parts
  IsExpr Conjunction (Or parts) = ⊥
  IsExpr Negation (Or parts) = ⊥

  pub EachExpr : TestTier → Exprs → Type 0
  EachExpr tier NoExprs = ⊤
  EachExpr tier (MoreExprs e others) = IsExpr tier e × EachExpr tier others

abbrev pub IsEvent : Expr → Type 0
IsEvent (Tick span) = ⊤
IsEvent (Sig n) = ⊤
IsEvent (Square e) = IsExpr Disjunction e
IsEvent _ = ⊥

abbrev pub IsDelay : Delay → Type 0
IsDelay (Plain event) = IsEvent event
IsDelay (Immediate event) = IsEvent event
IsDelay (Count count span event) = IsEvent event

-- what comes after `each`
abbrev pub IsCount : Delay → Type 0
IsCount (Plain event) = IsEvent event
IsCount (Immediate event) = ⊥
IsCount (Count count span event) = IsEvent event

-- what comes after the `when` of `suspend`
abbrev pub IsTest : Delay → Type 0
IsTest (Plain event) = IsEvent event
IsTest (Immediate event) = IsEvent event
IsTest (Count count span event) = ⊥

-- a statement in a place for a stmt, a seq or an item
abbrev mutual
  pub IsStmt : Level → Stmt → Type 0
  IsStmt level (At span form) = IsForm level form

  pub IsForm : Level → Form → Type 0
  IsForm level Nothing = ⊤
  IsForm level Pause = ⊤
  IsForm level Halt = ⊤
  IsForm level (Emit n) = ⊤
  IsForm level (Sustain n) = ⊤
  IsForm level (Exit n) = ⊤
  IsForm level (Group p) = IsStmt Whole p
  IsForm level (Await delay q) = IsDelay delay × IsPart q
  IsForm level (AwaitCase cases) = AreCases cases
  IsForm level (Present e p q) = IsExpr Disjunction e × IsPart p × IsPart q
  IsForm level (PresentCase cases q) = AreCases cases × IsPart q
  IsForm level (Loop p) = IsStmt Whole p
  IsForm level (LoopEach p delay) = IsStmt Whole p × IsCount delay
  IsForm level (Every delay p) = IsDelay delay × IsStmt Whole p
  IsForm level (Repeat count span p) = IsStmt Whole p
  IsForm level (Abort p delay q) = IsStmt Whole p × IsDelay delay × IsPart q
  IsForm level (AbortCase p cases) = IsStmt Whole p × AreCases cases
  IsForm level (WeakAbort p delay) = IsStmt Whole p × IsDelay delay
  IsForm level (Suspend p delay) = IsStmt Whole p × IsTest delay
  IsForm level (Trap n p handler) = IsStmt Whole p × IsHandler handler
  IsForm level (Signal names p) = IsListed names × IsStmt Whole p
  IsForm level (Run n renames) = ⊤
  IsForm Whole (Seq parts) = AreStmts parts × EachStmt Item parts
  IsForm Line (Seq parts) = AreStmts parts × EachStmt Item parts
  IsForm Item (Seq parts) = ⊥
  IsForm Whole (Par parts) = AreStmts parts × EachStmt Line parts
  IsForm Line (Par parts) = ⊥
  IsForm Item (Par parts) = ⊥

  pub IsPart : Part → Type 0
  IsPart Missing = ⊤
  IsPart (Written p) = IsStmt Whole p

  pub IsHandler : Handler → Type 0
  IsHandler NoHandler = ⊤
  IsHandler (Handled n p) = IsStmt Whole p

  pub EachStmt : Level → Stmts → Type 0
  EachStmt level NoStmts = ⊤
  EachStmt level (MoreStmts p others) = IsStmt level p × EachStmt level others

  pub AreCases : Cases → Type 0
  AreCases NoCases = ⊥
  AreCases (MoreCases event body others) = IsExpr Disjunction event × IsPart body × EachCase others

  pub EachCase : Cases → Type 0
  EachCase NoCases = ⊤
  EachCase (MoreCases event body others) = IsExpr Disjunction event × IsPart body × EachCase others

-- `#` stands between two names at least
abbrev pub IsRelation : NamedRelation → Type 0
IsRelation (Implies cause effect) = ⊤
IsRelation (Excludes names) = 1 < length names

abbrev pub IsDecl : Decl → Type 0
IsDecl (Input names) = IsListed names
IsDecl (InputOutput names) = IsListed names
IsDecl (Output names) = IsListed names
IsDecl (Relations relations) = IsListed relations × All IsRelation relations

pub record IsModule (m : Module) : Type 0 where
  pub decls : All IsDecl m.decls
  pub body : IsStmt Whole m.body

-- a program of the grammar
pub record IsSpellable (p : SourceProgram) : Type 0 where
  pub modules : IsListed p
  pub each : All IsModule p
