-- To believe: flat programs as plain data, without where they lie in memory. Signals and traps are numbers.
use Rattle.std.specs.Prelude.{ℕ, List, [], ◌∷◌}
use Rattle.base_types.specs.declared.place.Span.{Span}
use Rattle.base_types.specs.Relations.{Relation}

mutual
  -- a test of signals
  pub data Expr : Type 0 where
    Tick : (span : Span) → Expr
    Sig : (s : ℕ) → Expr
    Not : (e : Expr) → Expr
    And : (parts : Exprs) → Expr
    Or : (parts : Exprs) → Expr

  pub data Exprs : Type 0 where
    NoExprs : Exprs
    MoreExprs : (e : Expr) (others : Exprs) → Exprs

-- what a statement waits for; the number of a count has a place
pub data Delay : Type 0 where
  Plain : (event : Expr) → Delay
  Immediate : (event : Expr) → Delay
  Count : (count : ℕ) (span : Span) (event : Expr) → Delay

mutual
  -- a statement with the place of the source statement that it comes from
  pub data Stmt : Type 0 where
    At : (span : Span) (form : Form) → Stmt

  -- what a statement is; an exit has the number of source traps between it and its trap
  pub data Form : Type 0 where
    Nothing : Form
    Pause : Form
    Halt : Form
    Emit : (s : ℕ) → Form
    Sustain : (s : ℕ) → Form
    Await : (delay : Delay) (q : Part) → Form
    AwaitCase : (cases : Cases) → Form
    Present : (e : Expr) (p q : Part) → Form
    PresentCase : (cases : Cases) (q : Part) → Form
    Loop : (p : Stmt) → Form
    LoopEach : (p : Stmt) (delay : Delay) → Form
    Every : (delay : Delay) (p : Stmt) → Form
    Repeat : (count : ℕ) (span : Span) (p : Stmt) → Form
    Abort : (p : Stmt) (delay : Delay) (q : Part) → Form
    AbortCase : (p : Stmt) (cases : Cases) → Form
    WeakAbort : (p : Stmt) (delay : Delay) → Form
    Suspend : (p : Stmt) (delay : Delay) → Form
    Trap : (p : Stmt) (handler : Part) → Form
    Exit : (k : ℕ) → Form
    Signal : (signals : List ℕ) (p : Stmt) → Form
    Seq : (parts : Stmts) → Form
    Par : (parts : Stmts) → Form

  -- a part that the text may leave out
  pub data Part : Type 0 where
    Missing : Part
    Written : (p : Stmt) → Part

  pub data Stmts : Type 0 where
    NoStmts : Stmts
    MoreStmts : (p : Stmt) (others : Stmts) → Stmts

  -- cases, each with its test and with what comes after `do`
  pub data Cases : Type 0 where
    NoCases : Cases
    MoreCases : (event : Expr) (body : Part) (others : Cases) → Cases

-- A flat program. Its signals are numbered in this order: the inputs, those that are input and output, the
-- outputs, each kind in the order of the text, and then the local ones.
pub record Flat : Type 0 where
  pub name : List ℕ
  pub signals : List (List ℕ)
  pub inputs : ℕ
  pub both : ℕ
  pub outputs : ℕ
  pub relations : List Relation
  pub body : Stmt

-- The lists of a tree, made of lists of their parts.

abbrev pub exprs : List Expr → Exprs
exprs [] = NoExprs
exprs (e ∷ others) = MoreExprs e (exprs others)

abbrev pub stmts : List Stmt → Stmts
stmts [] = NoStmts
stmts (p ∷ others) = MoreStmts p (stmts others)

abbrev pub cases : List (Expr × Part) → Cases
cases [] = NoCases
cases (c ∷ others) = MoreCases c.0 c.1 (cases others)
