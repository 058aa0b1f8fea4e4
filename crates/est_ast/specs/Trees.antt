-- To believe: source trees as plain data, without where they lie in memory.
use Rattle.std.specs.Prelude.{ℕ, List, [], ◌∷◌}
use Rattle.base_types.specs.declared.place.Span.{Span}
use Rattle.est_ast.specs.declared.trees.Name.{Name}
use Rattle.est_ast.specs.declared.trees.Rename.{Rename}

mutual
  -- a test of signals
  pub data Expr : Type 0 where
    Tick : (span : Span) → Expr
    Sig : (name : Name) → Expr
    Not : (e : Expr) → Expr
    And : (parts : Exprs) → Expr
    Or : (parts : Exprs) → Expr
    Round : (e : Expr) → Expr
    Square : (e : Expr) → Expr

  pub data Exprs : Type 0 where
    NoExprs : Exprs
    MoreExprs : (e : Expr) (others : Exprs) → Exprs

-- what a statement waits for; the number of a count has a place
pub data Delay : Type 0 where
  Plain : (event : Expr) → Delay
  Immediate : (event : Expr) → Delay
  Count : (count : ℕ) (span : Span) (event : Expr) → Delay

mutual
  -- a statement with its place
  pub data Stmt : Type 0 where
    At : (span : Span) (form : Form) → Stmt

  -- what a statement is
  pub data Form : Type 0 where
    Nothing : Form
    Pause : Form
    Halt : Form
    Emit : (name : Name) → Form
    Sustain : (name : Name) → Form
    Await : (delay : Delay) (q : Part) → Form
    AwaitCase : (cases : Cases) → Form
    Present : (e : Expr) (p q : Part) → Form
    PresentCase : (cases : Cases) (q : Part) → Form
    Loop : (p : Stmt) → Form
    LoopEach : (p : Stmt) (delay : Delay) → Form
    Every : (delay : Delay) (p : Stmt) → Form
    Repeat : (count : ℕ) (span : Span) (p : Stmt) → Form
    Abort : (p : Stmt) (delay : Delay) (q : Part) → Form
    AbortCase : (p : Stmt) (cases : Cases) → Form
    WeakAbort : (p : Stmt) (delay : Delay) → Form
    Suspend : (p : Stmt) (delay : Delay) → Form
    Trap : (name : Name) (p : Stmt) (handler : Handler) → Form
    Exit : (name : Name) → Form
    Signal : (names : List Name) (p : Stmt) → Form
    Run : (name : Name) (renames : List Rename) → Form
    Seq : (parts : Stmts) → Form
    Par : (parts : Stmts) → Form
    Group : (p : Stmt) → Form

  -- a part that the text may leave out
  pub data Part : Type 0 where
    Missing : Part
    Written : (p : Stmt) → Part

  -- `handle T do p`, which the text may leave out
  pub data Handler : Type 0 where
    NoHandler : Handler
    Handled : (name : Name) (p : Stmt) → Handler

  pub data Stmts : Type 0 where
    NoStmts : Stmts
    MoreStmts : (p : Stmt) (others : Stmts) → Stmts

  -- cases, each with its test and with what comes after `do`
  pub data Cases : Type 0 where
    NoCases : Cases
    MoreCases : (event : Expr) (body : Part) (others : Cases) → Cases

-- what the environment keeps of the given signals
pub data NamedRelation : Type 0 where
  Implies : (cause effect : Name) → NamedRelation
  Excludes : (names : List Name) → NamedRelation

pub data Decl : Type 0 where
  Input : (names : List Name) → Decl
  InputOutput : (names : List Name) → Decl
  Output : (names : List Name) → Decl
  Relations : (relations : List NamedRelation) → Decl

pub record Module : Type 0 where
  pub name : Name
  pub decls : List Decl
  pub body : Stmt

abbrev pub SourceProgram : Type 0
SourceProgram = List Module

-- The lists of a tree, made of lists of their parts.

abbrev pub exprs : List Expr → Exprs
exprs [] = NoExprs
exprs (e ∷ others) = MoreExprs e (exprs others)

abbrev pub stmts : List Stmt → Stmts
stmts [] = NoStmts
stmts (p ∷ others) = MoreStmts p (stmts others)

abbrev pub cases : List (Expr × Part) → Cases
cases [] = NoCases
cases (c ∷ others) = MoreCases c.0 c.1 (cases others)
