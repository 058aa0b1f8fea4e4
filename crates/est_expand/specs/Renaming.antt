-- Contract: programs that are the same except for the names of what their modules bind: formals, local signals and
-- traps.
-- Two names are the same where their nearest binders stand beside one another. A name that no binder around it has is
-- free and stays. The names of modules stay, and each name stands at the same place of the text. This is the equality
-- up to bound names of Barendregt, "The Lambda Calculus", for modules.
use Rattle.std.specs.Prelude.{◌≡◌, ℕ, Bool, ◌&&◌, ◌||◌, if◌then◌else◌, List, [], ◌∷◌, map, length, take, Result, Ok}
use Rattle.std.specs.Prelude.{Err, IsTrue}
use Rattle.std.specs.List.{list_all}
use Rattle.base_types.specs.declared.place.Span.{Span}
use Rattle.base_types.specs.Names.{is_same_name}
use Rattle.est_ast.specs.declared.trees.Name.{Name}
use Rattle.est_ast.specs.declared.trees.Rename.{Rename}
use Rattle.est_ast.specs.FlatTrees as flat
use Rattle.est_ast.specs.Trees.{Expr, Tick, Sig, Not, And, Or, Round, Square, Exprs, NoExprs, MoreExprs, Delay, Plain}
use Rattle.est_ast.specs.Trees.{Immediate, Count, Stmt, At, Form, Nothing, Pause, Halt, Emit, Sustain, Await, AwaitCase}
use Rattle.est_ast.specs.Trees.{Present, PresentCase, Loop, LoopEach, Every, Repeat, Abort, AbortCase, WeakAbort}
use Rattle.est_ast.specs.Trees.{Suspend, Trap, Exit, Signal, Run, Seq, Par, Group, Part, Missing, Written, Handler}
use Rattle.est_ast.specs.Trees.{NoHandler, Handled, Stmts, NoStmts, MoreStmts, Cases, NoCases, MoreCases, Module}
use Rattle.est_ast.specs.Trees.{SourceProgram}
use Rattle.est_names.specs.Names.{texts, is_among}
use Rattle.est_expand.specs.Faults.{FlattenFault, Unbound}
use Rattle.est_ast.specs.FlatPrograms.{seen_count}
use Rattle.est_expand.specs.Runs.{module_named, formal_names}
use Rattle.est_expand.specs.Scopes.{interface}

-- ---- names

-- names of binders beside one another, the nearest binders first
abbrev pub Pairs : Type 0
Pairs = List (List ℕ × List ℕ)

-- the nearest binders of two names stand beside one another, or the names are free and equal
abbrev pub are_same : Pairs → List ℕ → List ℕ → Bool
are_same [] a b = is_same_name a b
are_same (pair ∷ pairs) a b =
    if is_same_name a pair.0 || is_same_name b pair.1 then is_same_name a pair.0 && is_same_name b pair.1
    else are_same pairs a b

-- inside binders of these names
abbrev pub beside : List (List ℕ) → List (List ℕ) → Pairs → Pairs
beside [] others pairs = pairs
beside (name ∷ names) [] pairs = pairs
beside (name ∷ names) (other ∷ others) pairs = beside names others ((name, other) ∷ pairs)

-- two names at one place
pub record SameName (pairs : Pairs) (a b : Name) : Type 0 where
  pub place : a.span ≡ b.span
  pub same : IsTrue (are_same pairs a.text b.text)

-- the binders around two statements of one module each
pub record Binders : Type 0 where
  pub signals : Pairs
  pub traps : Pairs

abbrev pub in_both_signals : List Name → List Name → Binders → Binders
in_both_signals names others b = record b { signals = beside (texts names) (texts others) b.signals }

abbrev pub in_both_traps : Name → Name → Binders → Binders
in_both_traps name other b = record b { traps = (name.text, other.text) ∷ b.traps }

-- ---- tests and delays

mutual
  pub data SameExpr (signals : Pairs) : Expr → Expr → Type 0 where
    BothTick : (span : Span) → SameExpr signals (Tick span) (Tick span)
    BothSig : {n m : Name} → SameName signals n m → SameExpr signals (Sig n) (Sig m)
    BothNot : {e f : Expr} → SameExpr signals e f → SameExpr signals (Not e) (Not f)
    BothAnd : {es fs : Exprs} → SameExprs signals es fs → SameExpr signals (And es) (And fs)
    BothOr : {es fs : Exprs} → SameExprs signals es fs → SameExpr signals (Or es) (Or fs)
    BothRound : {e f : Expr} → SameExpr signals e f → SameExpr signals (Round e) (Round f)
    BothSquare : {e f : Expr} → SameExpr signals e f → SameExpr signals (Square e) (Square f)

  pub data SameExprs (signals : Pairs) : Exprs → Exprs → Type 0 where
    BothNoExprs : SameExprs signals NoExprs NoExprs
    BothMoreExprs : {e f : Expr} {es fs : Exprs} → SameExpr signals e f → SameExprs signals es fs
        → SameExprs signals (MoreExprs e es) (MoreExprs f fs)

pub data SameDelay (signals : Pairs) : Delay → Delay → Type 0 where
  BothPlain : {e f : Expr} → SameExpr signals e f → SameDelay signals (Plain e) (Plain f)
  BothImmediate : {e f : Expr} → SameExpr signals e f → SameDelay signals (Immediate e) (Immediate f)
  BothCount : {e f : Expr} (count : ℕ) (span : Span) → SameExpr signals e f
      → SameDelay signals (Count count span e) (Count count span f)

-- ---- runs

-- the formals of two modules beside one another
abbrev pub both_formals : Module → Module → Pairs
both_formals m n = beside (formal_names (interface m)) (formal_names (interface n)) []

-- renamings of the same formals, with actuals that are the same
pub data SameRenames (formals signals : Pairs) : List Rename → List Rename → Type 0 where
  BothNoRenames : SameRenames formals signals [] []
  BothMoreRenames : {r s : Rename} {rs ss : List Rename} → SameName formals r.formal s.formal
      → SameName signals r.actual s.actual → SameRenames formals signals rs ss
      → SameRenames formals signals (r ∷ rs) (s ∷ ss)

-- a formal is renamed, or else it and the one next to it are the same where the `run` stands
abbrev pub is_same_formal : Pairs → List Rename → List ℕ × List ℕ → Bool
is_same_formal signals renames pair =
    is_among pair.0 (map (λ r. r.formal.text) renames) || are_same signals pair.0 pair.1

-- two runs of one module of each program
pub record SameRun (signals : Pairs) (m n : Module) (renames others : List Rename) : Type 0 where
  pub renamed : SameRenames (both_formals m n) signals renames others
  pub left : IsTrue (list_all (is_same_formal signals renames) (both_formals m n))

-- ---- statements of two programs

module _ (modules others : SourceProgram) where
  mutual
    pub data SameStmt : Binders → Stmt → Stmt → Type 0 where
      BothAt : {b : Binders} {f g : Form} (span : Span) → SameForm b f g → SameStmt b (At span f) (At span g)

    pub data SameForm : Binders → Form → Form → Type 0 where
      BothNothing : {b : Binders} → SameForm b Nothing Nothing
      BothPause : {b : Binders} → SameForm b Pause Pause
      BothHalt : {b : Binders} → SameForm b Halt Halt
      BothEmit : {b : Binders} {n m : Name} → SameName b.signals n m → SameForm b (Emit n) (Emit m)
      BothSustain : {b : Binders} {n m : Name} → SameName b.signals n m → SameForm b (Sustain n) (Sustain m)
      BothAwait : {b : Binders} {d e : Delay} {p q : Part} → SameDelay b.signals d e → SamePart b p q
          → SameForm b (Await d p) (Await e q)
      BothAwaitCase : {b : Binders} {cs ds : Cases} → SameCases b cs ds → SameForm b (AwaitCase cs) (AwaitCase ds)
      BothPresent : {b : Binders} {e f : Expr} {p q p' q' : Part} → SameExpr b.signals e f → SamePart b p p'
          → SamePart b q q' → SameForm b (Present e p q) (Present f p' q')
      BothPresentCase : {b : Binders} {cs ds : Cases} {p q : Part} → SameCases b cs ds → SamePart b p q
          → SameForm b (PresentCase cs p) (PresentCase ds q)
      BothLoop : {b : Binders} {p q : Stmt} → SameStmt b p q → SameForm b (Loop p) (Loop q)
      BothLoopEach : {b : Binders} {p q : Stmt} {d e : Delay} → SameStmt b p q → SameDelay b.signals d e
          → SameForm b (LoopEach p d) (LoopEach q e)
      BothEvery : {b : Binders} {d e : Delay} {p q : Stmt} → SameDelay b.signals d e → SameStmt b p q
          → SameForm b (Every d p) (Every e q)
      BothRepeat : {b : Binders} {p q : Stmt} (count : ℕ) (span : Span) → SameStmt b p q
          → SameForm b (Repeat count span p) (Repeat count span q)
      BothAbort : {b : Binders} {p q : Stmt} {d e : Delay} {p' q' : Part} → SameStmt b p q → SameDelay b.signals d e
          → SamePart b p' q' → SameForm b (Abort p d p') (Abort q e q')
      BothAbortCase : {b : Binders} {p q : Stmt} {cs ds : Cases} → SameStmt b p q → SameCases b cs ds
          → SameForm b (AbortCase p cs) (AbortCase q ds)
      BothWeakAbort : {b : Binders} {p q : Stmt} {d e : Delay} → SameStmt b p q → SameDelay b.signals d e
          → SameForm b (WeakAbort p d) (WeakAbort q e)
      BothSuspend : {b : Binders} {p q : Stmt} {d e : Delay} → SameStmt b p q → SameDelay b.signals d e
          → SameForm b (Suspend p d) (Suspend q e)
      -- a handler stands outside its trap
      BothTrap : {b : Binders} {n m : Name} {p q : Stmt} {h k : Handler} → SameStmt (in_both_traps n m b) p q
          → SameHandler b n m h k → SameForm b (Trap n p h) (Trap m q k)
      BothExit : {b : Binders} {n m : Name} → SameName b.traps n m → SameForm b (Exit n) (Exit m)
      BothSignal : {b : Binders} {ns ms : List Name} {p q : Stmt} → length ns ≡ length ms
          → SameStmt (in_both_signals ns ms b) p q → SameForm b (Signal ns p) (Signal ms q)
      BothRun : {b : Binders} {rs ss : List Rename} (name : Name)
          → ((m n : Module) → module_named modules name ≡ Ok m → module_named others name ≡ Ok n
          → SameRun b.signals m n rs ss)
          → SameForm b (Run name rs) (Run name ss)
      BothSeq : {b : Binders} {ps qs : Stmts} → SameStmts b ps qs → SameForm b (Seq ps) (Seq qs)
      BothPar : {b : Binders} {ps qs : Stmts} → SameStmts b ps qs → SameForm b (Par ps) (Par qs)
      BothGroup : {b : Binders} {p q : Stmt} → SameStmt b p q → SameForm b (Group p) (Group q)

    pub data SamePart : Binders → Part → Part → Type 0 where
      BothMissing : {b : Binders} → SamePart b Missing Missing
      BothWritten : {b : Binders} {p q : Stmt} → SameStmt b p q → SamePart b (Written p) (Written q)

    -- the handlers of two traps of these names: both have the names of their traps, or none has
    pub data SameHandler : Binders → Name → Name → Handler → Handler → Type 0 where
      BothNoHandler : {b : Binders} {n m : Name} → SameHandler b n m NoHandler NoHandler
      BothHandled : {b : Binders} {n m n' m' : Name} {p q : Stmt} → n'.span ≡ m'.span
          → is_same_name n'.text n.text ≡ is_same_name m'.text m.text → SameStmt b p q
          → SameHandler b n m (Handled n' p) (Handled m' q)

    pub data SameStmts : Binders → Stmts → Stmts → Type 0 where
      BothNoStmts : {b : Binders} → SameStmts b NoStmts NoStmts
      BothMoreStmts : {b : Binders} {p q : Stmt} {ps qs : Stmts} → SameStmt b p q → SameStmts b ps qs
          → SameStmts b (MoreStmts p ps) (MoreStmts q qs)

    pub data SameCases : Binders → Cases → Cases → Type 0 where
      BothNoCases : {b : Binders} → SameCases b NoCases NoCases
      BothMoreCases : {b : Binders} {e f : Expr} {p q : Part} {cs ds : Cases} → SameExpr b.signals e f
          → SamePart b p q → SameCases b cs ds → SameCases b (MoreCases e p cs) (MoreCases f q ds)

  -- Two modules of one name, whose interfaces are alike except for the names of the formals. A name that two formals of
  -- one module have, two formals of the other have too.
  pub record SameModule (m n : Module) : Type 0 where
    pub name : m.name.text ≡ n.name.text
    pub inputs : map (λ formal. formal.input) (interface m) ≡ map (λ formal. formal.input) (interface n)
    pub formals : IsTrue (list_all (λ pair. are_same (both_formals m n) pair.0 pair.1) (both_formals m n))
    pub body : SameStmt (record { signals = both_formals m n; traps = [] }) m.body n.body

  pub data SameModules : SourceProgram → SourceProgram → Type 0 where
    BothNoModules : SameModules [] []
    BothMoreModules : {m n : Module} {ms ns : SourceProgram} → SameModule m n → SameModules ms ns
        → SameModules (m ∷ ms) (n ∷ ns)

-- two programs that are the same except for the names of what their modules bind
abbrev pub SamePrograms : SourceProgram → SourceProgram → Type 0
SamePrograms modules others = SameModules modules others modules others

-- nothing binds here
abbrev pub no_binders : Binders
no_binders = record { signals = []; traps = [] }

-- ---- what flattening gives

-- a fault without the name of its formal
abbrev pub without_formal : FlattenFault → FlattenFault
without_formal (Unbound place formal) = Unbound place []
without_formal fault = fault

-- two values that are so related, or two faults that are one except for the name of a formal
abbrev pub BothAre : {A B : Type 0} → (A → B → Type 0) → Result A FlattenFault → Result B FlattenFault → Type 0
BothAre R (Ok a) (Ok b) = R a b
BothAre R (Ok a) (Err g) = ⊥
BothAre R (Err f) (Ok b) = ⊥
BothAre R (Err f) (Err g) = without_formal f ≡ without_formal g

-- two flat programs that are the same except for the names of their local signals
pub record SameButForNames (a b : flat.Flat) : Type 0 where
  pub name : a.name ≡ b.name
  pub inputs : a.inputs ≡ b.inputs
  pub both : a.both ≡ b.both
  pub outputs : a.outputs ≡ b.outputs
  pub relations : a.relations ≡ b.relations
  pub body : a.body ≡ b.body
  pub count : length a.signals ≡ length b.signals
  pub interface : take (seen_count a) a.signals ≡ take (seen_count a) b.signals
