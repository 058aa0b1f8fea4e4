-- Contract: a program without `run` in the place of one with modules. Each `run` becomes the body of its module in
-- brackets. In this body, actuals replace the formals. The module's own names, those of its local signals and traps,
-- are written so that they differ from the names of all modules around it. This is the copy rule for procedures of Naur
-- (ed.), "Revised Report on the Algorithmic Language Algol 60", for the modules of Berry, "The Esterel v5 Language
-- Primer".
use Rattle.std.specs.Prelude.{ℕ, zero, suc, ◌+◌, if◌then◌else◌, List, [], ◌∷◌, map, Option, Some, None, find}
use Rattle.base_types.specs.declared.bounds.TheConstants.Limits.{DEPTH}
use Rattle.base_types.specs.Names.{is_same_name}
use Rattle.est_ast.specs.declared.trees.Name.{Name}
use Rattle.est_ast.specs.declared.trees.Rename.{Rename}
use Rattle.est_ast.specs.Trees.{Expr, Tick, Sig, Not, And, Or, Round, Square, Exprs, NoExprs, MoreExprs, Delay, Plain}
use Rattle.est_ast.specs.Trees.{Immediate, Count, Stmt, At, Form, Nothing, Pause, Halt, Emit, Sustain, Await, AwaitCase}
use Rattle.est_ast.specs.Trees.{Present, PresentCase, Loop, LoopEach, Every, Repeat, Abort, AbortCase, WeakAbort}
use Rattle.est_ast.specs.Trees.{Suspend, Trap, Exit, Signal, Run, Seq, Par, Group, Part, Missing, Written, Handler}
use Rattle.est_ast.specs.Trees.{NoHandler, Handled, Stmts, NoStmts, MoreStmts, Cases, NoCases, MoreCases, NamedRelation}
use Rattle.est_ast.specs.Trees.{Implies, Excludes, Decl, Input, InputOutput, Output, Relations, Module, SourceProgram}
use Rattle.est_names.specs.Names.{texts, is_among}
use Rattle.est_expand.specs.Runs.{formal_names}
use Rattle.est_expand.specs.Scopes.{interface}

-- ---- names

-- A name of a module that is inside this number of runs; the main module is in none. The number precedes the name, so
-- the name differs from each name of a module around it.
abbrev pub own : ℕ → List ℕ → List ℕ
own depth name = depth ∷ name

-- where a statement is: the number of runs around it, and what each name of a signal becomes there
pub record Place : Type 0 where
  pub depth : ℕ
  pub becomes : List ℕ → List ℕ

-- inside binders of these names in the module
abbrev pub inside_binders : List (List ℕ) → Place → Place
inside_binders names here =
    record here { becomes = λ name. if is_among name names then own here.depth name else here.becomes name }

-- what stands for a formal at a `run` with these renamings: its actual, or else its own name
abbrev pub actual : List Rename → List ℕ → List ℕ
actual [] name = name
actual (rename ∷ renames) name =
    if is_same_name name rename.formal.text then rename.actual.text else actual renames name

-- In the body of a module that is run here with these renamings, a formal becomes what its actual becomes here. All
-- other names are the module's own.
abbrev pub inside_module : Module → List Rename → Place → Place
inside_module m renames here = record {
  depth = here.depth + 1;
  becomes = λ name.
      if is_among name (formal_names (interface m)) then here.becomes (actual renames name)
      else own (here.depth + 1) name;
}

-- ---- names in tests and delays

abbrev pub name_by : (List ℕ → List ℕ) → Name → Name
name_by becomes name = record name { text = becomes name.text }

abbrev mutual
  pub test_by : (List ℕ → List ℕ) → Expr → Expr
  test_by becomes (Tick span) = Tick span
  test_by becomes (Sig name) = Sig (name_by becomes name)
  test_by becomes (Not e) = Not (test_by becomes e)
  test_by becomes (And parts) = And (tests_by becomes parts)
  test_by becomes (Or parts) = Or (tests_by becomes parts)
  test_by becomes (Round e) = Round (test_by becomes e)
  test_by becomes (Square e) = Square (test_by becomes e)

  pub tests_by : (List ℕ → List ℕ) → Exprs → Exprs
  tests_by becomes NoExprs = NoExprs
  tests_by becomes (MoreExprs e others) = MoreExprs (test_by becomes e) (tests_by becomes others)

abbrev pub delay_by : (List ℕ → List ℕ) → Delay → Delay
delay_by becomes (Plain event) = Plain (test_by becomes event)
delay_by becomes (Immediate event) = Immediate (test_by becomes event)
delay_by becomes (Count count span event) = Count count span (test_by becomes event)

-- ---- lists and parts, where it is known what a statement in them becomes

abbrev pub part_by : (Stmt → Stmt) → Part → Part
part_by inside Missing = Missing
part_by inside (Written p) = Written (inside p)

abbrev pub stmts_by : (Stmt → Stmt) → Stmts → Stmts
stmts_by inside NoStmts = NoStmts
stmts_by inside (MoreStmts p others) = MoreStmts (inside p) (stmts_by inside others)

abbrev pub cases_by : (List ℕ → List ℕ) → (Stmt → Stmt) → Cases → Cases
cases_by becomes inside NoCases = NoCases
cases_by becomes inside (MoreCases event body others) =
    MoreCases (test_by becomes event) (part_by inside body) (cases_by becomes inside others)

abbrev pub handler_by : (List ℕ → List ℕ) → (Stmt → Stmt) → Handler → Handler
handler_by trap inside NoHandler = NoHandler
handler_by trap inside (Handled name p) = Handled (name_by trap name) (inside p)

-- ---- statements, in a program of these modules

-- what a `run` becomes, whose module is found or not
abbrev pub ran : (Place → Stmt → Stmt) → Place → Name → List Rename → Option Module → Form
ran inside here name renames (Some m) = Group (inside (inside_module m renames here) m.body)
ran inside here name renames None = Run name renames

module _ (modules : SourceProgram) where
  -- A form, where it is known what a statement in it becomes. No name of a trap comes from outside of its module.
  abbrev pub row : (Place → Stmt → Stmt) → Place → Form → Form
  row inside here Nothing = Nothing
  row inside here Pause = Pause
  row inside here Halt = Halt
  row inside here (Emit name) = Emit (name_by here.becomes name)
  row inside here (Sustain name) = Sustain (name_by here.becomes name)
  row inside here (Await delay q) = Await (delay_by here.becomes delay) (part_by (inside here) q)
  row inside here (AwaitCase cases) = AwaitCase (cases_by here.becomes (inside here) cases)
  row inside here (Present e p q) =
      Present (test_by here.becomes e) (part_by (inside here) p) (part_by (inside here) q)
  row inside here (PresentCase cases q) =
      PresentCase (cases_by here.becomes (inside here) cases) (part_by (inside here) q)
  row inside here (Loop p) = Loop (inside here p)
  row inside here (LoopEach p delay) = LoopEach (inside here p) (delay_by here.becomes delay)
  row inside here (Every delay p) = Every (delay_by here.becomes delay) (inside here p)
  row inside here (Repeat count span p) = Repeat count span (inside here p)
  row inside here (Abort p delay q) =
      Abort (inside here p) (delay_by here.becomes delay) (part_by (inside here) q)
  row inside here (AbortCase p cases) = AbortCase (inside here p) (cases_by here.becomes (inside here) cases)
  row inside here (WeakAbort p delay) = WeakAbort (inside here p) (delay_by here.becomes delay)
  row inside here (Suspend p delay) = Suspend (inside here p) (delay_by here.becomes delay)
  row inside here (Trap name p handled) =
      Trap (name_by (own here.depth) name) (inside here p) (handler_by (own here.depth) (inside here) handled)
  row inside here (Exit name) = Exit (name_by (own here.depth) name)
  row inside here (Signal names p) =
      Signal (map (name_by (own here.depth)) names) (inside (inside_binders (texts names) here) p)
  row inside here (Run name renames) =
      ran inside here name renames (find (λ m. is_same_name name.text m.name.text) modules)
  row inside here (Seq parts) = Seq (stmts_by (inside here) parts)
  row inside here (Par parts) = Par (stmts_by (inside here) parts)
  row inside here (Group p) = Group (inside here p)

  -- A statement, where so many more may stand one in another. What stands deeper stays, since its program is refused.
  unfoldable pub inlining : ℕ → Place → Stmt → Stmt
  inlining zero here p = p
  inlining (suc room) here (At at form) = At at (row (inlining room) here form)

-- ---- programs

abbrev pub relation_by : (List ℕ → List ℕ) → NamedRelation → NamedRelation
relation_by becomes (Implies cause effect) = Implies (name_by becomes cause) (name_by becomes effect)
relation_by becomes (Excludes names) = Excludes (map (name_by becomes) names)

abbrev pub decl_by : (List ℕ → List ℕ) → Decl → Decl
decl_by becomes (Input names) = Input (map (name_by becomes) names)
decl_by becomes (InputOutput names) = InputOutput (map (name_by becomes) names)
decl_by becomes (Output names) = Output (map (name_by becomes) names)
decl_by becomes (Relations relations) = Relations (map (relation_by becomes) relations)

-- in the main module, each name is its own
abbrev pub in_main : Place
in_main = record { depth = 0; becomes = own 0 }

-- The main module with the bodies of all modules that it runs. As many statements may stand one in another as in its
-- walk.
abbrev pub inlined : SourceProgram → Module → Module
inlined modules main = record {
  name = main.name;
  decls = map (decl_by (own 0)) main.decls;
  body = inlining modules (DEPTH + 1) in_main main.body;
}
