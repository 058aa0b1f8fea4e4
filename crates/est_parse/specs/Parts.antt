-- Inner: how the nodes of a tree are made of what is in a text.
use Rattle.std.specs.Prelude.{ℕ, List, [], ◌∷◌, Option, Some, None}
use Rattle.base_types.specs.declared.place.Span.{Span}
use Rattle.est_ast.specs.declared.trees.Name.{Name}
use Rattle.est_ast.specs.declared.trees.Rename.{Rename}
use Rattle.est_ast.specs.Trees.{Expr, Delay, Count, Stmt, At, Form, Await, AwaitCase}
use Rattle.est_ast.specs.Trees.{Present, PresentCase, Loop, LoopEach, Repeat, Abort, AbortCase, Part, Missing}
use Rattle.est_ast.specs.Trees.{Written, Handler, NoHandler, Handled, Stmts, NoStmts, MoreStmts, Cases, stmts}

-- a list of one part is that part
abbrev pub stmt_list : (Stmts → Form) → List Stmt → Span → Stmt
stmt_list node [] span = At span (node NoStmts)
stmt_list node (p ∷ []) span = p
stmt_list node (p ∷ next ∷ others) span = At span (node (MoreStmts p (MoreStmts next (stmts others))))

-- a part that may be left out
abbrev pub part_of : Option Stmt → Part
part_of None = Missing
part_of (Some p) = Written p

abbrev pub handler_of : Option (Name × Stmt) → Handler
handler_of None = NoHandler
handler_of (Some found) = Handled found.0 found.1

abbrev pub renames_of : Option (List Rename) → List Rename
renames_of None = []
renames_of (Some renames) = renames

abbrev pub count_of : (ℕ × Span) × Expr → Delay
count_of found = Count found.0.0 found.0.1 found.1

-- what is waited for: cases, or a delay and what comes after `do`
pub data Tail : Type 0 where
  CaseTail : Cases → Tail
  DelayTail : Delay → Part → Tail

abbrev pub await_of : Tail → Form
await_of (CaseTail found) = AwaitCase found
await_of (DelayTail delay q) = Await delay q

abbrev pub abort_of : Stmt × Tail → Form
abort_of (p, CaseTail found) = AbortCase p found
abort_of (p, DelayTail delay q) = Abort p delay q

-- what is tested: cases, or one test with its two parts
pub data Choice : Type 0 where
  CaseChoice : Cases → Part → Choice
  TestChoice : Expr → Part → Part → Choice

abbrev pub present_of : Choice → Form
present_of (CaseChoice found q) = PresentCase found q
present_of (TestChoice e p q) = Present e p q

abbrev pub loop_of : Stmt × Option Delay → Form
loop_of (p, None) = Loop p
loop_of (p, Some delay) = LoopEach p delay

abbrev pub repeat_of : (ℕ × Span) × Stmt → Form
repeat_of found = Repeat found.0.0 found.0.1 found.1

-- what stands between the token of an item and its statement
pub data Head : Type 0 where
  GroupHead : Head
  LoopHead : Head
  EveryHead : Delay → Head
  RepeatHead : ℕ → Span → Head
  AbortHead : Head
  WeakHead : Head
  SuspendHead : Head
  TrapHead : Name → Head
  SignalHead : List Name → Head
