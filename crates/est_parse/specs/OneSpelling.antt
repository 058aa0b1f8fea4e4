-- Contract: the one spelling of a tree, by the kinds of its tokens. It has no word and no `;` that may be left out,
-- `end module` at the end of a module, and `repeat` for both spellings of that statement. So each clause is a
-- production of the grammar of est_ast without what is optional in it.
use Rattle.std.specs.Prelude.{ℕ, List, [], ◌∷◌, ◌++◌}
use Rattle.std.specs.List.{flat_map}
use Rattle.est_ast.specs.declared.tokens.Kind.{Kind}
use Rattle.est_ast.specs.declared.tokens.Kind.TheVariants as kinds
use Rattle.est_ast.specs.declared.tokens.Reserved.{Reserved}
use Rattle.est_ast.specs.declared.tokens.Reserved.TheVariants as words
use Rattle.est_ast.specs.declared.tokens.Mark.{Mark}
use Rattle.est_ast.specs.declared.tokens.Mark.TheVariants as marks
use Rattle.est_ast.specs.declared.trees.Name.{Name}
use Rattle.est_ast.specs.declared.trees.Rename.{Rename}
use Rattle.est_ast.specs.Trees.{Expr, Tick, Sig, Not, And, Or, Round, Square, Exprs, NoExprs, MoreExprs, Delay, Plain}
use Rattle.est_ast.specs.Trees.{Immediate, Count, Stmt, At, Form, Nothing, Pause, Halt, Emit, Sustain, Await, AwaitCase}
use Rattle.est_ast.specs.Trees.{Present, PresentCase, Loop, LoopEach, Every, Repeat, Abort, AbortCase, WeakAbort}
use Rattle.est_ast.specs.Trees.{Suspend, Trap, Exit, Signal, Run, Seq, Par, Group, Part, Missing, Written, Handler}
use Rattle.est_ast.specs.Trees.{NoHandler, Handled, Stmts, NoStmts, MoreStmts, Cases, NoCases, MoreCases, NamedRelation}
use Rattle.est_ast.specs.Trees.{Implies, Excludes, Decl, Input, InputOutput, Output, Relations, Module, SourceProgram}

-- one token
abbrev pub word : Reserved → List Kind
word w = kinds.Reserved w ∷ []

abbrev pub mark : Mark → List Kind
mark m = kinds.Mark m ∷ []

abbrev pub name : Name → List Kind
name n = kinds.Ident n.text ∷ []

abbrev pub number : ℕ → List Kind
number value = kinds.Number value ∷ []

-- one part or more with a mark between them
abbrev pub listed : {A : Type 0} → Mark → (A → List Kind) → List A → List Kind
listed m part [] = []
listed m part (first ∷ others) = part first ++ flat_map (λ v. mark m ++ part v) others

abbrev mutual
  pub expr_tokens : Expr → List Kind
  expr_tokens (Tick span) = word words.Tick
  expr_tokens (Sig n) = name n
  expr_tokens (Not e) = word words.Not ++ expr_tokens e
  expr_tokens (And parts) = exprs_tokens words.And parts
  expr_tokens (Or parts) = exprs_tokens words.Or parts
  expr_tokens (Round e) = mark marks.LeftParenthesis ++ (expr_tokens e ++ mark marks.RightParenthesis)
  expr_tokens (Square e) = mark marks.LeftBracket ++ (expr_tokens e ++ mark marks.RightBracket)

  -- parts with the word between them
  pub exprs_tokens : Reserved → Exprs → List Kind
  exprs_tokens w NoExprs = []
  exprs_tokens w (MoreExprs e others) = expr_tokens e ++ other_exprs_tokens w others

  pub other_exprs_tokens : Reserved → Exprs → List Kind
  other_exprs_tokens w NoExprs = []
  other_exprs_tokens w (MoreExprs e others) = (word w ++ expr_tokens e) ++ other_exprs_tokens w others

abbrev pub delay_tokens : Delay → List Kind
delay_tokens (Plain event) = expr_tokens event
delay_tokens (Immediate event) = word words.Immediate ++ expr_tokens event
delay_tokens (Count count span event) = number count ++ expr_tokens event

abbrev pub rename_tokens : Rename → List Kind
rename_tokens rename = name rename.actual ++ (mark marks.Slash ++ name rename.formal)

abbrev pub renames_tokens : List Rename → List Kind
renames_tokens [] = []
renames_tokens (rename ∷ others) =
    mark marks.LeftBracket ++ (word words.Signal ++
    (listed marks.Comma rename_tokens (rename ∷ others) ++ mark marks.RightBracket))

abbrev mutual
  pub stmt_tokens : Stmt → List Kind
  stmt_tokens (At span form) = form_tokens form

  pub form_tokens : Form → List Kind
  form_tokens Nothing = word words.Nothing
  form_tokens Pause = word words.Pause
  form_tokens Halt = word words.Halt
  form_tokens (Emit n) = word words.Emit ++ name n
  form_tokens (Sustain n) = word words.Sustain ++ name n
  form_tokens (Exit n) = word words.Exit ++ name n
  form_tokens (Group p) = mark marks.LeftBracket ++ (stmt_tokens p ++ mark marks.RightBracket)
  form_tokens (Await delay q) = word words.Await ++ (delay_tokens delay ++ do_tokens q)
  form_tokens (AwaitCase cases) = word words.Await ++ (cases_tokens cases ++ word words.End)
  form_tokens (Present e p q) =
      word words.Present ++ (expr_tokens e ++ (part_tokens words.Then p
      ++ (part_tokens words.Else q ++ word words.End)))
  form_tokens (PresentCase cases q) =
      word words.Present ++ (cases_tokens cases ++ (part_tokens words.Else q ++ word words.End))
  form_tokens (Loop p) = word words.Loop ++ (stmt_tokens p ++ word words.End)
  form_tokens (LoopEach p delay) = word words.Loop ++ (stmt_tokens p ++ (word words.Each ++ delay_tokens delay))
  form_tokens (Every delay p) =
      word words.Every ++ (delay_tokens delay ++ (word words.Do ++ (stmt_tokens p ++ word words.End)))
  form_tokens (Repeat count span p) =
      word words.Repeat ++ (number count ++ (word words.Times ++ (stmt_tokens p ++ word words.End)))
  form_tokens (Abort p delay q) =
      word words.Abort ++ (stmt_tokens p ++ (word words.When ++ (delay_tokens delay ++ do_tokens q)))
  form_tokens (AbortCase p cases) =
      word words.Abort ++ (stmt_tokens p ++ (word words.When ++ (cases_tokens cases ++ word words.End)))
  form_tokens (WeakAbort p delay) =
      word words.Weak ++ (word words.Abort ++ (stmt_tokens p ++ (word words.When ++ delay_tokens delay)))
  form_tokens (Suspend p delay) = word words.Suspend ++ (stmt_tokens p ++ (word words.When ++ delay_tokens delay))
  form_tokens (Trap n p handler) =
      word words.Trap ++ (name n ++ (word words.In ++ (stmt_tokens p ++ (handler_tokens handler ++ word words.End))))
  form_tokens (Signal names p) =
      word words.Signal ++ (listed marks.Comma name names ++ (word words.In ++ (stmt_tokens p ++ word words.End)))
  form_tokens (Run n renames) = word words.Run ++ (name n ++ renames_tokens renames)
  form_tokens (Seq parts) = stmts_tokens marks.Semicolon parts
  form_tokens (Par parts) = stmts_tokens marks.DoubleBar parts

  -- a part after a word
  pub part_tokens : Reserved → Part → List Kind
  part_tokens w Missing = []
  part_tokens w (Written p) = word w ++ stmt_tokens p

  -- a part after `do`, with its `end`
  pub do_tokens : Part → List Kind
  do_tokens Missing = []
  do_tokens (Written p) = word words.Do ++ (stmt_tokens p ++ word words.End)

  pub handler_tokens : Handler → List Kind
  handler_tokens NoHandler = []
  handler_tokens (Handled n p) = word words.Handle ++ (name n ++ (word words.Do ++ stmt_tokens p))

  -- parts with the mark between them
  pub stmts_tokens : Mark → Stmts → List Kind
  stmts_tokens m NoStmts = []
  stmts_tokens m (MoreStmts p others) = stmt_tokens p ++ other_stmts_tokens m others

  pub other_stmts_tokens : Mark → Stmts → List Kind
  other_stmts_tokens m NoStmts = []
  other_stmts_tokens m (MoreStmts p others) = (mark m ++ stmt_tokens p) ++ other_stmts_tokens m others

  pub cases_tokens : Cases → List Kind
  cases_tokens NoCases = []
  cases_tokens (MoreCases event body others) =
      (word words.Case ++ expr_tokens event ++ part_tokens words.Do body) ++ cases_tokens others

abbrev pub relation_tokens : NamedRelation → List Kind
relation_tokens (Implies cause effect) = name cause ++ (mark marks.Arrow ++ name effect)
relation_tokens (Excludes names) = listed marks.Hash name names

abbrev pub decl_tokens : Decl → List Kind
decl_tokens (Input names) = word words.Input ++ (listed marks.Comma name names ++ mark marks.Semicolon)
decl_tokens (InputOutput names) = word words.InputOutput ++ (listed marks.Comma name names ++ mark marks.Semicolon)
decl_tokens (Output names) = word words.Output ++ (listed marks.Comma name names ++ mark marks.Semicolon)
decl_tokens (Relations relations) =
    word words.Relation ++ (listed marks.Comma relation_tokens relations ++ mark marks.Semicolon)

abbrev pub module_tokens : Module → List Kind
module_tokens m =
    word words.Module ++ (name m.name ++ (mark marks.Colon
    ++ (flat_map decl_tokens m.decls ++ (stmt_tokens m.body ++ (word words.End ++ word words.Module)))))

-- the kinds of the tokens of a program's one spelling
abbrev pub tokens_of : SourceProgram → List Kind
tokens_of p = flat_map module_tokens p
