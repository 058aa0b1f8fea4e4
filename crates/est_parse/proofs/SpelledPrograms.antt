-- Inner: what the parser's contract says of the one spelling of a tree. The nesting of a tree is that of the tree
-- without its places.
use Rattle.std.proofs.Common.{◌≡◌, suc, max, ◌≤◌, List, [], ◌∷◌, refl, sym, ◌∙◌, ap, ap₂, subst}
use Rattle.base_types.specs.declared.bounds.TheConstants.Limits.{NESTING}
use Rattle.est_ast.specs.declared.tokens.Token.{Token}
use Rattle.est_ast.specs.Trees.{Expr, Tick, Sig, Not, And, Or, Round, Square, Exprs, NoExprs, MoreExprs, Delay, Plain, Immediate, Count, Stmt, At, Form}
use Rattle.est_ast.specs.Trees.{Nothing, Pause, Halt, Emit, Sustain, Await, AwaitCase, Present, PresentCase, Loop, LoopEach, Every, Repeat, Abort, AbortCase}
use Rattle.est_ast.specs.Trees.{WeakAbort, Suspend, Trap, Exit, Signal, Run, Seq, Par, Group, Part, Missing, Written, Handler, NoHandler, Handled, Stmts}
use Rattle.est_ast.specs.Trees.{NoStmts, MoreStmts, Cases, NoCases, MoreCases}
use Rattle.est_ast.specs.Trees.{SourceProgram}
use Rattle.est_ast.specs.Grammar.{SpellsProgram}
use Rattle.est_ast.specs.Nesting.{expr_nesting, exprs_nesting, delay_nesting, nesting, form_nesting, part_nesting, handler_nesting, stmts_nesting}
use Rattle.est_ast.specs.Nesting.{cases_nesting, program_nesting, IsProgram}
use Rattle.est_parse.specs.declared.refusal.ParseError.{ParseError}
use Rattle.est_parse.specs.declared.refusal.ParseError.TheVariants.{Syntax, TooNested, NoMemory}
use Rattle.est_parse.specs.Faults.{IsFirstFault}
use Rattle.est_parse.specs.Laws.{SpellingsAreRead}
use Rattle.est_parse.specs.Unplaced.{unplaced_expr, unplaced_exprs, unplaced_delay, unplaced_stmt, unplaced_form, unplaced_part, unplaced_handler}
use Rattle.est_parse.specs.Unplaced.{unplaced_stmts, unplaced_cases, unplaced}
use Rattle.est_parse.proofs.SpelledTrees.{spellings-are-grammatical}

mutual
  expr-nesting : (e : Expr) → expr_nesting (unplaced_expr e) ≡ expr_nesting e
  expr-nesting (Tick span) = refl
  expr-nesting (Sig n) = refl
  expr-nesting (Not e) = ap suc (expr-nesting e)
  expr-nesting (And parts) = exprs-nesting parts
  expr-nesting (Or parts) = exprs-nesting parts
  expr-nesting (Round e) = ap suc (expr-nesting e)
  expr-nesting (Square e) = ap suc (expr-nesting e)

  exprs-nesting : (parts : Exprs) → exprs_nesting (unplaced_exprs parts) ≡ exprs_nesting parts
  exprs-nesting NoExprs = refl
  exprs-nesting (MoreExprs e others) = ap₂ max (expr-nesting e) (exprs-nesting others)

delay-nesting : (delay : Delay) → delay_nesting (unplaced_delay delay) ≡ delay_nesting delay
delay-nesting (Plain event) = expr-nesting event
delay-nesting (Immediate event) = expr-nesting event
delay-nesting (Count count span event) = expr-nesting event

mutual
  stmt-nesting : (p : Stmt) → nesting (unplaced_stmt p) ≡ nesting p
  stmt-nesting (At span form) = form-nesting form

  form-nesting : (form : Form) → form_nesting (unplaced_form form) ≡ form_nesting form
  form-nesting Nothing = refl
  form-nesting Pause = refl
  form-nesting Halt = refl
  form-nesting (Emit n) = refl
  form-nesting (Sustain n) = refl
  form-nesting (Exit n) = refl
  form-nesting (Run n renames) = refl
  form-nesting (Seq parts) = stmts-nesting parts
  form-nesting (Par parts) = stmts-nesting parts
  form-nesting (Group p) = ap suc (stmt-nesting p)
  form-nesting (Await delay q) = ap suc (ap₂ max (delay-nesting delay) (part-nesting q))
  form-nesting (AwaitCase cases) = ap suc (cases-nesting cases)
  form-nesting (Present e p q) = ap suc (ap₂ max (expr-nesting e) (ap₂ max (part-nesting p) (part-nesting q)))
  form-nesting (PresentCase cases q) = ap suc (ap₂ max (cases-nesting cases) (part-nesting q))
  form-nesting (Loop p) = ap suc (stmt-nesting p)
  form-nesting (LoopEach p delay) = ap suc (ap₂ max (stmt-nesting p) (delay-nesting delay))
  form-nesting (Every delay p) = ap suc (ap₂ max (delay-nesting delay) (stmt-nesting p))
  form-nesting (Repeat count span p) = ap suc (stmt-nesting p)
  form-nesting (Abort p delay q) = ap suc (ap₂ max (stmt-nesting p) (ap₂ max (delay-nesting delay) (part-nesting q)))
  form-nesting (AbortCase p cases) = ap suc (ap₂ max (stmt-nesting p) (cases-nesting cases))
  form-nesting (WeakAbort p delay) = ap suc (ap₂ max (stmt-nesting p) (delay-nesting delay))
  form-nesting (Suspend p delay) = ap suc (ap₂ max (stmt-nesting p) (delay-nesting delay))
  form-nesting (Trap n p handler) = ap suc (ap₂ max (stmt-nesting p) (handler-nesting handler))
  form-nesting (Signal names p) = ap suc (stmt-nesting p)

  part-nesting : (q : Part) → part_nesting (unplaced_part q) ≡ part_nesting q
  part-nesting Missing = refl
  part-nesting (Written p) = stmt-nesting p

  handler-nesting : (handler : Handler) → handler_nesting (unplaced_handler handler) ≡ handler_nesting handler
  handler-nesting NoHandler = refl
  handler-nesting (Handled n p) = stmt-nesting p

  stmts-nesting : (parts : Stmts) → stmts_nesting (unplaced_stmts parts) ≡ stmts_nesting parts
  stmts-nesting NoStmts = refl
  stmts-nesting (MoreStmts p others) = ap₂ max (stmt-nesting p) (stmts-nesting others)

  cases-nesting : (cases : Cases) → cases_nesting (unplaced_cases cases) ≡ cases_nesting cases
  cases-nesting NoCases = refl
  cases-nesting (MoreCases event body others) = ap₂ max (ap₂ max (expr-nesting event) (part-nesting body)) (cases-nesting others)

program-nesting : (p : SourceProgram) → program_nesting (unplaced p) ≡ program_nesting p
program-nesting [] = refl
program-nesting (m ∷ others) = ap₂ max (stmt-nesting m.body) (program-nesting others)

same-nesting : (p q : SourceProgram) → unplaced q ≡ unplaced p → program_nesting q ≡ program_nesting p
same-nesting p q same = sym (program-nesting q) ∙ ap program_nesting same ∙ program-nesting p

-- tokens that spell a program have no place of a fault
unrefused : (q : SourceProgram) (tokens : List Token) → IsProgram NESTING q tokens → (refusal : ParseError) → IsFirstFault NESTING tokens refusal
    → refusal ≡ NoMemory
unrefused q tokens member NoMemory first = refl
unrefused q tokens member (Syntax place) first =
    let least = first.2 in absurd (least.stuck q least.rest refl (subst (λ ts. IsProgram NESTING q ts) least.cut member))
unrefused q tokens member (TooNested place) first =
    let least = first.2 in absurd (least.stuck q least.rest refl (subst (λ ts. IsProgram NESTING q ts) least.cut member))

pub spellings-are-read : SpellingsAreRead
spellings-are-read p is shallow tokens spelled = (λ found only. ap unplaced (sym (only.only q.0 member)) ∙ q.1, unrefused q.0 tokens member)
  where
    q : (found : SourceProgram) × (unplaced found ≡ unplaced p) × SpellsProgram found tokens
    q = spellings-are-grammatical p is tokens spelled

    member : IsProgram NESTING q.0 tokens
    member = (q.2, subst (λ n. n ≤ NESTING) (sym (same-nesting p q.0 q.1)) shallow)
