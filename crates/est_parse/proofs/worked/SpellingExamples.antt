-- Inner: written by hand, with values of the reference implementation: worked examples of the one spelling of a tree, from the reference
-- implementation. No optional word and no optional `;` is in them.
use Rattle.std.specs.Prelude.{◌≡◌, ℕ, List, [], ◌∷◌, codes}
use Rattle.std.proofs.Common.{refl}
use Rattle.est_ast.specs.declared.tokens.Kind.{Kind}
use Rattle.est_ast.specs.declared.tokens.Kind.TheVariants as kinds
use Rattle.est_ast.specs.declared.tokens.Reserved.{Reserved}
use Rattle.est_ast.specs.declared.tokens.Reserved.TheVariants as words
use Rattle.est_ast.specs.declared.tokens.Mark.{Mark}
use Rattle.est_ast.specs.declared.tokens.Mark.TheVariants as marks
use Rattle.est_ast.specs.declared.trees.Name.{Name}
use Rattle.est_ast.specs.Trees.{Tick, Sig, Not, And, Or, Round, Square, NoExprs, MoreExprs, Plain}
use Rattle.est_ast.specs.Trees.{Immediate, Count, At, Nothing, Pause, Halt, Emit, Sustain, Await, AwaitCase}
use Rattle.est_ast.specs.Trees.{Present, PresentCase, Loop, LoopEach, Every, Repeat, Abort, AbortCase, WeakAbort}
use Rattle.est_ast.specs.Trees.{Suspend, Trap, Exit, Signal, Run, Seq, Par, Group, Missing, Written}
use Rattle.est_ast.specs.Trees.{Handled, NoStmts, MoreStmts, NoCases, MoreCases}
use Rattle.est_ast.specs.Trees.{Implies, Excludes, Input, InputOutput, Output, Relations}
use Rattle.est_parse.specs.OneSpelling.{stmt_tokens, tokens_of}
use Rattle.est_parse.specs.Unplaced.{nowhere}

abbrev named : List ℕ → Name
named text = record { text = text; span = nowhere }

abbrev w : Reserved → Kind
w word = kinds.Reserved word

abbrev m : Mark → Kind
m mark = kinds.Mark mark

abbrev i : List ℕ → Kind
i text = kinds.Ident text

-- present A and not B or tick then pause else nothing end
spelling-1 : stmt_tokens (At nowhere (Present (Or
    (MoreExprs (And (MoreExprs (Sig (named (codes "A"))) (MoreExprs (Not (Sig (named (codes "B")))) NoExprs)))
    (MoreExprs (Tick nowhere) NoExprs))) (Written (At nowhere Pause)) (Written (At nowhere Nothing)))) ≡
    w words.Present ∷ i (codes "A") ∷ w words.And ∷ w words.Not ∷ i (codes "B") ∷ w words.Or ∷ w words.Tick ∷
    w words.Then ∷ w words.Pause ∷ w words.Else ∷ w words.Nothing ∷ w words.End ∷ []
spelling-1 = refl

-- await 2 A do halt end
spelling-2 : stmt_tokens (At nowhere (Await (Count 2 nowhere (Sig (named (codes "A")))) (Written (At nowhere Halt)))) ≡
    w words.Await ∷ kinds.Number 2 ∷ i (codes "A") ∷ w words.Do ∷ w words.Halt ∷ w words.End ∷ []
spelling-2 = refl

-- await case A case ( B ) do emit O end
spelling-3 : stmt_tokens (At nowhere (AwaitCase (MoreCases (Sig (named (codes "A"))) Missing
    (MoreCases (Round (Sig (named (codes "B")))) (Written (At nowhere (Emit (named (codes "O"))))) NoCases)))) ≡
    w words.Await ∷ w words.Case ∷ i (codes "A") ∷ w words.Case ∷ m marks.LeftParenthesis ∷ i (codes "B") ∷
    m marks.RightParenthesis ∷ w words.Do ∷ w words.Emit ∷ i (codes "O") ∷ w words.End ∷ []
spelling-3 = refl

-- present case [ A ] else sustain O end
spelling-4 : stmt_tokens (At nowhere (PresentCase (MoreCases (Square (Sig (named (codes "A")))) Missing NoCases)
    (Written (At nowhere (Sustain (named (codes "O"))))))) ≡
    w words.Present ∷ w words.Case ∷ m marks.LeftBracket ∷ i (codes "A") ∷ m marks.RightBracket ∷ w words.Else ∷
    w words.Sustain ∷ i (codes "O") ∷ w words.End ∷ []
spelling-4 = refl

-- loop pause end
spelling-5 : stmt_tokens (At nowhere (Loop (At nowhere Pause))) ≡ w words.Loop ∷ w words.Pause ∷ w words.End ∷ []
spelling-5 = refl

-- loop pause each A
spelling-6 : stmt_tokens (At nowhere (LoopEach (At nowhere Pause) (Plain (Sig (named (codes "A")))))) ≡
    w words.Loop ∷ w words.Pause ∷ w words.Each ∷ i (codes "A") ∷ []
spelling-6 = refl

-- every immediate A do pause end
spelling-7 : stmt_tokens (At nowhere (Every (Immediate (Sig (named (codes "A")))) (At nowhere Pause))) ≡
    w words.Every ∷ w words.Immediate ∷ i (codes "A") ∷ w words.Do ∷ w words.Pause ∷ w words.End ∷ []
spelling-7 = refl

-- repeat 3 times pause end
spelling-8 : stmt_tokens (At nowhere (Repeat 3 nowhere (At nowhere Pause))) ≡
    w words.Repeat ∷ kinds.Number 3 ∷ w words.Times ∷ w words.Pause ∷ w words.End ∷ []
spelling-8 = refl

-- abort halt when A do pause end
spelling-9 : stmt_tokens (At nowhere (Abort (At nowhere Halt) (Plain (Sig (named (codes "A"))))
    (Written (At nowhere Pause)))) ≡ w words.Abort ∷ w words.Halt ∷ w words.When ∷ i (codes "A") ∷ w words.Do ∷
    w words.Pause ∷ w words.End ∷ []
spelling-9 = refl

-- abort halt when case A do pause end
spelling-10 : stmt_tokens (At nowhere (AbortCase (At nowhere Halt)
    (MoreCases (Sig (named (codes "A"))) (Written (At nowhere Pause)) NoCases))) ≡
    w words.Abort ∷ w words.Halt ∷ w words.When ∷ w words.Case ∷ i (codes "A") ∷ w words.Do ∷ w words.Pause ∷
    w words.End ∷ []
spelling-10 = refl

-- weak abort halt when [ A or B ]
spelling-11 : stmt_tokens (At nowhere (WeakAbort (At nowhere Halt)
    (Plain (Square (Or (MoreExprs (Sig (named (codes "A"))) (MoreExprs (Sig (named (codes "B"))) NoExprs))))))) ≡
    w words.Weak ∷ w words.Abort ∷ w words.Halt ∷ w words.When ∷ m marks.LeftBracket ∷ i (codes "A") ∷ w words.Or ∷
    i (codes "B") ∷ m marks.RightBracket ∷ []
spelling-11 = refl

-- suspend halt when immediate A
spelling-12 : stmt_tokens (At nowhere (Suspend (At nowhere Halt) (Immediate (Sig (named (codes "A")))))) ≡
    w words.Suspend ∷ w words.Halt ∷ w words.When ∷ w words.Immediate ∷ i (codes "A") ∷ []
spelling-12 = refl

-- trap T in exit T handle T do pause end
spelling-13 : stmt_tokens (At nowhere (Trap (named (codes "T")) (At nowhere (Exit (named (codes "T"))))
    (Handled (named (codes "T")) (At nowhere Pause)))) ≡
    w words.Trap ∷ i (codes "T") ∷ w words.In ∷ w words.Exit ∷ i (codes "T") ∷ w words.Handle ∷ i (codes "T") ∷
    w words.Do ∷ w words.Pause ∷ w words.End ∷ []
spelling-13 = refl

-- signal S , U in [ emit S || emit U ] end
spelling-14 : stmt_tokens (At nowhere (Signal (named (codes "S") ∷ named (codes "U") ∷ [])
    (At nowhere (Group (At nowhere (Par (MoreStmts (At nowhere (Emit (named (codes "S"))))
    (MoreStmts (At nowhere (Emit (named (codes "U")))) NoStmts)))))))) ≡
    w words.Signal ∷ i (codes "S") ∷ m marks.Comma ∷ i (codes "U") ∷ w words.In ∷ m marks.LeftBracket ∷ w words.Emit ∷
    i (codes "S") ∷ m marks.DoubleBar ∷ w words.Emit ∷ i (codes "U") ∷ m marks.RightBracket ∷ w words.End ∷ []
spelling-14 = refl

-- run N [ signal A / X , B / Y ]
spelling-15 : stmt_tokens (At nowhere (Run (named (codes "N"))
    (record { actual = named (codes "A"); formal = named (codes "X") } ∷
    record { actual = named (codes "B"); formal = named (codes "Y") } ∷ []))) ≡
    w words.Run ∷ i (codes "N") ∷ m marks.LeftBracket ∷ w words.Signal ∷ i (codes "A") ∷ m marks.Slash ∷ i (codes "X") ∷
    m marks.Comma ∷ i (codes "B") ∷ m marks.Slash ∷ i (codes "Y") ∷ m marks.RightBracket ∷ []
spelling-15 = refl

-- run N
spelling-16 : stmt_tokens (At nowhere (Run (named (codes "N")) [])) ≡ w words.Run ∷ i (codes "N") ∷ []
spelling-16 = refl

-- module M : input A , B ; inputoutput C ; output O ; relation A => B , A # B # C ; pause ; halt end module module N :
-- nothing end module
spelling-program : tokens_of (record {
  name = named (codes "M");
  decls = Input (named (codes "A") ∷ named (codes "B") ∷ []) ∷ InputOutput (named (codes "C") ∷ []) ∷
      Output (named (codes "O") ∷ []) ∷ Relations (Implies (named (codes "A")) (named (codes "B")) ∷
      Excludes (named (codes "A") ∷ named (codes "B") ∷ named (codes "C") ∷ []) ∷ []) ∷ [];
  body = (At nowhere (Seq (MoreStmts (At nowhere Pause) (MoreStmts (At nowhere Halt) NoStmts))));
} ∷
    record { name = named (codes "N"); decls = []; body = (At nowhere Nothing) } ∷ []) ≡
    w words.Module ∷ i (codes "M") ∷ m marks.Colon ∷ w words.Input ∷ i (codes "A") ∷ m marks.Comma ∷ i (codes "B") ∷
    m marks.Semicolon ∷ w words.InputOutput ∷ i (codes "C") ∷ m marks.Semicolon ∷ w words.Output ∷ i (codes "O") ∷
    m marks.Semicolon ∷ w words.Relation ∷ i (codes "A") ∷ m marks.Arrow ∷ i (codes "B") ∷ m marks.Comma ∷ i (codes "A")
    ∷ m marks.Hash ∷ i (codes "B") ∷ m marks.Hash ∷ i (codes "C") ∷ m marks.Semicolon ∷ w words.Pause ∷
    m marks.Semicolon ∷ w words.Halt ∷ w words.End ∷ w words.Module ∷ w words.Module ∷ i (codes "N") ∷ m marks.Colon ∷
    w words.Nothing ∷ w words.End ∷ w words.Module ∷ []
spelling-program = refl
