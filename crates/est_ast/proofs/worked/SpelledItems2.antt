-- Inner: written by hand, with values of the reference implementation: worked spellings, by the reference implementation: statements, each with its
-- optional words left out and put in.
use Rattle.std.specs.Prelude.{ℕ, List, [], ◌∷◌, codes}
use Rattle.std.proofs.Common.{refl, inl, inr}
use Rattle.est_ast.specs.declared.tokens.Kind.TheVariants as kinds
use Rattle.est_ast.specs.declared.tokens.Reserved.TheVariants as words
use Rattle.est_ast.specs.declared.tokens.Mark.TheVariants as marks
use Rattle.est_ast.specs.Trees.{Tick, Sig, Not, And, Or, Round, Square, NoExprs, MoreExprs, Plain, Immediate, Count, At, Pause, Halt, Present, PresentCase}
use Rattle.est_ast.specs.Trees.{Loop, LoopEach, Every, Repeat, Abort, AbortCase, WeakAbort, Suspend, Trap, Signal, Run, Missing, Written, NoHandler}
use Rattle.est_ast.specs.Trees.{Handled, NoCases, MoreCases}
use Rattle.est_ast.specs.Grammar.{SpellsItem}
use Rattle.est_ast.proofs.worked.Spelled.{w, m, i, t, at, n, as_, one, led, cut}

-- present A else halt end
row_0 : SpellsItem (Present (Sig (n (codes "A") 8 9)) Missing (Written (At (at 15 19) Halt))) (t (w words.Present) 0 7
    ∷ t (i (codes "A")) 8 9 ∷ t (w words.Else) 10 14 ∷ t (w words.Halt) 15 19 ∷ t (w words.End) 20 23 ∷ [])
row_0 = led refl (cut (t (i (codes "A")) 8 9 ∷ []) _ (one refl) (cut ([]) _ refl (cut (t (w words.Else) 10 14 ∷ t (w
    words.Halt) 15 19 ∷ []) _ (led refl (inl (inl (cut (t (w words.Halt) 15 19 ∷ []) _ (refl, (one refl)) (inl
    refl))))) (led refl (inl refl)))))

-- present A else halt end present
row_1 : SpellsItem (Present (Sig (n (codes "A") 8 9)) Missing (Written (At (at 15 19) Halt))) (t (w words.Present) 0 7
    ∷ t (i (codes "A")) 8 9 ∷ t (w words.Else) 10 14 ∷ t (w words.Halt) 15 19 ∷ t (w words.End) 20 23 ∷ t (w
    words.Present) 24 31 ∷ [])
row_1 = led refl (cut (t (i (codes "A")) 8 9 ∷ []) _ (one refl) (cut ([]) _ refl (cut (t (w words.Else) 10 14 ∷ t (w
    words.Halt) 15 19 ∷ []) _ (led refl (inl (inl (cut (t (w words.Halt) 15 19 ∷ []) _ (refl, (one refl)) (inl
    refl))))) (led refl (inr (one refl))))))

-- present A then pause else halt end
row_2 : SpellsItem (Present (Sig (n (codes "A") 8 9)) (Written (At (at 15 20) Pause)) (Written (At (at 26 30) Halt)))
    (t (w words.Present) 0 7 ∷ t (i (codes "A")) 8 9 ∷ t (w words.Then) 10 14 ∷ t (w words.Pause) 15 20 ∷ t (w
    words.Else) 21 25 ∷ t (w words.Halt) 26 30 ∷ t (w words.End) 31 34 ∷ [])
row_2 = led refl (cut (t (i (codes "A")) 8 9 ∷ []) _ (one refl) (cut (t (w words.Then) 10 14 ∷ t (w words.Pause) 15 20
    ∷ []) _ (led refl (inl (inl (cut (t (w words.Pause) 15 20 ∷ []) _ (refl, (one refl)) (inl refl))))) (cut (t (w
    words.Else) 21 25 ∷ t (w words.Halt) 26 30 ∷ []) _ (led refl (inl (inl (cut (t (w words.Halt) 26 30 ∷ []) _ (
      refl,
      (one refl),
    ) (inl refl))))) (led refl (inl refl)))))

-- present case A end
row_3 : SpellsItem (PresentCase (MoreCases (Sig (n (codes "A") 13 14)) Missing NoCases) Missing) (t (w words.Present)
    0 7 ∷ t (w words.Case) 8 12 ∷ t (i (codes "A")) 13 14 ∷ t (w words.End) 15 18 ∷ [])
row_3 = led refl (cut (t (w words.Case) 8 12 ∷ t (i (codes "A")) 13 14 ∷ []) _ (cut (t (w words.Case) 8 12 ∷ t (i
    (codes "A")) 13 14 ∷ []) _ (led refl (cut (t (i (codes "A")) 13 14 ∷ []) _ (one refl) refl)) refl) (cut ([]) _
    refl (led refl (inl refl))))

-- present case A case B do halt end present
row_4 : SpellsItem (PresentCase (MoreCases (Sig (n (codes "A") 13 14)) Missing (MoreCases (Sig (n (codes "B") 20 21))
    (Written (At (at 25 29) Halt)) NoCases)) Missing) (t (w words.Present) 0 7 ∷ t (w words.Case) 8 12 ∷ t (i (codes
    "A")) 13 14 ∷ t (w words.Case) 15 19 ∷ t (i (codes "B")) 20 21 ∷ t (w words.Do) 22 24 ∷ t (w words.Halt) 25 29 ∷ t
    (w words.End) 30 33 ∷ t (w words.Present) 34 41 ∷ [])
row_4 = led refl (cut (t (w words.Case) 8 12 ∷ t (i (codes "A")) 13 14 ∷ t (w words.Case) 15 19 ∷ t (i (codes "B")) 20
    21 ∷ t (w words.Do) 22 24 ∷ t (w words.Halt) 25 29 ∷ []) _ (cut (t (w words.Case) 8 12 ∷ t (i (codes "A")) 13 14 ∷
    []) _ (led refl (cut (t (i (codes "A")) 13 14 ∷ []) _ (one refl) refl)) (cut (t (w words.Case) 15 19 ∷ t (i (codes
    "B")) 20 21 ∷ t (w words.Do) 22 24 ∷ t (w words.Halt) 25 29 ∷ []) _ (led refl (cut (t (i (codes "B")) 20 21 ∷ [])
    _ (one refl) (led refl (inl (inl (cut (t (w words.Halt) 25 29 ∷ []) _ (refl, (one refl)) (inl refl))))))) refl))
    (cut ([]) _ refl (led refl (inr (one refl)))))

-- present case A else halt end
row_5 : SpellsItem (PresentCase (MoreCases (Sig (n (codes "A") 13 14)) Missing NoCases) (Written (At (at 20 24)
    Halt))) (t (w words.Present) 0 7 ∷ t (w words.Case) 8 12 ∷ t (i (codes "A")) 13 14 ∷ t (w words.Else) 15 19 ∷ t (w
    words.Halt) 20 24 ∷ t (w words.End) 25 28 ∷ [])
row_5 = led refl (cut (t (w words.Case) 8 12 ∷ t (i (codes "A")) 13 14 ∷ []) _ (cut (t (w words.Case) 8 12 ∷ t (i
    (codes "A")) 13 14 ∷ []) _ (led refl (cut (t (i (codes "A")) 13 14 ∷ []) _ (one refl) refl)) refl) (cut (t (w
    words.Else) 15 19 ∷ t (w words.Halt) 20 24 ∷ []) _ (led refl (inl (inl (cut (t (w words.Halt) 20 24 ∷ []) _ (
      refl,
      (one refl),
    ) (inl refl))))) (led refl (inl refl))))

-- present case A do pause else halt end present
row_6 : SpellsItem (PresentCase (MoreCases (Sig (n (codes "A") 13 14)) (Written (At (at 18 23) Pause)) NoCases)
    (Written (At (at 29 33) Halt))) (t (w words.Present) 0 7 ∷ t (w words.Case) 8 12 ∷ t (i (codes "A")) 13 14 ∷ t (w
    words.Do) 15 17 ∷ t (w words.Pause) 18 23 ∷ t (w words.Else) 24 28 ∷ t (w words.Halt) 29 33 ∷ t (w words.End) 34
    37 ∷ t (w words.Present) 38 45 ∷ [])
row_6 = led refl (cut (t (w words.Case) 8 12 ∷ t (i (codes "A")) 13 14 ∷ t (w words.Do) 15 17 ∷ t (w words.Pause) 18
    23 ∷ []) _ (cut (t (w words.Case) 8 12 ∷ t (i (codes "A")) 13 14 ∷ t (w words.Do) 15 17 ∷ t (w words.Pause) 18 23
    ∷ []) _ (led refl (cut (t (i (codes "A")) 13 14 ∷ []) _ (one refl) (led refl (inl (inl (cut (t (w words.Pause) 18
    23 ∷ []) _ (refl, (one refl)) (inl refl))))))) refl) (cut (t (w words.Else) 24 28 ∷ t (w words.Halt) 29 33 ∷ []) _
    (led refl (inl (inl (cut (t (w words.Halt) 29 33 ∷ []) _ (refl, (one refl)) (inl refl))))) (led refl (inr (one
    refl)))))

-- present not not A and B or C and ( D or E ) or [ not F ] end
row_7 : SpellsItem (Present (Or (MoreExprs (And (MoreExprs (Not (Not (Sig (n (codes "A") 16 17)))) (MoreExprs (Sig (n
    (codes "B") 22 23)) NoExprs))) (MoreExprs (And (MoreExprs (Sig (n (codes "C") 27 28)) (MoreExprs (Round (Or
    (MoreExprs (Sig (n (codes "D") 35 36)) (MoreExprs (Sig (n (codes "E") 40 41)) NoExprs)))) NoExprs))) (MoreExprs
    (Square (Not (Sig (n (codes "F") 53 54)))) NoExprs)))) Missing Missing) (t (w words.Present) 0 7 ∷ t (w words.Not)
    8 11 ∷ t (w words.Not) 12 15 ∷ t (i (codes "A")) 16 17 ∷ t (w words.And) 18 21 ∷ t (i (codes "B")) 22 23 ∷ t (w
    words.Or) 24 26 ∷ t (i (codes "C")) 27 28 ∷ t (w words.And) 29 32 ∷ t (m marks.LeftParenthesis) 33 34 ∷ t (i
    (codes "D")) 35 36 ∷ t (w words.Or) 37 39 ∷ t (i (codes "E")) 40 41 ∷ t (m marks.RightParenthesis) 42 43 ∷ t (w
    words.Or) 44 46 ∷ t (m marks.LeftBracket) 47 48 ∷ t (w words.Not) 49 52 ∷ t (i (codes "F")) 53 54 ∷ t (m
    marks.RightBracket) 55 56 ∷ t (w words.End) 57 60 ∷ [])
row_7 = led refl (cut (t (w words.Not) 8 11 ∷ t (w words.Not) 12 15 ∷ t (i (codes "A")) 16 17 ∷ t (w words.And) 18 21
    ∷ t (i (codes "B")) 22 23 ∷ t (w words.Or) 24 26 ∷ t (i (codes "C")) 27 28 ∷ t (w words.And) 29 32 ∷ t (m
    marks.LeftParenthesis) 33 34 ∷ t (i (codes "D")) 35 36 ∷ t (w words.Or) 37 39 ∷ t (i (codes "E")) 40 41 ∷ t (m
    marks.RightParenthesis) 42 43 ∷ t (w words.Or) 44 46 ∷ t (m marks.LeftBracket) 47 48 ∷ t (w words.Not) 49 52 ∷ t
    (i (codes "F")) 53 54 ∷ t (m marks.RightBracket) 55 56 ∷ []) _ (cut (t (w words.Not) 8 11 ∷ t (w words.Not) 12 15
    ∷ t (i (codes "A")) 16 17 ∷ t (w words.And) 18 21 ∷ t (i (codes "B")) 22 23 ∷ []) _ (cut (t (w words.Not) 8 11 ∷ t
    (w words.Not) 12 15 ∷ t (i (codes "A")) 16 17 ∷ []) _ (led refl (led refl (one refl))) (cut (t (w words.And) 18 21
    ∷ t (i (codes "B")) 22 23 ∷ []) _ (led refl (one refl)) refl)) (cut (t (w words.Or) 24 26 ∷ t (i (codes "C")) 27
    28 ∷ t (w words.And) 29 32 ∷ t (m marks.LeftParenthesis) 33 34 ∷ t (i (codes "D")) 35 36 ∷ t (w words.Or) 37 39 ∷
    t (i (codes "E")) 40 41 ∷ t (m marks.RightParenthesis) 42 43 ∷ []) _ (led refl (cut (t (i (codes "C")) 27 28 ∷ [])
    _ (one refl) (cut (t (w words.And) 29 32 ∷ t (m marks.LeftParenthesis) 33 34 ∷ t (i (codes "D")) 35 36 ∷ t (w
    words.Or) 37 39 ∷ t (i (codes "E")) 40 41 ∷ t (m marks.RightParenthesis) 42 43 ∷ []) _ (led refl (led refl (cut (t
    (i (codes "D")) 35 36 ∷ t (w words.Or) 37 39 ∷ t (i (codes "E")) 40 41 ∷ []) _ (cut (t (i (codes "D")) 35 36 ∷ [])
    _ (one refl) (cut (t (w words.Or) 37 39 ∷ t (i (codes "E")) 40 41 ∷ []) _ (led refl (one refl)) refl)) (one
    refl)))) refl))) (cut (t (w words.Or) 44 46 ∷ t (m marks.LeftBracket) 47 48 ∷ t (w words.Not) 49 52 ∷ t (i (codes
    "F")) 53 54 ∷ t (m marks.RightBracket) 55 56 ∷ []) _ (led refl (led refl (cut (t (w words.Not) 49 52 ∷ t (i (codes
    "F")) 53 54 ∷ []) _ (led refl (one refl)) (one refl)))) refl))) (cut ([]) _ refl (cut ([]) _ refl (led refl (inl
    refl)))))

-- loop pause end
row_8 : SpellsItem (Loop (At (at 5 10) Pause)) (t (w words.Loop) 0 4 ∷ t (w words.Pause) 5 10 ∷ t (w words.End) 11 14
    ∷ [])
row_8 = led refl (cut (t (w words.Pause) 5 10 ∷ []) _ (inl (inl (cut (t (w words.Pause) 5 10 ∷ []) _ (
  refl,
  (one
      refl),
) (inl refl)))) (led refl (inl refl)))

-- loop pause ; end
row_9 : SpellsItem (Loop (At (at 5 10) Pause)) (t (w words.Loop) 0 4 ∷ t (w words.Pause) 5 10 ∷ t (m marks.Semicolon)
    11 12 ∷ t (w words.End) 13 16 ∷ [])
row_9 = led refl (cut (t (w words.Pause) 5 10 ∷ t (m marks.Semicolon) 11 12 ∷ []) _ (inl (inl (cut (t (w words.Pause)
    5 10 ∷ []) _ (refl, (one refl)) (inr (one refl))))) (led refl (inl refl)))

-- loop pause each tick
row_10 : SpellsItem (LoopEach (At (at 5 10) Pause) (Plain (Tick (at 16 20)))) (t (w words.Loop) 0 4 ∷ t (w
    words.Pause) 5 10 ∷ t (w words.Each) 11 15 ∷ t (w words.Tick) 16 20 ∷ [])
row_10 = led refl (cut (t (w words.Pause) 5 10 ∷ []) _ (inl (inl (cut (t (w words.Pause) 5 10 ∷ []) _ (
  refl,
  (one
      refl),
) (inl refl)))) (led refl (one refl)))

-- loop pause each [ A or B ]
row_11 : SpellsItem (LoopEach (At (at 5 10) Pause) (Plain (Square (Or (MoreExprs (Sig (n (codes "A") 18 19))
    (MoreExprs (Sig (n (codes "B") 23 24)) NoExprs)))))) (t (w words.Loop) 0 4 ∷ t (w words.Pause) 5 10 ∷ t (w
    words.Each) 11 15 ∷ t (m marks.LeftBracket) 16 17 ∷ t (i (codes "A")) 18 19 ∷ t (w words.Or) 20 22 ∷ t (i (codes
    "B")) 23 24 ∷ t (m marks.RightBracket) 25 26 ∷ [])
row_11 = led refl (cut (t (w words.Pause) 5 10 ∷ []) _ (inl (inl (cut (t (w words.Pause) 5 10 ∷ []) _ (
  refl,
  (one
      refl),
) (inl refl)))) (led refl (led refl (cut (t (i (codes "A")) 18 19 ∷ t (w words.Or) 20 22 ∷ t (i (codes "B"))
    23 24 ∷ []) _ (cut (t (i (codes "A")) 18 19 ∷ []) _ (one refl) (cut (t (w words.Or) 20 22 ∷ t (i (codes "B")) 23
    24 ∷ []) _ (led refl (one refl)) refl)) (one refl)))))

-- loop pause each 2 [ A ]
row_12 : SpellsItem (LoopEach (At (at 5 10) Pause) (Count 2 (at 16 17) (Square (Sig (n (codes "A") 20 21))))) (t (w
    words.Loop) 0 4 ∷ t (w words.Pause) 5 10 ∷ t (w words.Each) 11 15 ∷ t (kinds.Number 2) 16 17 ∷ t (m
    marks.LeftBracket) 18 19 ∷ t (i (codes "A")) 20 21 ∷ t (m marks.RightBracket) 22 23 ∷ [])
row_12 = led refl (cut (t (w words.Pause) 5 10 ∷ []) _ (inl (inl (cut (t (w words.Pause) 5 10 ∷ []) _ (
  refl,
  (one
      refl),
) (inl refl)))) (led refl (cut (t (kinds.Number 2) 16 17 ∷ []) _ (one refl) (led refl (cut (t (i (codes "A"))
    20 21 ∷ []) _ (one refl) (one refl))))))

-- every A do pause end
row_13 : SpellsItem (Every (Plain (Sig (n (codes "A") 6 7))) (At (at 11 16) Pause)) (t (w words.Every) 0 5 ∷ t (i
    (codes "A")) 6 7 ∷ t (w words.Do) 8 10 ∷ t (w words.Pause) 11 16 ∷ t (w words.End) 17 20 ∷ [])
row_13 = led refl (cut (t (i (codes "A")) 6 7 ∷ []) _ (one refl) (led refl (cut (t (w words.Pause) 11 16 ∷ []) _ (inl
    (inl (cut (t (w words.Pause) 11 16 ∷ []) _ (refl, (one refl)) (inl refl)))) (led refl (inl refl)))))

-- every A do pause end every
row_14 : SpellsItem (Every (Plain (Sig (n (codes "A") 6 7))) (At (at 11 16) Pause)) (t (w words.Every) 0 5 ∷ t (i
    (codes "A")) 6 7 ∷ t (w words.Do) 8 10 ∷ t (w words.Pause) 11 16 ∷ t (w words.End) 17 20 ∷ t (w words.Every) 21 26
    ∷ [])
row_14 = led refl (cut (t (i (codes "A")) 6 7 ∷ []) _ (one refl) (led refl (cut (t (w words.Pause) 11 16 ∷ []) _ (inl
    (inl (cut (t (w words.Pause) 11 16 ∷ []) _ (refl, (one refl)) (inl refl)))) (led refl (inr (one refl))))))

-- every 2 [ A ] do pause end
row_15 : SpellsItem (Every (Count 2 (at 6 7) (Square (Sig (n (codes "A") 10 11)))) (At (at 17 22) Pause)) (t (w
    words.Every) 0 5 ∷ t (kinds.Number 2) 6 7 ∷ t (m marks.LeftBracket) 8 9 ∷ t (i (codes "A")) 10 11 ∷ t (m
    marks.RightBracket) 12 13 ∷ t (w words.Do) 14 16 ∷ t (w words.Pause) 17 22 ∷ t (w words.End) 23 26 ∷ [])
row_15 = led refl (cut (t (kinds.Number 2) 6 7 ∷ t (m marks.LeftBracket) 8 9 ∷ t (i (codes "A")) 10 11 ∷ t (m
    marks.RightBracket) 12 13 ∷ []) _ (cut (t (kinds.Number 2) 6 7 ∷ []) _ (one refl) (led refl (cut (t (i (codes
    "A")) 10 11 ∷ []) _ (one refl) (one refl)))) (led refl (cut (t (w words.Pause) 17 22 ∷ []) _ (inl (inl (cut (t (w
    words.Pause) 17 22 ∷ []) _ (refl, (one refl)) (inl refl)))) (led refl (inl refl)))))

-- every immediate tick do pause ; end every
row_16 : SpellsItem (Every (Immediate (Tick (at 16 20))) (At (at 24 29) Pause)) (t (w words.Every) 0 5 ∷ t (w
    words.Immediate) 6 15 ∷ t (w words.Tick) 16 20 ∷ t (w words.Do) 21 23 ∷ t (w words.Pause) 24 29 ∷ t (m
    marks.Semicolon) 30 31 ∷ t (w words.End) 32 35 ∷ t (w words.Every) 36 41 ∷ [])
row_16 = led refl (cut (t (w words.Immediate) 6 15 ∷ t (w words.Tick) 16 20 ∷ []) _ (led refl (one refl)) (led refl
    (cut (t (w words.Pause) 24 29 ∷ t (m marks.Semicolon) 30 31 ∷ []) _ (inl (inl (cut (t (w words.Pause) 24 29 ∷ [])
    _ (refl, (one refl)) (inr (one refl))))) (led refl (inr (one refl))))))

-- repeat 2 times pause end
row_17 : SpellsItem (Repeat 2 (at 7 8) (At (at 15 20) Pause)) (t (w words.Repeat) 0 6 ∷ t (kinds.Number 2) 7 8 ∷ t (w
    words.Times) 9 14 ∷ t (w words.Pause) 15 20 ∷ t (w words.End) 21 24 ∷ [])
row_17 = cut ([]) _ (inl refl) (led refl (cut (t (kinds.Number 2) 7 8 ∷ []) _ (one refl) (led refl (cut (t (w
    words.Pause) 15 20 ∷ []) _ (inl (inl (cut (t (w words.Pause) 15 20 ∷ []) _ (refl, (one refl)) (inl refl)))) (led
    refl (inl refl))))))

-- positive repeat 2 times pause end repeat
row_18 : SpellsItem (Repeat 2 (at 16 17) (At (at 24 29) Pause)) (t (w words.Positive) 0 8 ∷ t (w words.Repeat) 9 15 ∷
    t (kinds.Number 2) 16 17 ∷ t (w words.Times) 18 23 ∷ t (w words.Pause) 24 29 ∷ t (w words.End) 30 33 ∷ t (w
    words.Repeat) 34 40 ∷ [])
row_18 = cut (t (w words.Positive) 0 8 ∷ []) _ (inr (one refl)) (led refl (cut (t (kinds.Number 2) 16 17 ∷ []) _ (one
    refl) (led refl (cut (t (w words.Pause) 24 29 ∷ []) _ (inl (inl (cut (t (w words.Pause) 24 29 ∷ []) _ (
      refl,
      (one
          refl),
    ) (inl refl)))) (led refl (inr (one refl)))))))

-- abort halt when A do pause end
row_19 : SpellsItem (Abort (At (at 6 10) Halt) (Plain (Sig (n (codes "A") 16 17))) (Written (At (at 21 26) Pause))) (t
    (w words.Abort) 0 5 ∷ t (w words.Halt) 6 10 ∷ t (w words.When) 11 15 ∷ t (i (codes "A")) 16 17 ∷ t (w words.Do) 18
    20 ∷ t (w words.Pause) 21 26 ∷ t (w words.End) 27 30 ∷ [])
row_19 = led refl (cut (t (w words.Halt) 6 10 ∷ []) _ (inl (inl (cut (t (w words.Halt) 6 10 ∷ []) _ (refl, (one refl))
    (inl refl)))) (led refl (cut (t (i (codes "A")) 16 17 ∷ []) _ (one refl) (led refl (cut (t (w words.Pause) 21 26 ∷
    []) _ (inl (inl (cut (t (w words.Pause) 21 26 ∷ []) _ (refl, (one refl)) (inl refl)))) (led refl (inl refl)))))))

-- abort halt when immediate [ A ] do pause end abort
row_20 : SpellsItem (Abort (At (at 6 10) Halt) (Immediate (Square (Sig (n (codes "A") 28 29)))) (Written (At (at 35
    40) Pause))) (t (w words.Abort) 0 5 ∷ t (w words.Halt) 6 10 ∷ t (w words.When) 11 15 ∷ t (w words.Immediate) 16 25
    ∷ t (m marks.LeftBracket) 26 27 ∷ t (i (codes "A")) 28 29 ∷ t (m marks.RightBracket) 30 31 ∷ t (w words.Do) 32 34
    ∷ t (w words.Pause) 35 40 ∷ t (w words.End) 41 44 ∷ t (w words.Abort) 45 50 ∷ [])
row_20 = led refl (cut (t (w words.Halt) 6 10 ∷ []) _ (inl (inl (cut (t (w words.Halt) 6 10 ∷ []) _ (refl, (one refl))
    (inl refl)))) (led refl (cut (t (w words.Immediate) 16 25 ∷ t (m marks.LeftBracket) 26 27 ∷ t (i (codes "A")) 28
    29 ∷ t (m marks.RightBracket) 30 31 ∷ []) _ (led refl (led refl (cut (t (i (codes "A")) 28 29 ∷ []) _ (one refl)
    (one refl)))) (led refl (cut (t (w words.Pause) 35 40 ∷ []) _ (inl (inl (cut (t (w words.Pause) 35 40 ∷ []) _
    (refl, (one refl)) (inl refl)))) (led refl (inr (one refl))))))))

-- abort halt when 2 tick
row_21 : SpellsItem (Abort (At (at 6 10) Halt) (Count 2 (at 16 17) (Tick (at 18 22))) Missing) (t (w words.Abort) 0 5
    ∷ t (w words.Halt) 6 10 ∷ t (w words.When) 11 15 ∷ t (kinds.Number 2) 16 17 ∷ t (w words.Tick) 18 22 ∷ [])
row_21 = led refl (cut (t (w words.Halt) 6 10 ∷ []) _ (inl (inl (cut (t (w words.Halt) 6 10 ∷ []) _ (refl, (one refl))
    (inl refl)))) (led refl (cut (t (kinds.Number 2) 16 17 ∷ t (w words.Tick) 18 22 ∷ []) _ (cut (t (kinds.Number 2)
    16 17 ∷ []) _ (one refl) (one refl)) refl)))

-- abort halt when case A end
row_22 : SpellsItem (AbortCase (At (at 6 10) Halt) (MoreCases (Sig (n (codes "A") 21 22)) Missing NoCases)) (t (w
    words.Abort) 0 5 ∷ t (w words.Halt) 6 10 ∷ t (w words.When) 11 15 ∷ t (w words.Case) 16 20 ∷ t (i (codes "A")) 21
    22 ∷ t (w words.End) 23 26 ∷ [])
row_22 = led refl (cut (t (w words.Halt) 6 10 ∷ []) _ (inl (inl (cut (t (w words.Halt) 6 10 ∷ []) _ (refl, (one refl))
    (inl refl)))) (led refl (cut (t (w words.Case) 16 20 ∷ t (i (codes "A")) 21 22 ∷ []) _ (cut (t (w words.Case) 16
    20 ∷ t (i (codes "A")) 21 22 ∷ []) _ (led refl (cut (t (i (codes "A")) 21 22 ∷ []) _ (one refl) refl)) refl) (led
    refl (inl refl)))))

-- abort halt when case A end abort
row_23 : SpellsItem (AbortCase (At (at 6 10) Halt) (MoreCases (Sig (n (codes "A") 21 22)) Missing NoCases)) (t (w
    words.Abort) 0 5 ∷ t (w words.Halt) 6 10 ∷ t (w words.When) 11 15 ∷ t (w words.Case) 16 20 ∷ t (i (codes "A")) 21
    22 ∷ t (w words.End) 23 26 ∷ t (w words.Abort) 27 32 ∷ [])
row_23 = led refl (cut (t (w words.Halt) 6 10 ∷ []) _ (inl (inl (cut (t (w words.Halt) 6 10 ∷ []) _ (refl, (one refl))
    (inl refl)))) (led refl (cut (t (w words.Case) 16 20 ∷ t (i (codes "A")) 21 22 ∷ []) _ (cut (t (w words.Case) 16
    20 ∷ t (i (codes "A")) 21 22 ∷ []) _ (led refl (cut (t (i (codes "A")) 21 22 ∷ []) _ (one refl) refl)) refl) (led
    refl (inr (one refl))))))

-- abort halt when case A do pause case B do halt end
row_24 : SpellsItem (AbortCase (At (at 6 10) Halt) (MoreCases (Sig (n (codes "A") 21 22)) (Written (At (at 26 31)
    Pause)) (MoreCases (Sig (n (codes "B") 37 38)) (Written (At (at 42 46) Halt)) NoCases))) (t (w words.Abort) 0 5 ∷
    t (w words.Halt) 6 10 ∷ t (w words.When) 11 15 ∷ t (w words.Case) 16 20 ∷ t (i (codes "A")) 21 22 ∷ t (w words.Do)
    23 25 ∷ t (w words.Pause) 26 31 ∷ t (w words.Case) 32 36 ∷ t (i (codes "B")) 37 38 ∷ t (w words.Do) 39 41 ∷ t (w
    words.Halt) 42 46 ∷ t (w words.End) 47 50 ∷ [])
row_24 = led refl (cut (t (w words.Halt) 6 10 ∷ []) _ (inl (inl (cut (t (w words.Halt) 6 10 ∷ []) _ (refl, (one refl))
    (inl refl)))) (led refl (cut (t (w words.Case) 16 20 ∷ t (i (codes "A")) 21 22 ∷ t (w words.Do) 23 25 ∷ t (w
    words.Pause) 26 31 ∷ t (w words.Case) 32 36 ∷ t (i (codes "B")) 37 38 ∷ t (w words.Do) 39 41 ∷ t (w words.Halt) 42
    46 ∷ []) _ (cut (t (w words.Case) 16 20 ∷ t (i (codes "A")) 21 22 ∷ t (w words.Do) 23 25 ∷ t (w words.Pause) 26 31
    ∷ []) _ (led refl (cut (t (i (codes "A")) 21 22 ∷ []) _ (one refl) (led refl (inl (inl (cut (t (w words.Pause) 26
    31 ∷ []) _ (refl, (one refl)) (inl refl))))))) (cut (t (w words.Case) 32 36 ∷ t (i (codes "B")) 37 38 ∷ t (w
    words.Do) 39 41 ∷ t (w words.Halt) 42 46 ∷ []) _ (led refl (cut (t (i (codes "B")) 37 38 ∷ []) _ (one refl) (led
    refl (inl (inl (cut (t (w words.Halt) 42 46 ∷ []) _ (refl, (one refl)) (inl refl))))))) refl)) (led refl (inl
    refl)))))

-- weak abort halt when A
row_25 : SpellsItem (WeakAbort (At (at 11 15) Halt) (Plain (Sig (n (codes "A") 21 22)))) (t (w words.Weak) 0 4 ∷ t (w
    words.Abort) 5 10 ∷ t (w words.Halt) 11 15 ∷ t (w words.When) 16 20 ∷ t (i (codes "A")) 21 22 ∷ [])
row_25 = led refl (led refl (cut (t (w words.Halt) 11 15 ∷ []) _ (inl (inl (cut (t (w words.Halt) 11 15 ∷ []) _ (
  refl,
  (one refl),
) (inl refl)))) (led refl (one refl))))

-- weak abort halt when 2 A
row_26 : SpellsItem (WeakAbort (At (at 11 15) Halt) (Count 2 (at 21 22) (Sig (n (codes "A") 23 24)))) (t (w
    words.Weak) 0 4 ∷ t (w words.Abort) 5 10 ∷ t (w words.Halt) 11 15 ∷ t (w words.When) 16 20 ∷ t (kinds.Number 2) 21
    22 ∷ t (i (codes "A")) 23 24 ∷ [])
row_26 = led refl (led refl (cut (t (w words.Halt) 11 15 ∷ []) _ (inl (inl (cut (t (w words.Halt) 11 15 ∷ []) _ (
  refl,
  (one refl),
) (inl refl)))) (led refl (cut (t (kinds.Number 2) 21 22 ∷ []) _ (one refl) (one refl)))))

-- weak abort halt when [ A ]
row_27 : SpellsItem (WeakAbort (At (at 11 15) Halt) (Plain (Square (Sig (n (codes "A") 23 24))))) (t (w words.Weak) 0
    4 ∷ t (w words.Abort) 5 10 ∷ t (w words.Halt) 11 15 ∷ t (w words.When) 16 20 ∷ t (m marks.LeftBracket) 21 22 ∷ t
    (i (codes "A")) 23 24 ∷ t (m marks.RightBracket) 25 26 ∷ [])
row_27 = led refl (led refl (cut (t (w words.Halt) 11 15 ∷ []) _ (inl (inl (cut (t (w words.Halt) 11 15 ∷ []) _ (
  refl,
  (one refl),
) (inl refl)))) (led refl (led refl (cut (t (i (codes "A")) 23 24 ∷ []) _ (one refl) (one refl))))))

-- suspend halt when tick
row_28 : SpellsItem (Suspend (At (at 8 12) Halt) (Plain (Tick (at 18 22)))) (t (w words.Suspend) 0 7 ∷ t (w
    words.Halt) 8 12 ∷ t (w words.When) 13 17 ∷ t (w words.Tick) 18 22 ∷ [])
row_28 = led refl (cut (t (w words.Halt) 8 12 ∷ []) _ (inl (inl (cut (t (w words.Halt) 8 12 ∷ []) _ (refl, (one refl))
    (inl refl)))) (led refl (one refl)))

-- suspend halt when [ A ]
row_29 : SpellsItem (Suspend (At (at 8 12) Halt) (Plain (Square (Sig (n (codes "A") 20 21))))) (t (w words.Suspend) 0
    7 ∷ t (w words.Halt) 8 12 ∷ t (w words.When) 13 17 ∷ t (m marks.LeftBracket) 18 19 ∷ t (i (codes "A")) 20 21 ∷ t
    (m marks.RightBracket) 22 23 ∷ [])
row_29 = led refl (cut (t (w words.Halt) 8 12 ∷ []) _ (inl (inl (cut (t (w words.Halt) 8 12 ∷ []) _ (refl, (one refl))
    (inl refl)))) (led refl (led refl (cut (t (i (codes "A")) 20 21 ∷ []) _ (one refl) (one refl)))))

-- suspend halt when immediate [ A ]
row_30 : SpellsItem (Suspend (At (at 8 12) Halt) (Immediate (Square (Sig (n (codes "A") 30 31))))) (t (w
    words.Suspend) 0 7 ∷ t (w words.Halt) 8 12 ∷ t (w words.When) 13 17 ∷ t (w words.Immediate) 18 27 ∷ t (m
    marks.LeftBracket) 28 29 ∷ t (i (codes "A")) 30 31 ∷ t (m marks.RightBracket) 32 33 ∷ [])
row_30 = led refl (cut (t (w words.Halt) 8 12 ∷ []) _ (inl (inl (cut (t (w words.Halt) 8 12 ∷ []) _ (refl, (one refl))
    (inl refl)))) (led refl (led refl (led refl (cut (t (i (codes "A")) 30 31 ∷ []) _ (one refl) (one refl))))))

-- trap T in pause end
row_31 : SpellsItem (Trap (n (codes "T") 5 6) (At (at 10 15) Pause) NoHandler) (t (w words.Trap) 0 4 ∷ t (i (codes
    "T")) 5 6 ∷ t (w words.In) 7 9 ∷ t (w words.Pause) 10 15 ∷ t (w words.End) 16 19 ∷ [])
row_31 = led refl (cut (t (i (codes "T")) 5 6 ∷ []) _ (one refl) (led refl (cut (t (w words.Pause) 10 15 ∷ []) _ (inl
    (inl (cut (t (w words.Pause) 10 15 ∷ []) _ (refl, (one refl)) (inl refl)))) (cut ([]) _ refl (led refl (inl
    refl))))))

-- trap T in pause end trap
row_32 : SpellsItem (Trap (n (codes "T") 5 6) (At (at 10 15) Pause) NoHandler) (t (w words.Trap) 0 4 ∷ t (i (codes
    "T")) 5 6 ∷ t (w words.In) 7 9 ∷ t (w words.Pause) 10 15 ∷ t (w words.End) 16 19 ∷ t (w words.Trap) 20 24 ∷ [])
row_32 = led refl (cut (t (i (codes "T")) 5 6 ∷ []) _ (one refl) (led refl (cut (t (w words.Pause) 10 15 ∷ []) _ (inl
    (inl (cut (t (w words.Pause) 10 15 ∷ []) _ (refl, (one refl)) (inl refl)))) (cut ([]) _ refl (led refl (inr (one
    refl)))))))

-- trap T in pause handle T do halt end
row_33 : SpellsItem (Trap (n (codes "T") 5 6) (At (at 10 15) Pause) (Handled (n (codes "T") 23 24) (At (at 28 32)
    Halt))) (t (w words.Trap) 0 4 ∷ t (i (codes "T")) 5 6 ∷ t (w words.In) 7 9 ∷ t (w words.Pause) 10 15 ∷ t (w
    words.Handle) 16 22 ∷ t (i (codes "T")) 23 24 ∷ t (w words.Do) 25 27 ∷ t (w words.Halt) 28 32 ∷ t (w words.End) 33
    36 ∷ [])
row_33 = led refl (cut (t (i (codes "T")) 5 6 ∷ []) _ (one refl) (led refl (cut (t (w words.Pause) 10 15 ∷ []) _ (inl
    (inl (cut (t (w words.Pause) 10 15 ∷ []) _ (refl, (one refl)) (inl refl)))) (cut (t (w words.Handle) 16 22 ∷ t (i
    (codes "T")) 23 24 ∷ t (w words.Do) 25 27 ∷ t (w words.Halt) 28 32 ∷ []) _ (led refl (cut (t (i (codes "T")) 23 24
    ∷ []) _ (one refl) (led refl (inl (inl (cut (t (w words.Halt) 28 32 ∷ []) _ (refl, (one refl)) (inl refl)))))))
    (led refl (inl refl))))))

-- trap T in pause ; handle T do halt ; end trap
row_34 : SpellsItem (Trap (n (codes "T") 5 6) (At (at 10 15) Pause) (Handled (n (codes "T") 25 26) (At (at 30 34)
    Halt))) (t (w words.Trap) 0 4 ∷ t (i (codes "T")) 5 6 ∷ t (w words.In) 7 9 ∷ t (w words.Pause) 10 15 ∷ t (m
    marks.Semicolon) 16 17 ∷ t (w words.Handle) 18 24 ∷ t (i (codes "T")) 25 26 ∷ t (w words.Do) 27 29 ∷ t (w
    words.Halt) 30 34 ∷ t (m marks.Semicolon) 35 36 ∷ t (w words.End) 37 40 ∷ t (w words.Trap) 41 45 ∷ [])
row_34 = led refl (cut (t (i (codes "T")) 5 6 ∷ []) _ (one refl) (led refl (cut (t (w words.Pause) 10 15 ∷ t (m
    marks.Semicolon) 16 17 ∷ []) _ (inl (inl (cut (t (w words.Pause) 10 15 ∷ []) _ (refl, (one refl)) (inr (one
    refl))))) (cut (t (w words.Handle) 18 24 ∷ t (i (codes "T")) 25 26 ∷ t (w words.Do) 27 29 ∷ t (w words.Halt) 30 34
    ∷ t (m marks.Semicolon) 35 36 ∷ []) _ (led refl (cut (t (i (codes "T")) 25 26 ∷ []) _ (one refl) (led refl (inl
    (inl (cut (t (w words.Halt) 30 34 ∷ []) _ (refl, (one refl)) (inr (one refl)))))))) (led refl (inr (one
    refl)))))))

-- signal S in pause end
row_35 : SpellsItem (Signal (n (codes "S") 7 8 ∷ []) (At (at 12 17) Pause)) (t (w words.Signal) 0 6 ∷ t (i (codes
    "S")) 7 8 ∷ t (w words.In) 9 11 ∷ t (w words.Pause) 12 17 ∷ t (w words.End) 18 21 ∷ [])
row_35 = led refl (cut (t (i (codes "S")) 7 8 ∷ []) _ (cut (t (i (codes "S")) 7 8 ∷ []) _ (one refl) refl) (led refl
    (cut (t (w words.Pause) 12 17 ∷ []) _ (inl (inl (cut (t (w words.Pause) 12 17 ∷ []) _ (refl, (one refl)) (inl
    refl)))) (led refl (inl refl)))))

-- signal S , T , U in pause ; end signal
row_36 : SpellsItem (Signal (n (codes "S") 7 8 ∷ n (codes "T") 11 12 ∷ n (codes "U") 15 16 ∷ []) (At (at 20 25)
    Pause)) (t (w words.Signal) 0 6 ∷ t (i (codes "S")) 7 8 ∷ t (m marks.Comma) 9 10 ∷ t (i (codes "T")) 11 12 ∷ t (m
    marks.Comma) 13 14 ∷ t (i (codes "U")) 15 16 ∷ t (w words.In) 17 19 ∷ t (w words.Pause) 20 25 ∷ t (m
    marks.Semicolon) 26 27 ∷ t (w words.End) 28 31 ∷ t (w words.Signal) 32 38 ∷ [])
row_36 = led refl (cut (t (i (codes "S")) 7 8 ∷ t (m marks.Comma) 9 10 ∷ t (i (codes "T")) 11 12 ∷ t (m marks.Comma)
    13 14 ∷ t (i (codes "U")) 15 16 ∷ []) _ (cut (t (i (codes "S")) 7 8 ∷ []) _ (one refl) (cut (t (m marks.Comma) 9
    10 ∷ t (i (codes "T")) 11 12 ∷ []) _ (led refl (one refl)) (cut (t (m marks.Comma) 13 14 ∷ t (i (codes "U")) 15 16
    ∷ []) _ (led refl (one refl)) refl))) (led refl (cut (t (w words.Pause) 20 25 ∷ t (m marks.Semicolon) 26 27 ∷ [])
    _ (inl (inl (cut (t (w words.Pause) 20 25 ∷ []) _ (refl, (one refl)) (inr (one refl))))) (led refl (inr (one
    refl))))))

-- run N [ signal A / B ]
row_37 : SpellsItem (Run (n (codes "N") 4 5) (as_ (n (codes "A") 15 16) (n (codes "B") 19 20) ∷ [])) (t (w words.Run)
    0 3 ∷ t (i (codes "N")) 4 5 ∷ t (m marks.LeftBracket) 6 7 ∷ t (w words.Signal) 8 14 ∷ t (i (codes "A")) 15 16 ∷ t
    (m marks.Slash) 17 18 ∷ t (i (codes "B")) 19 20 ∷ t (m marks.RightBracket) 21 22 ∷ [])
row_37 = led refl (cut (t (i (codes "N")) 4 5 ∷ []) _ (one refl) (led refl (led refl (cut (t (i (codes "A")) 15 16 ∷ t
    (m marks.Slash) 17 18 ∷ t (i (codes "B")) 19 20 ∷ []) _ (cut (t (i (codes "A")) 15 16 ∷ t (m marks.Slash) 17 18 ∷
    t (i (codes "B")) 19 20 ∷ []) _ (cut (t (i (codes "A")) 15 16 ∷ []) _ (one refl) (led refl (one refl))) refl) (one
    refl)))))
