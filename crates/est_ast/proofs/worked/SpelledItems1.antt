-- Inner: written by hand, with values of the reference implementation: worked spellings, by the reference implementation: statements, each with its
-- optional words left out and put in.
use Rattle.std.specs.Prelude.{ℕ, List, [], ◌∷◌, codes}
use Rattle.std.proofs.Common.{refl, inl, inr}
use Rattle.est_ast.specs.declared.tokens.Kind.TheVariants as kinds
use Rattle.est_ast.specs.declared.tokens.Reserved.TheVariants as words
use Rattle.est_ast.specs.declared.tokens.Mark.TheVariants as marks
use Rattle.est_ast.specs.Trees.{Tick, Sig, Not, Square, Plain, Immediate, Count, At, Nothing, Pause, Halt, Emit, Sustain, Await, AwaitCase, Present}
use Rattle.est_ast.specs.Trees.{PresentCase, Loop, LoopEach, Repeat, Abort, WeakAbort, Suspend, Trap, Exit, Signal, Run, Par, Group, Missing, Written}
use Rattle.est_ast.specs.Trees.{Handled, NoStmts, MoreStmts, NoCases, MoreCases}
use Rattle.est_ast.specs.Grammar.{SpellsItem}
use Rattle.est_ast.proofs.worked.Spelled.{w, m, i, t, at, n, as_, one, led, cut}

-- nothing
row_0 : SpellsItem Nothing (t (w words.Nothing) 0 7 ∷ [])
row_0 = one refl

-- pause
row_1 : SpellsItem Pause (t (w words.Pause) 0 5 ∷ [])
row_1 = one refl

-- halt
row_2 : SpellsItem Halt (t (w words.Halt) 0 4 ∷ [])
row_2 = one refl

-- emit A
row_3 : SpellsItem (Emit (n (codes "A") 5 6)) (t (w words.Emit) 0 4 ∷ t (i (codes "A")) 5 6 ∷ [])
row_3 = led refl (one refl)

-- sustain A
row_4 : SpellsItem (Sustain (n (codes "A") 8 9)) (t (w words.Sustain) 0 7 ∷ t (i (codes "A")) 8 9 ∷ [])
row_4 = led refl (one refl)

-- exit T
row_5 : SpellsItem (Exit (n (codes "T") 5 6)) (t (w words.Exit) 0 4 ∷ t (i (codes "T")) 5 6 ∷ [])
row_5 = led refl (one refl)

-- run N
row_6 : SpellsItem (Run (n (codes "N") 4 5) []) (t (w words.Run) 0 3 ∷ t (i (codes "N")) 4 5 ∷ [])
row_6 = led refl (cut (t (i (codes "N")) 4 5 ∷ []) _ (one refl) refl)

-- await A
row_7 : SpellsItem (Await (Plain (Sig (n (codes "A") 6 7))) Missing) (t (w words.Await) 0 5 ∷ t (i (codes "A")) 6 7 ∷
    [])
row_7 = led refl (cut (t (i (codes "A")) 6 7 ∷ []) _ (one refl) refl)

-- await immediate A
row_8 : SpellsItem (Await (Immediate (Sig (n (codes "A") 16 17))) Missing) (t (w words.Await) 0 5 ∷ t (w
    words.Immediate) 6 15 ∷ t (i (codes "A")) 16 17 ∷ [])
row_8 = led refl (cut (t (w words.Immediate) 6 15 ∷ t (i (codes "A")) 16 17 ∷ []) _ (led refl (one refl)) refl)

-- await 3 A
row_9 : SpellsItem (Await (Count 3 (at 6 7) (Sig (n (codes "A") 8 9))) Missing) (t (w words.Await) 0 5 ∷ t
    (kinds.Number 3) 6 7 ∷ t (i (codes "A")) 8 9 ∷ [])
row_9 = led refl (cut (t (kinds.Number 3) 6 7 ∷ t (i (codes "A")) 8 9 ∷ []) _ (cut (t (kinds.Number 3) 6 7 ∷ []) _
    (one refl) (one refl)) refl)

-- abort halt when A
row_10 : SpellsItem (Abort (At (at 6 10) Halt) (Plain (Sig (n (codes "A") 16 17))) Missing) (t (w words.Abort) 0 5 ∷ t
    (w words.Halt) 6 10 ∷ t (w words.When) 11 15 ∷ t (i (codes "A")) 16 17 ∷ [])
row_10 = led refl (cut (t (w words.Halt) 6 10 ∷ []) _ (inl (inl (cut (t (w words.Halt) 6 10 ∷ []) _ (refl, (one refl))
    (inl refl)))) (led refl (cut (t (i (codes "A")) 16 17 ∷ []) _ (one refl) refl)))

-- abort halt when A do pause end abort
row_11 : SpellsItem (Abort (At (at 6 10) Halt) (Plain (Sig (n (codes "A") 16 17))) (Written (At (at 21 26) Pause))) (t
    (w words.Abort) 0 5 ∷ t (w words.Halt) 6 10 ∷ t (w words.When) 11 15 ∷ t (i (codes "A")) 16 17 ∷ t (w words.Do) 18
    20 ∷ t (w words.Pause) 21 26 ∷ t (w words.End) 27 30 ∷ t (w words.Abort) 31 36 ∷ [])
row_11 = led refl (cut (t (w words.Halt) 6 10 ∷ []) _ (inl (inl (cut (t (w words.Halt) 6 10 ∷ []) _ (refl, (one refl))
    (inl refl)))) (led refl (cut (t (i (codes "A")) 16 17 ∷ []) _ (one refl) (led refl (cut (t (w words.Pause) 21 26 ∷
    []) _ (inl (inl (cut (t (w words.Pause) 21 26 ∷ []) _ (refl, (one refl)) (inl refl)))) (led refl (inr (one
    refl))))))))

-- suspend halt when A
row_12 : SpellsItem (Suspend (At (at 8 12) Halt) (Plain (Sig (n (codes "A") 18 19)))) (t (w words.Suspend) 0 7 ∷ t (w
    words.Halt) 8 12 ∷ t (w words.When) 13 17 ∷ t (i (codes "A")) 18 19 ∷ [])
row_12 = led refl (cut (t (w words.Halt) 8 12 ∷ []) _ (inl (inl (cut (t (w words.Halt) 8 12 ∷ []) _ (refl, (one refl))
    (inl refl)))) (led refl (one refl)))

-- suspend halt when immediate A
row_13 : SpellsItem (Suspend (At (at 8 12) Halt) (Immediate (Sig (n (codes "A") 28 29)))) (t (w words.Suspend) 0 7 ∷ t
    (w words.Halt) 8 12 ∷ t (w words.When) 13 17 ∷ t (w words.Immediate) 18 27 ∷ t (i (codes "A")) 28 29 ∷ [])
row_13 = led refl (cut (t (w words.Halt) 8 12 ∷ []) _ (inl (inl (cut (t (w words.Halt) 8 12 ∷ []) _ (refl, (one refl))
    (inl refl)))) (led refl (led refl (one refl))))

-- trap T in exit T handle T do pause end trap
row_14 : SpellsItem (Trap (n (codes "T") 5 6) (At (at 10 16) (Exit (n (codes "T") 15 16))) (Handled (n (codes "T") 24
    25) (At (at 29 34) Pause))) (t (w words.Trap) 0 4 ∷ t (i (codes "T")) 5 6 ∷ t (w words.In) 7 9 ∷ t (w words.Exit)
    10 14 ∷ t (i (codes "T")) 15 16 ∷ t (w words.Handle) 17 23 ∷ t (i (codes "T")) 24 25 ∷ t (w words.Do) 26 28 ∷ t (w
    words.Pause) 29 34 ∷ t (w words.End) 35 38 ∷ t (w words.Trap) 39 43 ∷ [])
row_14 = led refl (cut (t (i (codes "T")) 5 6 ∷ []) _ (one refl) (led refl (cut (t (w words.Exit) 10 14 ∷ t (i (codes
    "T")) 15 16 ∷ []) _ (inl (inl (cut (t (w words.Exit) 10 14 ∷ t (i (codes "T")) 15 16 ∷ []) _ (
      refl,
      (led refl (one
          refl)),
    ) (inl refl)))) (cut (t (w words.Handle) 17 23 ∷ t (i (codes "T")) 24 25 ∷ t (w words.Do) 26 28 ∷ t (w
    words.Pause) 29 34 ∷ []) _ (led refl (cut (t (i (codes "T")) 24 25 ∷ []) _ (one refl) (led refl (inl (inl (cut (t
    (w words.Pause) 29 34 ∷ []) _ (refl, (one refl)) (inl refl))))))) (led refl (inr (one refl)))))))

-- repeat 2 times pause end repeat
row_15 : SpellsItem (Repeat 2 (at 7 8) (At (at 15 20) Pause)) (t (w words.Repeat) 0 6 ∷ t (kinds.Number 2) 7 8 ∷ t (w
    words.Times) 9 14 ∷ t (w words.Pause) 15 20 ∷ t (w words.End) 21 24 ∷ t (w words.Repeat) 25 31 ∷ [])
row_15 = cut ([]) _ (inl refl) (led refl (cut (t (kinds.Number 2) 7 8 ∷ []) _ (one refl) (led refl (cut (t (w
    words.Pause) 15 20 ∷ []) _ (inl (inl (cut (t (w words.Pause) 15 20 ∷ []) _ (refl, (one refl)) (inl refl)))) (led
    refl (inr (one refl)))))))

-- loop pause end loop
row_16 : SpellsItem (Loop (At (at 5 10) Pause)) (t (w words.Loop) 0 4 ∷ t (w words.Pause) 5 10 ∷ t (w words.End) 11 14
    ∷ t (w words.Loop) 15 19 ∷ [])
row_16 = led refl (cut (t (w words.Pause) 5 10 ∷ []) _ (inl (inl (cut (t (w words.Pause) 5 10 ∷ []) _ (
  refl,
  (one
      refl),
) (inl refl)))) (led refl (inr (one refl))))

-- run N [ signal A / B , C / D ]
row_17 : SpellsItem (Run (n (codes "N") 4 5) (as_ (n (codes "A") 15 16) (n (codes "B") 19 20) ∷ as_ (n (codes "C") 23
    24) (n (codes "D") 27 28) ∷ [])) (t (w words.Run) 0 3 ∷ t (i (codes "N")) 4 5 ∷ t (m marks.LeftBracket) 6 7 ∷ t (w
    words.Signal) 8 14 ∷ t (i (codes "A")) 15 16 ∷ t (m marks.Slash) 17 18 ∷ t (i (codes "B")) 19 20 ∷ t (m
    marks.Comma) 21 22 ∷ t (i (codes "C")) 23 24 ∷ t (m marks.Slash) 25 26 ∷ t (i (codes "D")) 27 28 ∷ t (m
    marks.RightBracket) 29 30 ∷ [])
row_17 = led refl (cut (t (i (codes "N")) 4 5 ∷ []) _ (one refl) (led refl (led refl (cut (t (i (codes "A")) 15 16 ∷ t
    (m marks.Slash) 17 18 ∷ t (i (codes "B")) 19 20 ∷ t (m marks.Comma) 21 22 ∷ t (i (codes "C")) 23 24 ∷ t (m
    marks.Slash) 25 26 ∷ t (i (codes "D")) 27 28 ∷ []) _ (cut (t (i (codes "A")) 15 16 ∷ t (m marks.Slash) 17 18 ∷ t
    (i (codes "B")) 19 20 ∷ []) _ (cut (t (i (codes "A")) 15 16 ∷ []) _ (one refl) (led refl (one refl))) (cut (t (m
    marks.Comma) 21 22 ∷ t (i (codes "C")) 23 24 ∷ t (m marks.Slash) 25 26 ∷ t (i (codes "D")) 27 28 ∷ []) _ (led refl
    (cut (t (i (codes "C")) 23 24 ∷ []) _ (one refl) (led refl (one refl)))) refl)) (one refl)))))

-- [ pause || pause ]
row_18 : SpellsItem (Group (At (at 2 16) (Par (MoreStmts (At (at 2 7) Pause) (MoreStmts (At (at 11 16) Pause)
    NoStmts))))) (t (m marks.LeftBracket) 0 1 ∷ t (w words.Pause) 2 7 ∷ t (m marks.DoubleBar) 8 10 ∷ t (w words.Pause)
    11 16 ∷ t (m marks.RightBracket) 17 18 ∷ [])
row_18 = led refl (cut (t (w words.Pause) 2 7 ∷ t (m marks.DoubleBar) 8 10 ∷ t (w words.Pause) 11 16 ∷ []) _ (inr (
  refl,
  (cut (t (w words.Pause) 2 7 ∷ []) _ (inl (cut (t (w words.Pause) 2 7 ∷ []) _ (refl, (one refl)) (inl
      refl))) (cut (t (m marks.DoubleBar) 8 10 ∷ t (w words.Pause) 11 16 ∷ []) _ (led refl (inl (cut (t (w words.Pause)
      11 16 ∷ []) _ (refl, (one refl)) (inl refl)))) refl)),
)) (one refl))

-- await case A end await
row_19 : SpellsItem (AwaitCase (MoreCases (Sig (n (codes "A") 11 12)) Missing NoCases)) (t (w words.Await) 0 5 ∷ t (w
    words.Case) 6 10 ∷ t (i (codes "A")) 11 12 ∷ t (w words.End) 13 16 ∷ t (w words.Await) 17 22 ∷ [])
row_19 = led refl (cut (t (w words.Case) 6 10 ∷ t (i (codes "A")) 11 12 ∷ []) _ (cut (t (w words.Case) 6 10 ∷ t (i
    (codes "A")) 11 12 ∷ []) _ (led refl (cut (t (i (codes "A")) 11 12 ∷ []) _ (one refl) refl)) refl) (led refl (inr
    (one refl))))

-- abort halt when 2 A do pause end abort
row_20 : SpellsItem (Abort (At (at 6 10) Halt) (Count 2 (at 16 17) (Sig (n (codes "A") 18 19))) (Written (At (at 23
    28) Pause))) (t (w words.Abort) 0 5 ∷ t (w words.Halt) 6 10 ∷ t (w words.When) 11 15 ∷ t (kinds.Number 2) 16 17 ∷
    t (i (codes "A")) 18 19 ∷ t (w words.Do) 20 22 ∷ t (w words.Pause) 23 28 ∷ t (w words.End) 29 32 ∷ t (w
    words.Abort) 33 38 ∷ [])
row_20 = led refl (cut (t (w words.Halt) 6 10 ∷ []) _ (inl (inl (cut (t (w words.Halt) 6 10 ∷ []) _ (refl, (one refl))
    (inl refl)))) (led refl (cut (t (kinds.Number 2) 16 17 ∷ t (i (codes "A")) 18 19 ∷ []) _ (cut (t (kinds.Number 2)
    16 17 ∷ []) _ (one refl) (one refl)) (led refl (cut (t (w words.Pause) 23 28 ∷ []) _ (inl (inl (cut (t (w
    words.Pause) 23 28 ∷ []) _ (refl, (one refl)) (inl refl)))) (led refl (inr (one refl))))))))

-- signal S , T in pause end signal
row_21 : SpellsItem (Signal (n (codes "S") 7 8 ∷ n (codes "T") 11 12 ∷ []) (At (at 16 21) Pause)) (t (w words.Signal)
    0 6 ∷ t (i (codes "S")) 7 8 ∷ t (m marks.Comma) 9 10 ∷ t (i (codes "T")) 11 12 ∷ t (w words.In) 13 15 ∷ t (w
    words.Pause) 16 21 ∷ t (w words.End) 22 25 ∷ t (w words.Signal) 26 32 ∷ [])
row_21 = led refl (cut (t (i (codes "S")) 7 8 ∷ t (m marks.Comma) 9 10 ∷ t (i (codes "T")) 11 12 ∷ []) _ (cut (t (i
    (codes "S")) 7 8 ∷ []) _ (one refl) (cut (t (m marks.Comma) 9 10 ∷ t (i (codes "T")) 11 12 ∷ []) _ (led refl (one
    refl)) refl)) (led refl (cut (t (w words.Pause) 16 21 ∷ []) _ (inl (inl (cut (t (w words.Pause) 16 21 ∷ []) _
    (refl, (one refl)) (inl refl)))) (led refl (inr (one refl))))))

-- loop pause each A
row_22 : SpellsItem (LoopEach (At (at 5 10) Pause) (Plain (Sig (n (codes "A") 16 17)))) (t (w words.Loop) 0 4 ∷ t (w
    words.Pause) 5 10 ∷ t (w words.Each) 11 15 ∷ t (i (codes "A")) 16 17 ∷ [])
row_22 = led refl (cut (t (w words.Pause) 5 10 ∷ []) _ (inl (inl (cut (t (w words.Pause) 5 10 ∷ []) _ (
  refl,
  (one
      refl),
) (inl refl)))) (led refl (one refl)))

-- present case A case not B else halt end
row_23 : SpellsItem (PresentCase (MoreCases (Sig (n (codes "A") 13 14)) Missing (MoreCases (Not (Sig (n (codes "B") 24
    25))) Missing NoCases)) (Written (At (at 31 35) Halt))) (t (w words.Present) 0 7 ∷ t (w words.Case) 8 12 ∷ t (i
    (codes "A")) 13 14 ∷ t (w words.Case) 15 19 ∷ t (w words.Not) 20 23 ∷ t (i (codes "B")) 24 25 ∷ t (w words.Else)
    26 30 ∷ t (w words.Halt) 31 35 ∷ t (w words.End) 36 39 ∷ [])
row_23 = led refl (cut (t (w words.Case) 8 12 ∷ t (i (codes "A")) 13 14 ∷ t (w words.Case) 15 19 ∷ t (w words.Not) 20
    23 ∷ t (i (codes "B")) 24 25 ∷ []) _ (cut (t (w words.Case) 8 12 ∷ t (i (codes "A")) 13 14 ∷ []) _ (led refl (cut
    (t (i (codes "A")) 13 14 ∷ []) _ (one refl) refl)) (cut (t (w words.Case) 15 19 ∷ t (w words.Not) 20 23 ∷ t (i
    (codes "B")) 24 25 ∷ []) _ (led refl (cut (t (w words.Not) 20 23 ∷ t (i (codes "B")) 24 25 ∷ []) _ (led refl (one
    refl)) refl)) refl)) (cut (t (w words.Else) 26 30 ∷ t (w words.Halt) 31 35 ∷ []) _ (led refl (inl (inl (cut (t (w
    words.Halt) 31 35 ∷ []) _ (refl, (one refl)) (inl refl))))) (led refl (inl refl))))

-- weak abort halt when immediate tick
row_24 : SpellsItem (WeakAbort (At (at 11 15) Halt) (Immediate (Tick (at 31 35)))) (t (w words.Weak) 0 4 ∷ t (w
    words.Abort) 5 10 ∷ t (w words.Halt) 11 15 ∷ t (w words.When) 16 20 ∷ t (w words.Immediate) 21 30 ∷ t (w
    words.Tick) 31 35 ∷ [])
row_24 = led refl (led refl (cut (t (w words.Halt) 11 15 ∷ []) _ (inl (inl (cut (t (w words.Halt) 11 15 ∷ []) _ (
  refl,
  (one refl),
) (inl refl)))) (led refl (led refl (one refl)))))

-- positive repeat 2 times pause end
row_25 : SpellsItem (Repeat 2 (at 16 17) (At (at 24 29) Pause)) (t (w words.Positive) 0 8 ∷ t (w words.Repeat) 9 15 ∷
    t (kinds.Number 2) 16 17 ∷ t (w words.Times) 18 23 ∷ t (w words.Pause) 24 29 ∷ t (w words.End) 30 33 ∷ [])
row_25 = cut (t (w words.Positive) 0 8 ∷ []) _ (inr (one refl)) (led refl (cut (t (kinds.Number 2) 16 17 ∷ []) _ (one
    refl) (led refl (cut (t (w words.Pause) 24 29 ∷ []) _ (inl (inl (cut (t (w words.Pause) 24 29 ∷ []) _ (
      refl,
      (one
          refl),
    ) (inl refl)))) (led refl (inl refl))))))

-- await A do pause end
row_26 : SpellsItem (Await (Plain (Sig (n (codes "A") 6 7))) (Written (At (at 11 16) Pause))) (t (w words.Await) 0 5 ∷
    t (i (codes "A")) 6 7 ∷ t (w words.Do) 8 10 ∷ t (w words.Pause) 11 16 ∷ t (w words.End) 17 20 ∷ [])
row_26 = led refl (cut (t (i (codes "A")) 6 7 ∷ []) _ (one refl) (led refl (cut (t (w words.Pause) 11 16 ∷ []) _ (inl
    (inl (cut (t (w words.Pause) 11 16 ∷ []) _ (refl, (one refl)) (inl refl)))) (led refl (inl refl)))))

-- await A do pause end await
row_27 : SpellsItem (Await (Plain (Sig (n (codes "A") 6 7))) (Written (At (at 11 16) Pause))) (t (w words.Await) 0 5 ∷
    t (i (codes "A")) 6 7 ∷ t (w words.Do) 8 10 ∷ t (w words.Pause) 11 16 ∷ t (w words.End) 17 20 ∷ t (w words.Await)
    21 26 ∷ [])
row_27 = led refl (cut (t (i (codes "A")) 6 7 ∷ []) _ (one refl) (led refl (cut (t (w words.Pause) 11 16 ∷ []) _ (inl
    (inl (cut (t (w words.Pause) 11 16 ∷ []) _ (refl, (one refl)) (inl refl)))) (led refl (inr (one refl))))))

-- await tick
row_28 : SpellsItem (Await (Plain (Tick (at 6 10))) Missing) (t (w words.Await) 0 5 ∷ t (w words.Tick) 6 10 ∷ [])
row_28 = led refl (cut (t (w words.Tick) 6 10 ∷ []) _ (one refl) refl)

-- await immediate tick
row_29 : SpellsItem (Await (Immediate (Tick (at 16 20))) Missing) (t (w words.Await) 0 5 ∷ t (w words.Immediate) 6 15
    ∷ t (w words.Tick) 16 20 ∷ [])
row_29 = led refl (cut (t (w words.Immediate) 6 15 ∷ t (w words.Tick) 16 20 ∷ []) _ (led refl (one refl)) refl)

-- await 2 tick
row_30 : SpellsItem (Await (Count 2 (at 6 7) (Tick (at 8 12))) Missing) (t (w words.Await) 0 5 ∷ t (kinds.Number 2) 6
    7 ∷ t (w words.Tick) 8 12 ∷ [])
row_30 = led refl (cut (t (kinds.Number 2) 6 7 ∷ t (w words.Tick) 8 12 ∷ []) _ (cut (t (kinds.Number 2) 6 7 ∷ []) _
    (one refl) (one refl)) refl)

-- await [ A ]
row_31 : SpellsItem (Await (Plain (Square (Sig (n (codes "A") 8 9)))) Missing) (t (w words.Await) 0 5 ∷ t (m
    marks.LeftBracket) 6 7 ∷ t (i (codes "A")) 8 9 ∷ t (m marks.RightBracket) 10 11 ∷ [])
row_31 = led refl (cut (t (m marks.LeftBracket) 6 7 ∷ t (i (codes "A")) 8 9 ∷ t (m marks.RightBracket) 10 11 ∷ []) _
    (led refl (cut (t (i (codes "A")) 8 9 ∷ []) _ (one refl) (one refl))) refl)

-- await 2 [ A ] do halt end
row_32 : SpellsItem (Await (Count 2 (at 6 7) (Square (Sig (n (codes "A") 10 11)))) (Written (At (at 17 21) Halt))) (t
    (w words.Await) 0 5 ∷ t (kinds.Number 2) 6 7 ∷ t (m marks.LeftBracket) 8 9 ∷ t (i (codes "A")) 10 11 ∷ t (m
    marks.RightBracket) 12 13 ∷ t (w words.Do) 14 16 ∷ t (w words.Halt) 17 21 ∷ t (w words.End) 22 25 ∷ [])
row_32 = led refl (cut (t (kinds.Number 2) 6 7 ∷ t (m marks.LeftBracket) 8 9 ∷ t (i (codes "A")) 10 11 ∷ t (m
    marks.RightBracket) 12 13 ∷ []) _ (cut (t (kinds.Number 2) 6 7 ∷ []) _ (one refl) (led refl (cut (t (i (codes
    "A")) 10 11 ∷ []) _ (one refl) (one refl)))) (led refl (cut (t (w words.Halt) 17 21 ∷ []) _ (inl (inl (cut (t (w
    words.Halt) 17 21 ∷ []) _ (refl, (one refl)) (inl refl)))) (led refl (inl refl)))))

-- await case A end
row_33 : SpellsItem (AwaitCase (MoreCases (Sig (n (codes "A") 11 12)) Missing NoCases)) (t (w words.Await) 0 5 ∷ t (w
    words.Case) 6 10 ∷ t (i (codes "A")) 11 12 ∷ t (w words.End) 13 16 ∷ [])
row_33 = led refl (cut (t (w words.Case) 6 10 ∷ t (i (codes "A")) 11 12 ∷ []) _ (cut (t (w words.Case) 6 10 ∷ t (i
    (codes "A")) 11 12 ∷ []) _ (led refl (cut (t (i (codes "A")) 11 12 ∷ []) _ (one refl) refl)) refl) (led refl (inl
    refl)))

-- await case A do pause case B do halt end await
row_34 : SpellsItem (AwaitCase (MoreCases (Sig (n (codes "A") 11 12)) (Written (At (at 16 21) Pause)) (MoreCases (Sig
    (n (codes "B") 27 28)) (Written (At (at 32 36) Halt)) NoCases))) (t (w words.Await) 0 5 ∷ t (w words.Case) 6 10 ∷
    t (i (codes "A")) 11 12 ∷ t (w words.Do) 13 15 ∷ t (w words.Pause) 16 21 ∷ t (w words.Case) 22 26 ∷ t (i (codes
    "B")) 27 28 ∷ t (w words.Do) 29 31 ∷ t (w words.Halt) 32 36 ∷ t (w words.End) 37 40 ∷ t (w words.Await) 41 46 ∷
    [])
row_34 = led refl (cut (t (w words.Case) 6 10 ∷ t (i (codes "A")) 11 12 ∷ t (w words.Do) 13 15 ∷ t (w words.Pause) 16
    21 ∷ t (w words.Case) 22 26 ∷ t (i (codes "B")) 27 28 ∷ t (w words.Do) 29 31 ∷ t (w words.Halt) 32 36 ∷ []) _ (cut
    (t (w words.Case) 6 10 ∷ t (i (codes "A")) 11 12 ∷ t (w words.Do) 13 15 ∷ t (w words.Pause) 16 21 ∷ []) _ (led
    refl (cut (t (i (codes "A")) 11 12 ∷ []) _ (one refl) (led refl (inl (inl (cut (t (w words.Pause) 16 21 ∷ []) _
    (refl, (one refl)) (inl refl))))))) (cut (t (w words.Case) 22 26 ∷ t (i (codes "B")) 27 28 ∷ t (w words.Do) 29 31
    ∷ t (w words.Halt) 32 36 ∷ []) _ (led refl (cut (t (i (codes "B")) 27 28 ∷ []) _ (one refl) (led refl (inl (inl
    (cut (t (w words.Halt) 32 36 ∷ []) _ (refl, (one refl)) (inl refl))))))) refl)) (led refl (inr (one refl))))

-- present A end present
row_35 : SpellsItem (Present (Sig (n (codes "A") 8 9)) Missing Missing) (t (w words.Present) 0 7 ∷ t (i (codes "A")) 8
    9 ∷ t (w words.End) 10 13 ∷ t (w words.Present) 14 21 ∷ [])
row_35 = led refl (cut (t (i (codes "A")) 8 9 ∷ []) _ (one refl) (cut ([]) _ refl (cut ([]) _ refl (led refl (inr (one
    refl))))))

-- present A then pause end
row_36 : SpellsItem (Present (Sig (n (codes "A") 8 9)) (Written (At (at 15 20) Pause)) Missing) (t (w words.Present) 0
    7 ∷ t (i (codes "A")) 8 9 ∷ t (w words.Then) 10 14 ∷ t (w words.Pause) 15 20 ∷ t (w words.End) 21 24 ∷ [])
row_36 = led refl (cut (t (i (codes "A")) 8 9 ∷ []) _ (one refl) (cut (t (w words.Then) 10 14 ∷ t (w words.Pause) 15
    20 ∷ []) _ (led refl (inl (inl (cut (t (w words.Pause) 15 20 ∷ []) _ (refl, (one refl)) (inl refl))))) (cut ([]) _
    refl (led refl (inl refl)))))

-- present A then pause end present
row_37 : SpellsItem (Present (Sig (n (codes "A") 8 9)) (Written (At (at 15 20) Pause)) Missing) (t (w words.Present) 0
    7 ∷ t (i (codes "A")) 8 9 ∷ t (w words.Then) 10 14 ∷ t (w words.Pause) 15 20 ∷ t (w words.End) 21 24 ∷ t (w
    words.Present) 25 32 ∷ [])
row_37 = led refl (cut (t (i (codes "A")) 8 9 ∷ []) _ (one refl) (cut (t (w words.Then) 10 14 ∷ t (w words.Pause) 15
    20 ∷ []) _ (led refl (inl (inl (cut (t (w words.Pause) 15 20 ∷ []) _ (refl, (one refl)) (inl refl))))) (cut ([]) _
    refl (led refl (inr (one refl))))))
