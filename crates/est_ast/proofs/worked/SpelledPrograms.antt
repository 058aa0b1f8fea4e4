-- Inner: written by hand, with values of the reference implementation: worked spellings, by the reference implementation: lists of statements, with
-- and without a last `;`, and programs.
use Rattle.std.specs.Prelude.{ℕ, List, [], ◌∷◌, codes}
use Rattle.std.proofs.Common.{refl, inl, inr}
use Rattle.est_ast.specs.declared.tokens.Kind.TheVariants as kinds
use Rattle.est_ast.specs.declared.tokens.Reserved.TheVariants as words
use Rattle.est_ast.specs.declared.tokens.Mark.TheVariants as marks
use Rattle.est_ast.specs.Trees.{At, Nothing, Pause, Halt, Sustain, Seq, Par, Group, NoStmts, MoreStmts, Implies, Excludes, Input, InputOutput, Output}
use Rattle.est_ast.specs.Trees.{Relations}
use Rattle.est_ast.specs.Grammar.{Whole, Spells, SpellsProgram}
use Rattle.est_ast.proofs.worked.Spelled.{w, m, i, t, at, n, modul, one, led, cut}

-- sustain A ;
row_0 : Spells Whole (At (at 0 9) (Sustain (n (codes "A") 8 9))) (t (w words.Sustain) 0 7 ∷ t (i (codes "A")) 8 9 ∷ t
    (m marks.Semicolon) 10 11 ∷ [])
row_0 = inl (inl (cut (t (w words.Sustain) 0 7 ∷ t (i (codes "A")) 8 9 ∷ []) _ (refl, (led refl (one refl))) (inr (one
    refl))))

-- pause ; halt ; nothing ;
row_1 : Spells Whole (At (at 0 24) (Seq (MoreStmts (At (at 0 5) Pause) (MoreStmts (At (at 8 12) Halt) (MoreStmts (At
    (at 15 22) Nothing) NoStmts))))) (t (w words.Pause) 0 5 ∷ t (m marks.Semicolon) 6 7 ∷ t (w words.Halt) 8 12 ∷ t (m
    marks.Semicolon) 13 14 ∷ t (w words.Nothing) 15 22 ∷ t (m marks.Semicolon) 23 24 ∷ [])
row_1 = inl (inr (
  refl,
  (cut (t (w words.Pause) 0 5 ∷ []) _ (refl, (one refl)) (cut (t (m marks.Semicolon) 6 7 ∷ t (w
      words.Halt) 8 12 ∷ []) _ (led refl (refl, (one refl))) (cut (t (m marks.Semicolon) 13 14 ∷ t (w words.Nothing) 15
      22 ∷ []) _ (led refl (refl, (one refl))) (inr (one refl))))),
))

-- pause ; || halt ;
row_2 : Spells Whole (At (at 0 17) (Par (MoreStmts (At (at 0 5) Pause) (MoreStmts (At (at 11 15) Halt) NoStmts)))) (t
    (w words.Pause) 0 5 ∷ t (m marks.Semicolon) 6 7 ∷ t (m marks.DoubleBar) 8 10 ∷ t (w words.Halt) 11 15 ∷ t (m
    marks.Semicolon) 16 17 ∷ [])
row_2 = inr (
  refl,
  (cut (t (w words.Pause) 0 5 ∷ t (m marks.Semicolon) 6 7 ∷ []) _ (inl (cut (t (w words.Pause) 0 5 ∷
      []) _ (refl, (one refl)) (inr (one refl)))) (cut (t (m marks.DoubleBar) 8 10 ∷ t (w words.Halt) 11 15 ∷ t (m
      marks.Semicolon) 16 17 ∷ []) _ (led refl (inl (cut (t (w words.Halt) 11 15 ∷ []) _ (refl, (one refl)) (inr (one
      refl))))) refl)),
)

-- pause || halt || nothing
row_3 : Spells Whole (At (at 0 24) (Par (MoreStmts (At (at 0 5) Pause) (MoreStmts (At (at 9 13) Halt) (MoreStmts (At
    (at 17 24) Nothing) NoStmts))))) (t (w words.Pause) 0 5 ∷ t (m marks.DoubleBar) 6 8 ∷ t (w words.Halt) 9 13 ∷ t (m
    marks.DoubleBar) 14 16 ∷ t (w words.Nothing) 17 24 ∷ [])
row_3 = inr (
  refl,
  (cut (t (w words.Pause) 0 5 ∷ []) _ (inl (cut (t (w words.Pause) 0 5 ∷ []) _ (refl, (one refl))
      (inl refl))) (cut (t (m marks.DoubleBar) 6 8 ∷ t (w words.Halt) 9 13 ∷ []) _ (led refl (inl (cut (t (w words.Halt)
      9 13 ∷ []) _ (refl, (one refl)) (inl refl)))) (cut (t (m marks.DoubleBar) 14 16 ∷ t (w words.Nothing) 17 24 ∷ [])
      _ (led refl (inl (cut (t (w words.Nothing) 17 24 ∷ []) _ (refl, (one refl)) (inl refl)))) refl))),
)

-- [ pause ] ; [ halt || nothing ; ] ;
row_4 : Spells Whole (At (at 0 35) (Seq (MoreStmts (At (at 0 9) (Group (At (at 2 7) Pause))) (MoreStmts (At (at 12 33)
    (Group (At (at 14 31) (Par (MoreStmts (At (at 14 18) Halt) (MoreStmts (At (at 22 29) Nothing) NoStmts))))))
    NoStmts)))) (t (m marks.LeftBracket) 0 1 ∷ t (w words.Pause) 2 7 ∷ t (m marks.RightBracket) 8 9 ∷ t (m
    marks.Semicolon) 10 11 ∷ t (m marks.LeftBracket) 12 13 ∷ t (w words.Halt) 14 18 ∷ t (m marks.DoubleBar) 19 21 ∷ t
    (w words.Nothing) 22 29 ∷ t (m marks.Semicolon) 30 31 ∷ t (m marks.RightBracket) 32 33 ∷ t (m marks.Semicolon) 34
    35 ∷ [])
row_4 = inl (inr (
  refl,
  (cut (t (m marks.LeftBracket) 0 1 ∷ t (w words.Pause) 2 7 ∷ t (m marks.RightBracket) 8 9 ∷ [])
      _ (
        refl,
        (led refl (cut (t (w words.Pause) 2 7 ∷ []) _ (inl (inl (cut (t (w words.Pause) 2 7 ∷ []) _ (
          refl,
          (one
              refl),
        ) (inl refl)))) (one refl))),
      ) (cut (t (m marks.Semicolon) 10 11 ∷ t (m marks.LeftBracket) 12 13 ∷ t (w
      words.Halt) 14 18 ∷ t (m marks.DoubleBar) 19 21 ∷ t (w words.Nothing) 22 29 ∷ t (m marks.Semicolon) 30 31 ∷ t (m
      marks.RightBracket) 32 33 ∷ []) _ (led refl (
        refl,
        (led refl (cut (t (w words.Halt) 14 18 ∷ t (m marks.DoubleBar)
            19 21 ∷ t (w words.Nothing) 22 29 ∷ t (m marks.Semicolon) 30 31 ∷ []) _ (inr (
              refl,
              (cut (t (w words.Halt) 14 18 ∷
                  []) _ (inl (cut (t (w words.Halt) 14 18 ∷ []) _ (refl, (one refl)) (inl refl))) (cut (t (m marks.DoubleBar) 19 21
                  ∷ t (w words.Nothing) 22 29 ∷ t (m marks.Semicolon) 30 31 ∷ []) _ (led refl (inl (cut (t (w words.Nothing) 22 29 ∷
                  []) _ (refl, (one refl)) (inr (one refl))))) refl)),
            )) (one refl))),
      )) (inr (one refl)))),
))

-- module M : input A , B ; inputoutput C ; output O ; relation A => B , A # B # C ; pause ; .
row_5 : SpellsProgram (modul (n (codes "M") 7 8) (Input (n (codes "A") 17 18 ∷ n (codes "B") 21 22 ∷ []) ∷ InputOutput
    (n (codes "C") 37 38 ∷ []) ∷ Output (n (codes "O") 48 49 ∷ []) ∷ Relations (Implies (n (codes "A") 61 62) (n
    (codes "B") 66 67) ∷ Excludes (n (codes "A") 70 71 ∷ n (codes "B") 74 75 ∷ n (codes "C") 78 79 ∷ []) ∷ []) ∷ [])
    (At (at 82 87) Pause) ∷ []) (t (w words.Module) 0 6 ∷ t (i (codes "M")) 7 8 ∷ t (m marks.Colon) 9 10 ∷ t (w
    words.Input) 11 16 ∷ t (i (codes "A")) 17 18 ∷ t (m marks.Comma) 19 20 ∷ t (i (codes "B")) 21 22 ∷ t (m
    marks.Semicolon) 23 24 ∷ t (w words.InputOutput) 25 36 ∷ t (i (codes "C")) 37 38 ∷ t (m marks.Semicolon) 39 40 ∷ t
    (w words.Output) 41 47 ∷ t (i (codes "O")) 48 49 ∷ t (m marks.Semicolon) 50 51 ∷ t (w words.Relation) 52 60 ∷ t (i
    (codes "A")) 61 62 ∷ t (m marks.Arrow) 63 65 ∷ t (i (codes "B")) 66 67 ∷ t (m marks.Comma) 68 69 ∷ t (i (codes
    "A")) 70 71 ∷ t (m marks.Hash) 72 73 ∷ t (i (codes "B")) 74 75 ∷ t (m marks.Hash) 76 77 ∷ t (i (codes "C")) 78 79
    ∷ t (m marks.Semicolon) 80 81 ∷ t (w words.Pause) 82 87 ∷ t (m marks.Semicolon) 88 89 ∷ t (m marks.Period) 90 91 ∷
    [])
row_5 = cut (t (w words.Module) 0 6 ∷ t (i (codes "M")) 7 8 ∷ t (m marks.Colon) 9 10 ∷ t (w words.Input) 11 16 ∷ t (i
    (codes "A")) 17 18 ∷ t (m marks.Comma) 19 20 ∷ t (i (codes "B")) 21 22 ∷ t (m marks.Semicolon) 23 24 ∷ t (w
    words.InputOutput) 25 36 ∷ t (i (codes "C")) 37 38 ∷ t (m marks.Semicolon) 39 40 ∷ t (w words.Output) 41 47 ∷ t (i
    (codes "O")) 48 49 ∷ t (m marks.Semicolon) 50 51 ∷ t (w words.Relation) 52 60 ∷ t (i (codes "A")) 61 62 ∷ t (m
    marks.Arrow) 63 65 ∷ t (i (codes "B")) 66 67 ∷ t (m marks.Comma) 68 69 ∷ t (i (codes "A")) 70 71 ∷ t (m
    marks.Hash) 72 73 ∷ t (i (codes "B")) 74 75 ∷ t (m marks.Hash) 76 77 ∷ t (i (codes "C")) 78 79 ∷ t (m
    marks.Semicolon) 80 81 ∷ t (w words.Pause) 82 87 ∷ t (m marks.Semicolon) 88 89 ∷ t (m marks.Period) 90 91 ∷ []) _
    (led refl (cut (t (i (codes "M")) 7 8 ∷ []) _ (one refl) (led refl (cut (t (w words.Input) 11 16 ∷ t (i (codes
    "A")) 17 18 ∷ t (m marks.Comma) 19 20 ∷ t (i (codes "B")) 21 22 ∷ t (m marks.Semicolon) 23 24 ∷ t (w
    words.InputOutput) 25 36 ∷ t (i (codes "C")) 37 38 ∷ t (m marks.Semicolon) 39 40 ∷ t (w words.Output) 41 47 ∷ t (i
    (codes "O")) 48 49 ∷ t (m marks.Semicolon) 50 51 ∷ t (w words.Relation) 52 60 ∷ t (i (codes "A")) 61 62 ∷ t (m
    marks.Arrow) 63 65 ∷ t (i (codes "B")) 66 67 ∷ t (m marks.Comma) 68 69 ∷ t (i (codes "A")) 70 71 ∷ t (m
    marks.Hash) 72 73 ∷ t (i (codes "B")) 74 75 ∷ t (m marks.Hash) 76 77 ∷ t (i (codes "C")) 78 79 ∷ t (m
    marks.Semicolon) 80 81 ∷ []) _ (cut (t (w words.Input) 11 16 ∷ t (i (codes "A")) 17 18 ∷ t (m marks.Comma) 19 20 ∷
    t (i (codes "B")) 21 22 ∷ t (m marks.Semicolon) 23 24 ∷ []) _ (led refl (cut (t (i (codes "A")) 17 18 ∷ t (m
    marks.Comma) 19 20 ∷ t (i (codes "B")) 21 22 ∷ []) _ (cut (t (i (codes "A")) 17 18 ∷ []) _ (one refl) (cut (t (m
    marks.Comma) 19 20 ∷ t (i (codes "B")) 21 22 ∷ []) _ (led refl (one refl)) refl)) (one refl))) (cut (t (w
    words.InputOutput) 25 36 ∷ t (i (codes "C")) 37 38 ∷ t (m marks.Semicolon) 39 40 ∷ []) _ (led refl (cut (t (i
    (codes "C")) 37 38 ∷ []) _ (cut (t (i (codes "C")) 37 38 ∷ []) _ (one refl) refl) (one refl))) (cut (t (w
    words.Output) 41 47 ∷ t (i (codes "O")) 48 49 ∷ t (m marks.Semicolon) 50 51 ∷ []) _ (led refl (cut (t (i (codes
    "O")) 48 49 ∷ []) _ (cut (t (i (codes "O")) 48 49 ∷ []) _ (one refl) refl) (one refl))) (cut (t (w words.Relation)
    52 60 ∷ t (i (codes "A")) 61 62 ∷ t (m marks.Arrow) 63 65 ∷ t (i (codes "B")) 66 67 ∷ t (m marks.Comma) 68 69 ∷ t
    (i (codes "A")) 70 71 ∷ t (m marks.Hash) 72 73 ∷ t (i (codes "B")) 74 75 ∷ t (m marks.Hash) 76 77 ∷ t (i (codes
    "C")) 78 79 ∷ t (m marks.Semicolon) 80 81 ∷ []) _ (led refl (cut (t (i (codes "A")) 61 62 ∷ t (m marks.Arrow) 63
    65 ∷ t (i (codes "B")) 66 67 ∷ t (m marks.Comma) 68 69 ∷ t (i (codes "A")) 70 71 ∷ t (m marks.Hash) 72 73 ∷ t (i
    (codes "B")) 74 75 ∷ t (m marks.Hash) 76 77 ∷ t (i (codes "C")) 78 79 ∷ []) _ (cut (t (i (codes "A")) 61 62 ∷ t (m
    marks.Arrow) 63 65 ∷ t (i (codes "B")) 66 67 ∷ []) _ (cut (t (i (codes "A")) 61 62 ∷ []) _ (one refl) (led refl
    (one refl))) (cut (t (m marks.Comma) 68 69 ∷ t (i (codes "A")) 70 71 ∷ t (m marks.Hash) 72 73 ∷ t (i (codes "B"))
    74 75 ∷ t (m marks.Hash) 76 77 ∷ t (i (codes "C")) 78 79 ∷ []) _ (led refl (cut (t (i (codes "A")) 70 71 ∷ []) _
    (one refl) (led refl (cut (t (i (codes "B")) 74 75 ∷ []) _ (one refl) (cut (t (m marks.Hash) 76 77 ∷ t (i (codes
    "C")) 78 79 ∷ []) _ (led refl (one refl)) refl))))) refl)) (one refl))) refl)))) (cut (t (w words.Pause) 82 87 ∷ t
    (m marks.Semicolon) 88 89 ∷ []) _ (inl (inl (cut (t (w words.Pause) 82 87 ∷ []) _ (refl, (one refl)) (inr (one
    refl))))) (inl (one refl))))))) refl

-- module M : pause end module
row_6 : SpellsProgram (modul (n (codes "M") 7 8) ([]) (At (at 11 16) Pause) ∷ []) (t (w words.Module) 0 6 ∷ t (i
    (codes "M")) 7 8 ∷ t (m marks.Colon) 9 10 ∷ t (w words.Pause) 11 16 ∷ t (w words.End) 17 20 ∷ t (w words.Module)
    21 27 ∷ [])
row_6 = cut (t (w words.Module) 0 6 ∷ t (i (codes "M")) 7 8 ∷ t (m marks.Colon) 9 10 ∷ t (w words.Pause) 11 16 ∷ t (w
    words.End) 17 20 ∷ t (w words.Module) 21 27 ∷ []) _ (led refl (cut (t (i (codes "M")) 7 8 ∷ []) _ (one refl) (led
    refl (cut ([]) _ refl (cut (t (w words.Pause) 11 16 ∷ []) _ (inl (inl (cut (t (w words.Pause) 11 16 ∷ []) _ (
      refl,
      (one refl),
    ) (inl refl)))) (inr (led refl (one refl)))))))) refl

-- module M : nothing . module N : halt end module
row_7 : SpellsProgram (modul (n (codes "M") 7 8) ([]) (At (at 11 18) Nothing) ∷ modul (n (codes "N") 28 29) ([]) (At
    (at 32 36) Halt) ∷ []) (t (w words.Module) 0 6 ∷ t (i (codes "M")) 7 8 ∷ t (m marks.Colon) 9 10 ∷ t (w
    words.Nothing) 11 18 ∷ t (m marks.Period) 19 20 ∷ t (w words.Module) 21 27 ∷ t (i (codes "N")) 28 29 ∷ t (m
    marks.Colon) 30 31 ∷ t (w words.Halt) 32 36 ∷ t (w words.End) 37 40 ∷ t (w words.Module) 41 47 ∷ [])
row_7 = cut (t (w words.Module) 0 6 ∷ t (i (codes "M")) 7 8 ∷ t (m marks.Colon) 9 10 ∷ t (w words.Nothing) 11 18 ∷ t
    (m marks.Period) 19 20 ∷ []) _ (led refl (cut (t (i (codes "M")) 7 8 ∷ []) _ (one refl) (led refl (cut ([]) _ refl
    (cut (t (w words.Nothing) 11 18 ∷ []) _ (inl (inl (cut (t (w words.Nothing) 11 18 ∷ []) _ (refl, (one refl)) (inl
    refl)))) (inl (one refl))))))) (cut (t (w words.Module) 21 27 ∷ t (i (codes "N")) 28 29 ∷ t (m marks.Colon) 30 31
    ∷ t (w words.Halt) 32 36 ∷ t (w words.End) 37 40 ∷ t (w words.Module) 41 47 ∷ []) _ (led refl (cut (t (i (codes
    "N")) 28 29 ∷ []) _ (one refl) (led refl (cut ([]) _ refl (cut (t (w words.Halt) 32 36 ∷ []) _ (inl (inl (cut (t
    (w words.Halt) 32 36 ∷ []) _ (refl, (one refl)) (inl refl)))) (inr (led refl (one refl)))))))) refl)
