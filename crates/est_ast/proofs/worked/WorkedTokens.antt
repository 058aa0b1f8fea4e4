-- Worked tokens, by hand: how words and marks are written, the number that digits stand for, and where tokens stand.
use Rattle.std.specs.Prelude.{◌≡◌, ℕ, List, [], ◌∷◌, map, codes, Some, None}
use Rattle.std.proofs.Common.{refl, arith}
use Rattle.est_ast.specs.declared.tokens.Kind.TheVariants as kinds
use Rattle.est_ast.specs.declared.tokens.Reserved.{Reserved}
use Rattle.est_ast.specs.declared.tokens.Reserved.TheVariants as words
use Rattle.est_ast.specs.declared.tokens.Mark.{Mark}
use Rattle.est_ast.specs.declared.tokens.Mark.TheVariants as marks
use Rattle.est_ast.specs.Spelling.{spelling, sign}
use Rattle.est_ast.specs.Lexing.{BeginsWithBadByte, TextPiece, number_of, width_of, tokens_from}
use Rattle.est_ast.specs.Grammar.{span_of}
use Rattle.est_ast.proofs.worked.Spelled.{w, m, i, t, at}

-- ---- the 38 reserved words, in the order of their letters, and the 12 marks

abbrev reserved : List Reserved
reserved = words.Abort ∷ words.And ∷ words.Await ∷ words.Case ∷ words.Do ∷ words.Each ∷ words.Else ∷ words.Emit ∷
    words.End ∷ words.Every ∷ words.Exit ∷ words.Halt ∷ words.Handle ∷ words.Immediate ∷ words.In ∷ words.Input ∷
    words.InputOutput ∷ words.Loop ∷ words.Module ∷ words.Not ∷ words.Nothing ∷ words.Or ∷ words.Output ∷ words.Pause
    ∷ words.Positive ∷ words.Present ∷ words.Relation ∷ words.Repeat ∷ words.Run ∷ words.Signal ∷ words.Suspend ∷
    words.Sustain ∷ words.Then ∷ words.Tick ∷ words.Times ∷ words.Trap ∷ words.Weak ∷ words.When ∷ []

words_are_written : map spelling reserved ≡ codes "abort" ∷ codes "and" ∷ codes "await" ∷ codes "case" ∷ codes "do" ∷
    codes "each" ∷ codes "else" ∷ codes "emit" ∷ codes "end" ∷ codes "every" ∷ codes "exit" ∷ codes "halt" ∷ codes
    "handle" ∷ codes "immediate" ∷ codes "in" ∷ codes "input" ∷ codes "inputoutput" ∷ codes "loop" ∷ codes "module" ∷
    codes "not" ∷ codes "nothing" ∷ codes "or" ∷ codes "output" ∷ codes "pause" ∷ codes "positive" ∷ codes "present" ∷
    codes "relation" ∷ codes "repeat" ∷ codes "run" ∷ codes "signal" ∷ codes "suspend" ∷ codes "sustain" ∷ codes
    "then" ∷ codes "tick" ∷ codes "times" ∷ codes "trap" ∷ codes "weak" ∷ codes "when" ∷ []
words_are_written = refl

abbrev all_marks : List Mark
all_marks = marks.Semicolon ∷ marks.DoubleBar ∷ marks.LeftBracket ∷ marks.RightBracket ∷ marks.LeftParenthesis ∷
    marks.RightParenthesis ∷ marks.Comma ∷ marks.Slash ∷ marks.Colon ∷ marks.Hash ∷ marks.Arrow ∷ marks.Period ∷ []

marks_are_written : map sign all_marks ≡ codes ";" ∷ codes "||" ∷ codes "[" ∷ codes "]" ∷ codes "(" ∷ codes ")" ∷
    codes "," ∷ codes "/" ∷ codes ":" ∷ codes "#" ∷ codes "=>" ∷ codes "." ∷ []
marks_are_written = refl

-- ---- numbers

no_digit_more : number_of (codes "7") ≡ 7
no_digit_more = refl

leading_zeros : number_of (codes "00340") ≡ 340
leading_zeros = refl

greatest_number : number_of (codes "340282366920938463463374607431768211455") ≡ 340282366920938463463374607431768211455
greatest_number = refl

-- ---- places: of `ab ; 12`, cut into a word, a space, a mark, a space and a numeral

abbrev pieces : List TextPiece
pieces =
    record { width = 2; token = Some (i (codes "ab")) } ∷ record { width = 1; token = None } ∷ record { width = 1; token = Some (m marks.Semicolon) }
    ∷ record { width = 1; token = None } ∷ record { width = 2; token = Some (kinds.Number 12) } ∷ []

places : tokens_from 0 pieces ≡ t (i (codes "ab")) 0 2 ∷ t (m marks.Semicolon) 3 4 ∷ t (kinds.Number 12) 5 7 ∷ []
places = refl

places_behind : tokens_from 10 pieces ≡ t (i (codes "ab")) 10 12 ∷ t (m marks.Semicolon) 13 14 ∷ t (kinds.Number 12) 15 17 ∷ []
places_behind = refl

widths : width_of pieces ≡ 7
widths = refl

-- from the start of the first token to the end of the last
span_of_three : span_of (tokens_from 0 pieces) ≡ at 0 7
span_of_three = refl

span_of_one : span_of (t (w words.Pause) 4 9 ∷ []) ≡ at 4 9
span_of_one = refl

nothing_is_no_bad_byte : BeginsWithBadByte [] → ⊥
nothing_is_no_bad_byte h = let some = h.some in omega (arith, some)
