-- To believe: the grammar of guarded texts, as a relation between whole lists of tokens and what is written. In words,
-- with the rules of the C subset for states, globals, locals, assignments and what is returned:
--
--   text   = { state } { global } "int" "react" "(" "void" ")" "{" { local } { assign | block } "return" expr ";" "}"
--
--   block  = "if" "(" NAME ")" half [ "else" half ]
--   half   = "{" { assign } "}"
use Rattle.std.specs.Prelude.{ℕ, max, List, [], ◌∷◌, map, Option, Some, None}
use Rattle.base_reader.specs.Languages.{One as Single, Then, Led, Loop, Many, Optional, Within}
use Rattle.csub_text.specs.Grammar.{WrittenAssign, SpellsState, SpellsGlobal, SpellsLocal, SpellsAssign, SpellsAnswer}
use Rattle.csub_text.specs.Grammar.{is, name, assign_meant, body_nesting}
use Rattle.csub_text.specs.Tokens as tokens
use Rattle.csub_text.specs.Tokens.{Kind, Else, Void, LeftParenthesis, RightParenthesis, LeftBrace, RightBrace}
use Rattle.csub_text.specs.Trees.{StateVariable}
use Rattle.net_expressions.specs.Grammar.{Written, meant, written_nesting}
use Rattle.csub_guard.specs.Trees.{Piece, One, If, Program}

pub data WrittenPiece : Type 0 where
  OneWritten : (assign : WrittenAssign) → WrittenPiece
  IfWritten : (test : List ℕ) (first : List WrittenAssign) (second : Option (List WrittenAssign)) → WrittenPiece

pub record WrittenProgram : Type 0 where
  pub states : List StateVariable
  pub globals : List (List ℕ)
  pub locals : List (List ℕ)
  pub body : List WrittenPiece
  pub answer : Written

-- "{" { assign } "}"
abbrev pub SpellsHalf : List WrittenAssign → List Kind → Type 0
SpellsHalf assigns = Led (is LeftBrace) (λ _. Then (Many SpellsAssign assigns) (Single (is RightBrace) tt))

-- "else" half
abbrev pub SpellsElse : List WrittenAssign → List Kind → Type 0
SpellsElse second = Led (is Else) (λ _. SpellsHalf second)

-- assign | "if" "(" NAME ")" half [ "else" half ]
abbrev pub SpellsPiece : WrittenPiece → List Kind → Type 0
SpellsPiece (OneWritten a) = SpellsAssign a
SpellsPiece (IfWritten test first second) =
    Led (is tokens.If) (λ _. Led (is LeftParenthesis) (λ _. Then (Single name test)
    (Led (is RightParenthesis) (λ _. Then (SpellsHalf first) (Optional SpellsElse second)))))

abbrev pub SpellsText : WrittenProgram → List Kind → Type 0
SpellsText p =
    Then (Many SpellsState p.states) (Then (Loop SpellsGlobal p.globals)
    (Led (is LeftParenthesis) (λ _. Led (is Void) (λ _. Led (is RightParenthesis) (λ _. Led (is LeftBrace) (λ _.
    Then (Many SpellsLocal p.locals) (Then (Many SpellsPiece p.body) (SpellsAnswer p.answer))))))))

abbrev pub piece_nesting : WrittenPiece → ℕ
piece_nesting (OneWritten a) = written_nesting a.value
piece_nesting (IfWritten test first None) = body_nesting first
piece_nesting (IfWritten test first (Some second)) = max (body_nesting first) (body_nesting second)

abbrev pub pieces_nesting : List WrittenPiece → ℕ
pieces_nesting [] = 0
pieces_nesting (piece ∷ pieces) = max (piece_nesting piece) (pieces_nesting pieces)

abbrev pub text_nesting : WrittenProgram → ℕ
text_nesting p = max (pieces_nesting p.body) (written_nesting p.answer)

-- the tokens spell what is written, and its expressions are nested at most so deep
abbrev pub IsText : ℕ → WrittenProgram → List Kind → Type 0
IsText = Within SpellsText text_nesting

-- the program that is written; without `else` the second half is empty
abbrev pub piece_meant : WrittenPiece → Piece
piece_meant (OneWritten a) = One (assign_meant a)
piece_meant (IfWritten test first None) = If test (map assign_meant first) []
piece_meant (IfWritten test first (Some second)) = If test (map assign_meant first) (map assign_meant second)

abbrev pub program_meant : WrittenProgram → Program
program_meant p = record {
  states = p.states;
  globals = p.globals;
  locals = p.locals;
  body = map piece_meant p.body;
  answer = meant p.answer;
}
