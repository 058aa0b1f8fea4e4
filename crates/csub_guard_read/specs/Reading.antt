-- Inner: the reading function of the grammar, from the left with one token ahead. It makes what is written, and what
-- that means.
use Rattle.std.specs.Prelude.{ℕ, List, [], map, Option, Some, None}
use Rattle.csub_text.specs.Tokens.{Kind, If, Else, Named, LeftParenthesis, RightParenthesis, LeftBrace, RightBrace}
use Rattle.csub_text.specs.Trees.{Expr, StateVariable, Assign}
use Rattle.csub_text.specs.Grammar.{is, name, WrittenAssign}
use Rattle.csub_text.specs.declared.trees.Assign.{Assign as CodeAssign}
use Rattle.csub_text.specs.Views.{expr_of, state_of}
use Rattle.csub_read.specs.Reading.{Maker, makes_expr, makes_written, assign_rule, assign_step, answer_rule, whole_rule}
use Rattle.csub_read.specs.Reading.{written_assign, expr_assign, pair_of}
use Rattle.csub_guard.specs.Grammar.{WrittenPiece, OneWritten, IfWritten, WrittenProgram}
use Rattle.csub_guard.specs.Trees as trees
use Rattle.csub_guard.specs.Trees.{Piece, One, Program}
use Rattle.csub_guard.specs.declared.trees.GuardedProgram.{GuardedProgram}
use Rattle.csub_guard.specs.declared.trees.Piece.{Piece as CodePiece}
use Rattle.csub_guard.specs.declared.trees.Piece.TheVariants as pieces
use Rattle.net_expressions.specs.Grammar.{Written}
use Rattle.base_reader.specs.Readings.{Rule, mapped, both, trail, ahead, on, the, maybe, loop}

-- what is made of expressions, of assignments and of pieces
pub record Builder (A B P : Type 0) : Type 0 where
  pub maker : Maker A
  pub assign : List ℕ × A → B
  pub one : B → P
  pub block : List ℕ → List B → Option (List B) → P

abbrev pub builds_written : Builder Written WrittenAssign WrittenPiece
builds_written = record { maker = makes_written; assign = written_assign; one = OneWritten; block = IfWritten }

abbrev pub listed : {B : Type 0} → Option (List B) → List B
listed None = []
listed (Some assigns) = assigns

abbrev pub builds_expr : Builder Expr Assign Piece
builds_expr = record {
  maker = makes_expr;
  assign = expr_assign;
  one = One;
  block = λ test first second. trees.If test first (listed second);
}

-- ---- blocks

-- "{" { assign } "}"
abbrev pub half_rule : {A B P : Type 0} → Builder A B P → ℕ → Rule Kind (List B)
half_rule b room =
    on (is LeftBrace) (λ _. trail (mapped (map b.assign) (loop (assign_step b.maker room))) (the (is RightBrace)))

-- "else" half
abbrev pub else_rule : {A B P : Type 0} → Builder A B P → ℕ → Rule Kind (List B)
else_rule b room = on (is Else) (λ _. half_rule b room)

abbrev pub else_step : {A B P : Type 0} → Builder A B P → ℕ → Rule Kind (Option (List B))
else_step b room = maybe (is Else) (else_rule b room)

-- a block after "if": the name that it tests, and its halves
abbrev pub block_behind : {A B P : Type 0} → Builder A B P → ℕ → Rule Kind (List ℕ × (List B × Option (List B)))
block_behind b room =
    on (is LeftParenthesis) (λ _. both (the name) (on (is RightParenthesis) (λ _.
    both (half_rule b room) (else_step b room))))

abbrev pub block_rule : {A B P : Type 0} → Builder A B P → ℕ → Rule Kind (List ℕ × (List B × Option (List B)))
block_rule b room = on (is If) (λ _. block_behind b room)

abbrev pub block_made : {A B P : Type 0} → Builder A B P → List ℕ × (List B × Option (List B)) → P
block_made b found = b.block found.0 found.1.0 found.1.1

abbrev pub one_made : {A B P : Type 0} → Builder A B P → List ℕ × A → P
one_made b found = b.one (b.assign found)

-- a block, or an assignment
abbrev pub piece_rule : {A B P : Type 0} → Builder A B P → ℕ → Rule Kind P
piece_rule b room =
    ahead (is If) (mapped (block_made b) (block_rule b room)) (mapped (one_made b) (assign_rule b.maker room))

-- the tokens that begin one
abbrev pub begins_piece : Kind → Option (Unit {0})
begins_piece If = Some tt
begins_piece (Named n) = Some tt
begins_piece others = None

abbrev pub piece_step : {A B P : Type 0} → Builder A B P → ℕ → Rule Kind (Option P)
piece_step b room = maybe begins_piece (piece_rule b room)

-- ---- whole texts

-- the pieces and the expression returned
abbrev pub body_rule : {A B P : Type 0} → Builder A B P → ℕ → Rule Kind (List P × A)
body_rule b room = both (loop (piece_step b room)) (answer_rule b.maker room)

abbrev pub written_made : List StateVariable × (List (List ℕ) × (List (List ℕ) × (List WrittenPiece × Written)))
    → WrittenProgram
written_made found = record {
  states = found.0;
  globals = found.1.0;
  locals = found.1.1.0;
  body = found.1.1.1.0;
  answer = found.1.1.1.1;
}

abbrev pub program_made : List StateVariable × (List (List ℕ) × (List (List ℕ) × (List Piece × Expr))) → Program
program_made found = record {
  states = found.0;
  globals = found.1.0;
  locals = found.1.1.0;
  body = found.1.1.1.0;
  answer = found.1.1.1.1;
}

-- what is written in a text, and the program that it means
abbrev pub written_rule : ℕ → Rule Kind WrittenProgram
written_rule room = mapped written_made (whole_rule (body_rule builds_written room))

abbrev pub program_rule : ℕ → Rule Kind Program
program_rule room = mapped program_made (whole_rule (body_rule builds_expr room))

-- ---- the plain forms of what code reads, as the rules make them

abbrev pub assigns_in : List CodeAssign → List Assign
assigns_in assigns = map expr_assign (map pair_of assigns)

abbrev pub piece_in : CodePiece → Piece
piece_in (pieces.One a) = One (expr_assign (pair_of a))
piece_in (pieces.If test first second) = trees.If test (assigns_in first.items) (assigns_in second.items)

abbrev pub program_in : GuardedProgram → Program
program_in p = record {
  states = map state_of p.states.items;
  globals = p.globals.items;
  locals = p.locals.items;
  body = map piece_in p.body.items;
  answer = expr_of p.answer;
}
