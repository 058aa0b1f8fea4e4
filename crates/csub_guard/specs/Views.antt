-- Contract: the plain form of a guarded program.
use Rattle.std.specs.Prelude.{map}
use Rattle.csub_text.specs.Views.{assign_of, expr_of, state_of}
use Rattle.csub_guard.specs.declared.trees.GuardedProgram.{GuardedProgram}
use Rattle.csub_guard.specs.declared.trees.Piece.{Piece as CodePiece}
use Rattle.csub_guard.specs.declared.trees.Piece.TheVariants as pieces
use Rattle.csub_guard.specs.Trees.{Piece, One, If, Program}

abbrev pub piece_of : CodePiece → Piece
piece_of (pieces.One a) = One (assign_of a)
piece_of (pieces.If test first second) = If test (map assign_of first.items) (map assign_of second.items)

abbrev pub program_of : GuardedProgram → Program
program_of p = record {
  states = map state_of p.states.items;
  globals = p.globals.items;
  locals = p.locals.items;
  body = map piece_of p.body.items;
  answer = expr_of p.answer;
}
