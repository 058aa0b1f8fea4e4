-- A text has no more tokens than bytes.
use Rattle.std.proofs.Common.{ℕ, ◌+◌, ◌≤◌, List, [], ◌∷◌, length, drop, Option, None, Some, sym, subst, arith}
use Rattle.std.proofs.lemmas.List.{length-drop, length-append}
use Rattle.est_ast.specs.declared.tokens.Kind.{Kind}
use Rattle.est_ast.specs.declared.tokens.Token.{Token}
use Rattle.est_ast.specs.Lexing.{TextPiece, Cuts, token_at, tokens_from, LexesAs, Tokens}
use Rattle.est_ast.proofs.Exports.{front_fits}

at_most_one : (start width : ℕ) (token : Option Kind) → length (token_at start width token) ≤ 1
at_most_one start width None = omega arith
at_most_one start width (Some kind) = omega arith

few_from : (pieces : List TextPiece) (text rest : List ℕ) (start : ℕ) → Cuts pieces text rest → length (tokens_from start pieces) ≤ length text
few_from [] text rest start cut = omega arith
few_from (piece ∷ pieces) text rest start cut =
    let fits = front_fits text piece.width piece.token cut.0 in
    let behind = few_from pieces (drop piece.width text) rest (start + piece.width) cut.1 in
    omega (
      arith,
      fits.0,
      fits.1,
      behind,
      length-drop piece.width text,
      at_most_one start piece.width piece.token,
      length-append (token_at start piece.width piece.token) (tokens_from (start + piece.width) pieces),
    )

pub few_tokens : (text : List ℕ) (tokens : List Token) → LexesAs text (Tokens tokens) → length tokens ≤ length text
few_tokens text tokens lexes = subst (λ ts. length ts ≤ length text) (sym lexes.comes_to.1) (few_from lexes.pieces text lexes.rest 0 lexes.cut)
