-- Texts that are cut up to a place, and one more piece there.
use Rattle.std.proofs.Common.{◌≡◌, ℕ, ◌+◌, ◌-◌, ◌<◌, ◌≤◌, List, [], ◌∷◌, ◌++◌, length, take, drop, Option, Some, None, sym, ◌∙◌, ap, subst, zero-add, arith}
use Rattle.std.proofs.lemmas.List.{append-nil, append_assoc, drop-drop, length-drop, take_rest}
use Rattle.est_ast.specs.declared.tokens.Kind.{Kind}
use Rattle.est_ast.specs.declared.tokens.Token.{Token}
use Rattle.est_ast.specs.Lexing.{IsFrontToken, TextPiece, Cuts, width_of, token_at, tokens_from}
use Rattle.est_ast.proofs.Exports.{front_fits}

-- the text up to this place is cut into spaces, comments and these tokens
pub record IsCutTo (text : List ℕ) (place : ℕ) (tokens : List Token) : Type 0 where
  pub pieces : List TextPiece
  pub cut : Cuts pieces text (drop place text)
  pub width_is : place ≡ width_of pieces
  pub tokens_are : tokens ≡ tokens_from 0 pieces

cuts_push : (pieces : List TextPiece) (piece : TextPiece) (text rest : List ℕ) → Cuts pieces text rest → IsFrontToken rest piece.width piece.token →
    Cuts (pieces ++ piece ∷ []) text (drop piece.width rest)
cuts_push [] piece text rest cut front = (subst (λ (t : List ℕ). IsFrontToken t piece.width piece.token) (sym cut) front, ap (drop piece.width) cut)
cuts_push (first ∷ pieces) piece text rest cut front = (cut.0, cuts_push pieces piece (drop first.width text) rest cut.1 front)

width-push : (pieces : List TextPiece) (piece : TextPiece) → width_of (pieces ++ piece ∷ []) ≡ width_of pieces + piece.width
width-push [] piece = omega arith
width-push (first ∷ pieces) piece = omega (arith, width-push pieces piece)

tokens-push : (start : ℕ) (pieces : List TextPiece) (piece : TextPiece) →
    tokens_from start (pieces ++ piece ∷ []) ≡ tokens_from start pieces ++ token_at (start + width_of pieces) piece.width piece.token
tokens-push start [] piece =
    let here : start + 0 ≡ start = omega arith in
    append-nil (token_at start piece.width piece.token) ∙ ap (λ (at : ℕ). token_at at piece.width piece.token) (sym here)
tokens-push start (first ∷ pieces) piece =
    let here : (start + first.width) + width_of pieces ≡ start + (first.width + width_of pieces) = omega arith in
    ap (λ (rest : List Token). token_at start first.width first.token ++ rest)
    (tokens-push (start + first.width) pieces piece ∙ ap (λ (at : ℕ). tokens_from (start + first.width) pieces ++ token_at at piece.width piece.token) here)
    ∙ sym (append_assoc (token_at start first.width first.token) _ _)

-- what the code sees of a text from a place on is all of it
rest_front : (text : List ℕ) (place width : ℕ) (token : Option Kind) → IsFrontToken (take (length text - place) (drop place text)) width token →
    IsFrontToken (drop place text) width token
rest_front text place width token front = rw take_rest at front

-- a piece that begins the text at a place has bytes, and they are in the text
pub piece_fits : (text : List ℕ) (place width : ℕ) (token : Option Kind) → place ≤ length text →
    IsFrontToken (take (length text - place) (drop place text)) width token → (0 < width) × (place + width ≤ length text)
piece_fits text place width token within front =
    let fits = front_fits (drop place text) width token (rest_front text place width token front) in
    (fits.0, omega (arith, fits.1, length-drop place text))

-- a text that is cut up to a place, and a piece there
cut_more : (text : List ℕ) (place : ℕ) (tokens : List Token) (width : ℕ) (token : Option Kind) → IsCutTo text place tokens →
    IsFrontToken (take (length text - place) (drop place text)) width token → IsCutTo text (place + width) (tokens ++ token_at place width token)
cut_more text place tokens width token so_far front =
    let piece : TextPiece = record { width = width; token = token } in
    let cut = cuts_push so_far.pieces piece text (drop place text) so_far.cut (rest_front text place width token front) in
    record {
      pieces = so_far.pieces ++ piece ∷ [];
      cut = subst (λ (rest : List ℕ). Cuts (so_far.pieces ++ piece ∷ []) text rest) (drop-drop width place text) cut;
      width_is = ap (λ (at : ℕ). at + width) so_far.width_is ∙ sym (width-push so_far.pieces piece);
      tokens_are =
          ap (λ (list : List Token). list ++ token_at place width token) so_far.tokens_are
          ∙ ap (λ (at : ℕ). tokens_from 0 so_far.pieces ++ token_at at width token) (so_far.width_is ∙ sym (zero-add (width_of so_far.pieces)))
          ∙ sym (tokens-push 0 so_far.pieces piece);
    }

pub cut_blank : (text : List ℕ) (place : ℕ) (tokens : List Token) (width : ℕ) (token : Option Kind) → token ≡ None → IsCutTo text place tokens →
    IsFrontToken (take (length text - place) (drop place text)) width token → IsCutTo text (place + width) tokens
cut_blank text place tokens width token none so_far front =
    let more = cut_more text place tokens width token so_far front in
    subst (IsCutTo text (place + width)) (ap (λ (t : Option Kind). tokens ++ token_at place width t) none ∙ append-nil tokens) more

pub cut_token : (text : List ℕ) (place : ℕ) (tokens : List Token) (width : ℕ) (token : Option Kind) (kind : Kind) → token ≡ Some kind →
    IsCutTo text place tokens → IsFrontToken (take (length text - place) (drop place text)) width token →
    IsCutTo text (place + width) (tokens ++ record { kind = kind; span = record { start = place; end = place + width } } ∷ [])
cut_token text place tokens width token kind some so_far front =
    let more = cut_more text place tokens width token so_far front in
    subst (IsCutTo text (place + width)) (ap (λ (t : Option Kind). tokens ++ token_at place width t) some) more
