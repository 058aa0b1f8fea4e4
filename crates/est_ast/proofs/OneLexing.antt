-- A text is cut in one way, so it lexes in one way.
use Rattle.std.proofs.Common.{◌≡◌, ℕ, List, [], ◌∷◌, length, take, drop, Option, refl, sym, ◌∙◌, ap, subst, arith}
use Rattle.est_ast.specs.declared.tokens.Kind.{Kind}
use Rattle.est_ast.specs.Lexemes.{LexicalPart, BlockComment, Numeral, OpensComment, BeginsPart, BeginsLongest}
use Rattle.est_ast.specs.Lexing.{Makes, IsFrontToken, TextPiece, Cuts, BeginsWithOpenComment, BeginsWithBigNumber, Lexing, Tokens, BadByte, OpenComment}
use Rattle.est_ast.specs.Lexing.{BigNumber}
use Rattle.est_ast.specs.Lexing.{ComesTo, LexesAs}
use Rattle.est_ast.proofs.Heads.{opens, one_part, within}
use Rattle.est_ast.proofs.OneToken.{one_token, numeral_fits}

-- two parts at the front of a text are of one kind
same_kind : (part other : LexicalPart) (text : List ℕ) (n m : ℕ) → BeginsPart part text n → BeginsPart other text m → part ≡ other
same_kind part other text n m a b = one_part part other text (opens part text n a) (opens other text m b)

-- two longest parts at the front of a text are of one length
same_width : (part other : LexicalPart) (text : List ℕ) (n m : ℕ) → BeginsLongest part text n → BeginsLongest other text m → n ≡ m
same_width part other text n m a b = omega (arith, a.longest other m b.begins, b.longest part n a.begins)

-- one piece stands at the front of a text
one_front : (text : List ℕ) (width width' : ℕ) (token token' : Option Kind) → IsFrontToken text width token → IsFrontToken text width' token' →
    (width ≡ width') × (token ≡ token')
one_front text width width' token token' a b =
    let wide : width ≡ width' = same_width a.part b.part text width width' a.longest b.longest in
    let kind : a.part ≡ b.part = same_kind a.part b.part text width width' a.longest.begins b.longest.begins in
    let makes : Makes a.part (take width text) token' = rw (kind, wide) b.makes in
    (wide, one_token a.part (take width text) token token' a.makes makes)

abbrev piece_of : ℕ → Option Kind → TextPiece
piece_of width token = record { width = width; token = token }

one_piece : (text : List ℕ) (piece other : TextPiece) → IsFrontToken text piece.width piece.token → IsFrontToken text other.width other.token → piece ≡ other
one_piece text piece other a b =
    let same = one_front text piece.width other.width piece.token other.token a b in
    ap (λ (w : ℕ). piece_of w piece.token) same.0 ∙ ap (λ (t : Option Kind). piece_of other.width t) same.1

-- nothing more is cut off this text
abbrev IsStuck : List ℕ → Type 0
IsStuck rest = (width : ℕ) (token : Option Kind) → ¬ IsFrontToken rest width token

one_cut : (pieces others : List TextPiece) (text rest rest' : List ℕ) → Cuts pieces text rest → Cuts others text rest' → IsStuck rest → IsStuck rest' →
    (pieces ≡ others) × (rest ≡ rest')
one_cut [] [] text rest rest' a b stuck stuck' = (refl, sym a ∙ b)
one_cut [] (other ∷ others) text rest rest' a b stuck stuck' = absurd
    (stuck other.width other.token (subst (λ (t : List ℕ). IsFrontToken t other.width other.token) a b.0))
one_cut (piece ∷ pieces) [] text rest rest' a b stuck stuck' = absurd
    (stuck' piece.width piece.token (subst (λ (t : List ℕ). IsFrontToken t piece.width piece.token) b a.0))
one_cut (piece ∷ pieces) (other ∷ others) text rest rest' a b stuck stuck' =
    let same : piece ≡ other = one_piece text piece other a.0 b.0 in
    let cut : Cuts others (drop piece.width text) rest' = rw same b.1 in
    let same' = one_cut pieces others (drop piece.width text) rest rest' a.1 cut stuck stuck' in
    (cc, same'.1)

-- where a text is at its end or a fault begins it, nothing is cut off
stuck_at_end : (rest : List ℕ) → rest ≡ [] → IsStuck rest
stuck_at_end rest ends width token front =
    let some = within front.part rest width front.longest.begins in
    let none = ap length ends in
    absurd (omega arith)

stuck_at_open : (rest : List ℕ) → BeginsWithOpenComment rest → IsStuck rest
stuck_at_open rest fault width token front =
    let kind : front.part ≡ BlockComment = one_part front.part BlockComment rest (opens front.part rest width front.longest.begins) fault.opens in
    let block : BeginsPart BlockComment rest width = rw kind at front.longest.begins in
    fault.never_closed block.close block.behind block.closes

stuck_at_big : (rest : List ℕ) → BeginsWithBigNumber rest → IsStuck rest
stuck_at_big rest fault width token front =
    let kind : front.part ≡ Numeral = same_kind front.part Numeral rest width fault.width front.longest.begins fault.longest.begins in
    let wide : width ≡ fault.width = same_width front.part Numeral rest width fault.width front.longest fault.longest in
    let makes : Makes Numeral (take fault.width rest) token = rw (← kind, ← wide) front.makes in
    omega (arith, fault.big, numeral_fits (take fault.width rest) token makes)

stuck : (pieces : List TextPiece) (rest : List ℕ) (lexing : Lexing) → ComesTo pieces rest lexing → IsStuck rest
stuck pieces rest (Tokens tokens) ends = stuck_at_end rest ends.0
stuck pieces rest (BadByte place) ends = λ width token front. ends.0.no_part front.part width front.longest.begins
stuck pieces rest (OpenComment place) ends = stuck_at_open rest ends.0
stuck pieces rest (BigNumber place) ends = stuck_at_big rest ends.0

opens_apart : (rest : List ℕ) → OpensComment rest → BeginsWithBigNumber rest → ⊥
opens_apart rest comment big =
    let kind : BlockComment ≡ Numeral = one_part BlockComment Numeral rest comment (opens Numeral rest big.width big.longest.begins) in
    cc

-- a cut comes to one end
one_end : (pieces : List TextPiece) (rest : List ℕ) (lexing other : Lexing) → ComesTo pieces rest lexing → ComesTo pieces rest other → lexing ≡ other
one_end pieces rest (Tokens tokens) (Tokens others) a b = ap Tokens (a.1 ∙ sym b.1)
one_end pieces rest (Tokens tokens) (BadByte place) a b = absurd (omega (arith, ap length a.0, b.0.some))
one_end pieces rest (Tokens tokens) (OpenComment place) a b = absurd (omega (arith, ap length a.0, b.0.opens.0.0))
one_end pieces rest (Tokens tokens) (BigNumber place) a b = absurd (omega (arith, ap length a.0, within Numeral rest b.0.width b.0.longest.begins))
one_end pieces rest (BadByte place) (Tokens others) a b = absurd (omega (arith, ap length b.0, a.0.some))
one_end pieces rest (BadByte place) (BadByte place') a b = ap BadByte (a.1 ∙ sym b.1)
one_end pieces rest (BadByte place) (OpenComment place') a b = absurd (a.0.no_comment b.0.opens)
one_end pieces rest (BadByte place) (BigNumber place') a b = absurd (a.0.no_part Numeral b.0.width b.0.longest.begins)
one_end pieces rest (OpenComment place) (Tokens others) a b = absurd (omega (arith, ap length b.0, a.0.opens.0.0))
one_end pieces rest (OpenComment place) (BadByte place') a b = absurd (b.0.no_comment a.0.opens)
one_end pieces rest (OpenComment place) (OpenComment place') a b = ap OpenComment (a.1 ∙ sym b.1)
one_end pieces rest (OpenComment place) (BigNumber place') a b = absurd (opens_apart rest a.0.opens b.0)
one_end pieces rest (BigNumber place) (Tokens others) a b = absurd (omega (arith, ap length b.0, within Numeral rest a.0.width a.0.longest.begins))
one_end pieces rest (BigNumber place) (BadByte place') a b = absurd (b.0.no_part Numeral a.0.width a.0.longest.begins)
one_end pieces rest (BigNumber place) (OpenComment place') a b = absurd (opens_apart rest b.0.opens a.0)
one_end pieces rest (BigNumber place) (BigNumber place') a b = ap BigNumber (a.1 ∙ sym b.1)

pub at_most_one : (text : List ℕ) (one other : Lexing) → LexesAs text one → LexesAs text other → one ≡ other
at_most_one text one other a b =
    let same = one_cut a.pieces b.pieces text a.rest b.rest a.cut b.cut (stuck a.pieces a.rest one a.comes_to) (stuck b.pieces b.rest other b.comes_to) in
    one_end a.pieces a.rest one other a.comes_to (rw (same.0, same.1) b.comes_to)
