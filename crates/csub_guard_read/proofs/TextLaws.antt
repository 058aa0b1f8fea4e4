-- Inner: judgements on blocks and whole texts.
use Rattle.std.proofs.Common.{◌≡◌, ◌⊎◌, inl, inr, ℕ, max, Bool, true, false, cond, nat_lt, List, [], ◌∷◌, length, Option, Some, None, is_some}
use Rattle.std.proofs.Common.{refl, ap, subst, arith}
use Rattle.csub_text.specs.Tokens.{Kind, Static, If, Else, Named, LeftParenthesis, RightParenthesis, LeftBrace, RightBrace}
use Rattle.csub_text.specs.Grammar.{is, name, begins_global, WrittenAssign, body_nesting, SpellsAnswer}
use Rattle.csub_read.proofs.Exports.{class, is-test, name-test, SpellsPair, turn_of, assigns-reads, assign-reads, answer-reads, whole_shape, whole-reads}
use Rattle.csub_read.proofs.Exports.{whole_depth}
use Rattle.csub_text.specs.Trees.{StateVariable}
use Rattle.csub_guard.specs.Grammar.{WrittenPiece, OneWritten, IfWritten, SpellsHalf, SpellsElse, SpellsPiece, SpellsText, piece_nesting, pieces_nesting}
use Rattle.csub_guard.specs.Grammar.{text_nesting, IsText}
use Rattle.net_expressions.specs.Grammar.{Written, written_nesting}
use Rattle.csub_guard_read.specs.Reading.{builds_written, half_rule, else_rule, else_step, block_rule, block_made, one_made, piece_rule, begins_piece}
use Rattle.csub_guard_read.specs.Reading.{piece_step}
use Rattle.csub_guard_read.specs.Reading.{body_rule, written_made, written_rule}
use Rattle.base_reader.specs.Choice.{Made}
use Rattle.base_reader.specs.Exact.{Exactly}
use Rattle.base_reader.specs.Languages.{Then, Led, Optional, Many}
use Rattle.base_reader.specs.Languages.{One as Single}
use Rattle.base_reader.specs.Readings.{whole}
use Rattle.base_reader.proofs.Exports.{whole-reads as exact-reads, Advances, Shape, one_shape, Reads, the-reads, both-reads, led-reads, trail-reads}
use Rattle.base_reader.proofs.Exports.{ahead-reads, mapped-reads, told-reads, made-reads, has, Test, test-of, Turn, step_depth, list_depth, Steps, look-steps}
use Rattle.base_reader.proofs.Exports.{step-reads, loop-reads, Advances-step, list_depth-flat}

-- ---- halves

half-reads : (room : ℕ) → Reads class (λ n. half_rule builds_written n) SpellsHalf body_nesting (one_shape (9 ∷ [])) (Some room)
half-reads room = led-reads (is-test LeftBrace (omega arith)) (trail-reads (assigns-reads room) (the-reads (is-test RightBrace (omega arith))) refl)

else-reads : (room : ℕ) → Reads class (λ n. else_rule builds_written n) SpellsElse body_nesting (one_shape (6 ∷ [])) (Some room)
else-reads room = led-reads (is-test Else (omega arith)) (half-reads room)

else-steps : (room : ℕ) → Steps class (λ n. else_step builds_written n) (Optional SpellsElse) body_nesting (turn_of (6 ∷ [])) (Some room)
else-steps room = look-steps (is-test Else (omega arith)) (else-reads room) refl refl

-- ---- blocks

abbrev Block : Type 0
Block = List ℕ × (List WrittenAssign × Option (List WrittenAssign))

abbrev SpellsBlock : Block → List Kind → Type 0
SpellsBlock b =
    Led (is If) (λ _. Led (is LeftParenthesis) (λ _. Then (Single name b.0)
    (Led (is RightParenthesis) (λ _. Then (SpellsHalf b.1.0) (Optional SpellsElse b.1.1)))))

abbrev block_depth : Block → ℕ
block_depth b = max 0 (max (body_nesting b.1.0) (step_depth body_nesting b.1.1))

abbrev block_shape : Shape
block_shape = record { starts = 5 ∷ []; empty = false; after = 6 ∷ [] }

block-reads : (room : ℕ) → Reads class (λ n. block_rule builds_written n) SpellsBlock block_depth block_shape (Some room)
block-reads room =
    led-reads (is-test If (omega arith)) (led-reads (is-test LeftParenthesis (omega arith)) (both-reads (the-reads name-test)
    (led-reads (is-test RightParenthesis (omega arith)) (both-reads (half-reads room) (step-reads (else-steps room)) refl)) refl))

block-depth : (b : Block) → piece_nesting (block_made builds_written b) ≡ block_depth b
block-depth (test, (first, None)) = omega arith
block-depth (test, (first, Some second)) = omega arith

-- ---- pieces

abbrev EitherPiece : WrittenPiece → List Kind → Type 0
EitherPiece v tokens = Made (block_made builds_written) SpellsBlock v tokens ⊎ Made (one_made builds_written) SpellsPair v tokens

piece_to : (v : WrittenPiece) (tokens : List Kind) → EitherPiece v tokens → SpellsPiece v tokens
piece_to v tokens (inl made) = subst (λ v. SpellsPiece v tokens) made.1 made.2
piece_to v tokens (inr made) = subst (λ v. SpellsPiece v tokens) made.1 made.2

piece_from : (v : WrittenPiece) (tokens : List Kind) → SpellsPiece v tokens → EitherPiece v tokens
piece_from (OneWritten a) tokens member = inr ((a.target, a.value), refl, member)
piece_from (IfWritten test first second) tokens member = inl ((test, (first, second)), refl, member)

abbrev pieces_set : List ℕ
pieces_set = 5 ∷ 18 ∷ 20 ∷ 21 ∷ []

abbrev piece_shape : Shape
piece_shape = record { starts = pieces_set; empty = false; after = 6 ∷ [] }

piece-reads : (room : ℕ) → Reads class (λ n. piece_rule builds_written n) SpellsPiece piece_nesting piece_shape (Some room)
piece-reads room =
    told-reads SpellsPiece (ahead-reads (is-test If (omega arith))
    (mapped-reads (block_made builds_written) piece_nesting (block-reads room) block-depth)
    (mapped-reads (one_made builds_written) piece_nesting (assign-reads room) (λ a. omega arith)) refl refl refl refl) piece_to piece_from

in-pieces : (b c : Bool) → true ≡ has pieces_set (cond b (cond c 20 21) 18)
in-pieces true true = refl
in-pieces true false = refl
in-pieces false c = refl

begins-test : Test class begins_piece pieces_set
begins-test = test-of pieces_set agrees If tt refl
  where
    agrees : (token : Kind) → is_some (begins_piece token) ≡ has pieces_set (class token)
    agrees (Named n) = in-pieces (begins_global n) (nat_lt 2 (length n))
    agrees If = refl
    agrees Static = refl
    agrees _ = refl

abbrev piece_turn : Turn
piece_turn = record { starts = pieces_set; empty = true; more = 6 ∷ []; last = pieces_set }

piece-steps : (room : ℕ) → Steps class (λ n. piece_step builds_written n) (Optional SpellsPiece) piece_nesting piece_turn (Some room)
piece-steps room = look-steps begins-test (piece-reads room) refl refl

-- ---- whole texts

abbrev Body : Type 0
Body = List WrittenPiece × Written

abbrev SpellsBody : Body → List Kind → Type 0
SpellsBody b = Then (Many SpellsPiece b.0) (SpellsAnswer b.1)

abbrev body_depth : Body → ℕ
body_depth b = max (list_depth piece_nesting b.0) (written_nesting b.1)

body-reads : (room : ℕ) → Reads class (λ n. body_rule builds_written n) SpellsBody body_depth (one_shape (5 ∷ 18 ∷ 20 ∷ 21 ∷ 2 ∷ [])) (Some room)
body-reads room = both-reads (loop-reads (piece-steps room) refl) (answer-reads room) refl

pieces-depth : (body : List WrittenPiece) → pieces_nesting body ≡ list_depth piece_nesting body
pieces-depth [] = refl
pieces-depth (piece ∷ body) = ap (max (piece_nesting piece)) (pieces-depth body)

text-depth : (found : List StateVariable × (List (List ℕ) × (List (List ℕ) × Body))) → text_nesting (written_made found) ≡ whole_depth body_depth found
text-depth found = omega (arith, list_depth-flat found.0, list_depth-flat found.1.0, list_depth-flat found.1.1.0, pieces-depth found.1.1.1.0)

text-reads : (room : ℕ) → Reads class written_rule SpellsText text_nesting whole_shape (Some room)
text-reads room =
    made-reads written_made SpellsText text_nesting (whole-reads (body-reads room) refl) text-depth (λ found tokens member. member)
    (λ p tokens member. ((p.states, (p.globals, (p.locals, (p.body, p.answer)))), refl, member))

-- THE THEOREM: the reading function is exact over whole lists of kinds
pub text-exact : (room : ℕ) (tokens : List Kind) → Exactly IsText room tokens (whole (written_rule room) tokens)
text-exact = exact-reads text-reads

-- what the loop in code wants to know
pub piece-advances : (room : ℕ) → Advances (piece_step builds_written room)
piece-advances room = Advances-step (piece-steps room) refl
