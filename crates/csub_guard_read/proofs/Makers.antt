-- Inner: the reading function makes what is meant of what is written: rules for the one are images of rules for the other.
use Rattle.std.proofs.Common.{◌≡◌, ℕ, List, map, Option, Some, None, refl, sym, ◌∙◌, ap}
use Rattle.std.specs.Option.{option_map}
use Rattle.csub_text.specs.Tokens.{Kind, If, Else, LeftParenthesis, RightParenthesis, LeftBrace, RightBrace}
use Rattle.csub_text.specs.Trees.{Assign}
use Rattle.csub_text.specs.Grammar.{is, name, WrittenAssign, assign_meant}
use Rattle.csub_read.specs.Reading.{makes_expr, makes_written, assign_rule, assign_step, answer_rule, whole_rule, written_assign, expr_assign}
use Rattle.csub_read.proofs.Exports.{pair_meant, assign-meant, loop-meant, answer-meant, whole-image, body-means}
use Rattle.csub_guard.specs.Grammar.{piece_meant, program_meant}
use Rattle.net_expressions.specs.Grammar.{meant}
use Rattle.net_expressions.proofs.Exports.{Image, image-mapped, image-both, image-trail, image-on, image-ahead, image-maybe, image-loop, image-self}
use Rattle.net_expressions.proofs.Exports.{image-advances}
use Rattle.net_expressions.proofs.Exports.{made, end-made}
use Rattle.base_reader.specs.Readings.{mapped, both, on, the, loop, end_of, whole}
use Rattle.base_reader.proofs.Exports.{Advances}
use Rattle.csub_guard_read.specs.Reading.{builds_written, builds_expr, half_rule, else_rule, else_step, block_behind, block_rule, block_made, one_made}
use Rattle.csub_guard_read.specs.Reading.{piece_rule}
use Rattle.csub_guard_read.specs.Reading.{begins_piece, piece_step, body_rule, written_made, written_rule, program_made, program_rule}
use Rattle.csub_guard_read.proofs.TextLaws.{piece-advances}

half-meant : (room : ℕ) → Image (map assign_meant) (half_rule builds_written room) (half_rule builds_expr room)
half-meant room =
    image-on (map assign_meant) (is LeftBrace) _ _
    (image-trail (map assign_meant) (mapped (map written_assign) (loop (assign_step makes_written room)))
    (mapped (map expr_assign) (loop (assign_step makes_expr room))) (the (is RightBrace))
    (image-mapped (map pair_meant) (loop (assign_step makes_written room)) (loop (assign_step makes_expr room)) (map written_assign) (map assign_meant)
    (map expr_assign) (λ body. sym (body-means body)) (loop-meant room)))

else-meant : (room : ℕ) → Image (option_map (map assign_meant)) (else_step builds_written room) (else_step builds_expr room)
else-meant room =
    image-maybe (map assign_meant) (is Else) (else_rule builds_written room) (else_rule builds_expr room)
    (image-on (map assign_meant) (is Else) (half_rule builds_written room) (half_rule builds_expr room) (half-meant room))

abbrev halves_meant : List WrittenAssign × Option (List WrittenAssign) → List Assign × Option (List Assign)
halves_meant v = (map assign_meant v.0, option_map (map assign_meant) v.1)

abbrev block_meant : List ℕ × (List WrittenAssign × Option (List WrittenAssign)) → List ℕ × (List Assign × Option (List Assign))
block_meant v = (v.0, halves_meant v.1)

block-meant : (room : ℕ) → Image block_meant (block_rule builds_written room) (block_rule builds_expr room)
block-meant room =
    image-on block_meant (is If) (block_behind builds_written room) (block_behind builds_expr room)
    (image-on block_meant (is LeftParenthesis) _ _ (image-both (λ a. a) (the name) (the name) halves_meant
    (on (is RightParenthesis) (λ _. both (half_rule builds_written room) (else_step builds_written room)))
    (on (is RightParenthesis) (λ _. both (half_rule builds_expr room) (else_step builds_expr room))) (image-self (the name))
    (image-on halves_meant (is RightParenthesis) _ _
    (image-both (map assign_meant) (half_rule builds_written room) (half_rule builds_expr room) (option_map (map assign_meant))
    (else_step builds_written room) (else_step builds_expr room) (half-meant room) (else-meant room)))))

block-same : (v : List ℕ × (List WrittenAssign × Option (List WrittenAssign)))
    → piece_meant (block_made builds_written v) ≡ block_made builds_expr (block_meant v)
block-same (test, (first, None)) = refl
block-same (test, (first, Some second)) = refl

piece-meant : (room : ℕ) → Image piece_meant (piece_rule builds_written room) (piece_rule builds_expr room)
piece-meant room =
    image-ahead piece_meant (is If) (mapped (block_made builds_written) (block_rule builds_written room))
    (mapped (block_made builds_expr) (block_rule builds_expr room)) (mapped (one_made builds_written) (assign_rule makes_written room))
    (mapped (one_made builds_expr) (assign_rule makes_expr room))
    (image-mapped block_meant (block_rule builds_written room) (block_rule builds_expr room) (block_made builds_written) piece_meant
    (block_made builds_expr) block-same (block-meant room))
    (image-mapped pair_meant (assign_rule makes_written room) (assign_rule makes_expr room) (one_made builds_written) piece_meant
    (one_made builds_expr) (λ a. refl) (assign-meant room))

step-meant : (room : ℕ) → Image (option_map piece_meant) (piece_step builds_written room) (piece_step builds_expr room)
step-meant room = image-maybe piece_meant begins_piece (piece_rule builds_written room) (piece_rule builds_expr room) (piece-meant room)

pub pieces-mean : (room : ℕ) → Advances (piece_step builds_expr room)
pieces-mean room =
    image-advances piece_meant (piece_step builds_written room) (piece_step builds_expr room) (step-meant room) (piece-advances room)

body-meant : (room : ℕ) → Image (λ v. (map piece_meant v.0, meant v.1)) (body_rule builds_written room) (body_rule builds_expr room)
body-meant room =
    image-both (map piece_meant) (loop (piece_step builds_written room)) (loop (piece_step builds_expr room)) meant (answer_rule makes_written room)
    (answer_rule makes_expr room) (image-loop piece_meant (piece_step builds_written room) (piece_step builds_expr room) (step-meant room))
    (answer-meant room)

text-meant : (room : ℕ) → Image program_meant (written_rule room) (program_rule room)
text-meant room =
    image-mapped _ (whole_rule (body_rule builds_written room)) (whole_rule (body_rule builds_expr room)) written_made program_meant program_made
    (λ found. refl)
    (whole-image (λ v. (map piece_meant v.0, meant v.1)) (body_rule builds_written room) (body_rule builds_expr room) (body-meant room))

pub whole-meant : (room : ℕ) (tokens : List Kind) → whole (program_rule room) tokens ≡ made program_meant (whole (written_rule room) tokens)
whole-meant room tokens = sym (ap end_of (text-meant room tokens)) ∙ end-made program_meant (written_rule room tokens)
