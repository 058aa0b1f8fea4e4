-- Inner: the steps of the loop over pieces.
use Rattle.std.proofs.Common.{◌≡◌, ℕ, true, false, List, Option, Some, None, is_some, Ok, refl, sym, ◌∙◌, ap}
use Rattle.std.proofs.lemmas.Bool.{false≢true}
use Rattle.std.specs.Option.{option_map_or}
use Rattle.csub_text.specs.Tokens.{Kind, If}
use Rattle.csub_text.specs.Grammar.{is}
use Rattle.csub_read.specs.Reading.{makes_expr, assign_rule}
use Rattle.csub_guard.specs.Trees.{Piece}
use Rattle.net_expressions.proofs.Exports.{maybe-last}
use Rattle.csub_guard_read.specs.Reading.{builds_expr, block_made, one_made, block_behind, piece_rule, begins_piece, piece_step}
use Rattle.base_reader.specs.Readings.{refuse, give, follow, mapped, picked}
use Rattle.base_reader.proofs.Exports.{maybe-some}

pub piece-next : (room : ℕ) (tokens : List Kind) (value : Piece) (rest : List Kind) → is_some (picked begins_piece tokens) ≡ true
    → piece_rule builds_expr room tokens ≡ Ok (value, rest) → piece_step builds_expr room tokens ≡ Ok (Some value, rest)
piece-next room tokens value rest begins read = go (picked begins_piece tokens) refl
  where
    go : (o : Option (Unit {0} × List Kind)) → picked begins_piece tokens ≡ o → piece_step builds_expr room tokens ≡ Ok (Some value, rest)
    go None at = absurd (false≢true (sym (ap is_some at) ∙ begins))
    go (Some found) at = maybe-some begins_piece (piece_rule builds_expr room) tokens found.0 found.1 value rest at read

pub piece-none : (room : ℕ) (tokens : List Kind) → is_some (picked begins_piece tokens) ≡ false → piece_step builds_expr room tokens ≡ Ok (None, tokens)
piece-none room tokens none = go (picked begins_piece tokens) refl
  where
    go : (o : Option (Unit {0} × List Kind)) → picked begins_piece tokens ≡ o → piece_step builds_expr room tokens ≡ Ok (None, tokens)
    go None at = maybe-last begins_piece (piece_rule builds_expr room) tokens at
    go (Some found) at = absurd (false≢true (sym none ∙ ap is_some at))

-- a block, behind its `if`
pub piece-block : (room : ℕ) (tokens rest : List Kind) → picked (is If) tokens ≡ Some (tt, rest)
    → piece_rule builds_expr room tokens ≡ mapped (block_made builds_expr) (block_behind builds_expr room) rest
piece-block room tokens rest next =
    ap (λ o. option_map_or {T = Unit {0} × List Kind}
    (λ _. follow (option_map_or {T = Unit {0} × List Kind} (λ found. block_behind builds_expr room found.1) o (refuse tokens))
    (λ v. give (block_made builds_expr v))) o (mapped (one_made builds_expr) (assign_rule makes_expr room) tokens)) next
