-- One more piece within a room.
use Rattle.std.proofs.Common.{◌≡◌, ℕ, ◌+◌, ◌-◌, ◌≤◌, min, List, ◌++◌, length, take, ◌∙◌, sym, ap, arith}
use Rattle.std.proofs.Math.Seq.{take-append-add}
use Rattle.std.proofs.lemmas.List.{take_min}
use Rattle.base_types.specs.SinkState.{Kept}

-- what of a piece finds room behind the bytes is what the room takes of both
pub take-append-room : (bytes piece : List ℕ) (room : ℕ) → length bytes ≤ room →
    bytes ++ take (min (room - length bytes) (length piece)) piece ≡ take room (bytes ++ piece)
take-append-room bytes piece room within =
    let whole : length bytes + (room - length bytes) ≡ room = omega arith in
    ap (λ p. bytes ++ p) (take_min (room - length bytes) piece) ∙ sym (take-append-add bytes piece (room - length bytes))
    ∙ ap (λ n. take n (bytes ++ piece)) whole

-- and the rest of the piece is what came beyond the room
pub beyond_room : (len piece room : ℕ) → len ≤ room → piece - min (room - len) piece ≡ len + piece - room
beyond_room len piece room within = omega arith

abbrev pub kept_of : List ℕ → ℕ → ℕ → Kept
kept_of bytes room beyond = record { bytes = bytes; room = room; beyond = beyond }

-- what is kept is known by its bytes and by how many came beyond the room
pub same_kept : (room : ℕ) {xs ys : List ℕ} {m n : ℕ} → xs ≡ ys → m ≡ n → kept_of xs room m ≡ kept_of ys room n
same_kept room e f = λ i. kept_of (e i) room (f i)
