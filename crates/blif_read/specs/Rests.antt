-- Inner: the lines of what is left of a text.
use Rattle.std.specs.Prelude.{◌≡◌, ℕ, ◌+◌, ◌<◌, ◌≤◌, List, [], ◌∷◌, ◌++◌, length, map}
use Rattle.blif_read.specs.declared.lines.Rest.{Rest}
use Rattle.blif_read.specs.declared.lines.Line.{Line}
use Rattle.blif_read.specs.declared.lines.LineBytes.{LineBytes}
use Rattle.blif_read.specs.declared.lines.LineBytes.TheVariants.{Piece, Joined}
use Rattle.blif_text.specs.Lines.{text_lines, without_comment, joined}
use Rattle.blif_text.specs.Lines as lines

abbrev pub line_bytes : LineBytes → List ℕ
line_bytes (Piece bytes) = bytes.now
line_bytes (Joined bytes) = bytes.items

abbrev pub plain_line : Line → lines.Line
plain_line line = record { number = line.number; bytes = line_bytes line.bytes }

-- the lines of what is left, where n is the number of the first one
abbrev pub lines_left : ℕ → List ℕ → List lines.Line
lines_left n bytes = joined n (map without_comment (text_lines bytes))

-- some lines are taken: the text is shorter, and the numbers go on
pub record Took (old new : Rest) : Type 0 where
  pub counted : new.number + length (text_lines new.bytes.now) ≡ old.number + length (text_lines old.bytes.now)
  pub shorter : length new.bytes.now < length old.bytes.now
  pub in_range : new.number + length new.bytes.now ≤ old.number + length old.bytes.now

-- a line is the next one
pub record IsNextLine (old new : Rest) (line : Line) : Type 0 where
  pub took : Took old new
  pub lines : lines_left old.number old.bytes.now ≡ plain_line line ∷ lines_left new.number new.bytes.now

-- a line that begins with these bytes, and goes on in the line after them
abbrev pub continued : ℕ → List ℕ → List lines.Line → List lines.Line
continued n front [] = record { number = n; bytes = front } ∷ []
continued n front (next ∷ lines) = record { number = n; bytes = front ++ next.bytes } ∷ lines

-- the bytes of a line that begins with these bytes and goes on in what is left
pub record IsJoined (front : List ℕ) (old new : Rest) (bytes : List ℕ) : Type 0 where
  pub took : Took old new
  pub lines : (n : ℕ) → continued n front (lines_left old.number old.bytes.now)
      ≡ record { number = n; bytes = bytes } ∷ lines_left new.number new.bytes.now
