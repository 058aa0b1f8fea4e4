-- To believe: the line and the column of a byte place of a source, both from 1. A line ends with a line feed (10), and
-- a column counts bytes.
use Rattle.std.specs.Prelude.{ℕ, ◌+◌, ◌==◌, if◌then◌else◌, List, fold, take}

pub record Position : Type 0 where
  pub line : ℕ
  pub column : ℕ

abbrev pub beginning : Position
beginning = record { line = 1; column = 1 }

-- the position after one more byte
abbrev pub behind : Position → ℕ → Position
behind p byte =
    if byte == 10 then record { line = p.line + 1; column = 1 } else record { line = p.line; column = p.column + 1 }

abbrev pub position : List ℕ → ℕ → Position
position source place = fold behind beginning (take place source)
