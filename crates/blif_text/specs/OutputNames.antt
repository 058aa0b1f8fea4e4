-- To believe: the names of a program's outputs in the BLIF text that is written of it. An output whose name is an
-- input's too is written `NAME.out`; `_paused` is the output after all others.
use Rattle.std.specs.Prelude.{ℕ, if◌then◌else◌, List, ◌++◌, codes}
use Rattle.net_ir.specs.NameLists.{is_among}

-- the name of an output in the text, where the names of the inputs are given
abbrev pub output_word : List (List ℕ) → List ℕ → List ℕ
output_word inputs name = if is_among name inputs then name ++ codes ".out" else name

abbrev pub paused_word : List ℕ
paused_word = codes "_paused"
