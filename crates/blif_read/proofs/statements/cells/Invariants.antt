use Rattle.std.proofs.Common.{◌≡◌, ◌++◌, drop}
use Rattle.std.specs.Option.{option_map}
use Rattle.blif_text.specs.Statements.{cells_of}
use Rattle.blif_read.proofs.statements.cells.Given as goal

-- the cells so far, and those of what is left, are all
abbrev pub invariant-loop-byte : goal.invariant-loop-byte
invariant-loop-byte l = option_map (λ more. l.cells.items ++ more) (cells_of (drop l.byte-index l.word)) ≡ cells_of l.word
