use Rattle.std.proofs.Common.{◌≡◌, take}
use Rattle.grc_dep.specs.Cycles.{numbers_of}
use Rattle.grc_dep.proofs.ranking.wires.Given as goal

-- the wires so far
abbrev pub invariant-loop-number : goal.invariant-loop-number
invariant-loop-number l = numbers_of l.wires.items ≡ take l.number-index l.numbers
