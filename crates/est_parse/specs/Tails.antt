-- Inner: the plain form of what a statement waits for.
use Rattle.std.specs.Prelude.{map}
use Rattle.est_ast.specs.Trees.{cases}
use Rattle.est_ast.specs.Views.{delay_of, part_of, case_of}
use Rattle.est_parse.specs.declared.tails.Tail.{Tail as CodeTail}
use Rattle.est_parse.specs.declared.tails.Tail.TheVariants as tails
use Rattle.est_parse.specs.Parts.{Tail, CaseTail, DelayTail}

abbrev pub tail_of : CodeTail → Tail
tail_of (tails.Cases found) = CaseTail (cases (map case_of found.items))
tail_of (tails.Delay delay q) = DelayTail (delay_of delay) (part_of q)
