use Rattle.std.proofs.Common.{◌≡◌, drop}
use Rattle.std.specs.Option.{option_or}
use Rattle.est_dismantle.specs.FlatNodes.{bad_of_stmts, bad_of_cases}
use Rattle.est_dismantle.proofs.counts.+counts.Given as goal

abbrev pub invariant-first_bad_in_parts-loop-part : goal.invariant-first_bad_in_parts-loop-part
invariant-first_bad_in_parts-loop-part l = option_or l.found (bad_of_stmts (drop l.part-index l.parts)) ≡ bad_of_stmts l.parts

abbrev pub invariant-first_bad_in_cases-loop-case : goal.invariant-first_bad_in_cases-loop-case
invariant-first_bad_in_cases-loop-case l = option_or l.found (bad_of_cases (drop l.case-index l.cases)) ≡ bad_of_cases l.cases
