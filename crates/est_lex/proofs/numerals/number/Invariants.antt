use Rattle.std.proofs.Common.{◌≡◌, ◌<◌, ◌^◌, take}
use Rattle.est_ast.specs.Lexing.{number_of}
use Rattle.est_lex.proofs.numerals.number.Given as goal

abbrev pub invariant-loop-digit : goal.invariant-loop-digit
invariant-loop-digit l = record { so_far : l.value ≡ number_of (take l.digit-index l.digits); fits : l.value < 2 ^ 128 }
