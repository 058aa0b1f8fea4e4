use Rattle.std.proofs.Common.{◌≡◌, map, drop}
use Rattle.vlog_read.specs.NameTests.{first_of}
use Rattle.vlog_read.specs.Sources.{declaration_of}
use Rattle.vlog_read.proofs.ports.first_input.Given as goal

abbrev pub invariant-loop-declaration : goal.invariant-loop-declaration
invariant-loop-declaration l =
    first_of (map declaration_of l.declarations) ≡ first_of (map declaration_of (drop l.declaration-index l.declarations))
