use Rattle.std.proofs.Common.{◌≡◌, not, map, drop}
use Rattle.std.specs.Prelude.{find}
use Rattle.vlog_read.specs.NameTables.{driven_in}
use Rattle.vlog_read.specs.Sources.{declaration_of}
use Rattle.vlog_read.proofs.drivers.first_undriven.Given as goal

-- the first without its drivers is among those that are left
abbrev pub invariant-loop-declaration : goal.invariant-loop-declaration
invariant-loop-declaration l =
    find (λ d. not (driven_in l.drivers d.sort d.name)) (map declaration_of l.declarations)
    ≡ find (λ d. not (driven_in l.drivers d.sort d.name)) (map declaration_of (drop l.declaration-index l.declarations))
