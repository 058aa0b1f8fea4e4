use Rattle.std.proofs.Common.{◌≡◌, map, drop}
use Rattle.std.specs.Prelude.{find}
use Rattle.vlog_read.specs.NameTests.{ill_by, first_of, last_of}
use Rattle.vlog_read.specs.Sources.{declaration_of}
use Rattle.vlog_read.proofs.ports.ill_named.Given as goal

-- the first that is ill named is among those that are left
abbrev pub invariant-loop-declaration : goal.invariant-loop-declaration
invariant-loop-declaration l =
    find (λ d. ill_by (first_of (map declaration_of l.declarations)) (last_of (map declaration_of l.declarations)) d.sort d.name)
    (map declaration_of l.declarations)
    ≡ find (λ d. ill_by (first_of (map declaration_of l.declarations)) (last_of (map declaration_of l.declarations)) d.sort d.name)
    (map declaration_of (drop l.declaration-index l.declarations))
