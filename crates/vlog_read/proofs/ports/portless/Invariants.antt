use Rattle.std.proofs.Common.{◌≡◌, map, drop}
use Rattle.std.specs.Prelude.{find}
use Rattle.std.specs.HashSet.{contains_by}
use Rattle.base_types.specs.Names.{is_same_name}
use Rattle.vlog_read.specs.NameTests.{lacks_port}
use Rattle.vlog_read.specs.Sources.{declaration_of}
use Rattle.vlog_read.proofs.ports.portless.Given as goal

-- the first that lacks a port is among those that are left
abbrev pub invariant-loop-declaration : goal.invariant-loop-declaration
invariant-loop-declaration l =
    find (lacks_port (λ n. contains_by (λ k. is_same_name n k.now) l.ports)) (map declaration_of l.declarations)
    ≡ find (lacks_port (λ n. contains_by (λ k. is_same_name n k.now) l.ports)) (map declaration_of (drop l.declaration-index l.declarations))
