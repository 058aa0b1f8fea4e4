use Rattle.std.proofs.Common.{◌≡◌, drop}
use Rattle.std.specs.Prelude.{find}
use Rattle.vlog_reset.specs.Names.{is_reserved}
use Rattle.vlog_reset.proofs.naming.reserved_name.Given as goal

-- the first one is among those that are left
abbrev pub invariant-loop-name : goal.invariant-loop-name
invariant-loop-name l = find is_reserved l.names ≡ find is_reserved (drop l.name-index l.names)
