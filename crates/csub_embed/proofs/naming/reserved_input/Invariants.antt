use Rattle.std.proofs.Common.{◌≡◌, drop}
use Rattle.std.specs.Prelude.{find}
use Rattle.csub_embed.specs.Names.{is_reserved}
use Rattle.csub_embed.proofs.naming.reserved_input.Given as goal

-- the first one is among those that are left
abbrev pub invariant-loop-name : goal.invariant-loop-name
invariant-loop-name l = find is_reserved l.inputs ≡ find is_reserved (drop l.name-index l.inputs)
