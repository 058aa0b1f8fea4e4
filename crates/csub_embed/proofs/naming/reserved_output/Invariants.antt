use Rattle.std.proofs.Common.{◌≡◌, map, drop}
use Rattle.std.specs.Prelude.{find}
use Rattle.csub_embed.specs.Names.{is_reserved}
use Rattle.csub_embed.proofs.naming.reserved_output.Given as goal

-- the first one is among those that are left
abbrev pub invariant-loop-output : goal.invariant-loop-output
invariant-loop-output l = find is_reserved (map (λ o. o.name) l.outputs) ≡ find is_reserved (map (λ o. o.name) (drop l.output-index l.outputs))
