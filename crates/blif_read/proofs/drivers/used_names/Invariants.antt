use Rattle.std.proofs.Common.{◌≡◌, map, take}
use Rattle.std.specs.Prelude.{flat_map}
use Rattle.blif_text.specs.Circuits.{used_by}
use Rattle.blif_read.specs.PlainStatements.{plain_statement}
use Rattle.blif_read.proofs.drivers.used_names.Given as goal

abbrev pub invariant-loop-statement : goal.invariant-loop-statement
invariant-loop-statement l =
    map (λ w. w.now) l.names.items ≡ flat_map used_by (map plain_statement (take l.statement-index l.statements))
