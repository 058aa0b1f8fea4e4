use Rattle.std.proofs.Common.{◌≡◌, map, take}
use Rattle.net_ir.specs.NameLists.{is_among}
use Rattle.blif_text.proofs.pieces.given_outputs.Given as goal

abbrev pub invariant-loop-output : goal.invariant-loop-output
invariant-loop-output l =
    l.given.items ≡ map (λ o. is_among o.name l.net.inputs.items) (take l.output-index l.net.outputs.items)
