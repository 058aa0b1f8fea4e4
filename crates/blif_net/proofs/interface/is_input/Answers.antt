use Rattle.std.proofs.Common.{ap, ◌∙◌, map, length}
use Rattle.std.specs.Prelude.{nat_lt}
use Rattle.blif_net.proofs.Words.{among-slot}
use Rattle.blif_net.proofs.interface.is_input.Goals as goal

pub returns : goal.returns
returns c =
    ap (λ m. nat_lt m (length c.args.inputs.now)) c.slot_of.ensures
    ∙ among-slot c.args.name.now c.args.inputs.now c.requires.0 (map (λ k. k.now) c.args.slots.now.keys) c.requires.1
