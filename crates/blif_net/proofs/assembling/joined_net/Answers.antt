use Rattle.blif_text.specs.Plain.{plain_circuit}
use Rattle.blif_text.proofs.Exports.{described-sound}
use Rattle.blif_net.proofs.Netlists.{named-net}
use Rattle.blif_net.proofs.assembling.joined_net.Goals as goal

pub invariant_of-result : goal.invariant_of-result
invariant_of-result c =
    let circuit = plain_circuit c.args.blif.now in
    record {
      is_net = named-net circuit (described-sound c.requires.described.0 circuit c.requires.described.1) c.requires.fits c.args.drawing.gates.items
          c.args.drawing.nets.items c.args.named c.requires.named c.requires.drawing c.requires.each_slot c.requires.low;
    }
