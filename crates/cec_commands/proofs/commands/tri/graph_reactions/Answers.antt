use Rattle.std.proofs.Common.{length, ap, arith}
use Rattle.std.proofs.lemmas.List.{length-map}
use Rattle.base_types.specs.Relations.{relation_of}
use Rattle.cec_commands.proofs.commands.tri.graph_reactions.Goals as goal

pub interface_reactions-requires-clause-countable : goal.interface_reactions-requires-clause-countable
interface_reactions-requires-clause-countable g c =
    let same = ap length c.in-Ok.ensures.relations in
    omega (arith, same, length-map c.in-Ok.interface.relations.items relation_of, length-map c.args.graph.now.program.relations.items relation_of)
