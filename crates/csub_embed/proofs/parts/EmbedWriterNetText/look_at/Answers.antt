use Rattle.net_ir.specs.Runs.{netlist_of}
use Rattle.csub_embed.proofs.Joins.{written-joined}
use Rattle.csub_embed.proofs.NetMeans.{Means-written}
use Rattle.csub_embed.proofs.parts.EmbedWriterNetText.look_at.Goals as goal

pub returns-clause-whole : goal.returns-clause-whole
returns-clause-whole g c = written-joined g.L.FixedLayout.layout (netlist_of c.args.net.now)

pub returns-clause-means : goal.returns-clause-means
returns-clause-means g c = Means-written g.L.FixedLayout.layout (netlist_of c.args.net.now) c.look_at_wires.ensures
