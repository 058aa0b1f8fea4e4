use Rattle.net_ir.specs.Runs.{netlist_of}
use Rattle.vlog_text.proofs.Joins.{written-joined}
use Rattle.vlog_text.proofs.NetRuns.{Means-written}
use Rattle.vlog_text.proofs.parts.VlogWriterNetText.look_at.Goals as goal

pub returns-clause-whole : goal.returns-clause-whole
returns-clause-whole c = written-joined (netlist_of c.args.net.now)

pub returns-clause-means : goal.returns-clause-means
returns-clause-means c = Means-written (netlist_of c.args.net.now) c.look_at_wires.ensures
