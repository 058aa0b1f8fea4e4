use Rattle.std.proofs.Common.{arith}
use Rattle.est_kernel.specs.Plain.{term_of}
use Rattle.grc_graph.proofs.Exports.{statement_count-le}
use Rattle.grc_share.proofs.SharedTables.{shared-ascending, shared-below, shared-few}
use Rattle.grc_share.proofs.tables.place_tables.Goals as goal

pub overflow_cast-len : goal.overflow_cast-len
overflow_cast-len c =
    omega (arith, c.args.graph.now.laid_out.formed.body.size, statement_count-le (term_of c.args.graph.now.program.body), c.requires.each)

pub first_instances-requires-clause-ascend : goal.first_instances-requires-clause-ascend
first_instances-requires-clause-ascend c = shared-ascending c.args.graph.now c.requires.built c.args.list.now c.requires.list

pub first_instances-requires-clause-below : goal.first_instances-requires-clause-below
first_instances-requires-clause-below c = λ i d l.
    omega (arith, shared-below c.args.graph.now c.requires.built c.args.list.now c.requires.list i d l, c.requires.each)

pub first_instances-requires-clause-few : goal.first_instances-requires-clause-few
first_instances-requires-clause-few c =
    omega (arith, shared-few c.args.graph.now c.requires.built c.args.list.now c.requires.list, c.args.graph.now.tables.few_instances)

pub first_instances-requires-clause-fits : goal.first_instances-requires-clause-fits
first_instances-requires-clause-fits c =
    omega (arith, c.args.graph.now.laid_out.formed.body.size, statement_count-le (term_of c.args.graph.now.program.body), c.requires.each)
