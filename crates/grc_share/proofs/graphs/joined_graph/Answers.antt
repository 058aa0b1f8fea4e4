use Rattle.std.proofs.Common.{refl}
use Rattle.grc_share.proofs.JoinedGraphs.{joined-indices, joined-layout, joined-neighbours, joined-shared}
use Rattle.grc_share.proofs.SharedCostParts.{made_few}
use Rattle.grc_share.proofs.graphs.joined_graph.Goals as goal

pub invariant_of-result-clause-laid_out : goal.invariant_of-result-clause-laid_out
invariant_of-result-clause-laid_out c = joined-layout c.args.graph c.requires.built c.args.lists c.requires.lists

pub invariant_of-result-clause-indices : goal.invariant_of-result-clause-indices
invariant_of-result-clause-indices c = joined-indices c.args.graph c.requires.built c.args.lists c.requires.lists

pub invariant_of-result-clause-tables : goal.invariant_of-result-clause-tables
invariant_of-result-clause-tables c = joined-neighbours c.args.graph c.requires.built c.args.lists c.requires.lists

pub returns-clause-graph : goal.returns-clause-graph
returns-clause-graph c = joined-shared c.args.graph c.args.lists _ c.requires.lists refl refl refl refl refl refl refl

pub invariant_of-result-clause-few : goal.invariant_of-result-clause-few
invariant_of-result-clause-few c = made_few c.args.graph c.args.lists c.requires.built c.requires.lists
