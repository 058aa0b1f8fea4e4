use Rattle.std.proofs.Common.{◌≤◌, ◌<◌, List, length, map, sym, subst, arith}
use Rattle.std.proofs.lemmas.List.{length-map}
use Rattle.base_types.specs.declared.bounds.TheConstants.Limits.{WIRES}
use Rattle.est_kernel.specs.Plain.{program_of}
use Rattle.est_kernel.proofs.Exports.{trees_are_kernels_lem}
use Rattle.grc_graph.specs.declared.instances.Instance.{Instance}
use Rattle.grc_graph.specs.PlainInstances.{instance_of}
use Rattle.grc_graph.specs.WireTables.{AreBelow, Ascending}
use Rattle.grc_graph.proofs.CodeReads.{statement_count-le}
use Rattle.grc_graph.proofs.InstanceRuns.{instances-below}
use Rattle.grc_graph.proofs.NeighbourReads.{body_ascending}
use Rattle.grc_graph.proofs.RowReads.{length-statements}
use Rattle.grc_graph.proofs.WireFilling.{few_instances}
use Rattle.grc_graph.proofs.layout.wire_layout.Goals as goal

pub overflow_cast-statements : goal.overflow_cast-statements
overflow_cast-statements c =
    let p = program_of c.args.program.now in
    omega (arith, length-statements p c.args.statements.now c.requires.statements, c.requires.formed.body.size, statement_count-le p.body)

pub first_instances-requires-clause-ascend : goal.first_instances-requires-clause-ascend
first_instances-requires-clause-ascend c =
    subst Ascending (sym c.deref.ensures.value) (body_ascending (program_of c.args.program.now).body c.args.live.now.list.items c.requires.live)

pub first_instances-requires-clause-below : goal.first_instances-requires-clause-below
first_instances-requires-clause-below c =
    let p = program_of c.args.program.now in
    let count = length c.args.statements.now in
    subst (λ (xs : List Instance). AreBelow count xs) (sym c.deref.ensures.value)
    (instances-below p.body c.args.live.now.list.items count c.requires.live (length-statements p c.args.statements.now c.requires.statements))

pub first_instances-requires-clause-few : goal.first_instances-requires-clause-few
first_instances-requires-clause-few c =
    let raw = c.args.live.now.list.items in
    let few : length (map instance_of raw) ≤ WIRES
    = few_instances (program_of c.args.program.now) (map instance_of raw) (trees_are_kernels_lem c.args.program.now.body) c.requires.live c.requires.few in
    subst (λ (xs : List Instance). length xs < 4294967296) (sym c.deref.ensures.value) (omega (arith, length-map raw instance_of))

pub first_instances-requires-clause-fits : goal.first_instances-requires-clause-fits
first_instances-requires-clause-fits c =
    let p = program_of c.args.program.now in
    omega (arith, length-statements p c.args.statements.now c.requires.statements, c.requires.formed.body.size, statement_count-le p.body)
