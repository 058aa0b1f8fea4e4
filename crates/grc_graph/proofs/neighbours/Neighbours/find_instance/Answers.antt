use Rattle.std.proofs.Common.{◌+◌}
use Rattle.std.specs.Prelude.{slice_index}
use Rattle.grc_graph.specs.PlainInstances.{layer_of}
use Rattle.grc_graph.proofs.InstanceRuns.{run-begins, run-ascends, number_in_run, absent_in_run, absent_past}
use Rattle.grc_graph.proofs.neighbours.Neighbours.find_instance.Goals as goal

pub returns-then-statement-self : goal.returns-then-statement-self
returns-then-statement-self c =
    let t = c.args.self.now in
    absent_past t.list.now t.first_instances.now (record { path = c.args.path; layer = layer_of c.args.layer }) t.statements c.if-statement-self.true

pub slice_bounds-find_place-count : goal.slice_bounds-find_place-count
slice_bounds-find_place-count c =
    let t = c.args.self.now in
    run-begins t.list.now t.first_instances.now c.args.path t.statements c.if-statement-self.false

pub slice_bounds-find_place-start : goal.slice_bounds-find_place-start
slice_bounds-find_place-start c =
    let t = c.args.self.now in
    run-begins t.list.now t.first_instances.now c.args.path t.statements c.if-statement-self.false

pub find_place-requires : goal.find_place-requires
find_place-requires c =
    let t = c.args.self.now in
    let n = c.args.path in
    run-ascends t.list.now (slice_index t.first_instances.now n) (slice_index t.first_instances.now (n + 1))
    (run-begins t.list.now t.first_instances.now n t.statements c.if-statement-self.false) (t.statements.counts.within (n + 1) c.if-statement-self.false)
    t.tables.ascend

pub returns-in-Some : goal.returns-in-Some
returns-in-Some c =
    let t = c.args.self.now in
    let n = c.args.path in
    number_in_run t.list.now (slice_index t.first_instances.now n) (slice_index t.first_instances.now (n + 1)) c.in-Some.place
    (record { path = n; layer = layer_of c.args.layer })
    (run-begins t.list.now t.first_instances.now n t.statements c.if-statement-self.false) (t.statements.counts.within (n + 1) c.if-statement-self.false)
    c.in-Some.ensures

pub returns-in-None : goal.returns-in-None
returns-in-None c =
    let t = c.args.self.now in
    absent_in_run t.list.now t.first_instances.now (record { path = c.args.path; layer = layer_of c.args.layer }) t.statements c.if-statement-self.false
    c.in-None.ensures
