use Rattle.std.proofs.Common.{◌≡◌, ◌+◌, ◌<◌, ◌≤◌, ◌++◌, ◌∷◌, [], length, map, get_or, refl, sym, ap, ◌∙◌, subst, arith}
use Rattle.std.proofs.lemmas.List.{length-map}
use Rattle.base_types.specs.declared.bounds.TheConstants.Limits.{WIRES}
use Rattle.base_types.specs.CodeSet.{members}
use Rattle.est_kernel.specs.Plain.{program_of, term_of, outgoing_count}
use Rattle.est_kernel.proofs.Exports.{trees_are_kernels_lem}
use Rattle.grc_graph.specs.declared.wires.Wire.TheVariants.{Out}
use Rattle.std.specs.List.{range_with_len}
use Rattle.grc_graph.specs.PlainInstances.{instance_of}
use Rattle.grc_graph.specs.Rows.{program_rows, row_at}
use Rattle.grc_graph.specs.WireTables.{is_local, AreRuns}
use Rattle.grc_graph.specs.Wires.{instance_codes}
use Rattle.grc_graph.proofs.WireFilling.{Filled, Filled-none, Filled-more, Filled-all, Filled-few, few_instances}
use Rattle.grc_graph.proofs.RowReads.{statement_read, codes_read, length-statements}
use Rattle.grc_graph.proofs.NeighbourReads.{body_ascending, first_instance, instance_read}
use Rattle.grc_graph.proofs.layout.wire_runs.Goals as goal

pub loop-i-init : goal.loop-i-init
loop-i-init c =
    Filled-none (program_of c.args.program.now) _ _ _ (c.in_ok-push_outgoing.ensures
    ∙ ap (λ l. l ++ map (λ s. Out (record { 0 = s })) (range_with_len c.args.program.now.inputs (outgoing_count (program_of c.args.program.now))))
    c.new-wires.ensures.items)
    (c.in_ok-push.ensures.items ∙ ap (λ l. l ++ outgoing_count (program_of c.args.program.now) ∷ []) c.new-first.ensures.items)

pub instance_codes-set-requires-clause-started : goal.instance_codes-set-requires-clause-started
instance_codes-set-requires-clause-started c =
    let p = program_of c.args.program.now in
    let r = instance_read p.body c.args.live.now.list.items c.deref-instance-items.result.now c.loop-i.i c.requires.live
    c.deref-instance-items.ensures.value (omega arith) in
    (codes_read c.args.codes.now p _ c.requires.codes r.within).started_in

pub instance_codes-set-requires-clause-resumed : goal.instance_codes-set-requires-clause-resumed
instance_codes-set-requires-clause-resumed c =
    let p = program_of c.args.program.now in
    let r = instance_read p.body c.args.live.now.list.items c.deref-instance-items.result.now c.loop-i.i c.requires.live
    c.deref-instance-items.ensures.value (omega arith) in
    (codes_read c.args.codes.now p _ c.requires.codes r.within).resumed_in

pub bounds-statements-path : goal.bounds-statements-path
bounds-statements-path c =
    let p = program_of c.args.program.now in
    let r = instance_read p.body c.args.live.now.list.items c.deref-instance-items.result.now c.loop-i.i c.requires.live
    c.deref-instance-items.ensures.value (omega arith) in
    omega (arith, r.within, length-statements p c.args.statements.now c.requires.statements)

pub bounds-statements-path-in-loop-i : goal.bounds-statements-path-in-loop-i
bounds-statements-path-in-loop-i c =
    let p = program_of c.args.program.now in
    let r = instance_read p.body c.args.live.now.list.items c.deref-instance-items.result.now c.loop-i.i c.requires.live
    c.deref-instance-items.ensures.value (omega arith) in
    omega (arith, r.within, length-statements p c.args.statements.now c.requires.statements)

pub overflow_cast-i : goal.overflow_cast-i
overflow_cast-i c =
    let p = program_of c.args.program.now in
    let few : length (map instance_of c.args.live.now.list.items) ≤ WIRES
    = few_instances p (map instance_of c.args.live.now.list.items) (trees_are_kernels_lem c.args.program.now.body) c.requires.live c.requires.few in
    let inside : c.loop-i.i < length c.args.live.now.list.items = omega (arith, ap length c.deref-instance-items.ensures.value) in
    omega (arith, length-map c.args.live.now.list.items instance_of)

pub loop-i-preserved : goal.loop-i-preserved
loop-i-preserved c =
    let p = program_of c.args.program.now in
    let raw = c.args.live.now.list.items in
    let insts = map instance_of raw in
    let i = c.loop-i.i in
    let y = get_or c.deref-instance-items.result.now i first_instance in
    let r = instance_read p.body raw c.deref-instance-items.result.now i c.requires.live c.deref-instance-items.ensures.value (omega arith) in
    let inside : i < length raw = r.inside in
    let statement = ap (λ l. l.statement) (statement_read p c.args.statements.now y.path.0 c.index-statements-path.result c.requires.statements r.within
    c.index-statements-path.is) in
    let read = codes_read c.args.codes.now p y.path.0 c.requires.codes r.within in
    subst (λ l. Filled p insts (i + 1) c.push_run.new.wires.items l) (sym c.in_ok-push-2.ensures.items)
    (Filled-more p insts i c.loop-i.wires.items c.push_run.new.wires.items c.loop-i.first.items c.is_local-local.result
    (members c.instance_codes-set.result) c.len.result
    c.loop-i.invariant (omega (arith, length-map raw instance_of))
    (c.is_local-local.ensures ∙ ap (λ s. is_local (term_of s.body.now)) (sym c.index-statements-path.is) ∙ ap is_local statement
    ∙ ap (λ x. is_local (row_at (program_rows p) x.path).statement) (sym r.named))
    (c.instance_codes-set.ensures ∙ read.codes (instance_of y).layer
    ∙ ap (λ x. instance_codes (row_at (program_rows p) x.path).statement x.layer) (sym r.named))
    c.in_ok-push_run.ensures (omega arith))

pub overflow_cast-len : goal.overflow_cast-len
overflow_cast-len c =
    let p = program_of c.args.program.now in
    let raw = c.args.live.now.list.items in
    let insts = map instance_of raw in
    let i = c.loop-i.i in
    let y = get_or c.deref-instance-items.result.now i first_instance in
    let r = instance_read p.body raw c.deref-instance-items.result.now i c.requires.live c.deref-instance-items.ensures.value (omega arith) in
    let inside : i < length raw = r.inside in
    let statement = ap (λ l. l.statement) (statement_read p c.args.statements.now y.path.0 c.index-statements-path.result c.requires.statements r.within
    c.index-statements-path.is) in
    let read = codes_read c.args.codes.now p y.path.0 c.requires.codes r.within in
    let new : length c.push_run.new.wires.items ≤ WIRES
    = Filled-few p insts (i + 1) c.push_run.new.wires.items _ (trees_are_kernels_lem c.args.program.now.body) c.requires.live c.requires.few
    (Filled-more p insts i c.loop-i.wires.items c.push_run.new.wires.items c.loop-i.first.items c.is_local-local.result (members c.instance_codes-set.result)
    (length c.push_run.new.wires.items)
    c.loop-i.invariant (omega (arith, length-map raw instance_of))
    (c.is_local-local.ensures ∙ ap (λ s. is_local (term_of s.body.now)) (sym c.index-statements-path.is) ∙ ap is_local statement
    ∙ ap (λ x. is_local (row_at (program_rows p) x.path).statement) (sym r.named))
    (c.instance_codes-set.ensures ∙ read.codes (instance_of y).layer
    ∙ ap (λ x. instance_codes (row_at (program_rows p) x.path).statement x.layer) (sym r.named))
    c.in_ok-push_run.ensures refl) in
    omega arith

pub returns-clause-wires : goal.returns-clause-wires
returns-clause-wires c =
    let p = program_of c.args.program.now in
    let raw = c.args.live.now.list.items in
    let end : c.loop-i.i ≡ length (map instance_of raw) = omega (arith, ap length c.deref-instance-items.ensures.value, length-map raw instance_of) in
    Filled-all p (map instance_of raw) c.loop-i.i _ _ (trees_are_kernels_lem c.args.program.now.body) c.requires.live end c.loop-i.invariant

pub returns-clause-tables : goal.returns-clause-tables
returns-clause-tables c =
    let p = program_of c.args.program.now in
    let raw = c.args.live.now.list.items in
    let kernel = trees_are_kernels_lem c.args.program.now.body in
    let few : length (map instance_of raw) ≤ WIRES = few_instances p (map instance_of raw) kernel c.requires.live c.requires.few in
    let all : length c.loop-i.wires.items ≤ WIRES = Filled-few p (map instance_of raw) c.loop-i.i _ _ kernel c.requires.live c.requires.few
    c.loop-i.invariant in
    let end : c.loop-i.i ≡ length raw = omega (arith, ap length c.deref-instance-items.ensures.value) in
    record {
      ascend = body_ascending p.body raw c.requires.live;
      few = omega arith;
      few_instances = omega (arith, length-map raw instance_of);
      interface = omega (arith, c.requires.formed.interface, c.requires.formed.at_most);
      runs = subst (λ n. AreRuns n c.loop-i.wires.items c.loop-i.first.items) end c.loop-i.invariant.runs;
      outs = c.loop-i.invariant.outs;
    }
