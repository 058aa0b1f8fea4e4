use Rattle.std.proofs.Common.{◌<◌, ◌+◌, sym, length, map, subst, All, arith}
use Rattle.std.proofs.lemmas.List.{length-map}
use Rattle.run_steps.proofs.Exports.{reads-within, each-name, ordered, acyclic, loop, parts-within}
use Rattle.vlog_text.specs.Views.{module_of}
use Rattle.vlog_run.specs.Loops.{equations_of}
use Rattle.vlog_run.specs.Plans.{given_names}
use Rattle.vlog_run.proofs.Described.{described-sound}
use Rattle.vlog_run.proofs.ModuleEquations.{sound-equations}
use Rattle.vlog_run.proofs.plan.assign_order.Goals as goal

pub evaluation_order-requires-clause-each_name : goal.evaluation_order-requires-clause-each_name
evaluation_order-requires-clause-each_name c =
    let design = module_of c.args.design.now in
    let sound = sound-equations design (described-sound c.requires.described.0 design c.requires.described.1) in
    let all = each-name (given_names design) (equations_of design) sound _ _ _ _ c.requires.resolved in
    let a = length-map c.args.resolved.now.names.items (λ w. w.now) in
    let b = length-map c.args.resolved.now.reads.items (λ s. s.items) in
    rw (c.deref.ensures.value, c.deref-2.ensures.value) (omega (arith, all, a, b))

pub evaluation_order-requires-clause-within : goal.evaluation_order-requires-clause-within
evaluation_order-requires-clause-within c =
    let design = module_of c.args.design.now in
    let sound = sound-equations design (described-sound c.requires.described.0 design c.requires.described.1) in
    let first = c.args.resolved.now.first in
    let reads = c.args.resolved.now.reads.items in
    let within = reads-within (given_names design) (equations_of design) sound _ _ _ _ c.requires.resolved in
    let n = length-map reads (λ s. s.items) in
    rw c.deref-2.ensures.value (parts-within (λ s. s.items) (first + length reads) reads
    (subst (λ m. All (λ slots. All (λ slot. slot < first + m) slots) (map (λ s. s.items) reads)) n within))

pub returns-in-Ok-clause-order : goal.returns-in-Ok-clause-order
returns-in-Ok-clause-order c =
    let design = module_of c.args.design.now in
    let sound = sound-equations design (described-sound c.requires.described.0 design c.requires.described.1) in
    let n = length-map c.args.resolved.now.reads.items (λ s. s.items) in
    ordered (given_names design) (equations_of design) sound _ _ _ _ c.requires.resolved c.in-Ok.order.items
    (rw (c.deref-2.ensures.value, sym n) at c.in-Ok.ensures.order)

pub returns-in-Ok-clause-acyclic : goal.returns-in-Ok-clause-acyclic
returns-in-Ok-clause-acyclic c =
    let design = module_of c.args.design.now in
    let sound = sound-equations design (described-sound c.requires.described.0 design c.requires.described.1) in
    acyclic (given_names design) (equations_of design) sound _ _ _ _ c.requires.resolved (rw c.deref-2.ensures.value at c.in-Ok.ensures.no_walk)

pub returns-in-Err-Fault-clause-cyclic : goal.returns-in-Err-Fault-clause-cyclic
returns-in-Err-Fault-clause-cyclic c =
    let design = module_of c.args.design.now in
    let sound = sound-equations design (described-sound c.requires.described.0 design c.requires.described.1) in
    let walked = rw c.in-Err-Fault.field-0-is at c.in-Err-Fault.ensures.walk in
    loop (given_names design) (equations_of design) sound _ _ _ _ c.requires.resolved c.in-Err-Fault.names.items
    (rw (c.deref-2.ensures.value, c.deref.ensures.value) at walked)
