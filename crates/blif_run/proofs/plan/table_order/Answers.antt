use Rattle.std.proofs.Common.{◌<◌, ◌+◌, sym, subst, length, map, All, arith}
use Rattle.std.proofs.lemmas.List.{length-map}
use Rattle.blif_text.specs.Plain.{plain_circuit}
use Rattle.blif_text.proofs.Exports.{described-sound}
use Rattle.run_steps.proofs.Exports.{reads-within, each-name, ordered, acyclic, loop, parts-within}
use Rattle.blif_run.specs.Loops.{equations_of}
use Rattle.blif_run.specs.Plans.{given_names}
use Rattle.blif_run.proofs.CircuitEquations.{sound-equations}
use Rattle.blif_run.proofs.plan.table_order.Goals as goal

pub evaluation_order-requires-clause-each_name : goal.evaluation_order-requires-clause-each_name
evaluation_order-requires-clause-each_name c =
    let circuit = plain_circuit c.args.blif.now in
    let sound = described-sound c.requires.described.0 circuit c.requires.described.1 in
    let own = sound-equations circuit sound in
    let all = each-name (given_names circuit) (equations_of circuit) own _ _ _ _ c.requires.resolved in
    let a = length-map c.args.resolved.now.names.items (λ w. w.now) in
    let b = length-map c.args.resolved.now.reads.items (λ s. s.items) in
    rw (c.deref.ensures.value, c.deref-2.ensures.value) (omega (arith, all, a, b))

pub evaluation_order-requires-clause-within : goal.evaluation_order-requires-clause-within
evaluation_order-requires-clause-within c =
    let circuit = plain_circuit c.args.blif.now in
    let sound = described-sound c.requires.described.0 circuit c.requires.described.1 in
    let own = sound-equations circuit sound in
    let first = c.args.resolved.now.first in
    let reads = c.args.resolved.now.reads.items in
    let within = reads-within (given_names circuit) (equations_of circuit) own _ _ _ _ c.requires.resolved in
    let n = length-map reads (λ s. s.items) in
    rw c.deref-2.ensures.value (parts-within (λ s. s.items) (first + length reads) reads
    (subst (λ m. All (λ slots. All (λ slot. slot < first + m) slots) (map (λ s. s.items) reads)) n within))

pub returns-in-Ok-clause-order : goal.returns-in-Ok-clause-order
returns-in-Ok-clause-order c =
    let circuit = plain_circuit c.args.blif.now in
    let sound = described-sound c.requires.described.0 circuit c.requires.described.1 in
    let own = sound-equations circuit sound in
    let n = length-map c.args.resolved.now.reads.items (λ s. s.items) in
    ordered (given_names circuit) (equations_of circuit) own _ _ _ _ c.requires.resolved c.in-Ok.order.items
    (rw (c.deref-2.ensures.value, sym n) at c.in-Ok.ensures.order)

pub returns-in-Ok-clause-acyclic : goal.returns-in-Ok-clause-acyclic
returns-in-Ok-clause-acyclic c =
    let circuit = plain_circuit c.args.blif.now in
    let sound = described-sound c.requires.described.0 circuit c.requires.described.1 in
    let own = sound-equations circuit sound in
    acyclic (given_names circuit) (equations_of circuit) own _ _ _ _ c.requires.resolved (rw c.deref-2.ensures.value at c.in-Ok.ensures.no_walk)

pub returns-in-Err-Fault-clause-cyclic : goal.returns-in-Err-Fault-clause-cyclic
returns-in-Err-Fault-clause-cyclic c =
    let circuit = plain_circuit c.args.blif.now in
    let sound = described-sound c.requires.described.0 circuit c.requires.described.1 in
    let own = sound-equations circuit sound in
    let walked = rw c.in-Err-Fault.field-0-is at c.in-Err-Fault.ensures.walk in
    loop (given_names circuit) (equations_of circuit) own _ _ _ _ c.requires.resolved c.in-Err-Fault.names.items
    (rw (c.deref-2.ensures.value, c.deref.ensures.value) at walked)
