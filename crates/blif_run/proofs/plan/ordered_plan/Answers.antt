use Rattle.std.proofs.Common.{rules, ◌≡◌, ℕ, ◌<◌, ◌+◌, ◌≤◌, List, sym, ◌∙◌, subst, length, map, All, arith}
use Rattle.std.specs.declared.alloc.Global.{Global}
use Rattle.std.specs.declared.vec.Vec.{Vec}
use Rattle.std.proofs.lemmas.List.{length-map}
use Rattle.std.proofs.lemmas.List.Elements.{All-from_recursion}
use Rattle.blif_text.specs.Plain.{plain_circuit, plain_table}
use Rattle.blif_text.proofs.Exports.{described-sound}
use Rattle.run_steps.specs.Plans.{Makes}
use Rattle.run_steps.proofs.Exports.{each-name, reads-within, parts-within}
use Rattle.blif_run.specs.Loops.{equation_of, equations_of}
use Rattle.blif_run.specs.Plans.{given_names}
use Rattle.blif_run.specs.Truths.{step_at}
use Rattle.blif_run.proofs.CircuitEquations.{sound-equations}
use Rattle.blif_run.proofs.Resolving.{tables-count, each-input, planned}
use Rattle.blif_run.proofs.plan.ordered_plan.Goals as goal

pub table_plan-requires-clause-few : goal.table_plan-requires-clause-few
table_plan-requires-clause-few c =
    let circuit = plain_circuit c.args.blif.now in
    let sound = described-sound c.requires.described.0 circuit c.requires.described.1 in
    rw c.deref-3.ensures.value (All-from_recursion (λ t. length t.inputs ≤ 8) circuit.tables sound.narrow)

pub table_plan-requires-clause-fits : goal.table_plan-requires-clause-fits
table_plan-requires-clause-fits c =
    let circuit = plain_circuit c.args.blif.now in
    let sound = described-sound c.requires.described.0 circuit c.requires.described.1 in
    let own = sound-equations circuit sound in
    let resolved = c.args.resolved.now in
    let all = each-name (given_names circuit) (equations_of circuit) own _ _ _ _ c.requires.resolved in
    let count = tables-count circuit sound _ _ _ _ c.requires.resolved in
    let a = length-map resolved.names.items (λ w. w.now) in
    let b = length-map c.args.blif.now.tables.items plain_table in
    rw c.deref-3.ensures.value (omega (arith, all, count, a, b, c.len.ensures))

pub table_plan-requires-clause-each_table : goal.table_plan-requires-clause-each_table
table_plan-requires-clause-each_table c =
    let circuit = plain_circuit c.args.blif.now in
    let sound = described-sound c.requires.described.0 circuit c.requires.described.1 in
    let count = tables-count circuit sound _ _ _ _ c.requires.resolved in
    let a = length-map c.args.resolved.now.reads.items (λ r. r.items) in
    let b = length-map c.args.blif.now.tables.items plain_table in
    rw (c.deref-4.ensures.value, c.deref-3.ensures.value) (omega (arith, count, a, b))

pub table_plan-requires-clause-within : goal.table_plan-requires-clause-within
table_plan-requires-clause-within c =
    let circuit = plain_circuit c.args.blif.now in
    let sound = described-sound c.requires.described.0 circuit c.requires.described.1 in
    let own = sound-equations circuit sound in
    let resolved = c.args.resolved.now in
    let reads = resolved.reads.items in
    let within = reads-within (given_names circuit) (equations_of circuit) own _ _ _ _ c.requires.resolved in
    let all = each-name (given_names circuit) (equations_of circuit) own _ _ _ _ c.requires.resolved in
    let a = length-map resolved.names.items (λ w. w.now) in
    let n : resolved.first + length (map (λ r. r.items) reads) ≡ c.len.result = omega (arith, all, a, c.len.ensures) in
    rw c.deref-4.ensures.value (parts-within (λ r. r.items) c.len.result reads
    (subst (λ m. All (λ slots. All (λ slot. slot < m) slots) (map (λ r. r.items) reads)) n within))

pub table_plan-requires-clause-each_input : goal.table_plan-requires-clause-each_input
table_plan-requires-clause-each_input c =
    let circuit = plain_circuit c.args.blif.now in
    let sound = described-sound c.requires.described.0 circuit c.requires.described.1 in
    rw (c.deref-4.ensures.value, c.deref-3.ensures.value) (each-input circuit sound _ _ _ _ c.requires.resolved)

pub table_plan-requires-clause-nodes : goal.table_plan-requires-clause-nodes
table_plan-requires-clause-nodes c =
    let circuit = plain_circuit c.args.blif.now in
    let h = c.requires.order in
    let a = length-map c.args.blif.now.tables.items plain_table in
    let b = length-map circuit.tables equation_of in
    λ k d low.
    let inside = h.against.nodes k d low in
    rw c.deref-3.ensures.value (omega (arith, inside, h.each_node, a, b))

pub returns : goal.returns
returns c =
    let circuit = plain_circuit c.args.blif.now in
    let sound = described-sound c.requires.described.0 circuit c.requires.described.1 in
    let resolved = c.args.resolved.now in
    let first = resolved.first in
    let order = c.args.order.now in
    let plan = c.in_ok-tables.tables in
    let a = length-map resolved.names.items (λ w. w.now) in
    let count : c.len.result ≡ length resolved.names.items = search rules in
    let named = c.in_ok-tables.ensures.named ∙ count ∙ sym a in
    let makes : Makes plan (map (step_at circuit.tables first (map (λ r. r.items) resolved.reads.items)) order) =
    subst (λ ts. Makes plan (map (step_at (map plain_table ts) first (map (λ r. r.items) resolved.reads.items)) order)) c.deref-3.ensures.value
    (subst (λ (rs : List (Vec ℕ Global)). Makes plan (map (step_at (map plain_table c.deref-3.result.now) first (map (λ r. r.items) rs)) order))
    c.deref-4.ensures.value
    c.in_ok-tables.ensures.makes) in
    planned circuit sound _ _ _ _ c.requires.resolved order plan _ _ named c.requires.order makes
    (rw (sym c.deref.ensures.value) c.in_ok-sources.ensures) (rw (sym c.deref-2.ensures.value) c.in_ok-shown.ensures)
