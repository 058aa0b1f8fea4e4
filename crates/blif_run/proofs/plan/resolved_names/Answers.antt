use Rattle.std.proofs.Common.{sym, ap, ◌∙◌, length, map, arith}
use Rattle.std.proofs.lemmas.List.{length-map}
use Rattle.net_ir.proofs.Exports.{once-differ}
use Rattle.blif_text.specs.Plain.{plain_circuit, plain_table}
use Rattle.blif_text.specs.Runs.{driven_names}
use Rattle.blif_text.proofs.Exports.{described-sound}
use Rattle.run_steps.proofs.Exports.{driven-count}
use Rattle.blif_run.specs.Loops.{equation_of, equations_of}
use Rattle.blif_run.specs.Plans.{given_names, all_names}
use Rattle.blif_run.proofs.CircuitEquations.{names-are, reads-same}
use Rattle.blif_run.proofs.plan.resolved_names.Goals as goal

pub slot_table-requires : goal.slot_table-requires
slot_table-requires c =
    let circuit = plain_circuit c.args.blif.now in
    let names = ap (map (λ w. w.now)) c.deref.ensures.value ∙ c.in_ok-names.ensures in
    rw names (once-differ (driven_names circuit) (described-sound c.requires.0 circuit c.requires.1).differ)

pub overflow_sub-result : goal.overflow_sub-result
overflow_sub-result c =
    let circuit = plain_circuit c.args.blif.now in
    let wide = length-map c.args.blif.now.tables.items plain_table in
    let all = sym (length-map c.in_ok-names.names.items (λ w. w.now)) ∙ ap length (c.in_ok-names.ensures ∙ sym (names-are circuit))
    ∙ driven-count (given_names circuit) (equations_of circuit) in
    omega (arith, all, wide, length-map circuit.tables equation_of, c.len.ensures, c.len-2.ensures)

pub returns : goal.returns
returns c =
    let circuit = plain_circuit c.args.blif.now in
    let wide = length-map c.args.blif.now.tables.items plain_table in
    let names = c.in_ok-names.ensures ∙ sym (names-are circuit) in
    let all = sym (length-map c.in_ok-names.names.items (λ w. w.now)) ∙ ap length names ∙ driven-count (given_names circuit) (equations_of circuit) in
    let count = length-map circuit.tables equation_of in
    let keys = c.in_ok-slots.ensures ∙ ap (map (λ w. w.now)) c.deref.ensures.value ∙ names in
    record {
      names_are = names;
      keys_are = keys;
      first_is = omega (arith, all, wide, count, c.len.ensures, c.len-2.ensures);
      reads_are = c.in_ok-reads.ensures ∙ rw (keys, c.deref-2.ensures.value) (reads-same (all_names circuit) circuit.tables);
    }
