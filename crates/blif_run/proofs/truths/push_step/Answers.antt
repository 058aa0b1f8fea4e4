use Rattle.std.proofs.Common.{rules, ◌≡◌, ◌^◌, length, map, ap, sym, ◌∙◌}
use Rattle.blif_text.specs.Plain.{plain_row}
use Rattle.blif_run.proofs.TruthTables.{length-truth}
use Rattle.blif_run.proofs.truths.push_step.Goals as goal

pub push_table-requires-clause-each_place : goal.push_table-requires-clause-each_place
push_table-requires-clause-each_place c =
    let wide : c.len.result ≡ length c.args.table.now.inputs.items = search rules in
    ap length (c.deref-2.ensures.value ∙ c.in_ok-truth.ensures) ∙ length-truth c.len.result (map plain_row c.deref.result.now)
    ∙ ap (λ n. 2 ^ n) (wide ∙ sym c.requires.each_input)
