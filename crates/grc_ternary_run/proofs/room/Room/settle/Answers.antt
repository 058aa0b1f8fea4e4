use Rattle.std.proofs.Common.{[], length, take, ap, ◌∙◌}
use Rattle.grc_evaluate.specs.Evaluations.{surroundings_of}
use Rattle.grc_formulas.specs.Rows.{row_values}
use Rattle.grc_ternary_gates.specs.Systems.{statuses_of}
use Rattle.grc_ternary_run.proofs.Settling.{settled-by}
use Rattle.grc_ternary_run.proofs.room.Room.settle.Goals as goal

pub returns-clause-settled : goal.returns-clause-settled
returns-clause-settled c =
    let w = c.args.words.now in
    let s = c.args.start.now in
    let wires = c.deref.result.now in
    let rows = take w.early c.deref-3.result.now in
    settled-by c.args.graph.now w c.args.system.now s wires rows c.deref-4.result.now (statuses_of c.settle.new.self.values.items) c.requires.begins
    c.requires.plain c.requires.system (ap length c.deref.ensures.value ∙ c.requires.room.wires)
    (ap (take w.early) c.deref-3.ensures.value ∙ c.fill_rows.ensures.values
    ∙ ap (λ xs. row_values (surroundings_of s wires) [] (take w.early xs)) c.deref-2.ensures.value)
    (c.deref-4.ensures.value ∙ c.put_sources.ensures) c.settle.ensures.solved
