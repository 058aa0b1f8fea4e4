use Rattle.std.proofs.Common.{map, ap, ◌∙◌}
use Rattle.grc_formulas.specs.Rows.{source_value}
use Rattle.grc_evaluate.specs.Evaluations.{surroundings_of}
use Rattle.grc_evaluate.proofs.Exports.{outputs-mean}
use Rattle.grc_ternary_run.proofs.Reading.{paused-means}
use Rattle.grc_ternary_run.proofs.room.Room.show.Goals as goal

pub returns-clause-outputs : goal.returns-clause-outputs
returns-clause-outputs c =
    let s = c.args.start.now in
    let w = c.args.words.now in
    let wires = c.args.self.now.wires.items in
    let rows = c.args.self.now.rows.items in
    c.put_values.ensures
    ∙ ap (λ xs. map (source_value (surroundings_of s xs) c.deref-2.result.now) c.deref-3.result.now) c.deref.ensures.value
    ∙ ap (λ xs. map (source_value (surroundings_of s wires) xs) c.deref-3.result.now) c.deref-2.ensures.value
    ∙ ap (map (source_value (surroundings_of s wires) rows)) c.deref-3.ensures.value
    ∙ outputs-mean c.args.graph.now w s wires rows c.requires.late

pub returns-clause-paused : goal.returns-clause-paused
returns-clause-paused c =
    let s = c.args.start.now in
    let w = c.args.words.now in
    let wires = c.args.self.now.wires.items in
    let rows = c.args.self.now.rows.items in
    c.source_value.ensures ∙ ap (λ xs. source_value (surroundings_of s xs) c.deref-5.result.now w.paused) c.deref-4.ensures.value
    ∙ ap (λ xs. source_value (surroundings_of s wires) xs w.paused) c.deref-5.ensures.value
    ∙ paused-means c.args.graph.now w s wires rows c.requires.late
