use Rattle.std.proofs.Common.{length, refl, sym, ap, ◌∙◌}
use Rattle.std.proofs.lemmas.Bool.{false≢true}
use Rattle.grc_evaluate.specs.declared.rows.Start.{Start}
use Rattle.grc_ternary_run.specs.Rooms.{are_unknown}
use Rattle.grc_ternary_run.proofs.Reacting.{found-by, found-many, keeps-by, stays-by, steps-by}
use Rattle.grc_ternary_run.proofs.state.State.react.Goals as goal

pub returns-then-mark_unknown-clause-stays : goal.returns-then-mark_unknown-clause-stays
returns-then-mark_unknown-clause-stays c =
    let g = c.args.graph.now in
    let s : Start = record { boot = c.args.self.now.boot; selected = c.deref.result; inputs = c.args.inputs } in
    let vs = c.settle.new.self.solver.values.items in
    let found = found-by g c.args.words.now c.args.system.now c.args.self.now s c.args.inputs.now vs c.requires.reads c.settle.ensures.room.solver.values
    refl c.deref.ensures.value refl c.settle.ensures.settled in
    stays-by g c.args.self.now s c.args.inputs.now vs c.mark_unknown.new.marks.items found
    (c.mark_unknown.ensures.marks ∙ ap (are_unknown (length c.args.self.now.unknown.items)) c.deref-2.ensures.value
    ∙ ap (λ n. are_unknown n vs) c.requires.keeps.unknown)
    (sym c.mark_unknown.ensures.some ∙ c.if-mark_unknown.true)

pub returns-clause-keeps : goal.returns-clause-keeps
returns-clause-keeps c =
    let keeps = c.requires.keeps in
    record {
      selected = ap length c.copy_from_slice.ensures.items ∙ ap length c.deref-3.ensures.value ∙ c.read_off.ensures.room.next;
      first = λ h. absurd (false≢true h);
      outputs = c.show-paused.ensures.len ∙ keeps.outputs;
      unknown = keeps-by _ _ _ c.mark_unknown.ensures.marks c.deref-2.ensures.value
          (found-many c.args.graph.now c.args.words.now c.args.system.now _ c.requires.reads c.settle.ensures.room.solver.values) keeps.unknown;
      room = c.read_off.ensures.room;
    }

pub returns-clause-steps : goal.returns-clause-steps
returns-clause-steps c =
    let g = c.args.graph.now in
    let s : Start = record { boot = c.args.self.now.boot; selected = c.deref.result; inputs = c.args.inputs } in
    let vs = c.settle.new.self.solver.values.items in
    let found = found-by g c.args.words.now c.args.system.now c.args.self.now s c.args.inputs.now vs c.requires.reads c.settle.ensures.room.solver.values
    refl c.deref.ensures.value refl c.settle.ensures.settled in
    steps-by g c.args.self.now s c.args.inputs.now vs c.read_off.new.self.wires.items c.show-paused.result
    c.mark_unknown.new.marks.items c.show-paused.new.outputs.items c.copy_from_slice.new.self.items found
    (c.mark_unknown.ensures.marks ∙ ap (are_unknown (length c.args.self.now.unknown.items)) c.deref-2.ensures.value
    ∙ ap (λ n. are_unknown n vs) c.requires.keeps.unknown)
    (sym c.mark_unknown.ensures.some ∙ c.if-mark_unknown.false) c.read_off.ensures.wires c.show-paused.ensures.outputs c.show-paused.ensures.paused
    (c.copy_from_slice.ensures.items ∙ c.deref-3.ensures.value ∙ c.read_off.ensures.next)
