use Rattle.std.proofs.Common.{[], sym, ap, ◌∙◌, arith}
use Rattle.std.proofs.lemmas.List.{get_or_default}
use Rattle.base_types.specs.Names.{is_same_name}
use Rattle.run_trace_io.proofs.Positions.{position-first, position-none}
use Rattle.run_trace_io.proofs.places.first_place.Goals as goal

pub returns-then-eq : goal.returns-then-eq
returns-then-eq c =
    let inputs = c.args.inputs.now in
    let i = c.loop-place.place in
    let at = get_or_default inputs i [] c.index-inputs-place.result (omega arith) in
    sym (position-first (is_same_name c.args.name.now) inputs i [] (omega arith) c.loop-place.invariant
    (ap (is_same_name c.args.name.now) (at ∙ sym c.index-inputs-place.is ∙ sym c.bytes.ensures) ∙ sym c.if-eq.ensures))

pub returns : goal.returns
returns c = sym (position-none (is_same_name c.args.name.now) c.args.inputs.now c.loop-place.place [] (omega arith) c.loop-place.invariant)
