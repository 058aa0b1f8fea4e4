use Rattle.std.proofs.Common.{[], sym, ap, ◌∙◌, arith}
use Rattle.std.specs.Cmp.Lexicographic.{nat_list_eq_equiv}
use Rattle.std.proofs.lemmas.List.{get_or_default}
use Rattle.base_types.specs.Names.{is_same_name}
use Rattle.run_trace_io.proofs.Positions.{position-differ}
use Rattle.run_trace_io.proofs.places.place_of.Goals as goal

pub returns-then-eq : goal.returns-then-eq
returns-then-eq c =
    let inputs = c.args.inputs.now in
    let i = c.in-Some.place.now in
    let at = get_or_default inputs i [] c.index-inputs-place.result (omega arith) in
    sym (position-differ is_same_name nat_list_eq_equiv inputs c.args.name.now i [] c.requires (omega arith)
    (ap (is_same_name c.args.name.now) (at ∙ sym c.index-inputs-place.is ∙ sym c.bytes.ensures) ∙ sym c.if-eq.ensures))
