use Rattle.std.proofs.Common.{◌≡◌, ◌-◌, ◌∙◌, ap, arith, length, drop, length-drop}
use Rattle.std.proofs.lemmas.List.{take_all}
use Rattle.std.specs.List.{prefix_len}
use Rattle.std.proofs.lemmas.List.Sums.{prefix_len-le-length}
use Rattle.grc_formulas.specs.WordLaws.{is_end_upto}
use Rattle.net_cycles.proofs.formulas.ends_from.Goals as goal

pub returns-clause-within : goal.returns-clause-within
returns-clause-within c =
    let test = is_end_upto c.args.instance.0 c.args.code in
    let rest = drop c.args.first c.args.wires.now in
    let count : c.ends_in_front.result ≡ prefix_len test rest =
    c.ends_in_front.ensures ∙ ap (prefix_len test) (take_all (length c.args.wires.now - c.args.first) rest
    (omega (arith, length-drop c.args.first c.args.wires.now))) in
    omega (arith, prefix_len-le-length test rest, length-drop c.args.first c.args.wires.now, count)
