use Rattle.std.proofs.Common.{◌∙◌, ◌++◌, sym, ap, Some, None, refl}
use Rattle.std.proofs.lemmas.List.{append-nil}
use Rattle.grc_graph.specs.Neighbouring.{names_in}
use Rattle.grc_dep.specs.Names.{wire_named, number_of}
use Rattle.grc_dep.proofs.Founds.{found_edge}
use Rattle.grc_dep.proofs.linking.push_edge.Goals as goal

pub returns-in-None : goal.returns-in-None
returns-in-None c =
    let wires = names_in c.args.lookups.now.tables.now in
    let none = found_edge wires (wire_named c.args.from) (wire_named c.args.to) None (number_of wires (wire_named c.args.to)) (sym c.in-None.ensures) refl in
    sym (ap (λ l. c.args.pairs.now.items ++ l) none ∙ append-nil c.args.pairs.now.items)

pub returns-in-None-find : goal.returns-in-None-find
returns-in-None-find c =
    let wires = names_in c.args.lookups.now.tables.now in
    let none = found_edge wires (wire_named c.args.from) (wire_named c.args.to) (Some c.in-Some.from.0) None (sym c.in-Some.ensures)
    (sym c.in-None-find.ensures) in
    sym (ap (λ l. c.args.pairs.now.items ++ l) none ∙ append-nil c.args.pairs.now.items)

pub returns-in_ok-push-in-Some-find : goal.returns-in_ok-push-in-Some-find
returns-in_ok-push-in-Some-find c =
    let wires = names_in c.args.lookups.now.tables.now in
    let one = found_edge wires (wire_named c.args.from) (wire_named c.args.to) (Some c.in-Some.from.0) (Some c.in-Some-find.to.0) (sym c.in-Some.ensures)
    (sym c.in-Some-find.ensures) in
    c.in_ok-push-in-Some-find.ensures.items ∙ ap (λ l. c.args.pairs.now.items ++ l) (sym one)
