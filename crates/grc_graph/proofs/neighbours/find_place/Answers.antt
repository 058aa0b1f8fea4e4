use Rattle.std.proofs.Common.{◌∙◌, sym, ap, arith}
use Rattle.std.proofs.lemmas.List.{get_or_default}
use Rattle.grc_graph.specs.PlainInstances.{instance_of}
use Rattle.grc_graph.specs.WireTables.{comes_before}
use Rattle.grc_graph.proofs.NeighbourReads.{found_instance, absent_instance, first_instance}
use Rattle.grc_graph.proofs.neighbours.find_place.Goals as goal
use Rattle.grc_graph.proofs.neighbours.find_place.Goals.{else-place-list-via-then-place-list+else-not-comes_before}
use Rattle.grc_graph.proofs.neighbours.find_place.Goals.{else-place-list-via-else-place-list}

pub returns-then-not-comes_before : goal.returns-then-not-comes_before
returns-then-not-comes_before c =
    let insts = c.args.list.now in
    let p = c.place_of-place.result in
    let x = instance_of c.args.wanted in
    found_instance insts x p c.place_of-place.ensures.place c.if-place-list.true
    (ap (λ y. comes_before x (instance_of y)) (get_or_default insts p first_instance _ c.if-place-list.true) ∙ sym c.comes_before.ensures
    ∙ c.if-not-comes_before.true)

pub returns-else-place-list : goal.returns-else-place-list
returns-else-place-list c =
    let insts = c.args.list.now in
    let p = c.place_of-place.result in
    let x = instance_of c.args.wanted in
    absent_instance insts x p c.requires c.place_of-place.ensures.place
    (λ l. elim c.else-place-list.branch [
      | else-place-list-via-then-place-list+else-not-comes_before w ↦
          ap (λ y. comes_before x (instance_of y)) (get_or_default insts p first_instance _ l) ∙ sym w.comes_before.ensures ∙ w.if-not-comes_before.false
      | else-place-list-via-else-place-list w ↦ absurd (omega arith)
    ])
