use Rattle.std.proofs.Common.{◌≡◌, rules, length, sym, subst, arith}
use Rattle.est_kernel.specs.Plain.{term_of}
use Rattle.grc_share.specs.LeastMembers.{AreLeast}
use Rattle.grc_share.specs.Renamings.{AreLeastMembers, AreNumbersOf}
use Rattle.grc_share.specs.SharedInstances.{body_sharing}
use Rattle.grc_share.proofs.GraphParts.{least-few, least-of, numbers-of, numbers-read}
use Rattle.grc_share.proofs.graphs.graph_parts.Goals as goal

pub shared_instances-requires-clause-least : goal.shared_instances-requires-clause-least
shared_instances-requires-clause-least c =
    let g = c.args.graph.now in
    subst (AreLeast (body_sharing (term_of g.program.body)) g.instances.list.items) (sym c.deref.ensures.value) c.requires.found.least

pub name_parts-requires-clause-numbers : goal.name_parts-requires-clause-numbers
name_parts-requires-clause-numbers c =
    let g = c.args.graph.now in
    let s = c.args.shared in
    let made = c.in_ok-instances.instances in
    numbers-read g s.instances.items made.numbers.items c.deref-2.result.now c.deref-3.result.now s.numbers.items c.deref-4.result.now
    c.deref-2.ensures.value c.deref-3.ensures.value c.deref-4.ensures.value
    (numbers-of g c.requires.built s.least.items s.numbers.items c.requires.found.wires s.instances.items made.numbers.items
    c.requires.found.each_instance c.requires.found.least c.in_ok-instances.ensures.each c.in_ok-instances.ensures.numbers)

pub name_parts-requires-clause-least : goal.name_parts-requires-clause-least
name_parts-requires-clause-least c =
    let g = c.args.graph.now in
    let s = c.args.shared in
    subst (AreLeastMembers g) (sym c.deref-5.ensures.value) (least-of g c.requires.built s.least.items s.numbers.items c.requires.found.wires)

pub shared_formulas-requires-clause-numbers : goal.shared_formulas-requires-clause-numbers
shared_formulas-requires-clause-numbers c =
    let g = c.args.graph.now in
    let s = c.args.shared in
    let made = c.in_ok-instances.instances in
    numbers-read g s.instances.items made.numbers.items c.deref-2.result.now c.deref-3.result.now s.numbers.items c.deref-4.result.now
    c.deref-2.ensures.value c.deref-3.ensures.value c.deref-4.ensures.value
    (numbers-of g c.requires.built s.least.items s.numbers.items c.requires.found.wires s.instances.items made.numbers.items
    c.requires.found.each_instance c.requires.found.least c.in_ok-instances.ensures.each c.in_ok-instances.ensures.numbers)

pub shared_formulas-requires-clause-least : goal.shared_formulas-requires-clause-least
shared_formulas-requires-clause-least c =
    let g = c.args.graph.now in
    let s = c.args.shared in
    subst (AreLeastMembers g) (sym c.deref-6.ensures.value) (least-of g c.requires.built s.least.items s.numbers.items c.requires.found.wires)

pub overflow_cast-len : goal.overflow_cast-len
overflow_cast-len c =
    let g = c.args.graph.now in
    let s = c.args.shared in
    let count : c.len.result ≡ length s.least.items = search rules in
    omega (arith, count, least-few g c.requires.built s.least.items s.numbers.items c.requires.found.wires, g.tables.few)

pub place_tables-requires-clause-numbers : goal.place_tables-requires-clause-numbers
place_tables-requires-clause-numbers c =
    let g = c.args.graph.now in
    let s = c.args.shared in
    let made = c.in_ok-instances.instances in
    numbers-read g s.instances.items made.numbers.items c.deref-2.result.now c.deref-3.result.now s.numbers.items c.deref-4.result.now
    c.deref-2.ensures.value c.deref-3.ensures.value c.deref-4.ensures.value
    (numbers-of g c.requires.built s.least.items s.numbers.items c.requires.found.wires s.instances.items made.numbers.items
    c.requires.found.each_instance c.requires.found.least c.in_ok-instances.ensures.each c.in_ok-instances.ensures.numbers)
