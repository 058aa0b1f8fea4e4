use Rattle.std.proofs.Common.{length, sym, ap, ◌∙◌, subst}
use Rattle.est_kernel.specs.Plain.{term_of}
use Rattle.grc_graph.specs.PlainGraphs.{names_of}
use Rattle.grc_share.specs.LeastMembers.{AreLeast, AreLeastWires}
use Rattle.grc_share.specs.SharedInstances.{body_sharing}
use Rattle.grc_share.proofs.SharedNumbering.{graph-settled, graph-shared}
use Rattle.grc_share.proofs.sharing.shared_wires.Goals as goal

pub least_wires-requires-clause-least : goal.least_wires-requires-clause-least
least_wires-requires-clause-least c =
    let g = c.args.graph.now in
    subst (AreLeast (body_sharing (term_of g.program.body)) g.instances.list.items) (sym c.deref-3.ensures.value) c.in_ok-instances.ensures.least

pub number_members-requires-clause-settled : goal.number_members-requires-clause-settled
number_members-requires-clause-settled c =
    let g = c.args.graph.now in
    let K = body_sharing (term_of g.program.body) in
    graph-settled g c.requires c.deref-4.result.now (ap length c.deref-4.ensures.value ∙ c.in_ok-first.ensures.each)
    (subst (AreLeastWires K (names_of g)) (sym c.deref-4.ensures.value) c.in_ok-first.ensures.least)

pub returns : goal.returns
returns c =
    let g = c.args.graph.now in
    let K = body_sharing (term_of g.program.body) in
    record {
      wires = graph-shared g c.requires c.deref-4.result.now (ap length c.deref-4.ensures.value ∙ c.in_ok-first.ensures.each)
          (subst (AreLeastWires K (names_of g)) (sym c.deref-4.ensures.value) c.in_ok-first.ensures.least)
          c.in_ok-least.field-0.least.items c.in_ok-least.field-0.numbers.items c.in_ok-least.ensures.least c.in_ok-least.ensures.each
          c.in_ok-least.ensures.within c.in_ok-least.ensures.numbers;
      each_instance = c.in_ok-instances.ensures.each;
      least = c.in_ok-instances.ensures.least;
      each_statement = c.in_ok-loops.ensures.each;
      counts = c.in_ok-loops.ensures.counts;
    }
