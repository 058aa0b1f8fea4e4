use Rattle.std.proofs.Common.{rules, sym, subst}
use Rattle.base_types.specs.declared.indices.WireId.{WireId}
use Rattle.est_kernel.specs.Plain.{term_of}
use Rattle.grc_graph.specs.PlainGraphs.{names_of, wire_at}
use Rattle.grc_graph.specs.WireTables.{IsNumberOf}
use Rattle.grc_share.specs.LeastMembers.{AreLeastWires}
use Rattle.grc_share.specs.SharedInstances.{body_sharing}
use Rattle.grc_share.specs.SharedWires.{shared_wire}
use Rattle.grc_share.proofs.WireLeast.{each-more}
use Rattle.grc_share.proofs.least_members.least_wires.Goals as goal

pub loop-w-preserved : goal.loop-w-preserved
loop-w-preserved c =
    let g = c.args.graph.now in
    let K = body_sharing (term_of g.program.body) in
    record {
      each = search rules;
      least = subst (AreLeastWires K (names_of g)) (sym c.in_ok-push.ensures.items)
          (each-more (λ w (d : WireId). IsNumberOf (names_of g) d.0 (shared_wire K (wire_at (names_of g) w))) c.loop-w.wires.items
          c.least_wire-first.result c.loop-w.w c.loop-w.invariant.each c.loop-w.invariant.least c.least_wire-first.ensures);
    }
