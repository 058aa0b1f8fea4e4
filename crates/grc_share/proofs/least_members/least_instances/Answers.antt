use Rattle.std.proofs.Common.{rules, sym, subst}
use Rattle.est_kernel.specs.Plain.{term_of}
use Rattle.grc_share.specs.LeastMembers.{AreLeast, IsLeastMember}
use Rattle.grc_share.specs.SharedInstances.{body_sharing}
use Rattle.grc_share.proofs.WireLeast.{each-more}
use Rattle.grc_share.proofs.least_members.least_instances.Goals as goal

pub least_instance-first-requires-clause-least : goal.least_instance-first-requires-clause-least
least_instance-first-requires-clause-least c =
    let g = c.args.graph.now in
    subst (AreLeast (body_sharing (term_of g.program.body)) g.instances.list.items) (sym c.deref.ensures.value) c.loop-i.invariant.least

pub loop-i-preserved : goal.loop-i-preserved
loop-i-preserved c =
    let g = c.args.graph.now in
    let K = body_sharing (term_of g.program.body) in
    record {
      each = search rules;
      least = subst (AreLeast K g.instances.list.items) (sym c.in_ok-push.ensures.items)
          (each-more (IsLeastMember K g.instances.list.items) c.loop-i.least.items c.least_instance-first.result c.loop-i.i c.loop-i.invariant.each
          c.loop-i.invariant.least c.least_instance-first.ensures);
    }
