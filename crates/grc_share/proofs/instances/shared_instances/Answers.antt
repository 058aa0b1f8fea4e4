use Rattle.std.proofs.Common.{rules, ◌≡◌, ◌<◌, length, get_or, sym, ◌∙◌, subst, arith}
use Rattle.std.specs.Prelude.{slice_index}
use Rattle.std.proofs.lemmas.List.{get_or_default, length-map}
use Rattle.base_types.specs.declared.indices.InstId.{InstId}
use Rattle.est_kernel.specs.Plain.{program_of}
use Rattle.grc_graph.specs.PlainGraphs.{instance_at, instances_of}
use Rattle.grc_graph.specs.PlainInstances.{instance_of}
use Rattle.grc_graph.specs.WireTables.{IsNumberOf}
use Rattle.grc_share.specs.LeastMembers.{shared_of}
use Rattle.grc_share.specs.Renamings.{AreInstanceNumbers}
use Rattle.grc_share.specs.SharedGraphs.{shared_instances}
use Rattle.grc_share.specs.SharedInstances.{body_sharing}
use Rattle.grc_share.proofs.InstanceNumbers.{least-names, number-at}
use Rattle.grc_share.proofs.WireLeast.{each-more}
use Rattle.grc_share.proofs.instances.shared_instances.Goals as goal

pub index-requires : goal.index-requires
index-requires c =
    let g = c.args.graph.now in
    let i = c.loop-first.first-index in
    let own = c.in_ok-list.field-0 in
    let low : i < length g.instances.list.items = omega (arith, c.loop-first-test.true, c.requires.each) in
    let first = get_or c.args.least.now i (record { 0 = 0 }) in
    let number = least-names g i first low (c.requires.least i (record { 0 = 0 }) c.loop-first-test.true) in
    omega (arith, number.within, length-map g.instances.list.items instance_of, c.in_ok-list.ensures.each, own.places.ok.0)

pub loop-first-preserved : goal.loop-first-preserved
loop-first-preserved c =
    let g = c.args.graph.now in
    let p = program_of g.program in
    let K = body_sharing p.body in
    let i = c.loop-first.first-index in
    let own = c.in_ok-list.field-0 in
    let low : i < length g.instances.list.items = omega (arith, c.loop-first-test.true, c.requires.each) in
    let first = get_or c.args.least.now i (record { 0 = 0 }) in
    let is = c.requires.least i (record { 0 = 0 }) c.loop-first-test.true in
    let number = least-names g i first low is in
    let within : first.0 < length own.places.items =
    omega (arith, number.within, length-map g.instances.list.items instance_of, c.in_ok-list.ensures.each) in
    let read : slice_index own.places.items first.0 ≡ c.index.result.now =
    get_or_default own.places.items first.0 0 c.index.result.now within ∙ sym c.index.ensures in
    let made = subst (λ n. IsNumberOf (shared_instances p) n (shared_of K (instance_at (instances_of g) i))) read
    (number-at g own.list.items own.places.items i first low is c.in_ok-list.ensures.list c.in_ok-list.ensures.each c.in_ok-list.ensures.places) in
    record {
      each = search rules;
      numbers = subst (AreInstanceNumbers K (instances_of g) (shared_instances p)) (sym c.in_ok-push.ensures.items)
          (each-more (λ j (k : InstId). IsNumberOf (shared_instances p) k.0 (shared_of K (instance_at (instances_of g) j))) c.loop-first.numbers.items
          (record { 0 = c.index.result.now }) i c.loop-first.invariant.each c.loop-first.invariant.numbers made);
    }
