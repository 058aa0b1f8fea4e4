use Rattle.std.proofs.Common.{rules, ◌≡◌, ◌<◌, ◌≤◌, ◌++◌, ◌∷◌, [], length, sym, ap, ◌∙◌, subst, arith}
use Rattle.std.specs.Prelude.{filter}
use Rattle.std.proofs.lemmas.List.{length-map, take_all}
use Rattle.est_kernel.specs.Plain.{program_of}
use Rattle.grc_graph.specs.PlainGraphs.{instances_of}
use Rattle.grc_graph.specs.PlainInstances.{instance_of}
use Rattle.grc_share.specs.Renamings.{AreOwnPlaces, is_named}
use Rattle.grc_share.specs.SharedInstances.{body_sharing}
use Rattle.grc_share.proofs.InstanceNumbers.{own-few, own-next, places-next}
use Rattle.grc_share.proofs.instances.own_instances.Goals as goal

pub overflow_cast-len : goal.overflow_cast-len
overflow_cast-len c =
    let g = c.args.graph.now in
    let count : c.len.result ≡ length c.loop-i.list.items = search rules in
    let low : c.loop-i.i ≤ length g.instances.list.items = omega arith in
    omega (arith, own-few g c.loop-i.i c.loop-i.list.items low c.loop-i.invariant.list, count, g.tables.few_instances)

pub loop-i-preserved : goal.loop-i-preserved
loop-i-preserved c =
    let g = c.args.graph.now in
    let K = body_sharing (program_of g.program).body in
    let i = c.loop-i.i in
    let list = c.loop-i.list.items in
    let low : i < length g.instances.list.items = omega arith in
    let count : c.len.result ≡ length list = search rules in
    let places = c.in_ok-push.ensures.items ∙ ap (λ k. c.loop-i.places.items ++ (k ∷ [])) count in
    record {
      each = search rules;
      list = own-next g i list c.push_own.new.list.items low c.in_ok-push_own.ensures c.loop-i.invariant.list;
      places = subst (AreOwnPlaces K (instances_of g) c.push_own.new.list.items) (sym places)
          (places-next g i list c.push_own.new.list.items c.loop-i.places.items c.loop-i.invariant.each c.in_ok-push_own.ensures c.loop-i.invariant.places);
    }

pub returns-clause-list : goal.returns-clause-list
returns-clause-list c =
    let g = c.args.graph.now in
    let all = take_all c.loop-i.i (instances_of g) (omega (arith, length-map g.instances.list.items instance_of)) in
    c.loop-i.invariant.list
    ∙ ap (filter (is_named (body_sharing (program_of g.program).body))) (all ∙ c.requires.built.instances)

pub push_own-requires-clause-least : goal.push_own-requires-clause-least
push_own-requires-clause-least c =
    c.requires.least c.loop-i.i (record { 0 = 0 }) (omega (arith, c.loop-i-test.true, c.requires.each))
