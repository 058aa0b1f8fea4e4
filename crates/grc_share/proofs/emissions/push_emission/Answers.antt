use Rattle.std.proofs.Common.{◌≡◌, ◌<◌, [], true, false, length, map, get_or, sym, ◌∙◌, subst, arith}
use Rattle.std.specs.Prelude.{MatchOption, ⊤}
use Rattle.std.proofs.lemmas.Bool.{eq-eqb}
use Rattle.std.proofs.lemmas.List.{length-map}
use Rattle.std.proofs.lemmas.Result.{IfOk-weaker}
use Rattle.est_kernel.specs.Plain.{program_of}
use Rattle.grc_graph.specs.PlainGraphs.{instance_at, instances_of, names_of, wire_at, wire_of}
use Rattle.grc_graph.specs.Wires.{Wire, same_wire}
use Rattle.grc_share.specs.Renamings.{emits_at, is_named}
use Rattle.grc_share.specs.SharedInstances.{body_sharing}
use Rattle.grc_share.specs.SharedWires.{shared_wire, shared_wires}
use Rattle.grc_share.proofs.EmissionLists.{more-lists, same-list}
use Rattle.grc_share.proofs.InstanceNumbers.{go-number, tell-named}
use Rattle.grc_share.proofs.emissions.push_emission.Goals as goal

pub returns-in-Some-clause-lists : goal.returns-in-Some-clause-lists
returns-in-Some-clause-lists c =
    let g = c.args.graph.now in
    let p = program_of g.program in
    let K = body_sharing p.body in
    let m = c.args.numbers.now in
    let i = c.args.i.0 in
    let v = c.in-Some.w.0 in
    let go = c.go-go.result.0 in
    let are = c.requires.numbers in
    let old = map (λ l. l.items) c.args.lists.now.items in
    let tell = tell-named g m.least.now are.each_least are.least_instances in
    let found = subst (λ r. MatchOption r ((w : Wire) → emits_at p w i ≡ false)
    (λ x. (w : Wire) → emits_at p w i ≡ same_wire (shared_wire K (wire_at (names_of g) x.0)) w)) c.in-Some.is c.emitted_wire.ensures.found in
    let own = subst (λ r. MatchOption r (⊤) (λ x. (get_or m.least.now i c.args.i).0 ≡ i)) c.in-Some.is c.emitted_wire.ensures.own in
    let within = subst (λ r. MatchOption r (⊤) (λ x. x.0 < length g.wires.items)) c.in-Some.is c.emitted_wire.ensures.within in
    let named : is_named K (instance_at (instances_of g) i) ≡ true =
    sym (tell.named i c.args.i (omega (arith, c.requires.within, are.each_least))) ∙ eq-eqb (get_or m.least.now i c.args.i).0 i own in
    let number = go-number g c.neighbours.result i go c.neighbours.ensures.instances c.neighbours.ensures.wires c.go-go.ensures in
    let many = length-map g.wires.items (wire_of (instances_of g)) in
    IfOk-weaker c.push_wire.result _ _
    (λ u made k low. more-lists g c.requires.built m.least.now m.instances.now m.wires.now are i c.requires.within old _ v go k
    (length-map c.args.lists.now.items (λ l. l.items) ∙ c.requires.each) (omega (arith, within, many, are.numbers.each_wire))
    (omega (arith, number.within, are.numbers.each_wire)) low (number.same _) named found made)
    c.push_wire.ensures.lists

pub returns-in-None-clause-lists : goal.returns-in-None-clause-lists
returns-in-None-clause-lists c =
    let g = c.args.graph.now in
    let p = program_of g.program in
    let K = body_sharing p.body in
    let m = c.args.numbers.now in
    let i = c.args.i.0 in
    let found = subst (λ r. MatchOption r ((w : Wire) → emits_at p w i ≡ false)
    (λ x. (w : Wire) → emits_at p w i ≡ same_wire (shared_wire K (wire_at (names_of g) x.0)) w)) c.in-None.is c.emitted_wire.ensures.found in
    λ k low. same-list g c.requires.built m.least.now m.instances.now m.wires.now c.requires.numbers i c.requires.within
    (get_or (map (λ l. l.items) c.args.lists.now.items) k []) (wire_at (shared_wires p) k) (found (wire_at (shared_wires p) k))
