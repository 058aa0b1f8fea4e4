use Rattle.std.proofs.Common.{◌<◌, sym, ap, ◌∙◌, subst}
use Rattle.std.specs.Prelude.{Option}
use Rattle.base_types.specs.declared.indices.InstId.{InstId}
use Rattle.est_kernel.specs.Plain.{program_of}
use Rattle.est_kernel.specs.Preorder.{statement_count}
use Rattle.grc_graph.specs.Layers.{Started}
use Rattle.grc_graph.specs.Neighbouring.{instances_in}
use Rattle.grc_graph.specs.PlainGraphs.{instance_at, instances_of}
use Rattle.grc_graph.specs.PlainInstances.{layer_of}
use Rattle.grc_graph.specs.WireTables.{HasInstance}
use Rattle.grc_share.proofs.SharedFormulas.{instance-read, own-found, own-missing, own-same, own-sought, path-low}
use Rattle.grc_share.proofs.formulas.own_start.Goals.{else-own-i-via-then-own-i+else-numbers-own, else-own-i-via-else-own-i}
use Rattle.grc_share.proofs.formulas.own_start.Goals as goal

pub returns-then-numbers-own : goal.returns-then-numbers-own
returns-then-numbers-own c =
    let g = c.args.graph.now in
    let m = c.args.numbers.now in
    let i = c.args.i.0 in
    let n = (instance_at (instances_of g) i).path in
    let low = c.requires.instance in
    let read = instance-read g i c.index.result.now low c.index.ensures in
    let layer = ap (λ z. z.layer) (instance-read g i c.index-2.result.now low c.index-2.ensures) ∙ ap layer_of c.in-Started.is in
    let within = subst (λ k. k < statement_count (program_of g.program).body) (sym (ap (λ z. z.path) read))
    (path-low g i c.index.result.now low c.index.ensures) in
    let found = subst (λ (r : Option InstId). HasInstance (instances_of g) r (record { path = n; layer = Started n })) c.in-Some.is
    (own-sought g i c.index.result.now low c.index.ensures (instances_in c.neighbours.result) c.find_instance.result c.neighbours.ensures.instances
    c.find_instance.ensures) in (
      own-found g c.requires.built m.least.now m.instances.now m.wires.now c.requires.numbers i low c.in-Started.field-0.0 layer within c.in-Some.own.0 found
          c.if-own-i.true c.if-numbers-own.true,
      found,
    )

pub returns-else-own-i : goal.returns-else-own-i
returns-else-own-i c =
    let g = c.args.graph.now in
    let m = c.args.numbers.now in
    let i = c.args.i.0 in
    let n = (instance_at (instances_of g) i).path in
    let low = c.requires.instance in
    let read = instance-read g i c.index.result.now low c.index.ensures in
    let layer = ap (λ z. z.layer) (instance-read g i c.index-2.result.now low c.index-2.ensures) ∙ ap layer_of c.in-Started.is in
    let within = subst (λ k. k < statement_count (program_of g.program).body) (sym (ap (λ z. z.path) read))
    (path-low g i c.index.result.now low c.index.ensures) in
    let found = subst (λ (r : Option InstId). HasInstance (instances_of g) r (record { path = n; layer = Started n })) c.in-Some.is
    (own-sought g i c.index.result.now low c.index.ensures (instances_in c.neighbours.result) c.find_instance.result c.neighbours.ensures.instances
    c.find_instance.ensures) in
    own-same g c.requires.built m.least.now m.instances.now m.wires.now c.requires.numbers i low c.in-Started.field-0.0 layer within c.in-Some.own.0 found
    (elim c.else-own-i.branch [
      | else-own-i-via-then-own-i+else-numbers-own w ↦ λ a b. w.if-numbers-own.false b
      | else-own-i-via-else-own-i w ↦ λ a b. a w.if-own-i.false
    ])

pub returns-in-None : goal.returns-in-None
returns-in-None c =
    let g = c.args.graph.now in
    let m = c.args.numbers.now in
    let i = c.args.i.0 in
    let n = (instance_at (instances_of g) i).path in
    let low = c.requires.instance in
    let read = instance-read g i c.index.result.now low c.index.ensures in
    let layer = ap (λ z. z.layer) (instance-read g i c.index-2.result.now low c.index-2.ensures) ∙ ap layer_of c.in-Started.is in
    let within = subst (λ k. k < statement_count (program_of g.program).body) (sym (ap (λ z. z.path) read))
    (path-low g i c.index.result.now low c.index.ensures) in
    let none = subst (λ (r : Option InstId). HasInstance (instances_of g) r (record { path = n; layer = Started n })) c.in-None.is
    (own-sought g i c.index.result.now low c.index.ensures (instances_in c.neighbours.result) c.find_instance.result c.neighbours.ensures.instances
    c.find_instance.ensures) in
    own-missing g c.requires.built m.least.now m.instances.now m.wires.now c.requires.numbers i low c.in-Started.field-0.0 layer within none
