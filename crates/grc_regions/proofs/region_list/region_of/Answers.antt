use Rattle.std.specs.Prelude.{Contains}
use Rattle.std.proofs.Common.{None, Some, length, sym, ap, ◌∙◌, subst, arith}
use Rattle.est_kernel.specs.Plain.{term_of}
use Rattle.grc_graph.specs.PlainGraphs.{instances_of, names_of}
use Rattle.grc_graph.specs.PlainInstances.{instance_of, layer_of}
use Rattle.grc_graph.specs.WireTables.{IsNumberOf}
use Rattle.grc_graph.specs.Wires.{Go}
use Rattle.grc_regions.specs.Regions.{IsRegion}
use Rattle.grc_regions.proofs.HeadReads.{length-heads}
use Rattle.grc_regions.proofs.RegionReads.{end-low, path-low, go-own, go-other, end-found, head-live}
use Rattle.grc_regions.proofs.region_list.region_of.Goals as goal

pub head_of-head-requires : goal.head_of-head-requires
head_of-head-requires c =
    let g = c.args.graph.now in
    let number = subst (λ xs. IsNumberOf xs c.in-Go.i.0 (instance_of c.instance-own.result)) c.requires.instances c.instance-own.ensures in
    omega (arith, path-low g c.in-Go.i.0 c.instance-own.result number, ap length c.requires.heads, length-heads 0 (term_of g.program.body) 0)

pub instance-own-requires-in-End : goal.instance-own-requires-in-End
instance-own-requires-in-End c =
    let low = end-low c.args.graph.now c.args.w c.index.result.now c.in-End.i _ c.requires.within c.index.ensures c.in-End.is in
    omega (arith, low, ap length c.requires.instances)

pub head_of-requires : goal.head_of-requires
head_of-requires c =
    let g = c.args.graph.now in
    let number = subst (λ xs. IsNumberOf xs c.in-End.i.0 (instance_of c.instance-own-in-End.result)) c.requires.instances c.instance-own-in-End.ensures in
    omega (arith, path-low g c.in-End.i.0 c.instance-own-in-End.result number, ap length c.requires.heads, length-heads 0 (term_of g.program.body) 0)

pub returns-then-head-own : goal.returns-then-head-own
returns-then-head-own c =
    let number = subst (λ xs. IsNumberOf xs c.in-Go.i.0 (instance_of c.instance-own.result)) c.requires.instances c.instance-own.ensures in
    go-own c.args.graph.now c.args.w c.index.result.now c.requires.within c.index.ensures c.args.heads.now c.requires.heads c.instance-own.result c.in-Go.i
    number None c.in-Go.is (sym c.head_of-head.ensures ∙ c.if-head-own.true)

pub returns-else-head-own : goal.returns-else-head-own
returns-else-head-own c =
    let number = subst (λ xs. IsNumberOf xs c.in-Go.i.0 (instance_of c.instance-own.result)) c.requires.instances c.instance-own.ensures in
    let has = subst (λ xs. IsRegion xs (Some (Go c.head_of-head.result (layer_of c.instance-own.result.layer))) c.find_head.result)
    c.requires.names c.find_head.ensures in
    go-other c.args.graph.now c.args.w c.index.result.now c.requires.within c.index.ensures c.args.heads.now c.requires.heads c.instance-own.result c.in-Go.i
    number c.find_head.result c.in-Go.is (λ e. c.if-head-own.false (c.head_of-head.ensures ∙ e))
    (subst (λ h. IsRegion (names_of c.args.graph.now) (Some (Go h (layer_of c.instance-own.result.layer))) c.find_head.result) c.head_of-head.ensures has)

pub returns-in-End : goal.returns-in-End
returns-in-End c =
    let own = c.instance-own-in-End.result in
    let number = subst (λ xs. IsNumberOf xs c.in-End.i.0 (instance_of own)) c.requires.instances c.instance-own-in-End.ensures in
    let has = subst (λ xs. IsRegion xs (Some (Go c.head_of.result (layer_of own.layer))) c.find_head-in-End.result)
    c.requires.names c.find_head-in-End.ensures in
    end-found c.args.graph.now c.args.w c.index.result.now c.requires.within c.index.ensures c.args.heads.now c.requires.heads own c.in-End.i
    number c.find_head-in-End.result _ c.in-End.is
    (subst (λ h. IsRegion (names_of c.args.graph.now) (Some (Go h (layer_of own.layer))) c.find_head-in-End.result) c.head_of.ensures has)

pub find_head-requires : goal.find_head-requires
find_head-requires c =
    let own = c.instance-own.result in
    let number = subst (λ xs. IsNumberOf xs c.in-Go.i.0 (instance_of own)) c.requires.instances c.instance-own.ensures in
    subst (λ xs. Contains xs (record { path = c.head_of-head.result; layer = layer_of own.layer })) (sym c.requires.instances)
    (subst (λ h. Contains (instances_of c.args.graph.now) (record { path = h; layer = layer_of own.layer })) (sym c.head_of-head.ensures)
    (head-live c.args.graph.now c.requires.built c.args.heads.now own c.in-Go.i.0 c.requires.heads number))

pub find_head-requires-in-End : goal.find_head-requires-in-End
find_head-requires-in-End c =
    let own = c.instance-own-in-End.result in
    let number = subst (λ xs. IsNumberOf xs c.in-End.i.0 (instance_of own)) c.requires.instances c.instance-own-in-End.ensures in
    subst (λ xs. Contains xs (record { path = c.head_of.result; layer = layer_of own.layer })) (sym c.requires.instances)
    (subst (λ h. Contains (instances_of c.args.graph.now) (record { path = h; layer = layer_of own.layer })) (sym c.head_of.ensures)
    (head-live c.args.graph.now c.requires.built c.args.heads.now own c.in-End.i.0 c.requires.heads number))
