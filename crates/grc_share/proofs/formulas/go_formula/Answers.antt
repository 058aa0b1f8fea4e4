use Rattle.std.proofs.Common.{ap, ◌∙◌, subst}
use Rattle.std.proofs.lemmas.Result.{IfOk-weaker}
use Rattle.est_kernel.specs.Plain.{program_of}
use Rattle.grc_graph.specs.GraphRuns.{graph_of}
use Rattle.grc_graph.specs.Instances.{Instance}
use Rattle.grc_graph.specs.Layers.{Started}
use Rattle.grc_graph.specs.PlainGraphs.{instance_at, instances_of, names_of}
use Rattle.grc_graph.specs.Wires.{Go}
use Rattle.grc_graph.specs.WireTables.{IsNumberOf}
use Rattle.grc_share.specs.Renamings.{HasOwnStart, formula_at}
use Rattle.grc_share.specs.SharedGraphs.{formula_for, renamed, shared_instances}
use Rattle.grc_share.specs.SharedInstances.{body_sharing}
use Rattle.grc_share.specs.SharedWires.{shared_wires}
use Rattle.grc_share.proofs.EquationLists.{formula-found}
use Rattle.grc_share.proofs.InstanceNumbers.{go-number}
use Rattle.grc_share.proofs.RenamedFormulas.{stands-as}
use Rattle.grc_share.proofs.SharedFormulas.{formula-read, go-alone, go-own}
use Rattle.grc_share.proofs.formulas.go_formula.Goals as goal

pub returns-in_ok-start-in-Some : goal.returns-in_ok-start-in-Some
returns-in_ok-start-in-Some c =
    let g = c.args.graph.now in
    let p = program_of g.program in
    let K = body_sharing p.body in
    let insts = instances_of g in
    let names = names_of g in
    let shared = shared_instances p in
    let wires = shared_wires p in
    let are = c.requires.numbers.numbers in
    let x = instance_at insts c.args.i.0 in
    let own = c.in-Some.own.0 in
    let u = Go x.path (Started x.path) in
    let found = subst (HasOwnStart K insts x) c.in-Some.is c.own_start.ensures in
    let number = subst (λ (y : Instance). IsNumberOf names c.go.result.0 (Go y.path y.layer)) (found.1.same _)
    (go-number g c.neighbours.result own c.go.result.0 c.neighbours.ensures.instances c.neighbours.ensures.wires c.go.ensures) in
    let entry = stands-as shared wires _ (renamed K (formula_at g c.args.w.0)) _ (ap (renamed K) (formula-read g c.args.w.0 _ c.equation.ensures))
    (c.in_ok-entry.ensures K insts names shared wires are) in
    let start = stands-as shared wires _ (renamed K (formula_for (graph_of p).equations u)) _
    (ap (renamed K) (formula-read g c.go.result.0 _ c.equation-start.ensures ∙ formula-found g c.requires.built c.go.result.0 u number))
    (c.in_ok-start-in-Some.ensures K insts names shared wires are) in
    IfOk-weaker c.either.result _ _ (λ f h. stands-as shared wires _ _ f (go-own p x (formula_at g c.args.w.0) found.0) (h shared wires _ _ entry start))
    c.either.ensures

pub returns-in-None : goal.returns-in-None
returns-in-None c =
    let g = c.args.graph.now in
    let p = program_of g.program in
    let K = body_sharing p.body in
    let insts = instances_of g in
    let x = instance_at insts c.args.i.0 in
    let shared = shared_instances p in
    let wires = shared_wires p in
    let none = subst (HasOwnStart K insts x) c.in-None.is c.own_start.ensures in
    stands-as shared wires _ _ _ (ap (renamed K) (formula-read g c.args.w.0 _ c.equation.ensures) ∙ go-alone p x (formula_at g c.args.w.0) none)
    (c.in_ok-entry.ensures K insts (names_of g) shared wires c.requires.numbers.numbers)
