use Rattle.std.proofs.Common.{◌≡◌, ◌<◌, true, false, length, sym, ap, ◌∙◌, subst, arith}
use Rattle.std.proofs.lemmas.Result.{IfOk-weaker}
use Rattle.est_kernel.specs.Plain.{program_of}
use Rattle.grc_graph.specs.Formulas.{Value}
use Rattle.grc_graph.specs.PlainGraphs.{instance_at, instances_of, names_of}
use Rattle.grc_graph.specs.Rows.{program_rows, row_at}
use Rattle.grc_graph.specs.Wires.{Go}
use Rattle.grc_share.specs.Renamings.{formula_at}
use Rattle.grc_share.specs.SharedGraphs.{is_guarded, renamed, shared_instances}
use Rattle.grc_share.specs.SharedInstances.{body_sharing}
use Rattle.grc_share.specs.SharedWires.{shared_wire, shared_wires}
use Rattle.grc_share.proofs.InstanceNumbers.{go-number}
use Rattle.grc_share.proofs.RenamedFormulas.{stands-as, wire-stands}
use Rattle.grc_share.proofs.SharedFormulas.{end-free, end-guarded, formula-read, instance-read, path-low}
use Rattle.grc_share.proofs.formulas.end_formula.Goals as goal

pub bounds-given-index : goal.bounds-given-index
bounds-given-index c =
    omega (arith, path-low c.args.graph.now c.args.i.0 c.index.result.now c.requires.instance c.index.ensures, c.requires.each)

pub returns-then-given-index : goal.returns-then-given-index
returns-then-given-index c =
    let g = c.args.graph.now in
    let p = program_of g.program in
    let K = body_sharing p.body in
    let i = c.args.i.0 in
    let w = c.args.w.0 in
    let x = instance_at (instances_of g) i in
    let shared = shared_instances p in
    let wires = shared_wires p in
    let are = c.requires.numbers.numbers in
    let read = instance-read g i c.index.result.now c.requires.instance c.index.ensures in
    let within : c.index.result.now.path.0 < length c.args.given.now.guarded.now =
    omega (arith, path-low g i c.index.result.now c.requires.instance c.index.ensures, c.requires.each) in
    let test = subst (λ k. is_guarded (row_at (program_rows p) k).statement ≡ true) (sym (ap (λ z. z.path) read))
    (sym (c.requires.guarded c.index.result.now.path.0 false within) ∙ c.if-given-index.true) in
    let number = go-number g c.neighbours.result i c.go-go.result.0 c.neighbours.ensures.instances c.neighbours.ensures.wires c.go-go.ensures in
    let end = stands-as shared wires _ (renamed K (formula_at g w)) _ (ap (renamed K) (formula-read g w _ c.equation.ensures))
    (c.in_ok-end.ensures K (instances_of g) (names_of g) shared wires are) in
    let runs = stands-as shared wires _ (Value (Go x.path x.layer)) _
    (ap Value (ap (shared_wire K) (number.same _) ∙ ap (Go x.path) c.requires.own))
    (wire-stands K (instances_of g) (names_of g) shared wires c.args.given.now.numbers.instances.now c.args.given.now.numbers.wires.now are c.go-go.result.0
    (omega (arith, number.within, are.each_wire))) in
    IfOk-weaker c.both.result _ _
    (λ f h. stands-as shared wires _ _ f (end-guarded p x.path x.layer (formula_at g w) test) (h shared wires _ _ runs end)) c.both.ensures

pub returns-else-given-index : goal.returns-else-given-index
returns-else-given-index c =
    let g = c.args.graph.now in
    let p = program_of g.program in
    let K = body_sharing p.body in
    let i = c.args.i.0 in
    let w = c.args.w.0 in
    let x = instance_at (instances_of g) i in
    let shared = shared_instances p in
    let wires = shared_wires p in
    let read = instance-read g i c.index.result.now c.requires.instance c.index.ensures in
    let within : c.index.result.now.path.0 < length c.args.given.now.guarded.now =
    omega (arith, path-low g i c.index.result.now c.requires.instance c.index.ensures, c.requires.each) in
    let test = subst (λ k. is_guarded (row_at (program_rows p) k).statement ≡ false) (sym (ap (λ z. z.path) read))
    (sym (c.requires.guarded c.index.result.now.path.0 false within) ∙ c.if-given-index.false) in
    stands-as shared wires _ _ _ (ap (renamed K) (formula-read g w _ c.equation.ensures) ∙ end-free p x.path x.layer (formula_at g w) test)
    (c.in_ok-end.ensures K (instances_of g) (names_of g) shared wires c.requires.numbers.numbers)
