use Rattle.std.proofs.Common.{rules, ◌<◌, length, get_or, sym, ap, ◌∙◌, subst, arith, [], List, ℕ}
use Rattle.std.proofs.lemmas.List.{get_or-map, get_or_default}
use Rattle.base_types.specs.declared.indices.WireId.{WireId}
use Rattle.est_kernel.specs.Plain.{program_of}
use Rattle.grc_graph.specs.declared.formulas.Formula.{Formula}
use Rattle.grc_graph.specs.PlainGraphs.{wire_at}
use Rattle.grc_graph.specs.Wires.{Wire}
use Rattle.grc_share.specs.Renamings.{AreEmissions, StandsIn, formula_in}
use Rattle.grc_share.specs.SharedGraphs.{shared_instances}
use Rattle.grc_share.specs.SharedWires.{shared_wires}
use Rattle.grc_share.proofs.GraphParts.{formula-named}
use Rattle.grc_share.proofs.RenamedFormulas.{stands-as}
use Rattle.grc_share.proofs.SharedNaming.{least-at, least-own}
use Rattle.grc_share.proofs.WireLeast.{each-more}
use Rattle.grc_share.proofs.equations.shared_equations.Goals as goal

pub shared_formula-requires-clause-own : goal.shared_formula-requires-clause-own
shared_formula-requires-clause-own c =
    least-own c.args.graph.now c.requires.built c.args.least.now c.requires.least c.loop-k.k (record { 0 = 0 }) c.loop-k-test.true

pub shared_formula-requires-clause-emissions : goal.shared_formula-requires-clause-emissions
shared_formula-requires-clause-emissions c =
    let g = c.args.graph.now in
    let p = program_of g.program in
    let least = c.args.least.now in
    let k = c.loop-k.k in
    let vecs = c.in_ok-emissions.emissions.items in
    let low : k < length vecs = omega (arith, c.loop-k-test.true, c.in_ok-emissions.ensures.each) in
    let list = get_or-map (λ v. v.items) vecs k c.index.result.now [] low ∙ ap (λ v. v.items) (sym c.index.ensures)
    ∙ sym c.as_slice.ensures in
    subst (λ (u : Wire). AreEmissions p u c.as_slice.result.now)
    (least-at g c.requires.built least c.requires.least k (record { 0 = 0 }) c.loop-k-test.true)
    (subst (λ (l : List WireId). AreEmissions p (wire_at (shared_wires p) k) l) list (c.in_ok-emissions.ensures.lists k c.loop-k-test.true))

pub loop-k-preserved : goal.loop-k-preserved
loop-k-preserved c =
    let g = c.args.graph.now in
    let p = program_of g.program in
    let least = c.args.least.now in
    let are = c.requires.least in
    let k = c.loop-k.k in
    let v : WireId = get_or least k (record { 0 = 0 }) in
    let P = λ (i : ℕ) (f : Formula). StandsIn p (formula_in p (wire_at (shared_wires p) i)) f in
    let made = stands-as (shared_instances p) (shared_wires p) _ _ _
    (formula-named g c.requires.built least are k v c.loop-k-test.true (get_or_default least k (record { 0 = 0 }) v c.loop-k-test.true))
    c.in_ok-formula.ensures in
    record {
      each = search rules;
      stand = subst (λ (l : List Formula). (i : ℕ) (d : Formula) → i < length l → P i (get_or l i d)) (sym c.in_ok-push.ensures.items)
          (each-more P c.loop-k.formulas.items c.in_ok-formula.formula k c.loop-k.invariant.each c.loop-k.invariant.stand made);
    }
