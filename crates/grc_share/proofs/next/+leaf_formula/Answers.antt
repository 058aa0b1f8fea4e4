use Rattle.std.proofs.Common.{◌≡◌, true, false, sym, ap, ◌∙◌}
use Rattle.std.proofs.lemmas.Result.{IfOk-weaker}
use Rattle.est_kernel.specs.Plain.{program_of}
use Rattle.grc_graph.specs.declared.formulas.Formula.{Formula}
use Rattle.grc_graph.specs.PlainGraphs.{formula_of, instances_of, names_of}
use Rattle.grc_share.specs.Renamings.{is_other_start, named_starts}
use Rattle.grc_share.specs.SharedGraphs.{renamed, shared_instances}
use Rattle.grc_share.specs.SharedInstances.{body_sharing}
use Rattle.grc_share.specs.SharedWires.{shared_wires}
use Rattle.grc_share.proofs.InstanceNumbers.{tell-named}
use Rattle.grc_share.proofs.NextFormulas.{no-starts, start-dropped, start-stays}
use Rattle.grc_share.proofs.RenamedFormulas.{stands-as}
use Rattle.grc_share.proofs.next.+leaf_formula.Goals as goal

pub returns-then-is_other_start : goal.returns-then-is_other_start
returns-then-is_other_start t c =
    let g = c.args.graph.now in
    let p = program_of g.program in
    let K = body_sharing p.body in
    let S = λ (f : Formula). formula_of (instances_of g) (names_of g) f in
    let F = λ (f : Formula). named_starts K (S f) in
    let are = c.requires.numbers in
    let tell = tell-named g c.args.numbers.now.least.now are.each_least are.least_instances in
    let other : is_other_start K (S c.in-Or.start.value) ≡ true =
    ap (λ (f : Formula). is_other_start K (S f)) (sym c.deref-in-Or.ensures)
    ∙ sym (c.is_other_start.ensures K (instances_of g) (names_of g) tell) ∙ c.if-is_other_start.true in
    stands-as (shared_instances p) (shared_wires p) _ _ _
    (ap F c.deref.ensures ∙ start-dropped K (S c.in-Or.start.value) (S c.in-Or.rest.value) other ∙ ap F (sym c.in-Or.is))
    c.in_ok-others-in-Or.ensures

pub returns-in_ok-own-in-Or : goal.returns-in_ok-own-in-Or
returns-in_ok-own-in-Or t c =
    let g = c.args.graph.now in
    let p = program_of g.program in
    let K = body_sharing p.body in
    let shared = shared_instances p in
    let wires = shared_wires p in
    let S = λ (f : Formula). formula_of (instances_of g) (names_of g) f in
    let F = λ (f : Formula). named_starts K (S f) in
    let are = c.requires.numbers in
    let tell = tell-named g c.args.numbers.now.least.now are.each_least are.least_instances in
    let other : is_other_start K (S c.in-Or.start.value) ≡ false =
    ap (λ (f : Formula). is_other_start K (S f)) (sym c.deref-in-Or.ensures)
    ∙ sym (c.is_other_start.ensures K (instances_of g) (names_of g) tell) ∙ c.if-is_other_start.false in
    let own = stands-as shared wires _ _ _ (ap (λ (f : Formula). renamed K (S f)) c.deref-in-Or-2.ensures)
    (c.in_ok-own-in-Or.ensures K (instances_of g) (names_of g) shared wires are.numbers) in
    let others = stands-as shared wires _ _ _ (ap F c.deref.ensures) c.in_ok-others-in-Or.ensures in
    IfOk-weaker c.either.result _ _
    (λ f h. stands-as shared wires _ _ f (start-stays K (S c.in-Or.start.value) (S c.in-Or.rest.value) other ∙ ap F (sym c.in-Or.is))
    (h shared wires _ _ own others))
    c.either.ensures

pub returns-in_default : goal.returns-in_default
returns-in_default t c =
    let g = c.args.graph.now in
    let p = program_of g.program in
    let K = body_sharing p.body in
    let shared = shared_instances p in
    let wires = shared_wires p in
    IfOk-weaker c.renamed-in_default.result _ _
    (λ f h. stands-as shared wires _ _ f (no-starts K (instances_of g) (names_of g) c.args.formula.now c.in_default.not-Or) h)
    (c.renamed-in_default.ensures K (instances_of g) (names_of g) shared wires c.requires.numbers.numbers)
