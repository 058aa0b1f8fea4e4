use Rattle.std.proofs.Common.{ap, sym, ◌∙◌, refl, arith}
use Rattle.std.proofs.lemmas.Bool.{eqb-true}
use Rattle.base_types.specs.CodeSet.{members}
use Rattle.grc_graph.proofs.CodesBelow.{codes_below-all, codes_below-end, except-other}
use Rattle.grc_graph.proofs.CodeSets.{members-same}
use Rattle.grc_graph.proofs.code_tables.codes_end.Goals as goal

pub loop-code-init : goal.loop-code-init
loop-code-init c = λ k le. refl

pub loop-code-preserved : goal.loop-code-preserved
loop-code-preserved c = λ k le.
    ap (λ f. f k) c.without-rest.ensures ∙ except-other (members c.loop-code.rest) c.loop-code.code k (λ e. omega (arith, le, e))
    ∙ c.loop-code.invariant k (omega (arith, le))

pub returns-then-eq-clause-none : goal.returns-then-eq-clause-none
returns-then-eq-clause-none c = λ k le low.
    sym (c.loop-code.invariant k le) ∙ members-same c.loop-code.rest c.empty.result (eqb-true _ _ (sym c.eq.ensures ∙ c.if-eq.true)) k
    ∙ ap (λ f. f k) c.empty.ensures

pub returns-then-eq-clause-all : goal.returns-then-eq-clause-all
returns-then-eq-clause-all c =
    codes_below-end c.loop-code.code (members c.args.set) c.loop-code.auto.code-end (λ k le low.
    sym (c.loop-code.invariant k le) ∙ members-same c.loop-code.rest c.empty.result (eqb-true _ _ (sym c.eq.ensures ∙ c.if-eq.true)) k
    ∙ ap (λ f. f k) c.empty.ensures)

pub returns-clause-all : goal.returns-clause-all
returns-clause-all c = codes_below-all 64 (members c.args.set) refl
