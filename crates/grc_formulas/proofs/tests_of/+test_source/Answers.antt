use Rattle.std.proofs.Common.{sym, ap, ◌∙◌}
use Rattle.est_kernel.specs.declared.signal_tests.Test.{Test}
use Rattle.est_kernel.specs.Plain.{expression_of}
use Rattle.est_kernel.specs.Terms.{Not, And, Or}
use Rattle.grc_formulas.proofs.TestSteps.{test-tick, test-signal, test-not, test-and, test-or}
use Rattle.grc_formulas.proofs.tests_of.+test_source.Goals as goal

pub returns-in-Tick : goal.returns-in-Tick
returns-in-Tick t c =
    test-tick c.args.graph.now c.args.signals.now (expression_of c.args.test.now) c.args.place c.args.rows.now.items c.requires.fit
    (ap expression_of c.in-Tick.is)

pub returns-in-Sig : goal.returns-in-Sig
returns-in-Sig t c =
    test-signal c.args.graph.now c.args.signals.now (expression_of c.args.test.now) c.in-Sig.signal.0 c.args.place _ c.signal_source.result
    c.args.rows.now.items c.requires.fit (ap expression_of c.in-Sig.is) c.requires.place c.signal_source.ensures

pub returns-in_ok-source-in-Not : goal.returns-in_ok-source-in-Not
returns-in_ok-source-in-Not t c =
    let part = ap expression_of c.in-Not.is ∙ ap (λ (x : Test). Not (expression_of x)) (sym c.deref.ensures) in
    test-not c.args.graph.now c.args.signals.now (expression_of c.args.test.now) (expression_of c.deref.result.now) c.args.place c.args.rows.now.items
    c.test_source.new.rows.items c.negation.new.rows.items c.in_ok-made-in-Not.made c.in_ok-source-in-Not.source part c.in_ok-made-in-Not.ensures
    c.in_ok-source-in-Not.ensures.rows c.in_ok-source-in-Not.ensures.source

pub returns-in_ok-source-in-And : goal.returns-in_ok-source-in-And
returns-in_ok-source-in-And t c =
    let a = c.deref-in-And.result.now in
    let parts = ap expression_of c.in-And.is ∙ ap (λ (x : Test). And (expression_of x) (expression_of c.in-And.right.value)) (sym c.deref-in-And.ensures)
    ∙ ap (λ (y : Test). And (expression_of a) (expression_of y)) (sym c.deref-in-And-2.ensures) in
    test-and c.args.graph.now c.args.signals.now (expression_of c.args.test.now) (expression_of a) (expression_of c.deref-in-And-2.result.now) c.args.place
    c.args.rows.now.items c.test_source-in-And.new.rows.items c.test_source-in-And-2.new.rows.items c.both.new.rows.items c.in_ok-first-in-And.first
    c.in_ok-second-in-And.second c.in_ok-source-in-And.source parts c.in_ok-first-in-And.ensures c.in_ok-second-in-And.ensures
    c.in_ok-source-in-And.ensures.rows c.in_ok-source-in-And.ensures.source

pub returns-in_ok-source-in-Or : goal.returns-in_ok-source-in-Or
returns-in_ok-source-in-Or t c =
    let a = c.deref-in-Or.result.now in
    let parts = ap expression_of c.in-Or.is ∙ ap (λ (x : Test). Or (expression_of x) (expression_of c.in-Or.right.value)) (sym c.deref-in-Or.ensures)
    ∙ ap (λ (y : Test). Or (expression_of a) (expression_of y)) (sym c.deref-in-Or-2.ensures) in
    test-or c.args.graph.now c.args.signals.now (expression_of c.args.test.now) (expression_of a) (expression_of c.deref-in-Or-2.result.now) c.args.place
    c.args.rows.now.items c.test_source-in-Or.new.rows.items c.test_source-in-Or-2.new.rows.items c.either.new.rows.items c.in_ok-first-in-Or.first
    c.in_ok-second-in-Or.second c.in_ok-source-in-Or.source parts c.in_ok-first-in-Or.ensures c.in_ok-second-in-Or.ensures
    c.in_ok-source-in-Or.ensures.rows c.in_ok-source-in-Or.ensures.source
