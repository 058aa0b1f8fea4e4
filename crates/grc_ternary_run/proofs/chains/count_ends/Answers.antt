use Rattle.std.proofs.Common.{◌≡◌, length, sym, ap, ◌∙◌, arith}
use Rattle.std.proofs.lemmas.List.{get_or_default}
use Rattle.grc_graph.specs.declared.wires.Wire.TheVariants.{Go}
use Rattle.grc_formulas.specs.WordLaws.{first_end, is_end_upto}
use Rattle.grc_ternary_run.proofs.ChainSteps.{counted}
use Rattle.grc_ternary_run.proofs.chains.count_ends.Goals as goal

pub returns-then-not-is_end_upto-clause-count : goal.returns-then-not-is_end_upto-clause-count
returns-then-not-is_end_upto-clause-count c =
    let g = c.args.graph.now in
    let w = c.args.words.now in
    let i = c.args.instance.0 in
    let first : c.index.result.now.0 ≡ first_end w i =
    ap (λ v. v.0) (c.index.ensures ∙ get_or_default w.ends.items i c.index.result.now (record { 0 = 0 })
    (let r = c.requires.instance in let e = c.requires.words.one_per_instance.2 in omega arith)) in
    let t = c.loop-count-test.true in
    counted (is_end_upto i c.args.code) g.wires.items c.deref.result.now c.index.result.now.0 (first_end w i) c.loop-count.count (Go (record { 0 = 0 }))
    c.deref.ensures.value first (omega arith) c.loop-count.invariant (λ h. sym c.is_end_upto.ensures ∙ c.if-not-is_end_upto.true)

pub returns-clause-count : goal.returns-clause-count
returns-clause-count c =
    let g = c.args.graph.now in
    let w = c.args.words.now in
    let i = c.args.instance.0 in
    let first : c.index.result.now.0 ≡ first_end w i =
    ap (λ v. v.0) (c.index.ensures ∙ get_or_default w.ends.items i c.index.result.now (record { 0 = 0 })
    (let r = c.requires.instance in let e = c.requires.words.one_per_instance.2 in omega arith)) in
    let t = c.loop-count-test.false in
    let j = c.loop-count.auto.count-end in
    let all : c.loop-count.count ≡ length _ = omega arith in
    sym all ∙ counted (is_end_upto i c.args.code) g.wires.items c.deref.result.now c.index.result.now.0 (first_end w i) c.loop-count.count
    (Go (record { 0 = 0 })) c.deref.ensures.value first j c.loop-count.invariant (λ h. absurd (omega arith))
