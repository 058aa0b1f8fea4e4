use Rattle.std.proofs.Common.{◌≡◌, ℕ, ◌++◌, ◌∷◌, [], map, ap, sym, ◌∙◌, arith}
use Rattle.std.proofs.lemmas.List.{append-nil}
use Rattle.base_types.specs.CodeSet.{members}
use Rattle.grc_graph.specs.declared.wires.Wire.TheVariants.{End}
use Rattle.grc_graph.specs.Wires.{codes_below}
use Rattle.grc_graph.proofs.CodesBelow.{codes_below-none, codes_below-has, codes_below-lacks}
use Rattle.grc_graph.proofs.layout.push_ends.Goals as goal
use Rattle.grc_graph.proofs.layout.push_ends.Goals.{then-has+in_ok-push, else-has}

pub loop-code-init : goal.loop-code-init
loop-code-init c =
    sym (ap (λ l. c.args.wires.now.items ++ map (λ k. End c.args.i k) l) (codes_below-none (members c.args.codes)) ∙ append-nil c.args.wires.now.items)

pub loop-code-preserved : goal.loop-code-preserved
loop-code-preserved c =
    let A = members c.args.codes in
    let f = λ (k : ℕ). End c.args.i k in
    elim c.if-has.branch [
      | then-has+in_ok-push w ↦
          ap (λ v. v.items) w.wires-is ∙ w.in_ok-push.ensures.items ∙ ap (λ l. l ++ f c.loop-code.code ∷ []) c.loop-code.invariant
          ∙ sym (codes_below-has f c.args.wires.now.items c.loop-code.code A (sym c.has.ensures ∙ w.if-has.true))
      | else-has w ↦
          ap (λ v. v.items) w.wires-is ∙ c.loop-code.invariant
          ∙ sym (codes_below-lacks f c.args.wires.now.items c.loop-code.code A (sym c.has.ensures ∙ w.if-has.false))
    ]

pub returns : goal.returns
returns c =
    c.loop-code.invariant
    ∙ ap (λ l. c.args.wires.now.items ++ map (λ k. End c.args.i k) l)
    (ap (λ n. codes_below n (members c.args.codes)) (let e : c.loop-code.code ≡ c.codes_end-code-end.result = omega arith in e)
    ∙ c.codes_end-code-end.ensures.all)
