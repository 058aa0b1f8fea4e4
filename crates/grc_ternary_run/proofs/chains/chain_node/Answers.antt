use Rattle.std.proofs.Common.{◌≡◌, ◌+◌, ◌-◌, ◌<◌, ◌++◌, ◌∷◌, [], ℕ, List, length, slice_index, refl, sym, ◌∙◌, subst, arith, true}
use Rattle.grc_ternary_gates.specs.declared.gates.Gate.{Gate}
use Rattle.grc_ternary_run.specs.Chains.{ChainsSoFar, continues}
use Rattle.grc_ternary_run.proofs.ChainSteps.{begins-chain, goes-on-chain, is-some}
use Rattle.grc_ternary_run.proofs.chains.chain_node.Goals as goal

pub returns-else-continues : goal.returns-else-continues
returns-else-continues c =
    begins-chain c.args.graph.now c.args.words.now c.args.table.now.items c.args.chains.now c.args.wire c.requires.so_far c.requires.wire
    (sym c.continues.ensures ∙ c.if-continues.false)

pub returns-in_ok-place : goal.returns-in_ok-place
returns-in_ok-place c =
    let g = c.args.graph.now in
    let w = c.args.words.now in
    let v = c.args.wire in
    let chains = c.args.chains.now in
    let table = c.args.table.now.items in
    let on : continues g w v ≡ true = sym c.continues.ensures ∙ c.if-continues.true in
    let some : 0 < v = is-some g w v on in
    let made = goes-on-chain g w table chains v (slice_index chains (v - 1)) c.requires.so_far c.requires.wire some refl on in
    let count : c.len.result ≡ length g.wires.items = omega (arith, c.len.ensures, g.wires.ok.0) in
    let node : length g.wires.items + length table ≡ c.len.result + c.in_ok-place.place = let n = c.in_ok-place.ensures.place in omega arith in
    let C : List Gate → ℕ → Type 0 = λ t n. ChainsSoFar g w t (chains ++ n ∷ []) (v + 1) in
    subst (λ n. C c.push_gate.new.table.items n) node
    (subst (λ t. C t (length g.wires.items + length table)) (sym c.in_ok-place.ensures.table) made)
