use Rattle.std.proofs.Common.{ℕ, ◌∙◌, ◌++◌, ◌∷◌, [], map, ap, sym, arith}
use Rattle.std.specs.Prelude.{filter, nat_le}
use Rattle.base_types.specs.CodeSet.{members}
use Rattle.grc_graph.specs.PlainInstances.{instance_of}
use Rattle.grc_graph.specs.Wires.{End}
use Rattle.grc_graph.specs.Edges.{Edge, edge, edges_if}
use Rattle.grc_dep.specs.Families.{to_ends_above}
use Rattle.grc_dep.specs.Found.{found_by}
use Rattle.grc_dep.proofs.Founds.{nothing_found, codes_begin, codes_step, codes_end, filter_adds, two_tests}
use Rattle.grc_dep.proofs.linking.push_to_ends_above.Goals as goal

pub loop-above-init : goal.loop-above-init
loop-above-init c =
    let part = instance_of c.args.part in
    let whole = instance_of c.args.whole in
    let f : ℕ → Edge = λ k. edge (End part.path part.layer c.args.code) (End whole.path whole.layer k) in
    codes_begin _ (λ ks. map f (filter (λ k. nat_le c.args.code k) ks)) (members c.args.whole_codes) _ (filter_adds f (λ k. nat_le c.args.code k))

pub loop-above-preserved : goal.loop-above-preserved
loop-above-preserved c =
    let part = instance_of c.args.part in
    let whole = instance_of c.args.whole in
    let f : ℕ → Edge = λ k. edge (End part.path part.layer c.args.code) (End whole.path whole.layer k) in
    let p = λ (k : ℕ). nat_le c.args.code k in
    let k = c.loop-above.above in
    let has = members c.args.whole_codes in
    codes_step _ (λ ks. map f (filter p ks)) has k (has k) _ _ _ (filter_adds f p) (λ i. has k) c.loop-above.invariant
    (c.in_ok-push_edge_if.ensures ∙ ap (λ b. c.loop-above.pairs.items ++ found_by c.args.lookups.now (edges_if b (f k ∷ []))) c.has_above-holds.ensures
    ∙ ap (λ es. c.loop-above.pairs.items ++ found_by c.args.lookups.now es) (two_tests f k (p k) (has k)))

pub returns-then-not-holds : goal.returns-then-not-holds
returns-then-not-holds c = nothing_found _ _ c.args.holds _ c.if-not-holds.true

pub returns : goal.returns
returns c =
    let part = instance_of c.args.part in
    let whole = instance_of c.args.whole in
    let f : ℕ → Edge = λ k. edge (End part.path part.layer c.args.code) (End whole.path whole.layer k) in
    let p = λ (k : ℕ). nat_le c.args.code k in
    codes_end _ (λ ks. map f (filter p ks)) (members c.args.whole_codes) c.loop-above.above _ _ _ (omega arith)
    c.codes_end-above-end.ensures.all c.loop-above.invariant
    ∙ ap (λ b. c.args.pairs.now.items ++ found_by c.args.lookups.now (edges_if b (to_ends_above (members c.args.whole_codes)
    (End part.path part.layer c.args.code) c.args.code whole.path whole.layer))) (sym c.if-not-holds.false)
