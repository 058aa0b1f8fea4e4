use Rattle.std.proofs.Common.{rules, ◌≡◌, length, take, ◌∙◌, ap, sym, subst, arith, false}
use Rattle.std.proofs.lemmas.List.{take_more}
use Rattle.std.proofs.lemmas.List.FromFn.{length-map-range_with_len}
use Rattle.std.specs.Prelude.{map, replicate}
use Rattle.std.specs.List.{range_with_len}
use Rattle.grc_graph.specs.WireOrders.{edge_at}
use Rattle.grc_cycles.specs.Cuts.{is_cut}
use Rattle.grc_cycles.proofs.Counted.{cuts-more, no-cuts}
use Rattle.grc_cycles.proofs.counting.cuts_of.Goals as goal

pub loop-pair-init : goal.loop-pair-init
loop-pair-init c =
    let none : c.in_ok-cuts.cuts.items ≡ replicate (length c.args.places.now) false = search rules in
    none ∙ no-cuts c.args.places.now (length c.args.places.now)

pub loop-pair-preserved : goal.loop-pair-preserved
loop-pair-preserved c =
    let places = c.args.places.now in
    let pairs = c.args.pairs.now in
    let old = c.loop-pair.cuts.items in
    let new = c.mark.new.cuts.items in
    let i = c.loop-pair.pair-index in
    let long : length old ≡ length places = ap length c.loop-pair.invariant ∙ length-map-range_with_len (is_cut places (take i pairs)) 0 (length places) in
    subst (λ es. new ≡ map (is_cut places es) (range_with_len 0 (length places)))
    (sym (take_more pairs i (record { 0 = 0 }, record { 0 = 0 }) c.loop-pair-test.true))
    (cuts-more places old new (take i pairs) (edge_at pairs i) c.loop-pair.invariant (c.mark.ensures.length ∙ long)
    (λ k low. c.mark.ensures.marked k (omega (arith, low, long))))
