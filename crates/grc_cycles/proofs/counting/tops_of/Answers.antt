use Rattle.std.proofs.Common.{rules, ◌≡◌, length, take, ◌∙◌, ap, sym, subst, arith}
use Rattle.std.proofs.lemmas.List.{take_more}
use Rattle.std.proofs.lemmas.List.FromFn.{length-map-range_with_len}
use Rattle.std.specs.Prelude.{map, replicate}
use Rattle.std.specs.List.{range_with_len}
use Rattle.grc_graph.specs.WireOrders.{edge_at}
use Rattle.grc_cycles.specs.Cuts.{top_at}
use Rattle.grc_cycles.proofs.Counted.{no-tops, tops-more}
use Rattle.grc_cycles.proofs.counting.tops_of.Goals as goal

pub loop-pair-init : goal.loop-pair-init
loop-pair-init c =
    let none : c.in_ok-tops.tops.items ≡ replicate (length c.args.places.now) 0 = search rules in
    none ∙ no-tops c.args.places.now (length c.args.places.now)

pub raise-requires-clause-from : goal.raise-requires-clause-from
raise-requires-clause-from c =
    let places = c.args.places.now in
    let pairs = c.args.pairs.now in
    let i = c.loop-pair.pair-index in
    let long : length c.loop-pair.tops.items ≡ length places =
    ap length c.loop-pair.invariant ∙ length-map-range_with_len (top_at places (take i pairs)) 0 (length places) in
    let ends = c.requires.join i (record { 0 = 0 }, record { 0 = 0 }) c.loop-pair-test.true in
    omega (arith, long, c.requires.low (edge_at pairs i).0.0 0 ends.0)

pub raise-requires-clause-to : goal.raise-requires-clause-to
raise-requires-clause-to c =
    let places = c.args.places.now in
    let pairs = c.args.pairs.now in
    let i = c.loop-pair.pair-index in
    let long : length c.loop-pair.tops.items ≡ length places =
    ap length c.loop-pair.invariant ∙ length-map-range_with_len (top_at places (take i pairs)) 0 (length places) in
    let ends = c.requires.join i (record { 0 = 0 }, record { 0 = 0 }) c.loop-pair-test.true in
    omega (arith, long, c.requires.low (edge_at pairs i).1.0 0 ends.1)

pub loop-pair-preserved : goal.loop-pair-preserved
loop-pair-preserved c =
    let places = c.args.places.now in
    let pairs = c.args.pairs.now in
    let old = c.loop-pair.tops.items in
    let new = c.raise.new.tops.items in
    let i = c.loop-pair.pair-index in
    let long : length old ≡ length places = ap length c.loop-pair.invariant ∙ length-map-range_with_len (top_at places (take i pairs)) 0 (length places) in
    subst (λ es. new ≡ map (top_at places es) (range_with_len 0 (length places)))
    (sym (take_more pairs i (record { 0 = 0 }, record { 0 = 0 }) c.loop-pair-test.true))
    (tops-more places old new (take i pairs) (edge_at pairs i) c.loop-pair.invariant (c.raise.ensures.length ∙ long)
    (λ k low. c.raise.ensures.raised k (omega (arith, low, long))))
