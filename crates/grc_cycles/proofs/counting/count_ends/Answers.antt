use Rattle.std.proofs.Common.{rules, ◌≡◌, ◌<◌, ◌+◌, ◌==◌, length, ◌∙◌, ap, sym, arith, slice_index}
use Rattle.std.proofs.lemmas.List.FromFn.{get_or-map-range_with_len, length-map-range_with_len}
use Rattle.std.specs.Prelude.{cond, max}
use Rattle.grc_cycles.specs.Cuts.{count_below, ends_at, top_at, top_below}
use Rattle.grc_cycles.proofs.Counted.{at-most-one, count_below-more, top_below-more}
use Rattle.grc_cycles.proofs.counting.count_ends.Goals as goal

pub loop-place-preserved : goal.loop-place-preserved
loop-place-preserved c =
    let places = c.args.places.now in
    let pairs = c.args.pairs.now in
    let i = c.loop-place.place in
    let inv = c.loop-place.invariant in
    let long : length c.args.tops.now ≡ length places = ap length c.requires ∙ length-map-range_with_len (top_at places pairs) 0 (length places) in
    let low : i < length places = omega (arith, c.loop-place-test.true, long) in
    let top : slice_index c.args.tops.now i ≡ top_at places pairs i =
    ap (λ l. slice_index l i) c.requires ∙ get_or-map-range_with_len (top_at places pairs) 0 (length places) i i 0 low (omega arith) in
    let more : c.max-reached.result ≡ max c.loop-place.reached (slice_index c.args.tops.now i) = search rules in
    let reached : c.max-reached.result ≡ top_below places pairs (i + 1) =
    more ∙ ap (max c.loop-place.reached) top ∙ ap (λ r. max r (top_at places pairs i)) inv.reached ∙ sym (top_below-more places pairs i) in
    let one : c.one_if-count.result ≡ cond (ends_at places pairs i) 1 0 = c.one_if-count.ensures ∙ ap (λ r. cond (r == i + 1) 1 0) reached in
    record {
      reached = reached;
      is = ap (λ n. n + c.one_if-count.result) inv.is ∙ ap (λ n. count_below i (ends_at places pairs) + n) one
          ∙ sym (count_below-more i (ends_at places pairs));
      low = omega (arith, inv.low, one, at-most-one (ends_at places pairs i));
    }

pub returns : goal.returns
returns c =
    let places = c.args.places.now in
    let pairs = c.args.pairs.now in
    let long : length c.args.tops.now ≡ length places = ap length c.requires ∙ length-map-range_with_len (top_at places pairs) 0 (length places) in
    let all : c.loop-place.place ≡ length places = omega (arith, long) in
    c.loop-place.invariant.is ∙ ap (λ n. count_below n (ends_at places pairs)) all
