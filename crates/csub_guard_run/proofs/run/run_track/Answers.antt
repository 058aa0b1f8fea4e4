use Rattle.std.proofs.Common.{◌≡◌, ◌+◌, ◌<◌, length, drop, get_or, sym, ap, ◌∙◌, subst, arith}
use Rattle.csub_guard_run.specs.declared.track.Jump.{Jump}
use Rattle.csub_guard_run.specs.Tracks.{AreInOrder, jumps_made, jumps_count}
use Rattle.csub_guard_run.proofs.Tracks.{no_jump, jump-here, wide-jump, order-here, order-next, made-next, counted-next, few-jumps}
use Rattle.csub_guard_run.proofs.run.run_track.Goals as goal

pub run_jump-reached-requires-clause-order : goal.run_jump-reached-requires-clause-order
run_jump-reached-requires-clause-order c =
    let track = c.args.track.now in
    let i = c.loop-jump.jump-index in
    let item = get_or c.deref-jump-items.result.now i no_jump in
    let at : item ≡ get_or track.jumps.items i item =
    jump-here track.jumps.items c.deref-jump-items.result.now i c.deref-jump-items.ensures.value c.loop-jump-test.true in
    order-here track.gates.lookups (length track.gates.lookups) c.loop-jump.reached.place track.jumps.items i item (omega arith) at
    c.loop-jump.invariant.order

pub run_jump-reached-requires-clause-fits : goal.run_jump-reached-requires-clause-fits
run_jump-reached-requires-clause-fits c = omega (arith, c.requires.fits, c.loop-jump.invariant.wide)

pub run_jump-reached-requires-clause-test : goal.run_jump-reached-requires-clause-test
run_jump-reached-requires-clause-test c =
    let jumps = c.args.track.now.jumps.items in
    let i = c.loop-jump.jump-index in
    let item = get_or c.deref-jump-items.result.now i no_jump in
    let at : item ≡ get_or jumps i item = jump-here jumps c.deref-jump-items.result.now i c.deref-jump-items.ensures.value c.loop-jump-test.true in
    let test = subst (λ (j : Jump). j.test < length c.args.values.now) (sym at) (c.requires.tests i item (omega arith)) in
    omega (arith, test, c.loop-jump.invariant.wide)

pub run_jump-reached-requires-clause-few : goal.run_jump-reached-requires-clause-few
run_jump-reached-requires-clause-few c =
    let few = few-jumps c.args.track.now in
    omega (arith, few, c.loop-jump.invariant.most, ap length c.deref-jump-items.ensures.value)

pub loop-jump-preserved : goal.loop-jump-preserved
loop-jump-preserved c =
    let track = c.args.track.now in
    let gates = track.gates.lookups in
    let jumps = track.jumps.items in
    let i = c.loop-jump.jump-index in
    let item = get_or c.deref-jump-items.result.now i no_jump in
    let place = c.loop-jump.reached.place in
    let at : item ≡ get_or jumps i item = jump-here jumps c.deref-jump-items.result.now i c.deref-jump-items.ensures.value c.loop-jump-test.true in
    let old = c.loop-jump.values in
    let next = c.run_jump-reached.ensures in
    let new = c.run_jump-reached.new.values in
    let to = c.run_jump-reached.result.place in
    let low : i < length jumps = omega arith in
    let counted = counted-next gates place jumps i item old low at in
    let rest = ap (λ p. jumps_count gates p (drop (i + 1) jumps) new) next.place ∙ ap (jumps_count gates _ (drop (i + 1) jumps)) next.values in
    record {
      wide = ap length next.values ∙ wide-jump gates place item old ∙ c.loop-jump.invariant.wide;
      order = subst (λ p. AreInOrder (length gates) p (drop (i + 1) jumps)) (sym next.place)
          (order-next gates (length gates) place jumps i item old low at c.loop-jump.invariant.order);
      made = ap (λ p. jumps_made gates p (drop (i + 1) jumps) new) next.place ∙ ap (jumps_made gates _ (drop (i + 1) jumps)) next.values
          ∙ sym (made-next gates place jumps i item old low at) ∙ c.loop-jump.invariant.made;
      counted = omega (arith, rest, counted, next.count, c.loop-jump.invariant.counted);
      most = omega (arith, next.most, c.loop-jump.invariant.most);
    }
