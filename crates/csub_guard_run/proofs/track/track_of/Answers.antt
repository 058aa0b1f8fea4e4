use Rattle.std.proofs.Common.{◌≡◌, ◌<◌, length, get_or, sym, subst, arith}
use Rattle.csub_guard_run.specs.Tracks.{BlockGates}
use Rattle.csub_guard_run.proofs.Counting.{fits-next}
use Rattle.csub_guard_run.proofs.Tracks.{gates-next, jumps-next}
use Rattle.csub_guard_run.proofs.track.track_of.Goals as goal

pub push_block-requires : goal.push_block-requires
push_block-requires c =
    let item = c.block-item.result in
    let same = c.deref-block-items.ensures.value in
    let at = subst (λ l. item ≡ get_or l c.loop-block.block-index item) same c.block-item.is in
    subst BlockGates (sym at) (c.requires.blocks c.loop-block.block-index item (omega arith))

pub loop-block-preserved : goal.loop-block-preserved
loop-block-preserved c =
    let blocks = c.args.body.now.blocks.items in
    let i = c.loop-block.block-index in
    let item = c.block-item.result in
    let low : i < length blocks = omega arith in
    let old = c.loop-block.invariant in
    let same = c.deref-block-items.ensures.value in
    let at : item ≡ get_or blocks i item = subst (λ l. item ≡ get_or l i item) same c.block-item.is in
    record {
      lookups = gates-next blocks i item c.loop-block.gates.lookups _ low at old.lookups c.in_ok-jump.ensures.lookups;
      jumps = jumps-next blocks i item c.loop-block.gates.lookups c.loop-block.jumps.items _ c.in_ok-jump.jump low at old.lookups old.jumps
          c.in_ok-jump.ensures.jump c.in_ok-push.ensures.items;
      fits = fits-next c.loop-block.gates.slots _ blocks i item low at c.in_ok-jump.ensures.more c.in_ok-jump.ensures.fits old.fits;
    }
