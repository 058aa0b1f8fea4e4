use Rattle.std.proofs.Common.{◌≡◌, All, take}
use Rattle.std.specs.Prelude.{flat_map}
use Rattle.csub_guard_run.specs.Runs.{BlockFits}
use Rattle.csub_guard_run.specs.Tracks.{block_lookups, jumps_at}
use Rattle.csub_guard_run.proofs.track.track_of.Given as goal

abbrev pub invariant-loop-block : goal.invariant-loop-block
invariant-loop-block l = record {
  lookups : l.gates.lookups ≡ flat_map block_lookups (take l.block-index l.body.blocks.items);
  jumps : l.jumps.items ≡ jumps_at 0 (take l.block-index l.body.blocks.items);
  fits : All (BlockFits l.gates.slots) (take l.block-index l.body.blocks.items);
}
