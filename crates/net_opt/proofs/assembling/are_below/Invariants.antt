use Rattle.std.proofs.Common.{ℕ, ◌<◌, slice_index_or}
use Rattle.base_types.specs.declared.indices.NetId.{NetId}
use Rattle.net_opt.proofs.assembling.are_below.Given as goal

abbrev pub invariant-loop-net : goal.invariant-loop-net
invariant-loop-net l = (k : ℕ) (d : NetId) → k < l.net-index → (slice_index_or l.nets k d).0 < l.count
