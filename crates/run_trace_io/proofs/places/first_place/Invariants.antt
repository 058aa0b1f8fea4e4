use Rattle.std.proofs.Common.{◌≡◌, ℕ, ◌<◌, [], false, slice_index_or}
use Rattle.base_types.specs.Names.{is_same_name}
use Rattle.run_trace_io.proofs.places.first_place.Given as goal

-- no input so far has the name
abbrev pub invariant-loop-place : goal.invariant-loop-place
invariant-loop-place l = (k : ℕ) → k < l.place → is_same_name l.name (slice_index_or l.inputs k []) ≡ false
