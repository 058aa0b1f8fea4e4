use Rattle.std.proofs.Common.{◌≡◌, ℕ, ◌<◌, ◌≤◌, slice_index, true}
use Rattle.run_trace_io.specs.Tokens.{is_trace_byte}
use Rattle.run_trace_io.proofs.scan.name_end.Given as goal

-- the bytes so far are of the name
abbrev pub invariant-loop-end : goal.invariant-loop-end
invariant-loop-end l = (k : ℕ) → l.start ≤ k → k < l.end → is_trace_byte (slice_index l.text k) ≡ true
