use Rattle.std.proofs.Common.{◌≡◌, ℕ, ◌<◌, length, get_or}
use Rattle.std.specs.Prelude.{All, slice_index}
use Rattle.base_types.specs.declared.indices.WireId.{WireId}
use Rattle.grc_share.proofs.numbering.number_members.Given as goal

-- the numbers of the places so far
abbrev pub invariant-loop-member : goal.invariant-loop-member
invariant-loop-member l = record {
  each : length l.numbers.items ≡ l.member-index;
  within : All (λ k. k < length l.least.items) l.numbers.items;
  same : (w : ℕ) (d : WireId) → w < l.member-index → get_or l.least.items (slice_index l.numbers.items w) d ≡ get_or l.members w d;
}
