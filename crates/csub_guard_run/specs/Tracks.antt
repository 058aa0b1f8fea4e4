-- Inner: a body on one track, and what its runs make of the values of all slots. The gates of all parts stand one
-- after another, and a block is places among them: those of its second half begin at one, those of its first half at
-- another, and a third is after them. Where the first half is run, it is made with what is after the block.
use Rattle.std.specs.Prelude.{◌≡◌, ℕ, ◌+◌, ◌≤◌, Bool, List, [], ◌∷◌, ◌++◌, All, length, flat_map, slice_range}
use Rattle.std.specs.Prelude.{if◌then◌else◌}
use Rattle.run_steps.specs.Plans.{Lookup, made}
use Rattle.run_steps.specs.Slots.{value_at}
use Rattle.csub_guard_run.specs.declared.plan.Block.{Block}
use Rattle.csub_guard_run.specs.declared.plan.Body.{Body}
use Rattle.csub_guard_run.specs.declared.track.Jump.{Jump}
use Rattle.csub_guard_run.specs.declared.track.Track.{Track}
use Rattle.csub_guard_run.specs.Runs.{BodyFits}

-- all plans are of gates alone
pub record BlockGates (b : Block) : Type 0 where
  pub before : b.before.plan.tables ≡ 0
  pub first : b.first.plan.tables ≡ 0
  pub second : b.second.plan.tables ≡ 0

pub record BodyGates (b : Body) : Type 0 where
  pub blocks : All BlockGates b.blocks.items
  pub last : b.last.plan.tables ≡ 0

-- ---- the track of a body

abbrev pub block_lookups : Block → List Lookup
block_lookups b = b.before.plan.lookups ++ (b.second.plan.lookups ++ b.first.plan.lookups)

-- a block whose first gate has this place
abbrev pub jump_at : ℕ → Block → Jump
jump_at at b = record {
  test = b.test;
  second = at + length b.before.plan.lookups;
  first = at + length b.before.plan.lookups + length b.second.plan.lookups;
  next = at + length (block_lookups b);
  before_count = b.before.count;
  first_count = b.first.count;
  second_count = b.second.count;
}

abbrev pub jumps_at : ℕ → List Block → List Jump
jumps_at at [] = []
jumps_at at (b ∷ blocks) = jump_at at b ∷ jumps_at (at + length (block_lookups b)) blocks

pub record IsTrack (body : Body) (t : Track) : Type 0 where
  pub lookups : t.gates.lookups ≡ flat_map block_lookups body.blocks.items ++ body.last.plan.lookups
  pub jumps : t.jumps.items ≡ jumps_at 0 body.blocks.items
  pub behind : t.behind ≡ body.last.count
  pub fits : BodyFits t.gates.slots body

-- ---- runs, where all up to a place was made

module _ (gates : List Lookup) where
  -- the values before a block
  abbrev pub before_jump : ℕ → Jump → List Bool → List Bool
  before_jump at j values = made (slice_range gates at j.second) values

  abbrev pub jump_made : ℕ → Jump → List Bool → List Bool
  jump_made at j values =
      if value_at (before_jump at j values) j.test then before_jump at j values
      else made (slice_range gates j.second j.first) (before_jump at j values)

  -- the place up to which all was made after a block, or after which its first half must be made
  abbrev pub jump_place : ℕ → Jump → List Bool → ℕ
  jump_place at j values = if value_at (before_jump at j values) j.test then j.first else j.next

  abbrev pub jump_count : ℕ → Jump → List Bool → ℕ
  jump_count at j values =
      j.before_count + (if value_at (before_jump at j values) j.test then j.first_count else j.second_count)

  abbrev pub jumps_made : ℕ → List Jump → List Bool → List Bool
  jumps_made at [] values = made (slice_range gates at (length gates)) values
  jumps_made at (j ∷ jumps) values = jumps_made (jump_place at j values) jumps (jump_made at j values)

  abbrev pub jumps_count : ℕ → List Jump → List Bool → ℕ
  jumps_count at [] values = 0
  jumps_count at (j ∷ jumps) values =
      jump_count at j values + jumps_count (jump_place at j values) jumps (jump_made at j values)

abbrev pub track_made : Track → List Bool → List Bool
track_made t values = jumps_made t.gates.lookups 0 t.jumps.items values

abbrev pub track_count : Track → List Bool → ℕ
track_count t values = jumps_count t.gates.lookups 0 t.jumps.items values + t.behind

-- the places of a block, after this one and among so many gates
pub record IsInOrder (n at : ℕ) (j : Jump) : Type 0 where
  pub second : at ≤ j.second
  pub first : j.second ≤ j.first
  pub next : j.first ≤ j.next
  pub within : j.next ≤ n

abbrev pub AreInOrder : ℕ → ℕ → List Jump → Type 0
AreInOrder n at [] = at ≤ n
AreInOrder n at (j ∷ jumps) = IsInOrder n at j × AreInOrder n j.next jumps
