-- Inner: what runs of bodies make of the values of all slots, and how many assignments they run.
use Rattle.std.specs.Prelude.{ℕ, ◌+◌, ◌≤◌, Bool, List, [], ◌∷◌, All, if◌then◌else◌}
use Rattle.run_steps.specs.Plans.{made}
use Rattle.run_steps.specs.Slots.{value_at}
use Rattle.csub_guard_run.specs.declared.plan.Block.{Block}
use Rattle.csub_guard_run.specs.declared.plan.Body.{Body}
use Rattle.csub_guard_run.specs.declared.plan.Stretch.{Stretch}

-- there are so many slots at least
pub record BlockFits (n : ℕ) (b : Block) : Type 0 where
  pub before : b.before.plan.slots ≤ n
  pub first : b.first.plan.slots ≤ n
  pub second : b.second.plan.slots ≤ n

pub record BodyFits (n : ℕ) (b : Body) : Type 0 where
  pub blocks : All (BlockFits n) b.blocks.items
  pub last : b.last.plan.slots ≤ n

-- the half of a block that is run where the values are these after the assignments before it
abbrev pub half_of : Block → List Bool → Stretch
half_of b values = if value_at values b.test then b.first else b.second

abbrev pub behind_before : Block → List Bool → List Bool
behind_before b values = made b.before.plan.lookups values

abbrev pub block_made : Block → List Bool → List Bool
block_made b values = made (half_of b (behind_before b values)).plan.lookups (behind_before b values)

abbrev pub block_count : Block → List Bool → ℕ
block_count b values = b.before.count + (half_of b (behind_before b values)).count

abbrev pub blocks_made : List Block → List Bool → List Bool
blocks_made [] values = values
blocks_made (b ∷ blocks) values = blocks_made blocks (block_made b values)

abbrev pub blocks_count : List Block → List Bool → ℕ
blocks_count [] values = 0
blocks_count (b ∷ blocks) values = block_count b values + blocks_count blocks (block_made b values)

abbrev pub body_made : Body → List Bool → List Bool
body_made b values = made b.last.plan.lookups (blocks_made b.blocks.items values)

abbrev pub body_count : Body → List Bool → ℕ
body_count b values = blocks_count b.blocks.items values + b.last.count
