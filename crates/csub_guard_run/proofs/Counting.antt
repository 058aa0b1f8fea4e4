-- Inner: what one half of a block makes and counts, and how many slots blocks need.
use Rattle.std.proofs.Common.{◌≡◌, ℕ, ◌+◌, ◌<◌, ◌≤◌, Bool, true, false, List, All, length, take, get_or, ap, subst, arith}
use Rattle.std.specs.Prelude.{if◌then◌else◌}
use Rattle.std.proofs.lemmas.List.Elements.{All-more}
use Rattle.run_steps.specs.Plans.{made}
use Rattle.run_steps.specs.Slots.{value_at}
use Rattle.csub_guard_run.specs.declared.plan.Block.{Block}
use Rattle.csub_guard_run.specs.Runs.{BlockFits, behind_before, block_made, block_count}

-- ---- one half of a block

pub first-made : (b : Block) (values : List Bool) → value_at (behind_before b values) b.test ≡ true
    → block_made b values ≡ made b.first.plan.lookups (behind_before b values)
first-made b values is = ap (λ t. made (if t then b.first else b.second).plan.lookups (behind_before b values)) is

pub second-made : (b : Block) (values : List Bool) → value_at (behind_before b values) b.test ≡ false
    → block_made b values ≡ made b.second.plan.lookups (behind_before b values)
second-made b values is = ap (λ t. made (if t then b.first else b.second).plan.lookups (behind_before b values)) is

pub first-counted : (b : Block) (values : List Bool) → value_at (behind_before b values) b.test ≡ true
    → block_count b values ≡ b.before.count + b.first.count
first-counted b values is = ap (λ t. b.before.count + (if t then b.first else b.second).count) is

pub second-counted : (b : Block) (values : List Bool) → value_at (behind_before b values) b.test ≡ false
    → block_count b values ≡ b.before.count + b.second.count
second-counted b values is = ap (λ t. b.before.count + (if t then b.first else b.second).count) is

-- ---- slots

pub fits-more : (n m : ℕ) (b : Block) → n ≤ m → BlockFits n b → BlockFits m b
fits-more n m b le fits = record { before = omega (arith, le, fits.before); first = omega (arith, le, fits.first); second = omega (arith, le, fits.second) }

-- one block more, and more slots
pub fits-next : (n m : ℕ) (blocks : List Block) (i : ℕ) (b : Block) → i < length blocks → b ≡ get_or blocks i b → n ≤ m → BlockFits m b
    → All (BlockFits n) (take i blocks) → All (BlockFits m) (take (i + 1) blocks)
fits-next n m blocks i b low at le fits all =
    All-more (BlockFits m) blocks i b low (λ k d h. fits-more n m (get_or (take i blocks) k d) le (all k d h)) (subst (BlockFits m) at fits)
