-- Written by hand: what is just within the limits on size, height and traps is a program; one above each is refused, the size first and the traps
-- last.
use Rattle.std.specs.Prelude.{◌≡◌, nat_lt, if◌then◌else◌}
use Rattle.std.proofs.Common.{ap, ◌∙◌}
use Rattle.base_types.specs.declared.bounds.TheConstants.Limits.{KERNEL_NODES, KERNEL_HEIGHT, TRAPS}
use Rattle.est_kernel.specs.Terms.{Term}
use Rattle.est_kernel.specs.Sizes.{size_of, height_of, trap_depth}
use Rattle.est_ast.specs.FlatTrees.{Flat}
use Rattle.est_dismantle.specs.Expansions.{Expanded, TooLarge, TooHigh, TooManyTraps, limited, program_in}

module _ (flat : Flat) (body : Term) where
  -- what stands behind a number that is within its limit
  of_size : (n : _) → size_of body ≡ n → limited flat body ≡ (if nat_lt KERNEL_NODES n then TooLarge
      else if nat_lt KERNEL_HEIGHT (height_of body) then TooHigh else if nat_lt TRAPS (trap_depth body) then TooManyTraps
      else Expanded (program_in flat body))
  of_size n e = ap (λ n. if nat_lt KERNEL_NODES n then TooLarge else if nat_lt KERNEL_HEIGHT (height_of body) then TooHigh
      else if nat_lt TRAPS (trap_depth body) then TooManyTraps else Expanded (program_in flat body)) e

  of_height : (n : _) → height_of body ≡ n → (if nat_lt KERNEL_HEIGHT (height_of body) then TooHigh
      else if nat_lt TRAPS (trap_depth body) then TooManyTraps else Expanded (program_in flat body)) ≡ (if nat_lt KERNEL_HEIGHT n then TooHigh
      else if nat_lt TRAPS (trap_depth body) then TooManyTraps else Expanded (program_in flat body))
  of_height n e = ap (λ n. if nat_lt KERNEL_HEIGHT n then TooHigh else if nat_lt TRAPS (trap_depth body) then TooManyTraps
      else Expanded (program_in flat body)) e

  of_traps : (n : _) → trap_depth body ≡ n → (if nat_lt TRAPS (trap_depth body) then TooManyTraps else Expanded (program_in flat body))
      ≡ (if nat_lt TRAPS n then TooManyTraps else Expanded (program_in flat body))
  of_traps n e = ap (λ n. if nat_lt TRAPS n then TooManyTraps else Expanded (program_in flat body)) e

  just_within : size_of body ≡ 65536 → height_of body ≡ 1024 → trap_depth body ≡ 60 → limited flat body ≡ Expanded (program_in flat body)
  just_within s h t = of_size 65536 s ∙ of_height 1024 h ∙ of_traps 60 t

  one_node_more : size_of body ≡ 65537 → limited flat body ≡ TooLarge
  one_node_more s = of_size 65537 s

  one_level_more : size_of body ≡ 65536 → height_of body ≡ 1025 → limited flat body ≡ TooHigh
  one_level_more s h = of_size 65536 s ∙ of_height 1025 h

  one_trap_more : size_of body ≡ 65536 → height_of body ≡ 1024 → trap_depth body ≡ 61 → limited flat body ≡ TooManyTraps
  one_trap_more s h t = of_size 65536 s ∙ of_height 1024 h ∙ of_traps 61 t
