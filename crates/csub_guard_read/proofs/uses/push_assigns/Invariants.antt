use Rattle.std.proofs.Common.{◌≡◌, ◌++◌, map, take}
use Rattle.std.specs.Prelude.{flat_map}
use Rattle.csub_text.specs.Views.{assign_of}
use Rattle.csub_guard_read.specs.Uses.{place_of, use_of, uses_by}
use Rattle.csub_guard_read.proofs.uses.push_assigns.Given as goal

abbrev pub invariant-loop-assign : goal.invariant-loop-assign
invariant-loop-assign l =
    map use_of l.uses.items
    ≡ map use_of l.fn.uses.items ++ flat_map (uses_by l.order (place_of l.place)) (map assign_of (take l.assign-index l.assigns))
