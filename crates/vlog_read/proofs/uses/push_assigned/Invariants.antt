use Rattle.std.proofs.Common.{◌≡◌, ◌++◌, map, take}
use Rattle.std.specs.Prelude.{flat_map}
use Rattle.vlog_text.specs.Names.{assign_uses}
use Rattle.vlog_text.specs.Views.{assign_of}
use Rattle.vlog_read.specs.NameTests.{use_of}
use Rattle.vlog_read.proofs.uses.push_assigned.Given as goal

abbrev pub invariant-loop-assign : goal.invariant-loop-assign
invariant-loop-assign l =
    map use_of l.uses.items ≡ map use_of l.fn.uses.items ++ flat_map assign_uses (map assign_of (take l.assign-index l.assigns))
