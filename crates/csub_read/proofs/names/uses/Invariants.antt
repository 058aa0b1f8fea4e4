use Rattle.std.proofs.Common.{◌≡◌, map, take}
use Rattle.std.specs.Prelude.{flat_map}
use Rattle.csub_text.specs.Names.{uses_in}
use Rattle.csub_text.specs.Views.{assign_of}
use Rattle.csub_read.specs.NameTests.{use_of}
use Rattle.csub_read.proofs.names.uses.Given as goal

abbrev pub invariant-loop-assign : goal.invariant-loop-assign
invariant-loop-assign l = map use_of l.uses.items ≡ flat_map uses_in (map assign_of (take l.assign-index l.program.body.items))
