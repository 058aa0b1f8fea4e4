use Rattle.std.proofs.Common.{◌≡◌, map, take}
use Rattle.csub_guard.specs.Names.{piece_uses}
use Rattle.csub_guard.specs.Views.{piece_of}
use Rattle.csub_guard_read.specs.Uses.{use_of, uses_by}
use Rattle.csub_guard_read.proofs.uses.uses.Given as goal

abbrev pub invariant-pieces : goal.invariant-pieces
invariant-pieces l = map use_of l.uses.items ≡ piece_uses (uses_by l.order) 0 (map piece_of (take l.k l.program.body.items))
