use Rattle.std.proofs.Common.{◌≡◌, ◌++◌, map, take}
use Rattle.std.specs.Prelude.{flat_map}
use Rattle.vlog_text.specs.Names.{next_uses}
use Rattle.vlog_read.specs.NameTests.{use_of}
use Rattle.vlog_read.specs.Sources.{next_of}
use Rattle.vlog_read.proofs.uses.push_clocked.Given as goal

abbrev pub invariant-loop-next : goal.invariant-loop-next
invariant-loop-next l =
    map use_of l.uses.items ≡ map use_of l.fn.uses.items ++ flat_map next_uses (map next_of (take l.next-index l.nexts))
