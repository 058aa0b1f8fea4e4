use Rattle.std.proofs.Common.{◌≡◌, map, take}
use Rattle.vlog_text.specs.Names.{names_of}
use Rattle.vlog_read.specs.NameTests.{group_test}
use Rattle.vlog_read.specs.Sources.{declaration_of}
use Rattle.vlog_read.proofs.sources.names_of.Given as goal

abbrev pub invariant-loop-declaration : goal.invariant-loop-declaration
invariant-loop-declaration l =
    map (λ w. w.now) l.names.items ≡ names_of (group_test l.group) (map declaration_of (take l.declaration-index l.declarations))
