use Rattle.std.proofs.Common.{drop}
use Rattle.grc_layout.specs.Copying.{starts, Reaches}
use Rattle.grc_layout.proofs.lists.push_starts.Given as goal

abbrev pub invariant-loop-root : goal.invariant-loop-root
invariant-loop-root l = Reaches l.initial.live.items l.live.items (starts l.path l.roots) (starts l.path (drop l.root-index l.roots))
