use Rattle.std.proofs.Common.{◌≡◌, ◌<◌, ◌++◌, length, reverse}
use Rattle.est_kernel.specs.Plain.{term_of}
use Rattle.grc_graph.specs.WireNames.{path_at}
use Rattle.grc_list.proofs.places.Places.path_at.Given as goal

-- what is left of the path, and the steps so far, the last one first, are the whole
abbrev pub invariant-loop-at : goal.invariant-loop-at
invariant-loop-at l = record {
  within : l.at < length l.self.list.items;
  path : path_at (term_of l.self.body.now) l.at ++ reverse l.steps.items ≡ path_at (term_of l.self.body.now) l.fn.number.0;
}

abbrev pub decreases-loop-at : goal.decreases-loop-at
decreases-loop-at l = l.at
