use Rattle.std.proofs.Common.{ℕ, ◌<◌, List, slice_index_or}
use Rattle.blif_net.specs.Interfaces.{HasName}
use Rattle.blif_net.proofs.interface.check_outputs.Given as goal

abbrev pub invariant-loop-word : goal.invariant-loop-word
invariant-loop-word l = (k : ℕ) (d : List ℕ) → k < l.word-index → HasName l.inputs (slice_index_or l.words k d)
