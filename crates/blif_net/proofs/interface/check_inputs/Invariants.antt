use Rattle.std.proofs.Common.{ℕ, ◌<◌, List, IsTrue, slice_index_or}
use Rattle.base_types.specs.Names.{is_name}
use Rattle.blif_net.proofs.interface.check_inputs.Given as goal

abbrev pub invariant-loop-input : goal.invariant-loop-input
invariant-loop-input l = (k : ℕ) (d : List ℕ) → k < l.input-index → IsTrue (is_name (slice_index_or l.inputs k d))
