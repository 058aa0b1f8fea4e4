use Rattle.std.proofs.Common.{◌≡◌}
use Rattle.net_state_enc.proofs.GateLaws.{Leaves}
use Rattle.net_state_enc.proofs.gates.leaf_nets.Given as goal

abbrev pub invariant-loop-code : goal.invariant-loop-code
invariant-loop-code l = record {
  first : l.draft.first ≡ l.initial.draft.first;
  made : Leaves l.initial.draft.first l.base l.width l.initial.draft.gates.items l.draft.gates.items l.nets.items l.codes l.code-index;
}
