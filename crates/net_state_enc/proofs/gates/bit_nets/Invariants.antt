use Rattle.std.proofs.Common.{◌≡◌}
use Rattle.net_state_enc.proofs.GateLaws.{Bits}
use Rattle.net_state_enc.proofs.gates.bit_nets.Given as goal

abbrev pub invariant-loop-k : goal.invariant-loop-k
invariant-loop-k l = record {
  first : l.draft.first ≡ l.initial.draft.first;
  made : Bits l.initial.draft.first l.width l.initial.draft.gates.items l.draft.gates.items l.sums.items l.codes l.nets l.k;
}
