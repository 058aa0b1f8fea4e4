use Rattle.std.proofs.Common.{◌≡◌, take}
use Rattle.net_state_enc.proofs.GateLaws.{Added}
use Rattle.net_state_enc.proofs.gates.add_leaf.Given as goal

abbrev pub invariant-loop-literal : goal.invariant-loop-literal
invariant-loop-literal l = record {
  first : l.draft.first ≡ l.initial.draft.first;
  made : Added l.initial.draft.first l.initial.draft.gates.items l.draft.gates.items l.initial.sums l.sums l.net (take l.literal-index l.code) l.literal-index;
}
