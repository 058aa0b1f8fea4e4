use Rattle.std.proofs.Common.{◌≡◌, ◌*◌, take}
use Rattle.net_state_enc.proofs.GateLaws.{Product}
use Rattle.net_state_enc.proofs.gates.product.Given as goal

abbrev pub invariant-loop-literal : goal.invariant-loop-literal
invariant-loop-literal l = record {
  first : l.draft.first ≡ l.initial.draft.first;
  made : Product l.initial.draft.first l.base l.initial.draft.gates.items l.draft.gates.items l.net (take l.literal-index l.literals) (2 * l.literal-index);
}
