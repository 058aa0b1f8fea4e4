use Rattle.std.proofs.Common.{◌≡◌, ◌++◌, map, take}
use Rattle.net_simp.specs.Renaming.{stand_in}
use Rattle.net_state_enc.specs.Recodings.{copied}
use Rattle.net_state_enc.proofs.netlist.copy_gates.Given as goal

abbrev pub invariant-loop-gate : goal.invariant-loop-gate
invariant-loop-gate l = record {
  gates : l.draft.gates.items ≡ l.initial.draft.gates.items ++ map (copied (stand_in l.names)) (take l.gate-index l.gates);
  first : l.draft.first ≡ l.initial.draft.first;
}
