use Rattle.std.proofs.Common.{take}
use Rattle.net_simp.specs.Drafts.{Drafted, form_in}
use Rattle.net_simp.proofs.folding.folded_gates.Given as goal

abbrev pub invariant-loop-gate : goal.invariant-loop-gate
invariant-loop-gate l = Drafted l.first (take l.gate-index l.gates) l.draft.gates.items l.draft.names.items (form_in l.draft.known)
