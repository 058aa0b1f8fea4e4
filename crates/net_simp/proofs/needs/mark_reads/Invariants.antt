use Rattle.net_simp.specs.Needs.{NeedsMet}
use Rattle.net_simp.proofs.needs.mark_reads.Given as goal

abbrev pub invariant-loop-k : goal.invariant-loop-k
invariant-loop-k l = NeedsMet l.first l.gates l.initial.marks l.marks l.k
