use Rattle.std.proofs.Common.{◌≡◌, drop, length}
use Rattle.std.specs.List.{AllByRecursion}
use Rattle.sat_kernel.specs.Clauses.{IsImplied, plain_assumed}
use Rattle.net_never.specs.Inductive.{next_clause}
use Rattle.net_never.proofs.proving.Prover.keeps.Given as goal

-- where the clauses that are left follow, so do all
abbrev pub invariant-loop-k : goal.invariant-loop-k
invariant-loop-k l = record {
  assumed : l.self.kernel.assumed ≡ l.initial.self.kernel.assumed;
  kept : AllByRecursion (λ c. IsImplied l.initial.self.kernel.assumed (next_clause (length l.net.inputs.items) l.net.latches.items c))
      (plain_assumed (drop l.k l.clauses))
      → AllByRecursion (λ c. IsImplied l.initial.self.kernel.assumed (next_clause (length l.net.inputs.items) l.net.latches.items c))
      (plain_assumed l.clauses);
}
