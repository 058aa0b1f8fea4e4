use Rattle.std.proofs.Common.{◌≡◌, drop}
use Rattle.sat_kernel.specs.Clauses.{plain_assumed}
use Rattle.net_never.specs.Reached.{are_met}
use Rattle.net_never.proofs.runs.are_met.Given as goal

abbrev pub invariant-loop-clause : goal.invariant-loop-clause
invariant-loop-clause l = are_met (plain_assumed (drop l.clause-index l.clauses)) l.values ≡ are_met (plain_assumed l.clauses) l.values
