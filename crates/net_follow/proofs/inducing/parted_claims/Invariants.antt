use Rattle.std.proofs.Common.{take}
use Rattle.net_follow.proofs.Clausal.{Claimed}
use Rattle.net_follow.proofs.inducing.parted_claims.Given as goal

abbrev pub invariant-loop-k : goal.invariant-loop-k
invariant-loop-k l = Claimed (take l.k l.claims) l.unshown.items l.initial.prover l.prover
