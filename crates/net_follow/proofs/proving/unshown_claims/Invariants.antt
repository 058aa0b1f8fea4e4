use Rattle.std.proofs.Common.{take}
use Rattle.net_follow.proofs.Clausal.{Claimed}
use Rattle.net_follow.proofs.proving.unshown_claims.Given as goal

abbrev pub invariant-loop-k : goal.invariant-loop-k
invariant-loop-k l = Claimed (take l.k l.claims) l.places.items l.initial.prover l.prover
