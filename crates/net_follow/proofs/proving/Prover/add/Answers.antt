use Rattle.std.proofs.Common.{ap}
use Rattle.sat_kernel.specs.Clauses.{Derivation}
use Rattle.net_follow.proofs.Clausal.{keeps-added}
use Rattle.net_follow.proofs.proving.Prover.add.Goals as goal

pub returns : goal.returns
returns c =
    let coded = rw c.in-Some.is at c.in_ok-literals.ensures in
    keeps-added c.args.clause c.in-Some.literals.items _ _ coded (ap (λ (k : Derivation). k.assumed) c.in_ok-assume.ensures.ok)
