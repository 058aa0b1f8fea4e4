use Rattle.std.proofs.Common.{Bool, subst}
use Rattle.net_follow.specs.Literals.{Meets}
use Rattle.net_follow.specs.Proving.{Shown}
use Rattle.net_follow.proofs.proving.Prover.claim.Goals as goal

pub returns-then-branch : goal.returns-then-branch
returns-then-branch c =
    subst (λ (b : Bool). Shown (λ V. Meets V c.args.equation) c.args.self.now c.follows.new.self b) c.if-branch.true c.in_ok-follows.ensures
