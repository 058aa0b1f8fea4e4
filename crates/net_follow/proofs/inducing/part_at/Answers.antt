use Rattle.std.proofs.Common.{Bool, subst, refl, inl, inr}
use Rattle.net_follow.specs.Literals.{Meets}
use Rattle.net_follow.specs.Proving.{Shown}
use Rattle.net_follow.proofs.inducing.part_at.Goals as goal

pub returns-then-branch : goal.returns-then-branch
returns-then-branch c = record {
  noted = inr (refl, subst (λ (b : Bool). Shown (λ V. Meets V c.args.claim) c.args.prover.now c.follows.new.self b) c.if-branch.true c.in_ok-follows.ensures);
}

pub returns : goal.returns
returns c = record { noted = inl c.in_ok-push.ensures.items }
