use Rattle.std.proofs.Common.{subst, inl, inr}
use Rattle.net_opt.specs.Shown.{IsRead}
use Rattle.net_opt.proofs.Reaching.{grows-then}
use Rattle.net_opt.proofs.showing.reach_operands.Goals as goal

pub returns-in_ok-reach-in-And-2-clause-grows : goal.returns-in_ok-reach-in-And-2-clause-grows
returns-in_ok-reach-in-And-2-clause-grows c = grows-then _ _ _ _ _ _ c.in_ok-reach-in-And.ensures.grows c.in_ok-reach-in-And-2.ensures.grows

pub returns-in_ok-reach-in-And-2-clause-shown : goal.returns-in_ok-reach-in-And-2-clause-shown
returns-in_ok-reach-in-And-2-clause-shown c = λ P read all. elim c.in-And.is [
  | inl is ↦
      let both = subst (IsRead P) is read in
      c.in_ok-reach-in-And-2.ensures.shown P both.1 (c.in_ok-reach-in-And.ensures.shown P both.0 all)
  | inr is ↦
      let both = subst (IsRead P) is read in
      c.in_ok-reach-in-And-2.ensures.shown P both.1 (c.in_ok-reach-in-And.ensures.shown P both.0 all)
]

pub returns-in_ok-reach-in-Copy-clause-shown : goal.returns-in_ok-reach-in-Copy-clause-shown
returns-in_ok-reach-in-Copy-clause-shown c = λ P read all. elim c.in-Copy.is [
  | inl is ↦ c.in_ok-reach-in-Copy.ensures.shown P (subst (IsRead P) is read) all
  | inr is ↦ c.in_ok-reach-in-Copy.ensures.shown P (subst (IsRead P) is read) all
]
