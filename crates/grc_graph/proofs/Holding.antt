-- Where a set of pauses has none of a statement, the statement holds none.
use Rattle.std.proofs.Common.{Bool, false, refl, ℕ, ◌+◌, ◌==◌, ◌||◌, ◌≡◌}
use Rattle.std.proofs.lemmas.Bool.{cond-true, eq-eqb}
use Rattle.base_facts.proofs.Tests.{or-equal}
use Rattle.est_kernel.specs.Preorder.{statement_count}
use Rattle.est_kernel.specs.Terms.{Awake, Emit, Exit, Local, Loop, Nothing, Par, Pause, Present, Seq, Suspend, Term, Trap}
use Rattle.grc_graph.specs.Readings.{holds_at}
use Rattle.grc_graph.specs.Residuals.{holds}

pub holds-false : (t : Term) (n : ℕ) → holds (λ m. false) t n ≡ false
holds-false (Present e p q) n = or-equal (holds-false p (n + 1)) (holds-false q (n + 1 + statement_count p))
holds-false (Suspend e p) n = holds-false p (n + 1)
holds-false (Seq p q) n = or-equal (holds-false p (n + 1)) (holds-false q (n + 1 + statement_count p))
holds-false (Loop at p) n = holds-false p (n + 1)
holds-false (Par p q) n = or-equal (holds-false p (n + 1)) (holds-false q (n + 1 + statement_count p))
holds-false (Trap p) n = holds-false p (n + 1)
holds-false (Local x p) n = holds-false p (n + 1)
holds-false _ n = refl

-- where no pause is selected, no statement holds one
pub holds-none : (S : ℕ → Bool) (t : Term) (n : ℕ) → ((m : ℕ) → S m ≡ false) → holds S t n ≡ false
holds-none S Pause n h = h n
holds-none S (Present e p q) n h = λ i. holds-none S p (n + 1) h i || holds-none S q (n + 1 + statement_count p) h i
holds-none S (Suspend e p) n h = holds-none S p (n + 1) h
holds-none S (Seq p q) n h = λ i. holds-none S p (n + 1) h i || holds-none S q (n + 1 + statement_count p) h i
holds-none S (Loop at p) n h = holds-none S p (n + 1) h
holds-none S (Par p q) n h = λ i. holds-none S p (n + 1) h i || holds-none S q (n + 1 + statement_count p) h i
holds-none S (Trap p) n h = holds-none S p (n + 1) h
holds-none S (Local s p) n h = holds-none S p (n + 1) h
holds-none S _ n h = refl

-- what a lookup of held pauses finds
pub holds_at-self : (S : ℕ → Bool) (t : Term) (n : ℕ) → holds_at S t n n ≡ holds S t n
holds_at-self S Nothing n = refl
holds_at-self S Pause n = refl
holds_at-self S (Emit s) n = refl
holds_at-self S (Exit c) n = refl
holds_at-self S (Awake e p) n = refl
holds_at-self S _ n = cond-true (n == n) _ _ (eq-eqb n n refl)
