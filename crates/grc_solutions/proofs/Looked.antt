-- The statement with a number, and the statements of the live instances.
use Rattle.std.proofs.Common.{◌≡◌, ℕ, ◌+◌, ◌<◌, ◌≤◌, ◌==◌, cond, ltb, List, [], ◌∷◌, map, refl, ◌∙◌, arith}
use Rattle.std.proofs.lemmas.Bool.{eq-eqb, ne_eqb, cond-true, cond-false, lt-ltb}
use Rattle.base_facts.proofs.Lists.{Every, every-append}
use Rattle.base_facts.proofs.Tests.{ltb-not}
use Rattle.est_kernel.specs.Terms.{Term, Emit, Exit, Present, Suspend, Seq, Loop, Par, Trap, Local, Awake}
use Rattle.est_kernel.specs.Preorder.{statement_count}
use Rattle.grc_graph.specs.Layers.{Layer}
use Rattle.grc_graph.specs.Scopes.{Scope, bind}
use Rattle.grc_graph.specs.Formulas.{Formula}
use Rattle.grc_graph.specs.Spots.{Spot, spots, spots_at}
use Rattle.grc_graph.specs.Selected.{HasExitCodes}
use Rattle.grc_solutions.proofs.Each.{spot}

-- the statement with a number
abbrev pub statement_at : Term → ℕ → ℕ → Term
statement_at (Emit s) n m = Emit s
statement_at (Exit k) n m = Exit k
statement_at (Present e p q) n m =
    cond (m == n) (Present e p q) (cond (ltb m (n + 1 + statement_count p)) (statement_at p (n + 1) m) (statement_at q (n + 1 + statement_count p) m))
statement_at (Suspend e p) n m = cond (m == n) (Suspend e p) (statement_at p (n + 1) m)
statement_at (Seq p q) n m =
    cond (m == n) (Seq p q) (cond (ltb m (n + 1 + statement_count p)) (statement_at p (n + 1) m) (statement_at q (n + 1 + statement_count p) m))
statement_at (Loop at p) n m = cond (m == n) (Loop at p) (statement_at p (n + 1) m)
statement_at (Par p q) n m =
    cond (m == n) (Par p q) (cond (ltb m (n + 1 + statement_count p)) (statement_at p (n + 1) m) (statement_at q (n + 1 + statement_count p) m))
statement_at (Trap p) n m = cond (m == n) (Trap p) (statement_at p (n + 1) m)
statement_at (Local s p) n m = cond (m == n) (Local s p) (statement_at p (n + 1) m)
statement_at (Awake e p) n m = Awake e p
statement_at t n m = t

-- a lookup g finds the statements of t
pub record Contents (g : ℕ → Term) (t : Term) (n : ℕ) : Type 0 where
  pub each : (m : ℕ) → n ≤ m → m < n + statement_count t → g m ≡ statement_at t n m

pub reads_only : (g : ℕ → Term) (t p : Term) (n : ℕ) → statement_count t ≡ 1 + statement_count p →
    ((m : ℕ) → statement_at t n m ≡ cond (m == n) t (statement_at p (n + 1) m)) → Contents g t n → Contents g p (n + 1)
reads_only g t p n c f h =
    record { each = λ m l u. h.each m (omega arith) (omega arith) ∙ f m ∙ cond-false (m == n) _ _ (ne_eqb m n (λ e. omega arith)) }

pub reads_first : (g : ℕ → Term) (t p q : Term) (n : ℕ) → statement_count t ≡ 1 + statement_count p + statement_count q →
    ((m : ℕ) → statement_at t n m ≡ cond (m == n) t (cond (ltb m (n + 1 + statement_count p)) (statement_at p (n + 1) m)
    (statement_at q (n + 1 + statement_count p) m))) → Contents g t n → Contents g p (n + 1)
reads_first g t p q n c f h =
    record {
      each = λ m l u.
          h.each m (omega arith) (omega arith) ∙ f m ∙ cond-false (m == n) _ _ (ne_eqb m n (λ e. omega arith))
          ∙ cond-true (ltb m (n + 1 + statement_count p)) _ _ (lt-ltb m (n + 1 + statement_count p) u);
    }

pub reads_second : (g : ℕ → Term) (t p q : Term) (n : ℕ) → statement_count t ≡ 1 + statement_count p + statement_count q →
    ((m : ℕ) → statement_at t n m ≡ cond (m == n) t (cond (ltb m (n + 1 + statement_count p)) (statement_at p (n + 1) m)
    (statement_at q (n + 1 + statement_count p) m))) → Contents g t n → Contents g q (n + 1 + statement_count p)
reads_second g t p q n c f h =
    record {
      each = λ m l u.
          h.each m (omega arith) (omega arith) ∙ f m ∙ cond-false (m == n) _ _ (ne_eqb m n (λ e. omega arith))
          ∙ cond-false (ltb m (n + 1 + statement_count p)) _ _ (ltb-not m (n + 1 + statement_count p) l);
    }

module _ (L : ℕ → List Layer) (g : ℕ → Term) where
  abbrev pub Looked : Spot → Type 0
  Looked x = g x.path ≡ x.statement

  looked_here : (B : Scope) (f : Layer → Formula) (t : Term) (n : ℕ) (ls : List Layer) → g n ≡ t → Every Looked (map (λ l. spot B f t n l) ls)
  looked_here B f t n [] e = tt
  looked_here B f t n (l ∷ ls) e = (e, looked_here B f t n ls e)

  self : (t u : Term) (n : ℕ) → Contents g t n → 1 ≤ statement_count t → statement_at t n n ≡ cond (n == n) t u → g n ≡ t
  self t u n r l e = r.each n (omega arith) (omega arith) ∙ e ∙ cond-true (n == n) t u (eq-eqb n n refl)

  pub looked : (B : Scope) (f : Layer → Formula) (t : Term) (n : ℕ) → HasExitCodes t → Contents g t n → Every Looked (spots L B f t n)
  looked B f (Present e p q) n k r =
      every-append Looked (spots_at L B f (Present e p q) n) _ (looked_here B f (Present e p q) n (L n) (self (Present e p q) _ n r (omega arith) refl))
      (every-append Looked (spots L B _ p (n + 1)) _
      (looked B _ p (n + 1) k.0 (reads_first g (Present e p q) p q n refl (λ m. refl) r))
      (looked B _ q (n + 1 + statement_count p) k.1 (reads_second g (Present e p q) p q n refl (λ m. refl) r)))
  looked B f (Suspend e p) n k r =
      every-append Looked (spots_at L B f (Suspend e p) n) _ (looked_here B f (Suspend e p) n (L n) (self (Suspend e p) _ n r (omega arith) refl))
      (looked B _ p (n + 1) k (reads_only g (Suspend e p) p n refl (λ m. refl) r))
  looked B f (Seq p q) n k r =
      every-append Looked (spots_at L B f (Seq p q) n) _ (looked_here B f (Seq p q) n (L n) (self (Seq p q) _ n r (omega arith) refl))
      (every-append Looked (spots L B _ p (n + 1)) _
      (looked B _ p (n + 1) k.0 (reads_first g (Seq p q) p q n refl (λ m. refl) r))
      (looked B _ q (n + 1 + statement_count p) k.1 (reads_second g (Seq p q) p q n refl (λ m. refl) r)))
  looked B f (Loop at p) n k r =
      every-append Looked (spots_at L B f (Loop at p) n) _ (looked_here B f (Loop at p) n (L n) (self (Loop at p) _ n r (omega arith) refl))
      (looked B _ p (n + 1) k (reads_only g (Loop at p) p n refl (λ m. refl) r))
  looked B f (Par p q) n k r =
      every-append Looked (spots_at L B f (Par p q) n) _ (looked_here B f (Par p q) n (L n) (self (Par p q) _ n r (omega arith) refl))
      (every-append Looked (spots L B _ p (n + 1)) _
      (looked B _ p (n + 1) k.0 (reads_first g (Par p q) p q n refl (λ m. refl) r))
      (looked B _ q (n + 1 + statement_count p) k.1 (reads_second g (Par p q) p q n refl (λ m. refl) r)))
  looked B f (Trap p) n k r =
      every-append Looked (spots_at L B f (Trap p) n) _ (looked_here B f (Trap p) n (L n) (self (Trap p) _ n r (omega arith) refl))
      (looked B _ p (n + 1) k (reads_only g (Trap p) p n refl (λ m. refl) r))
  looked B f (Local s p) n k r =
      every-append Looked (spots_at L B f (Local s p) n) _ (looked_here B f (Local s p) n (L n) (self (Local s p) _ n r (omega arith) refl))
      (looked (bind B s n) _ p (n + 1) k (reads_only g (Local s p) p n refl (λ m. refl) r))
  looked B f (Awake e p) n k r = absurd k
  looked B f t n k r = looked_here B f t n (L n) (r.each n (omega arith) (omega arith))
