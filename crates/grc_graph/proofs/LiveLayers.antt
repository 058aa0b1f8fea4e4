-- The layers of each statement of a body, as they are passed down to its parts.
use Rattle.std.proofs.Common.{◌≡◌, ℕ, ◌+◌, ◌<◌, ◌≤◌, ◌==◌, cond, ltb, List, refl, ap, ◌∙◌, arith}
use Rattle.std.proofs.lemmas.Bool.{eq-eqb, ne_eqb, cond-true, cond-false, lt-ltb}
use Rattle.base_facts.proofs.Tests.{ltb-not}
use Rattle.est_kernel.specs.Terms.{Term, Nothing, Pause, Emit, Exit, Awake}
use Rattle.est_kernel.specs.Preorder.{statement_count}
use Rattle.grc_graph.specs.Layers.{Layer, Liveness, layers_of, body_liveness, liveness_at, body_layers}

-- L has the layers of each statement of t, which is at n and live as a says
pub record Agrees (L : ℕ → List Layer) (a : Liveness) (t : Term) (n : ℕ) : Type 0 where
  pub each : (m : ℕ) → n ≤ m → m < n + statement_count t → L m ≡ layers_of (liveness_at a t n m)

pub body_agrees : (body : Term) → Agrees (body_layers body) (body_liveness body) body 0
body_agrees body = record { each = λ m l u. refl }

-- the layers of the statement itself
self_first : (a : Liveness) (b : Liveness) (n : ℕ) → cond (n == n) a b ≡ a
self_first a b n = cond-true (n == n) a b (eq-eqb n n refl)

pub here_agrees : (L : ℕ → List Layer) (a : Liveness) (t : Term) (n : ℕ) → Agrees L a t n → L n ≡ layers_of a
here_agrees L a Nothing n g = g.each n (omega arith) (omega arith)
here_agrees L a Pause n g = g.each n (omega arith) (omega arith)
here_agrees L a (Emit s) n g = g.each n (omega arith) (omega arith)
here_agrees L a (Exit k) n g = g.each n (omega arith) (omega arith)
here_agrees L a (Awake e p) n g = g.each n (omega arith) (omega arith)
here_agrees L a _ n g = g.each n (omega arith) (omega arith) ∙ ap layers_of (self_first a _ n)

not_self : (a b : Liveness) (n m : ℕ) → n < m → cond (m == n) a b ≡ b
not_self a b n m l = cond-false (m == n) a b (ne_eqb m n (λ e. omega arith))

pub only_agrees : (L : ℕ → List Layer) (a b : Liveness) (t p : Term) (n : ℕ) → statement_count t ≡ 1 + statement_count p →
    ((m : ℕ) → liveness_at a t n m ≡ cond (m == n) a (liveness_at b p (n + 1) m)) → Agrees L a t n → Agrees L b p (n + 1)
only_agrees L a b t p n c f g =
    record {
      each = λ m l u.
          g.each m (omega arith) (omega arith) ∙ ap layers_of (f m ∙ not_self a _ n m (omega arith));
    }

pub first_agrees : (L : ℕ → List Layer) (a b c : Liveness) (t p q : Term) (n : ℕ) → statement_count t ≡ 1 + statement_count p + statement_count q →
    ((m : ℕ) → liveness_at a t n m ≡ cond (m == n) a (cond (ltb m (n + 1 + statement_count p)) (liveness_at b p (n + 1) m)
    (liveness_at c q (n + 1 + statement_count p) m))) → Agrees L a t n → Agrees L b p (n + 1)
first_agrees L a b c t p q n k f g =
    record {
      each = λ m l u.
          g.each m (omega arith) (omega arith)
          ∙ ap layers_of (f m ∙ not_self a _ n m (omega arith) ∙ cond-true _ (liveness_at b p (n + 1) m) _ (lt-ltb m (n + 1 + statement_count p) u));
    }

pub second_agrees : (L : ℕ → List Layer) (a b c : Liveness) (t p q : Term) (n : ℕ) → statement_count t ≡ 1 + statement_count p + statement_count q →
    ((m : ℕ) → liveness_at a t n m ≡ cond (m == n) a (cond (ltb m (n + 1 + statement_count p)) (liveness_at b p (n + 1) m)
    (liveness_at c q (n + 1 + statement_count p) m))) → Agrees L a t n → Agrees L c q (n + 1 + statement_count p)
second_agrees L a b c t p q n k f g =
    record {
      each = λ m l u.
          g.each m (omega arith) (omega arith)
          ∙ ap layers_of (f m ∙ not_self a _ n m (omega arith) ∙ cond-false _ (liveness_at b p (n + 1) m) _ (ltb-not m (n + 1 + statement_count p) l));
    }
