-- To believe: kernel terms as plain trees.
use Rattle.std.specs.Prelude.{ℕ}
use Rattle.base_types.specs.declared.place.Span.{Span}

-- a test of signals; a signal is its number
pub data Expression : Type 0 where
  Tick : Expression
  Sig : (s : ℕ) → Expression
  Not : (a : Expression) → Expression
  And : (a b : Expression) → Expression
  Or : (a b : Expression) → Expression

-- The eleven kernel statements, and one more form for what is left of a statement after an instant.
-- Awake e p is a suspension that was started in an earlier instant. It replaces the expansion that
-- Berry gives for a suspension that goes on.
pub data Term : Type 0 where
  Nothing : Term
  Pause : Term
  Emit : (s : ℕ) → Term
  Exit : (k : ℕ) → Term
  Present : (e : Expression) (p q : Term) → Term
  Suspend : (e : Expression) (p : Term) → Term
  Seq : (p q : Term) → Term
  Loop : (at : Span) (p : Term) → Term
  Par : (p q : Term) → Term
  Trap : (p : Term) → Term
  Local : (s : ℕ) (p : Term) → Term
  Awake : (e : Expression) (p : Term) → Term
