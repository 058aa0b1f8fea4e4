-- To believe: formulas over wires, and what they mean.
use Rattle.std.specs.Prelude.{ℕ, Bool, true, false, List, [], ◌∷◌}
use Rattle.grc_graph.specs.Layers.{Layer}
use Rattle.grc_graph.specs.Wires.{Wire}

-- Boot says that this is the first instant; Input that the event gives the signal; Selected that a selected pause
-- lies in the statement at n; Upto that the instance ends with a code of at most k. Kept says that each parallel
-- that encloses the instance, in its own instance, ends with code 1. Held says that some resumed suspension, at the
-- instance or enclosing it, runs with a true test, and that each parallel that encloses that suspension ends with
-- code 1.
pub data Formula : Type 0 where
  Const : (b : Bool) → Formula
  Boot : Formula
  Input : (s : ℕ) → Formula
  Value : (w : Wire) → Formula
  Selected : (n : ℕ) → Formula
  Upto : (n : ℕ) (l : Layer) (k : ℕ) → Formula
  Kept : (n : ℕ) (l : Layer) → Formula
  Held : (n : ℕ) (l : Layer) → Formula
  Negation : (a : Formula) → Formula
  Conjunction : (a b : Formula) → Formula
  Disjunction : (a b : Formula) → Formula

-- the or of a list, to the right; of no formula it is false
abbrev pub any_of : List Formula → Formula
any_of [] = Const false
any_of (a ∷ []) = a
any_of (a ∷ (b ∷ fs)) = Disjunction a (any_of (b ∷ fs))

-- the and of a list, to the right; of no formula it is true
abbrev pub all_of : List Formula → Formula
all_of [] = Const true
all_of (a ∷ []) = a
all_of (a ∷ (b ∷ fs)) = Conjunction a (all_of (b ∷ fs))

-- An interpretation gives a meaning to each word, in Booleans or in other truth values.
pub record Interpretation (A : Type 0) : Type 0 where
  pub constant : Bool → A
  pub negation : A → A
  pub conjunction : A → A → A
  pub disjunction : A → A → A
  pub boot : A
  pub input : ℕ → A
  pub wire : Wire → A
  pub selected : ℕ → A
  pub upto : ℕ → Layer → ℕ → A
  pub kept : ℕ → Layer → A
  pub held : ℕ → Layer → A

-- what a formula means in an interpretation
abbrev pub meaning : {A : Type 0} → Interpretation A → Formula → A
meaning R (Const b) = R.constant b
meaning R Boot = R.boot
meaning R (Input s) = R.input s
meaning R (Value w) = R.wire w
meaning R (Selected n) = R.selected n
meaning R (Upto n l k) = R.upto n l k
meaning R (Kept n l) = R.kept n l
meaning R (Held n l) = R.held n l
meaning R (Negation a) = R.negation (meaning R a)
meaning R (Conjunction a b) = R.conjunction (meaning R a) (meaning R b)
meaning R (Disjunction a b) = R.disjunction (meaning R a) (meaning R b)
