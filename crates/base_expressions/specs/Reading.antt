-- Inner: the reading function of expressions by tiers, from the left with one token ahead. In words:
--
--   expr = conj { or conj }
--   conj = neg { and neg }
--   neg  = not neg | LEAF | open expr close
--
-- What the tokens are and what is made of the parts is left open.
use Rattle.std.specs.Prelude.{ℕ, zero, suc, Bool, true, false, List, [], ◌∷◌, Option, Some, None}
use Rattle.base_expressions.specs.declared.language.Joint.{Joint}
use Rattle.base_expressions.specs.declared.language.Joint.TheVariants as joints
use Rattle.base_reader.specs.Readings.{Rule, refuse, give, mapped, both, trail, the, loop}
use Rattle.base_reader.specs.Choice.{optional_or, choose}

-- what begins a part: a negation, a bracket, or a leaf, which is the whole part
pub data Opening (B F : Type 0) : Type 0 where
  Negates : Opening B F
  Opens : (bracket : B) → Opening B F
  IsLeaf : (leaf : F) → Opening B F

-- what the tokens of a language are, and what is made of the parts of an expression
pub record Tiers (T B F A : Type 0) : Type 0 where
  pub opening : T → Option (Opening B F)
  pub closing : B → T → Option (Unit {0})
  pub mark : Joint → T → Option (Unit {0})
  pub leaf : F → A
  pub negation : A → A
  pub bracketed : B → A → A
  -- two parts or more, with the operator between them
  pub joined : Joint → List A → A

-- what is made of a leaf
abbrev pub leaf_in : {T B F A : Type 0} → Tiers T B F A → Option (Opening B F) → Option A
leaf_in t (Some (IsLeaf leaf)) = Some (t.leaf leaf)
leaf_in t _ = None

abbrev pub leaf_at : {T B F A : Type 0} → Tiers T B F A → T → Option A
leaf_at t token = leaf_in t (t.opening token)

-- the rules for a part of an expression and for a whole one
pub record Rules (T A : Type 0) : Type 0 where
  pub part : Rule T A
  pub whole : Rule T A

-- what takes room
abbrev pub is_deep : {B F : Type 0} → Opening B F → Bool
is_deep Negates = true
is_deep (Opens bracket) = true
is_deep (IsLeaf leaf) = false

abbrev pub opened : {T B F A : Type 0} → Tiers T B F A → Opening B F → Rules T A → Rule T A
opened t Negates inner = mapped t.negation inner.part
opened t (Opens bracket) inner = mapped (t.bracketed bracket) (trail inner.whole (the (t.closing bracket)))
opened t (IsLeaf leaf) inner = give (t.leaf leaf)

abbrev pub neg : {T B F A : Type 0} → Tiers T B F A → ℕ → Rules T A → Rule T A
neg t room inner = choose t.opening is_deep room (λ o. opened t o inner)

-- a list of one part is that part
abbrev pub list_of : {A : Type 0} → (List A → A) → List A → A
list_of node (e ∷ []) = e
list_of node es = node es

-- parts with an operator between them
abbrev pub list_step : {T A : Type 0} → (T → Option (Unit {0})) → Rule T A → Rule T (Option A)
list_step mark part = optional_or mark (λ _. part) (give tt)

abbrev pub listed : {T A : Type 0} → (T → Option (Unit {0})) → (List A → A) → Rule T A → Rule T A
listed mark node part =
    mapped (λ found. list_of node (found.0 ∷ found.1)) (both part (loop (list_step mark part)))

-- what stands between operators, and the whole tier
abbrev pub below : {T B F A : Type 0} → Tiers T B F A → Joint → ℕ → Rules T A → Rule T A
below t joints.And room inner = neg t room inner
below t joints.Or room inner = listed (t.mark joints.And) (t.joined joints.And) (neg t room inner)

abbrev pub tier : {T B F A : Type 0} → Tiers T B F A → Joint → ℕ → Rules T A → Rule T A
tier t joint room inner = listed (t.mark joint) (t.joined joint) (below t joint room inner)

abbrev pub no_rules : {T A : Type 0} → Rules T A
no_rules = record { part = refuse; whole = refuse }

abbrev pub rules_of : {T B F A : Type 0} → Tiers T B F A → ℕ → Rules T A → Rules T A
rules_of t room inner = record { part = neg t room inner; whole = tier t joints.Or room inner }

-- the rules inside what the next token opens, never used where there is no room
abbrev pub inside : {T B F A : Type 0} → Tiers T B F A → ℕ → Rules T A
inside t zero = no_rules
inside t (suc room) = rules_of t room (inside t room)

abbrev pub rules_at : {T B F A : Type 0} → Tiers T B F A → ℕ → Rules T A
rules_at t room = rules_of t room (inside t room)

abbrev pub expr : {T B F A : Type 0} → Tiers T B F A → ℕ → Rule T A
expr t room = (rules_at t room).whole
