-- Inner: the reading function of expressions, from the left with one token ahead. What it makes of an expression is
-- left open: it makes what is written, and what that means.
use Rattle.std.specs.Prelude.{◌≡◌, ℕ, Bool, List, [], ◌∷◌, Option, Some, None, Ok, Err, Result}
use Rattle.std.specs.Borrow.{Bor}
use Rattle.net_expressions.specs.Trees.{Expr, Name, Const, Exprs, NoExprs, MoreExprs}
use Rattle.net_expressions.specs.Trees as trees
use Rattle.net_expressions.specs.Signs.{Sign, NameSign, BitSign, NotSign, OpenSign, CloseSign, AndSign, OrSign, signed}
use Rattle.net_expressions.specs.Grammar.{Written, Word, Bit, Not, Round, And, Or, Writtens, NoneWritten, MoreWritten}
use Rattle.net_expressions.specs.Plain.{kind_by}
use Rattle.net_expressions.specs.declared.kinds.Token.{Token}
use Rattle.base_expressions.specs.declared.language.Joint.{Joint}
use Rattle.base_expressions.specs.declared.language.Joint.TheVariants as joints
use Rattle.base_expressions.specs.Reading.{Opening, Negates, Opens, IsLeaf, Tiers}
use Rattle.base_expressions.specs.Reading as tiers
use Rattle.base_expressions.specs.Views.{FindsBy as Finds}
use Rattle.base_reader.specs.declared.faults.Fault.{Fault}
use Rattle.base_reader.specs.declared.faults.ReadError.{ReadError}
use Rattle.base_reader.specs.declared.faults.ReadError.TheVariants as errors
use Rattle.base_reader.specs.Readings.{Read, Rule}

-- what code returned of its tokens, seen by a view, is what a function answers on their kinds, unless memory ran out
abbrev pub FindsBy : {K P X Y : Type 0} → (K → P) → (X → Y) → Result (X × Bor (List (Token K))) ReadError →
    Read P Y → Type 0
FindsBy plain view result read = Finds (kind_by plain) view result read

-- the same where all tokens were read
abbrev pub GivesKinds : {X Y : Type 0} → (X → Y) → Result X ReadError → Result Y Fault → Type 0
GivesKinds view (Ok found) answer = answer ≡ Ok (view found)
GivesKinds view (Err (errors.Fault fault)) answer = answer ≡ Err fault
GivesKinds view (Err errors.NoMemory) answer = Unit {0}

-- ---- what is made

-- what is made of the parts of an expression; of joined ones there are two or more
pub record Maker (A : Type 0) : Type 0 where
  pub word : List ℕ → A
  pub value : Bool → A
  pub negation : A → A
  pub round : A → A
  pub joined : Joint → List A → A

abbrev pub exprs : List Expr → Exprs
exprs [] = NoExprs
exprs (e ∷ others) = MoreExprs e (exprs others)

abbrev pub writtens : List Written → Writtens
writtens [] = NoneWritten
writtens (e ∷ others) = MoreWritten e (writtens others)

abbrev pub expr_joined : Joint → List Expr → Expr
expr_joined joints.And es = trees.And (exprs es)
expr_joined joints.Or es = trees.Or (exprs es)

abbrev pub written_joined : Joint → List Written → Written
written_joined joints.And es = And (writtens es)
written_joined joints.Or es = Or (writtens es)

abbrev pub makes_expr : Maker Expr
makes_expr = record {
  word = Name;
  value = Const;
  negation = trees.Not;
  round = λ e. e;
  joined = expr_joined;
}

abbrev pub makes_written : Maker Written
makes_written = record {
  word = Word;
  value = Bit;
  negation = Not;
  round = Round;
  joined = written_joined;
}

-- ---- the rules

-- a token that is a part of its own
pub data Leaf : Type 0 where
  NameLeaf : (name : List ℕ) → Leaf
  BitLeaf : (value : Bool) → Leaf

abbrev pub leaf_of : {A : Type 0} → Maker A → Leaf → A
leaf_of m (NameLeaf name) = m.word name
leaf_of m (BitLeaf value) = m.value value

-- what begins a part of an expression, where there is one kind of brackets
abbrev pub opening_of : Sign → Option (Opening (Unit {0}) Leaf)
opening_of NotSign = Some Negates
opening_of OpenSign = Some (Opens tt)
opening_of (BitSign value) = Some (IsLeaf (BitLeaf value))
opening_of (NameSign name) = Some (IsLeaf (NameLeaf name))
opening_of _ = None

abbrev pub joint_sign : Joint → Sign
joint_sign joints.And = AndSign
joint_sign joints.Or = OrSign

abbrev pub tiers_of : {K A : Type 0} → (K → Sign) → Maker A → Tiers K (Unit {0}) Leaf A
tiers_of sign m = record {
  opening = λ token. opening_of (sign token);
  closing = λ _. signed sign CloseSign;
  mark = λ joint. signed sign (joint_sign joint);
  leaf = leaf_of m;
  negation = m.negation;
  bracketed = λ _. m.round;
  joined = m.joined;
}

abbrev pub expr : {K A : Type 0} → (K → Sign) → Maker A → ℕ → Rule K A
expr sign m room = tiers.expr (tiers_of sign m) room
