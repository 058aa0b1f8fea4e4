-- To believe: embedded components as plain trees. A component is a C text with a structure for the state of an
-- instance, one for the inputs and one for the outputs of a call, and two functions, NAME_reset and NAME_react.
use Rattle.std.specs.Prelude.{ℕ, Bool, List}
pub use Rattle.csub_text.specs.Trees.{StateVariable}

-- what is read: a member of the state, a member of the inputs, or a local of the call
pub data Place : Type 0 where
  State : (name : List ℕ) → Place
  Given : (name : List ℕ) → Place
  Local : (name : List ℕ) → Place

pub data Value : Type 0 where
  Const : (value : Bool) → Value
  Copy : (place : Place) → Value
  Not : (place : Place) → Value
  And : (first second : Place) → Value
  Or : (first second : Place) → Value

-- a local, which is declared with its value
pub record LocalValue : Type 0 where
  pub name : List ℕ
  pub value : Value

-- a member that gets the value of a place
pub record Transfer : Type 0 where
  pub member : List ℕ
  pub from : Place

-- The members of the structures in their order, where a state has the value that NAME_reset gives it. NAME_react
-- ignores some of its parameters, computes its locals, sets the members of the outputs and then those of the state, and
-- returns a place.
pub record Component : Type 0 where
  pub name : List ℕ
  pub states : List StateVariable
  pub inputs : List (List ℕ)
  pub outputs : List (List ℕ)
  pub ignored : List (List ℕ)
  pub locals : List LocalValue
  pub shown : List Transfer
  pub kept : List Transfer
  pub answer : Place

abbrev pub name_of_state : StateVariable → List ℕ
name_of_state s = s.name
