-- To believe: the rules on names, which C and C++ have. The members of a structure differ, and so do the locals. No
-- name is a word of C or of C++. What is read is a member of its structure, or a local that is declared before. Each
-- member of the outputs and of the state is set once, in declared order.
use Rattle.std.specs.Prelude.{◌≡◌, ℕ, Bool, true, false, ◌&&◌, List, [], ◌∷◌, ◌++◌, map, IsTrue}
use Rattle.std.specs.List.{list_all, list_any, AllByRecursion}
use Rattle.base_types.specs.Distinct.{all_differ}
use Rattle.base_types.specs.Names.{is_name, is_same_name, is_name_byte}
use Rattle.net_ir.specs.NameLists.{is_among}
use Rattle.net_expressions.specs.Lexemes.{begins_name}
use Rattle.csub_embed.specs.Grammar.{self_word, in_word, out_word}
use Rattle.csub_embed.specs.Trees.{Place, State, Given, Local, Value, Const, Copy, Not, And, Or}
use Rattle.csub_embed.specs.Trees.{LocalValue, Component, name_of_state}
use Rattle.csub_embed.specs.declared.words.TheConstants.{RESERVED, TYPES}

-- ---- words

-- a word of C or of C++
unfoldable pub is_reserved : List ℕ → Bool
is_reserved name = list_any (λ w. is_same_name name w.now) RESERVED

-- NAME_t is a type of the library
unfoldable pub is_type : List ℕ → Bool
is_type name = list_any (λ w. is_same_name name w.now) TYPES

-- a letter or `_`, followed by letters, digits and `_`
abbrev pub is_identifier : List ℕ → Bool
is_identifier [] = false
is_identifier (c ∷ cs) = begins_name c && list_all is_name_byte cs

-- a word that may be a name
pub record IsFree (name : List ℕ) : Type 0 where
  pub word : is_identifier name ≡ true
  pub free : is_reserved name ≡ false

-- a name that a component may have
pub record IsTypeName (name : List ℕ) : Type 0 where
  pub fits : is_name name ≡ true
  pub free : is_type name ≡ false

-- ---- what is read

-- a member of its structure, or one of these locals
abbrev pub IsDeclared : Component → List (List ℕ) → Place → Type 0
IsDeclared c before (State name) = is_among name (map name_of_state c.states) ≡ true
IsDeclared c before (Given name) = is_among name c.inputs ≡ true
IsDeclared c before (Local name) = is_among name before ≡ true

abbrev pub ReadsDeclared : Component → List (List ℕ) → Value → Type 0
ReadsDeclared c before (Const value) = Unit {0}
ReadsDeclared c before (Copy place) = IsDeclared c before place
ReadsDeclared c before (Not place) = IsDeclared c before place
ReadsDeclared c before (And first second) = IsDeclared c before first × IsDeclared c before second
ReadsDeclared c before (Or first second) = IsDeclared c before first × IsDeclared c before second

-- each local reads members, and locals that are declared before it
abbrev pub LocalsRead : Component → List (List ℕ) → List LocalValue → Type 0
LocalsRead c before [] = Unit {0}
LocalsRead c before (l ∷ locals) = ReadsDeclared c before l.value × LocalsRead c (l.name ∷ before) locals

abbrev pub name_of_local : LocalValue → List ℕ
name_of_local l = l.name

abbrev pub local_names : Component → List (List ℕ)
local_names c = map name_of_local c.locals

-- ---- the rules

abbrev pub parameters : List (List ℕ)
parameters = self_word ∷ in_word ∷ out_word ∷ []

pub record IsSound (c : Component) : Type 0 where
  pub name : IsTypeName c.name
  pub states_free : AllByRecursion (λ s. IsFree (name_of_state s)) c.states
  pub inputs_free : AllByRecursion IsFree c.inputs
  pub outputs_free : AllByRecursion IsFree c.outputs
  pub locals_free : AllByRecursion IsFree (local_names c)
  pub states_differ : IsTrue (all_differ is_same_name (map name_of_state c.states))
  pub inputs_differ : IsTrue (all_differ is_same_name c.inputs)
  pub outputs_differ : IsTrue (all_differ is_same_name c.outputs)
  -- and no local is named like a parameter
  pub locals_differ : IsTrue (all_differ is_same_name (parameters ++ local_names c))
  pub ignored : AllByRecursion (λ name. is_among name parameters ≡ true) c.ignored
  pub locals_read : LocalsRead c [] c.locals
  pub shown_read : AllByRecursion (λ s. IsDeclared c (local_names c) s.from) c.shown
  pub kept_read : AllByRecursion (λ s. IsDeclared c (local_names c) s.from) c.kept
  pub answer_read : IsDeclared c (local_names c) c.answer
  pub outputs_set : map (λ s. s.member) c.shown ≡ c.outputs
  pub states_set : map (λ s. s.member) c.kept ≡ map name_of_state c.states
