-- To believe: the rules on names. Each name is declared once, and tools keep the name of the module apart from those
-- that it declares, so it counts as one. No name is a word of Verilog. What is read is declared, and neither the clock
-- nor the reset. Each wire and each output is assigned once.
use Rattle.std.specs.Prelude.{◌≡◌, ℕ, Bool, true, false, ◌&&◌, ◌||◌, List, [], ◌∷◌, ◌++◌, map, IsTrue}
use Rattle.std.specs.List.{list_all, list_any, AllByRecursion}
use Rattle.base_types.specs.Distinct.{all_differ}
use Rattle.base_types.specs.Names.{is_same_name, is_name_byte}
use Rattle.net_ir.specs.NameLists.{is_among}
use Rattle.net_expressions.specs.Lexemes.{begins_name}
use Rattle.net_expressions.specs.Names.{names_in}
use Rattle.vlog_text.specs.Machine.{given_inputs}
use Rattle.vlog_text.specs.Names.{targets}
use Rattle.vlog_reset.specs.Trees.{ResetModule, clock_of, name_of_register}
use Rattle.vlog_reset.specs.declared.words.TheConstants.{WORDS_A_TO_D, WORDS_E_TO_M, WORDS_N_TO_R, WORDS_S_TO_Z}

-- ---- words

-- a word of Verilog (IEEE 1364) or SystemVerilog (IEEE 1800)
unfoldable pub is_reserved : List ℕ → Bool
is_reserved name =
    list_any (λ w. is_same_name name w.now) WORDS_A_TO_D
    || (list_any (λ w. is_same_name name w.now) WORDS_E_TO_M
    || (list_any (λ w. is_same_name name w.now) WORDS_N_TO_R
    || list_any (λ w. is_same_name name w.now) WORDS_S_TO_Z))

-- a letter or `_`, followed by letters, digits and `_`
abbrev pub is_identifier : List ℕ → Bool
is_identifier [] = false
is_identifier (c ∷ cs) = begins_name c && list_all is_name_byte cs

-- a word that may be a name
pub record IsFree (name : List ℕ) : Type 0 where
  pub word : is_identifier name ≡ true
  pub free : is_reserved name ≡ false

-- ---- the names of a module

-- what a module shows to others: its name, its reset, and its inputs and outputs
abbrev pub outer_names_of : ResetModule → List (List ℕ)
outer_names_of m = m.design.name ∷ m.reset ∷ (given_inputs m.design ++ m.design.outputs)

abbrev pub own_names_of : ResetModule → List (List ℕ)
own_names_of m = clock_of m ∷ (map name_of_register m.design.registers ++ m.design.wires)

-- what may be read
abbrev pub is_readable : ResetModule → List ℕ → Bool
is_readable m name =
    is_among name (given_inputs m.design ++ (m.design.outputs ++ (map name_of_register m.design.registers
    ++ m.design.wires)))

abbrev pub AreReadable : ResetModule → List (List ℕ) → Type 0
AreReadable m names = AllByRecursion (λ name. is_readable m name ≡ true) names

-- ---- the rules

pub record IsSound (m : ResetModule) : Type 0 where
  pub free : AllByRecursion IsFree (outer_names_of m ++ own_names_of m)
  pub differ : IsTrue (all_differ is_same_name (outer_names_of m ++ own_names_of m))
  pub assigns_read : AllByRecursion (λ a. AreReadable m (names_in a.value)) m.design.assigns
  pub registers_read : AllByRecursion (λ r. is_readable m r.from ≡ true) m.design.registers
  pub assigned : targets m.design.assigns ≡ m.design.wires ++ m.design.outputs
