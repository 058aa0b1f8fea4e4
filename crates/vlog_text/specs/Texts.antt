-- To believe: which module a text describes.
use Rattle.std.specs.Prelude.{◌≡◌, ℕ, Bool, false, List, [], ◌∷◌, map, None, if◌then◌else◌}
use Rattle.base_types.specs.Names.{is_same_name}
use Rattle.net_expressions.specs.Trees.{Expr}
use Rattle.net_expressions.specs.Grammar.{Written}
use Rattle.vlog_text.specs.Trees.{Initial, Next, Source, Register, VerilogModule}
use Rattle.vlog_text.specs.Tokens.{kinds}
use Rattle.vlog_text.specs.Grammar.{IsText, source_meant}
use Rattle.vlog_text.specs.Names.{is_input, is_output, is_wire, is_reg, names_of, name_fault}

-- how many `~` and `(` may stand one in another
abbrev pub nesting_limit : ℕ
nesting_limit = 200

-- the value under the `initial` of a reg, which has one
abbrev pub initial_value : List Initial → List ℕ → Bool
initial_value [] name = false
initial_value (i ∷ initials) name = if is_same_name i.name name then i.value else initial_value initials name

-- the name right of the `<=` of a reg, which has one
abbrev pub next_source : List Next → List ℕ → List ℕ
next_source [] name = []
next_source (n ∷ nexts) name = if is_same_name n.target name then n.source else next_source nexts name

-- a reg with what stands of it under `initial` and beside `<=`
abbrev pub register_said : Source Expr → List ℕ → Register
register_said s name = record {
  name = name;
  init = initial_value s.initials name;
  from = next_source s.nexts name;
}

-- the module of a source that keeps the rules on names
abbrev pub module_said : Source Expr → VerilogModule
module_said s = record {
  name = s.name;
  inputs = names_of is_input s.declarations;
  outputs = names_of is_output s.declarations;
  registers = map (register_said s) (names_of is_reg s.declarations);
  wires = names_of is_wire s.declarations;
  assigns = s.assigns;
}

-- The text has the grammar's tokens of something written that keeps the rules on names and whose module this is.
pub record Describes (text : List ℕ) (design : VerilogModule) : Type 0 where
  pub written : Source Written
  pub spelled : IsText nesting_limit written (kinds text)
  pub names_fit : name_fault (source_meant written) ≡ None
  pub means : module_said (source_meant written) ≡ design
