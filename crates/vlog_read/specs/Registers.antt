-- Inner: registers by tables of what is said of them, and a module without its assignments.
use Rattle.std.specs.Prelude.{◌≡◌, ℕ, Bool, false, List, [], map, Option, Some, None}
use Rattle.std.specs.Borrow.{Bor}
use Rattle.std.specs.HashMap.{get_by}
use Rattle.base_types.specs.Names.{is_same_name}
use Rattle.vlog_read.specs.declared.modules.Declared.{Declared}
use Rattle.vlog_read.specs.declared.modules.Outside.{Outside}
use Rattle.vlog_read.specs.declared.modules.Tables.{Tables}
use Rattle.vlog_read.specs.declared.modules.Within.{Within}
use Rattle.net_expressions.specs.Trees.{Expr}
use Rattle.vlog_text.specs.Trees.{Register, Source}
use Rattle.vlog_text.specs.Names.{is_input, is_output, is_wire, is_reg, names_of}
use Rattle.vlog_text.specs.Texts.{register_said}
use Rattle.vlog_text.specs.Views.{register_of}

abbrev pub value_or : Option Bool → Bool
value_or None = false
value_or (Some value) = value

abbrev pub source_or : Option (Bor (List ℕ)) → List ℕ
source_or None = []
source_or (Some source) = source.now

-- a register by the tables
abbrev pub register_by : Tables → List ℕ → Register
register_by tables name = record {
  name = name;
  init = value_or (get_by (λ k. is_same_name name k.now) tables.values);
  from = source_or (get_by (λ k. is_same_name name k.now) tables.sources);
}

pub record IsOutside (s : Source Expr) (o : Outside) : Type 0 where
  pub name : o.name ≡ s.name
  pub inputs : o.inputs.items ≡ names_of is_input s.declarations
  pub outputs : o.outputs.items ≡ names_of is_output s.declarations

pub record IsWithin (s : Source Expr) (w : Within) : Type 0 where
  pub registers : map register_of w.registers.items ≡ map (register_said s) (names_of is_reg s.declarations)
  pub wires : w.wires.items ≡ names_of is_wire s.declarations

pub record IsDeclared (s : Source Expr) (d : Declared) : Type 0 where
  pub outside : IsOutside s d.outside
  pub within : IsWithin s d.within
