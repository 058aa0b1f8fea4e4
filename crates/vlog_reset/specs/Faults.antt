-- To believe: which nets have a text with a reset, and why one has none.
use Rattle.std.specs.Prelude.{◌≡◌, ℕ, true, false, List, ◌∷◌, ◌++◌, find, Some, None}
use Rattle.base_types.specs.Names.{is_name}
use Rattle.net_ir.specs.NameLists.{first_again}
use Rattle.net_ir.specs.Netlists.{Netlist}
use Rattle.vlog_text.specs.Written.{clock_name}
use Rattle.vlog_reset.specs.Names.{is_reserved}
use Rattle.vlog_reset.specs.Options.{ModuleOptions}
use Rattle.vlog_reset.specs.Written.{module_name, input_words, output_words, state_words, gate_words}
use Rattle.vlog_reset.specs.declared.fault.ResetFault.{ResetFault}
use Rattle.vlog_reset.specs.declared.fault.ResetFault.TheVariants as faults

-- the names of the interface: that of the module, that of the reset, the inputs, the outputs and `paused`
abbrev pub outer_names : ModuleOptions → Netlist → List (List ℕ)
outer_names o net = module_name o net ∷ o.reset ∷ (input_words o net ++ output_words o net)

-- the module's own names: `clk`, `stateJ` and `gateK`
abbrev pub own_names : Netlist → List (List ℕ)
own_names net = clock_name ∷ (state_words net ++ gate_words net)

-- The names of the module and of the reset are such, no name of the interface is a word of Verilog, and none is one of
-- the module's own or stands twice.
pub record IsResettable (o : ModuleOptions) (net : Netlist) : Type 0 where
  pub module_fits : is_name (module_name o net) ≡ true
  pub reset_fits : is_name o.reset ≡ true
  pub free : find is_reserved (outer_names o net) ≡ None
  pub once : first_again (own_names net) (outer_names o net) ≡ None

-- The name of the module is none. Or that of the reset is none. Or this is the first name of the interface that is a
-- word of Verilog. Or this is the first one that is one of the module's own, or of the interface before it.
abbrev pub IsResetFault : ModuleOptions → Netlist → ResetFault → Type 0
IsResetFault o net faults.NoModule = is_name (module_name o net) ≡ false
IsResetFault o net faults.NoReset = (is_name (module_name o net) ≡ true) × (is_name o.reset ≡ false)
IsResetFault o net (faults.Reserved word) =
    (is_name (module_name o net) ≡ true) × (is_name o.reset ≡ true) × (find is_reserved (outer_names o net) ≡ Some word)
IsResetFault o net (faults.Twice name) =
    (is_name (module_name o net) ≡ true) × (is_name o.reset ≡ true)
    × (find is_reserved (outer_names o net) ≡ None)
    × (first_again (own_names net) (outer_names o net) ≡ Some name)
