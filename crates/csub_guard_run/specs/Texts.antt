-- To believe: guarded texts as a language: which fault is the first, and what is written of a netlist.
use Rattle.std.specs.Prelude.{◌≡◌, ℕ, List, length, map}
use Rattle.base_types.specs.Items.{Item, EachEvent}
use Rattle.net_ir.specs.Netlists.{Netlist}
use Rattle.net_ir.specs.Runs.{net_run}
use Rattle.csub_guard.specs.Machine.{inputs_of, outputs_of, run}
use Rattle.csub_guard.specs.Names as names
use Rattle.csub_guard.specs.Texts.{Describes}
use Rattle.csub_guard.specs.Trees.{Program}
use Rattle.csub_text.specs.Written.{input_variable, output_variable, shown_by_call}
use Rattle.csub_guard_read.specs.Faults.{IsSyntaxFault, IsNameFault}
use Rattle.csub_guard_read.specs.declared.refusal.GuardedFault.{GuardedFault}
use Rattle.csub_guard_read.specs.declared.refusal.GuardedFault.TheVariants.{Syntax, Twice, Undeclared, Again, Unset}

-- the first fault of a text, in the order of its reader
abbrev pub IsTextFault : List ℕ → GuardedFault → Type 0
IsTextFault text (Syntax at) = IsSyntaxFault text at
IsTextFault text (Twice name) = IsNameFault text (names.Twice name)
IsTextFault text (Undeclared name) = IsNameFault text (names.Undeclared name)
IsTextFault text (Again name) = IsNameFault text (names.Again name)
IsTextFault text (Unset name) = IsNameFault text (names.Unset name)
IsTextFault text others = ⊥

-- A text means a net: it describes a program with the net's inputs and outputs, which shows at each call what the net
-- shows at the event.
pub record Means (text : List ℕ) (net : Netlist) : Type 0 where
  pub program : Program
  pub describes : Describes text program
  pub inputs : inputs_of program ≡ map input_variable net.inputs
  pub outputs : outputs_of program ≡ map output_variable net.outputs
  pub shows : (items : List Item) → EachEvent (λ inputs. length inputs ≡ length net.inputs) items
      → run program items ≡ map shown_by_call (net_run net items)
