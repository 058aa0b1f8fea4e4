-- To believe: what the guarded text of a netlist means, over all items.
use Rattle.std.specs.Prelude.{◌≡◌, ◌-◌, ℕ, List, length, map, Option}
use Rattle.base_types.specs.Items.{Item, EachEvent}
use Rattle.base_types.specs.declared.indices.WireId.{WireId}
use Rattle.net_ir.specs.Netlists.{Netlist}
use Rattle.net_ir.specs.Numbered.{numbered}
use Rattle.net_ir.specs.Runs.{net_run, net_values_run}
use Rattle.csub_text.specs.Written.{input_variable, output_variable, net_body, net_state, shown_by_call}
use Rattle.csub_guard.specs.Machine.{inputs_of, outputs_of, calls, run}
use Rattle.csub_guard.specs.Texts.{Describes}
use Rattle.csub_guard.specs.Trees.{Program}
use Rattle.csub_guard_writer.specs.Meaning.{skipped}

-- A text means a net with these regions: it describes a guarded program with the net's inputs, outputs and latches.
-- Over all items it shows at each call what the net shows at the event, and runs the assignments of the text of the C
-- subset, except for the gates that are skipped.
pub record GuardedRuns (text : List ℕ) (net : Netlist) (regions : List (Option WireId)) : Type 0 where
  pub program : Program
  pub describes : Describes text program
  pub inputs : inputs_of program ≡ map input_variable net.inputs
  pub outputs : outputs_of program ≡ map output_variable net.outputs
  pub states : program.states ≡ numbered net_state 0 net.latches
  pub shows : (items : List Item) → EachEvent (λ inputs. length inputs ≡ length net.inputs) items
      → run program items ≡ map shown_by_call (net_run net items)
  pub counts : (items : List Item) → EachEvent (λ inputs. length inputs ≡ length net.inputs) items
      → map (λ behind. behind.count) (calls program items)
      ≡ map (λ values. length (net_body net) - skipped net regions values) (net_values_run net items)
