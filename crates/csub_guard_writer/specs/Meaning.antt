-- To believe: what the guarded text of a netlist means, where wires lie in these regions.
use Rattle.std.specs.Prelude.{◌≡◌, ℕ, ◌+◌, ◌-◌, Bool, false, not, List, length, map, count_by, All, Option}
use Rattle.base_types.specs.Items.{Item, EachEvent}
use Rattle.base_types.specs.declared.indices.WireId.{WireId}
use Rattle.net_ir.specs.Gates.{value_in}
use Rattle.net_ir.specs.Netlists.{Netlist, first_gate}
use Rattle.net_ir.specs.Numbered.{numbered}
use Rattle.net_ir.specs.Runs.{net_run, net_values_run}
use Rattle.csub_text.specs.Written.{input_variable, output_variable, net_body, net_state, shown_by_call}
use Rattle.csub_guard.specs.Machine.{inputs_of, outputs_of, calls, run}
use Rattle.csub_guard.specs.Texts.{Describes}
use Rattle.csub_guard.specs.Trees.{Program}
use Rattle.csub_guard_blocks.specs.Owners.{Owner, Free, Inner, Outer, owners}
use Rattle.csub_guard_blocks.specs.Resting.{AreAtRest}
use Rattle.csub_guard_writer.specs.Regions.{region_by}

-- whether a gate that belongs so is skipped in an instant: its head does not run, and gates of the head alone use it
abbrev pub is_skipped : Netlist → List Bool → Owner → Bool
is_skipped net values Free = false
is_skipped net values (Inner h) = not (value_in values (first_gate net + h))
is_skipped net values (Outer h) = false

-- how many gates are skipped
abbrev pub skipped : Netlist → List (Option WireId) → List Bool → ℕ
skipped net regions values = count_by (is_skipped net values) (owners net (region_by net regions))

-- A text means a net with these regions: it describes a guarded program with the net's inputs, outputs and latches.
-- Take any items over which the regions are at rest with their heads, in each instant of the net's run. Then each call
-- shows what the net shows at the event, and runs the assignments of the text of the C subset, except for the gates
-- that are skipped.
pub record GuardedMeans (text : List ℕ) (net : Netlist) (regions : List (Option WireId)) : Type 0 where
  pub program : Program
  pub describes : Describes text program
  pub inputs : inputs_of program ≡ map input_variable net.inputs
  pub outputs : outputs_of program ≡ map output_variable net.outputs
  pub states : program.states ≡ numbered net_state 0 net.latches
  pub shows : (items : List Item) → EachEvent (λ inputs. length inputs ≡ length net.inputs) items
      → All (AreAtRest regions net) (net_values_run net items)
      → run program items ≡ map shown_by_call (net_run net items)
  pub counts : (items : List Item) → EachEvent (λ inputs. length inputs ≡ length net.inputs) items
      → All (AreAtRest regions net) (net_values_run net items)
      → map (λ behind. behind.count) (calls program items)
      ≡ map (λ values. length (net_body net) - skipped net regions values) (net_values_run net items)
