-- Written by hand: what it means that a guarded text runs as a netlist does, field by field.
use Rattle.std.proofs.Common.{◌≡◌, ◌-◌, ℕ, List, Option, length, map}
use Rattle.base_types.specs.Items.{Item, EachEvent}
use Rattle.base_types.specs.declared.indices.WireId.{WireId}
use Rattle.net_ir.specs.Netlists.{Netlist}
use Rattle.net_ir.specs.Numbered.{numbered}
use Rattle.net_ir.specs.Runs.{net_run, net_values_run}
use Rattle.csub_text.specs.Written.{input_variable, output_variable, net_body, net_state, shown_by_call}
use Rattle.csub_guard.specs.Machine.{inputs_of, outputs_of, calls, run}
use Rattle.csub_guard.specs.Texts.{Describes}
use Rattle.csub_guard_writer.specs.Meaning.{skipped}
use Rattle.csub_guard_writer_laws.specs.Guarded.{GuardedRuns}

its_interface : (text : List ℕ) (net : Netlist) (regions : List (Option WireId)) (h : GuardedRuns text net regions)
    → Describes text h.program × (inputs_of h.program ≡ map input_variable net.inputs) × (outputs_of h.program ≡ map output_variable net.outputs)
    × (h.program.states ≡ numbered net_state 0 net.latches)
its_interface text net regions h = (h.describes, h.inputs, h.outputs, h.states)

what_it_shows : (text : List ℕ) (net : Netlist) (regions : List (Option WireId)) (h : GuardedRuns text net regions)
    → (items : List Item) → EachEvent (λ inputs. length inputs ≡ length net.inputs) items → run h.program items ≡ map shown_by_call (net_run net items)
what_it_shows text net regions h = h.shows

how_many_it_runs : (text : List ℕ) (net : Netlist) (regions : List (Option WireId)) (h : GuardedRuns text net regions)
    → (items : List Item) → EachEvent (λ inputs. length inputs ≡ length net.inputs) items
    → map (λ behind. behind.count) (calls h.program items)
    ≡ map (λ values. length (net_body net) - skipped net regions values) (net_values_run net items)
how_many_it_runs text net regions h = h.counts
