-- Gates that are skipped, by hand, and what it means that a guarded text means a netlist, field by field.
use Rattle.std.proofs.Common.{◌≡◌, ◌-◌, ℕ, Bool, true, false, List, [], ◌∷◌, None, Some, Option, codes, length, map, refl, All}
use Rattle.base_types.specs.Items.{Item, EachEvent}
use Rattle.base_types.specs.declared.indices.WireId.{WireId}
use Rattle.net_ir.specs.declared.netlist.Op.TheVariants.{Copy, And, Or}
use Rattle.net_ir.specs.Netlists.{Netlist}
use Rattle.net_ir.specs.Numbered.{numbered}
use Rattle.net_ir.specs.Runs.{net_run, net_values_run}
use Rattle.csub_text.specs.Written.{input_variable, output_variable, net_body, net_state, shown_by_call}
use Rattle.csub_guard.specs.Machine.{inputs_of, outputs_of, calls, run}
use Rattle.csub_guard.specs.Texts.{Describes}
use Rattle.csub_guard_blocks.specs.Owners.{Free, Inner, Outer}
use Rattle.csub_guard_blocks.specs.Resting.{AreAtRest}
use Rattle.csub_guard_writer.specs.Meaning.{is_skipped, skipped, GuardedMeans}

-- Net 0 is the input, and the gates have the nets from 1 on. Wire 0 is the head of the wires 1 and 2, of which the first
-- is used by the second alone, and the second by an output too.
abbrev worked : Netlist
worked = record {
  name = codes "T";
  inputs = codes "A" ∷ [];
  outputs = record { name = codes "O"; net = record { 0 = 3 } } ∷ [];
  paused = 1;
  latches = [];
  gates = record { op = Copy (record { 0 = 0 }); wire = Some (record { 0 = 0 }) }
      ∷ record { op = And (record { 0 = 0 }) (record { 0 = 1 }); wire = Some (record { 0 = 1 }) }
      ∷ record { op = Or (record { 0 = 1 }) (record { 0 = 2 }); wire = Some (record { 0 = 2 }) } ∷ [];
}

abbrev regions : List (Option WireId)
regions = None ∷ Some (record { 0 = 0 }) ∷ Some (record { 0 = 0 }) ∷ []

-- nets 0 and 2 are true
abbrev values : List Bool
values = true ∷ false ∷ true ∷ false ∷ []

by_their_heads : map (is_skipped worked values) (Free ∷ Inner 0 ∷ Inner 1 ∷ Outer 0 ∷ Outer 1 ∷ []) ≡ false ∷ true ∷ false ∷ false ∷ false ∷ []
by_their_heads = refl

how_many : skipped worked regions values ∷ skipped worked regions (true ∷ true ∷ true ∷ true ∷ []) ∷ skipped worked [] values ∷ [] ≡ 1 ∷ 0 ∷ 0 ∷ []
how_many = refl

what_is_described : (text : List ℕ) (net : Netlist) (regions : List (Option WireId)) (h : GuardedMeans text net regions) → Describes text h.program
what_is_described text net regions h = h.describes

its_interface : (text : List ℕ) (net : Netlist) (regions : List (Option WireId)) (h : GuardedMeans text net regions)
    → (inputs_of h.program ≡ map input_variable net.inputs) × (outputs_of h.program ≡ map output_variable net.outputs)
    × (h.program.states ≡ numbered net_state 0 net.latches)
its_interface text net regions h = (h.inputs, h.outputs, h.states)

what_it_shows : (text : List ℕ) (net : Netlist) (regions : List (Option WireId)) (h : GuardedMeans text net regions)
    → (items : List Item) → EachEvent (λ inputs. length inputs ≡ length net.inputs) items → All (AreAtRest regions net) (net_values_run net items)
    → run h.program items ≡ map shown_by_call (net_run net items)
what_it_shows text net regions h = h.shows

how_many_it_runs : (text : List ℕ) (net : Netlist) (regions : List (Option WireId)) (h : GuardedMeans text net regions)
    → (items : List Item) → EachEvent (λ inputs. length inputs ≡ length net.inputs) items → All (AreAtRest regions net) (net_values_run net items)
    → map (λ behind. behind.count) (calls h.program items)
    ≡ map (λ values. length (net_body net) - skipped net regions values) (net_values_run net items)
how_many_it_runs text net regions h = h.counts
