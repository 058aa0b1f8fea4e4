-- A netlist that is optimized over events that meet a program's relations keeps what the program means.
use Rattle.std.proofs.Common.{◌≡◌, ℕ, List, [], ◌∷◌, length, ◌∙◌}
use Rattle.base_types.specs.Items.{Item, Event, Reset, EachEvent}
use Rattle.est_kernel.specs.Plain.{Program, given_count}
use Rattle.net_ir.specs.Netlists.{Netlist}
use Rattle.net_relations.specs.Under.{IsAllowed, OptimizesUnder}
use Rattle.cec_compile.specs.Meaning.{AreItems}
use Rattle.cec_compile.specs.NetMeaning.{NetKeeps}

allowed-events : (p : Program) (net : Netlist) → given_count p ≡ length net.inputs → (items : List Item) → AreItems p items
    → EachEvent (IsAllowed net p.relations) items
allowed-events p net wide [] are = tt
allowed-events p net wide (Event event ∷ items) are =
    (record { wide = are.0.wide ∙ wide; meets = are.0.meets }, allowed-events p net wide items are.1)
allowed-events p net wide (Reset ∷ items) are = allowed-events p net wide items are

pub under_keeps : (net new : Netlist) (p : Program) → given_count p ≡ length net.inputs → OptimizesUnder p.relations net new → NetKeeps net p
    → NetKeeps new p
under_keeps net new p wide o keeps = record {
  name = o.interface.name ∙ keeps.name;
  inputs = o.interface.inputs ∙ keeps.inputs;
  outputs = o.interface.outputs ∙ keeps.outputs;
  runs = λ items are.
      let found = keeps.runs items are in
      (found.0, found.1, o.follows items (allowed-events p net wide items are) ∙ found.2);
}
