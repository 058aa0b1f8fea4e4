-- To believe: what Verilog with a reset keeps of a BLIF text.
use Rattle.std.specs.Prelude.{◌≡◌, ℕ, Bool, List, [], ◌∷◌, ◌++◌, length, map, Ok, unwrap_or}
use Rattle.std.specs.List.{AllByRecursion}
use Rattle.base_types.specs.Items.{EachEvent}
use Rattle.base_types.specs.Relations.{Relation}
use Rattle.base_machines.specs.Machines.{Shows}
use Rattle.net_ir.specs.Netlists.{Netlist}
use Rattle.blif_text.specs.Circuits.{Circuit, reading}
use Rattle.blif_text.specs.Runs.{circuit_machine}
use Rattle.vlog_text.specs.Machine.{given_inputs}
use Rattle.vlog_text.specs.Names.{paused_name}
use Rattle.vlog_text.specs.Written.{clock_name}
use Rattle.vlog_reset.specs.Machine.{Begins, ClockStep, HasWidth, IsEdgeRun, seen_by, step_items}
use Rattle.vlog_reset.specs.Options.{ModuleOptions}
use Rattle.vlog_reset.specs.Texts.{Describes}
use Rattle.vlog_reset.specs.Trees.{ResetModule, clock_of}
use Rattle.vlog_reset.specs.Written.{input_name, outgoing_name, written}
use Rattle.cec_opt_texts.specs.Alike.{HasOutputs, IsExpected}
use Rattle.cec_opt_texts.specs.Optimized.{IsSmallNetOf}
use Rattle.cec_opt_texts.specs.Related.{GivenRelation, numbered_relations}

-- The text describes a module with the names and the reset that are asked for. It has an input for each input of the
-- BLIF text and an output for each output, in their order, where `_paused` is `paused`. Take any edges of the clock and
-- of the reset, and any values of the registers to begin with: there is a run. Of a run that begins with a reset or at
-- power-up, take the edges without a reset as events, and the resets. If the events meet the given relations, which are
-- of inputs, the circuit of the BLIF text has a run over them. Each of its runs shows what the outputs show at these
-- edges. The text is that of an optimized netlist of the BLIF text.
pub record ResetKeeps (text : List ℕ) (given : List GivenRelation) (o : ModuleOptions) (reset : List ℕ) : Type 0 where
  pub old : Circuit
  pub reads : reading text ≡ Ok old
  pub relations : List Relation
  pub related : numbered_relations old.inputs given ≡ Ok relations
  pub names : List (List ℕ)
  pub has_outputs : HasOutputs old names
  pub new : ResetModule
  pub describes : Describes reset new
  pub name : new.design.name ≡ unwrap_or o.name old.name
  pub clock : clock_of new ≡ clock_name
  pub port : new.reset ≡ o.reset
  pub manner : new.manner ≡ o.manner
  pub inputs : given_inputs new.design ≡ map (input_name o) old.inputs
  pub outputs : new.design.outputs ≡ map (outgoing_name o) names ++ paused_name ∷ []
  pub runs : (registers : List Bool) (steps : List ClockStep)
      → length registers ≡ length new.design.registers → AllByRecursion (HasWidth (length old.inputs)) steps
      → (vs : List (List ℕ → Bool)) × IsEdgeRun new registers steps vs
  pub shows : (registers : List Bool) (steps : List ClockStep) (vs : List (List ℕ → Bool))
      → Begins new registers steps → EachEvent (IsExpected old relations) (step_items o.manner steps)
      → IsEdgeRun new registers steps vs
      → Shows (circuit_machine old) (λ v. map v old.outputs) (circuit_machine old).start (step_items o.manner steps)
      (seen_by (λ v. map v new.design.outputs) o.manner steps vs)
  pub net : Netlist
  pub small : IsSmallNetOf text given net
  pub spelled : reset ≡ written o net
