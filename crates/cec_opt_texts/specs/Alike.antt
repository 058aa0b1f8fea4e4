-- To believe: what the text of an optimized netlist keeps of the BLIF text that was read: the interface, and what is
-- shown over items.
use Rattle.std.specs.Prelude.{◌≡◌, ℕ, Bool, List, [], ◌∷◌, ◌++◌, map, codes, Ok}
use Rattle.base_types.specs.Items.{Item, EachEvent}
use Rattle.base_types.specs.Relations.{Relation, MeetsAll}
use Rattle.net_expressions.specs.Values.{value_of}
use Rattle.base_machines.specs.Machines.{Machine, Shows}
use Rattle.blif_net.specs.Conversions.{FitsCircuit}
use Rattle.blif_text.specs.Circuits.{Circuit, reading}
use Rattle.blif_text.specs.OutputNames.{output_word, paused_word}
use Rattle.blif_text.specs.Runs.{circuit_machine}
use Rattle.csub_text.specs.Machine.{program_machine}
use Rattle.csub_text.specs.Names.{inputs_of, outputs_of}
use Rattle.csub_text.specs.Trees as c_trees
use Rattle.csub_text.specs.Texts as c_texts
use Rattle.vlog_text.specs.Machine.{vlog_machine}
use Rattle.vlog_text.specs.Names.{paused_name}
use Rattle.vlog_text.specs.Trees as vlog_trees
use Rattle.vlog_text.specs.Texts as vlog_texts
use Rattle.cec_opt_texts.specs.Related.{GivenRelation, numbered_relations}

-- An event has one value for each input of the circuit, and meets the relations. A signal of a relation is the input of
-- that number.
pub record IsExpected (circuit : Circuit) (relations : List Relation) (event : List Bool) : Type 0 where
  pub fits : FitsCircuit circuit event
  pub meets : MeetsAll relations event

-- Over all items whose events are expected, resets included, the machine of the circuit and the other one both have a
-- run, and all runs of both show the same: the values of the outputs, and the last one says whether the program is
-- still active.
pub record ShowAlike {X : Type 0} (circuit : Circuit) (relations : List Relation) (M : Machine X)
    (see : X → List Bool) : Type 0 where
  pub alike : (items : List Item) → EachEvent (IsExpected circuit relations) items → (seen : List (List Bool))
      × Shows (circuit_machine circuit) (λ v. map v circuit.outputs) (circuit_machine circuit).start items seen
      × Shows M see M.start items seen

-- the outputs of the circuit have these names, and after them stands `_paused`
abbrev pub HasOutputs : Circuit → List (List ℕ) → Type 0
HasOutputs circuit names = circuit.outputs ≡ map (output_word circuit.inputs) names ++ paused_word ∷ []

-- The BLIF text that is written has a reading, with the same name, inputs and outputs, and shows the same. The given
-- relations are of inputs, and only events that meet them count.
pub record BlifKeeps (text : List ℕ) (given : List GivenRelation) (written : List ℕ) : Type 0 where
  pub old : Circuit
  pub reads : reading text ≡ Ok old
  pub relations : List Relation
  pub related : numbered_relations old.inputs given ≡ Ok relations
  pub new : Circuit
  pub reads_back : reading written ≡ Ok new
  pub name : new.name ≡ old.name
  pub inputs : new.inputs ≡ old.inputs
  pub outputs : new.outputs ≡ old.outputs
  pub shows : ShowAlike old relations (circuit_machine new) (λ v. map v new.outputs)

-- The C text describes a program with one variable for each input and each output but `_paused`, in their order, which
-- is the value that a call returns. The given relations are of inputs, and only events that meet them count.
pub record CKeeps (text : List ℕ) (given : List GivenRelation) (written : List ℕ) : Type 0 where
  pub old : Circuit
  pub reads : reading text ≡ Ok old
  pub relations : List Relation
  pub related : numbered_relations old.inputs given ≡ Ok relations
  pub names : List (List ℕ)
  pub named : HasOutputs old names
  pub new : c_trees.Program
  pub describes : c_texts.Describes written new
  pub inputs : inputs_of new ≡ map (λ name. codes "I_" ++ name) old.inputs
  pub outputs : outputs_of new ≡ map (λ name. codes "O_" ++ name) names
  pub shows : ShowAlike old relations (program_machine new)
      (λ memory. map memory (outputs_of new) ++ value_of memory new.answer ∷ [])

-- The Verilog text describes a module with the clock, one input for each input, and one output for each output, in
-- their order, the last one `paused`. The given relations are of inputs, and only events that meet them count.
pub record VerilogKeeps (text : List ℕ) (given : List GivenRelation) (written : List ℕ) : Type 0 where
  pub old : Circuit
  pub reads : reading text ≡ Ok old
  pub relations : List Relation
  pub related : numbered_relations old.inputs given ≡ Ok relations
  pub names : List (List ℕ)
  pub named : HasOutputs old names
  pub new : vlog_trees.VerilogModule
  pub describes : vlog_texts.Describes written new
  pub name : new.name ≡ codes "m_" ++ old.name
  pub inputs : new.inputs ≡ codes "clk" ∷ map (λ name. codes "i_" ++ name) old.inputs
  pub outputs : new.outputs ≡ map (λ name. codes "o_" ++ name) names ++ paused_name ∷ []
  pub shows : ShowAlike old relations (vlog_machine new) (λ v. map v new.outputs)
