-- To believe: what an embedded C text keeps of a BLIF text.
use Rattle.std.specs.Prelude.{◌≡◌, ℕ, Bool, List, [], ◌∷◌, ◌++◌, map, Ok}
use Rattle.base_types.specs.Items.{EachEvent}
use Rattle.base_types.specs.Relations.{Relation}
use Rattle.base_machines.specs.Machines.{Shows}
use Rattle.net_ir.specs.Netlists.{Netlist}
use Rattle.blif_text.specs.Circuits.{Circuit, reading}
use Rattle.blif_text.specs.Runs.{circuit_machine}
use Rattle.csub_embed.specs.Faults.{under_name}
use Rattle.csub_embed.specs.Machine.{Call, InstanceStates, SeenCall, BeginsReset, own_items, own_seen, run_calls}
use Rattle.csub_embed.specs.Texts.{Describes}
use Rattle.csub_embed.specs.Trees.{Component}
use Rattle.csub_embed.specs.Written.{files_with, written}
use Rattle.csub_embed.specs.declared.layout.EmbedLayout.{EmbedLayout}
use Rattle.cec_opt_texts.specs.Alike.{HasOutputs, IsExpected}
use Rattle.cec_opt_texts.specs.Optimized.{IsSmallNetOf}
use Rattle.cec_opt_texts.specs.Related.{GivenRelation, numbered_relations}
use Rattle.cec_opt_embed.specs.Instances.{AreApart}

-- what is seen of a call, as the values of the outputs of a circuit: the last one is `_paused`
abbrev pub row_of : SeenCall → List Bool
row_of s = s.outputs ++ s.answer ∷ []

-- The netlist is the optimized one of the text, under the name of its component.
pub record IsSmallComponent (text : List ℕ) (given : List GivenRelation) (name : List ℕ) (net : Netlist) :
    Type 0 where
  pub optimized : Netlist
  pub small : IsSmallNetOf text given optimized
  pub named : net ≡ under_name name optimized

-- and the embedded text is that of such a netlist, in this layout
pub record IsSmallEmbedded (text : List ℕ) (given : List GivenRelation) (name : List ℕ) (layout : EmbedLayout)
    (embedded : List ℕ) : Type 0 where
  pub net : Netlist
  pub is : IsSmallComponent text given name net
  pub spelled : embedded ≡ written layout net

-- The embedded text is that of an optimized netlist of the BLIF text. It describes a component with this name, and one
-- of two files does so with the other one of the same netlist. The component's inputs have a member for each input of
-- the BLIF text, and its outputs one for each output except `_paused`, in their order. Take any calls on any instances,
-- in any order, whatever the instances hold before. Choose an instance whose calls begin with a reset and whose events
-- have one value for each input and meet the given relations, which are of inputs. The circuit of the BLIF text has a
-- run over them, and each of its runs shows what this instance shows. Calls on one instance change no other one.
pub record EmbedKeeps (text : List ℕ) (given : List GivenRelation) (name : List ℕ) (layout : EmbedLayout)
    (embedded : List ℕ) : Type 0 where
  pub small : IsSmallEmbedded text given name layout embedded
  pub old : Circuit
  pub reads : reading text ≡ Ok old
  pub relations : List Relation
  pub related : numbered_relations old.inputs given ≡ Ok relations
  pub names : List (List ℕ)
  pub has_outputs : HasOutputs old names
  pub new : Component
  pub describes : Describes layout.packed (files_with layout embedded small.net) new
  pub named : new.name ≡ name
  pub inputs : new.inputs ≡ old.inputs
  pub outputs : new.outputs ≡ names
  pub shows : (instances : InstanceStates) (calls : List Call) (k : ℕ) → BeginsReset (own_items k calls)
      → EachEvent (IsExpected old relations) (own_items k calls)
      → Shows (circuit_machine old) (λ v. map v old.outputs) (circuit_machine old).start (own_items k calls)
      (map row_of (own_seen k (run_calls new instances calls)))
  pub apart : AreApart new
