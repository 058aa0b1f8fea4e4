-- To believe: what it means that embedded C does what a kernel program means; and such texts of sources.
use Rattle.std.specs.Prelude.{◌≡◌, ◌==◌, ℕ, Bool, List, map, Option, Some}
use Rattle.est_kernel.specs.Plain.{Program, given_names, outgoing_names}
use Rattle.est_kernel.specs.Reactions.{Answer, run_of}
use Rattle.net_ir.specs.Netlists.{Netlist}
use Rattle.csub_embed.specs.Faults.{under_name}
use Rattle.csub_embed.specs.Machine.{Call, InstanceStates, SeenCall, BeginsReset, own_items, own_seen, run_calls}
use Rattle.csub_embed.specs.Texts.{Describes, EmbedFiles}
use Rattle.csub_embed.specs.Trees.{Component}
use Rattle.csub_embed.specs.Written.{files_with, written}
use Rattle.csub_embed.specs.declared.layout.EmbedLayout.{EmbedLayout}
use Rattle.est_front.specs.Sources.{StandsFor}
use Rattle.cec_compile.specs.Meaning.{AreItems}
use Rattle.cec_compile.specs.Refusals.{KeepsGraphLimits}
use Rattle.cec_cycles.specs.Constructive.{IsConstructiveNetOf, StandsForConstructiveNet}
use Rattle.cec_opt_sources.specs.declared.light.Coding.TheVariants.{Lighter}
use Rattle.cec_opt_embed.specs.Instances.{AreApart}

-- What a call of NAME_react shows of an answer of the semantics: the outgoing signals, in declared order, and whether
-- the program pauses, which is code 1.
abbrev pub call_of : Answer → SeenCall
call_of a = record { outputs = a.outputs; answer = a.code == 1 }

-- Files describe a component with this name that keeps what the program means. Its inputs have a member for each given
-- signal and its outputs one for each outgoing signal, in declared order. Take any calls on any instances, in any
-- order, whatever the instances hold before. Choose an instance whose calls begin with a reset and whose events meet
-- the program's relations. The reactions to its events are constructive, and at each call it shows what the reaction
-- is. Calls on one instance change no other one.
pub record EmbeddedTextKeeps (packed : Bool) (files : EmbedFiles) (name : List ℕ) (p : Program) : Type 0 where
  pub component : Component
  pub describes : Describes packed files component
  pub named : component.name ≡ name
  pub inputs : component.inputs ≡ given_names p
  pub outputs : component.outputs ≡ outgoing_names p
  pub keeps : (instances : InstanceStates) (calls : List Call) (k : ℕ) → BeginsReset (own_items k calls)
      → AreItems p (own_items k calls) → (answers : List Answer) × (run_of p (own_items k calls) ≡ Some answers)
      × (own_seen k (run_calls component instances calls) ≡ map call_of answers)
  pub apart : AreApart component

-- The netlist is that of the source, which keeps what its program means, under the name of its component.
pub record IsComponentNetOf (text : List ℕ) (main : Option (List ℕ)) (name : List ℕ) (net : Netlist) : Type 0 where
  pub given : Netlist
  pub stands : StandsForConstructiveNet text main given
  pub made : IsConstructiveNetOf Lighter text main given
  pub named : net ≡ under_name name given

-- and the text is that of such a netlist, in this layout
pub record IsEmbeddedOf (text : List ℕ) (main : Option (List ℕ)) (name : List ℕ) (layout : EmbedLayout)
    (embedded : List ℕ) : Type 0 where
  pub net : Netlist
  pub is : IsComponentNetOf text main name net
  pub spelled : embedded ≡ written layout net

-- The bytes stand for a program whose graph keeps the limits; its dependencies may have a cycle. The text is that of a
-- netlist of the source, and it keeps what the program means. One of two files does so with the other one of the same
-- netlist.
pub record StandsForEmbedded (text : List ℕ) (main : Option (List ℕ)) (name : List ℕ) (layout : EmbedLayout)
    (embedded : List ℕ) : Type 0 where
  pub program : Program
  pub source : StandsFor text main program
  pub limits : KeepsGraphLimits program
  pub made : IsEmbeddedOf text main name layout embedded
  pub keeps : EmbeddedTextKeeps layout.packed (files_with layout embedded made.net) name program
