-- To believe: why a source or a BLIF text has no embedded text under a name. Where the fault is one of the name or of a
-- signal, there is a netlist.
use Rattle.std.specs.Prelude.{ℕ, List, ◌++◌, Option}
use Rattle.est_kernel.specs.Plain.{given_names, outgoing_names}
use Rattle.net_ir.specs.Netlists.{Netlist}
use Rattle.csub_embed.specs.Faults.{IsEmbedFault}
use Rattle.csub_embed.specs.declared.fault.EmbedFault.{EmbedFault}
use Rattle.cec_cycles.specs.Constructive.{StandsForConstructiveNet}
use Rattle.cec_cycles.specs.declared.findings.CycleRefusal.{CycleRefusal}
use Rattle.cec_opt_faults.specs.Causes.{IsSourceCause, IsUnmade}
use Rattle.cec_opt_faults.specs.declared.unmade.Unmade.{Unmade}
use Rattle.cec_opt_texts.specs.Alike.{HasOutputs}
use Rattle.cec_opt_texts.specs.Faults.{IsGivenFault}
use Rattle.cec_opt_texts.specs.Optimized.{IsSmallNetOf}
use Rattle.cec_opt_texts.specs.Related.{GivenRelation}
use Rattle.blif_read.specs.declared.fault.BlifFault.{BlifFault}

-- ---- sources

-- The source has a netlist, and this is the first fault of the name, or the first signal that is a word of C or of
-- C++. Given signals come before outgoing ones.
pub record IsProgramNameFault (text : List ℕ) (main : Option (List ℕ)) (name : List ℕ) (fault : EmbedFault) :
    Type 0 where
  pub net : Netlist
  pub stands : StandsForConstructiveNet text main net
  pub is : IsEmbedFault name (given_names stands.program ++ outgoing_names stands.program) fault

abbrev pub IsSourceEmbedFault : List ℕ → Option (List ℕ) → List ℕ → Unmade CycleRefusal EmbedFault → Type 0
IsSourceEmbedFault text main name = IsUnmade (IsSourceCause text main) (IsProgramNameFault text main name)

-- ---- BLIF texts

-- The text has a netlist, the given relations are of inputs, and this is the first fault of the name, or the first word
-- of C or of C++, of the inputs and then the outputs.
pub record IsTextNameFault (text : List ℕ) (given : List GivenRelation) (name : List ℕ) (fault : EmbedFault) :
    Type 0 where
  pub net : Netlist
  pub small : IsSmallNetOf text given net
  pub names : List (List ℕ)
  pub has_outputs : HasOutputs small.circuit names
  pub is : IsEmbedFault name (small.circuit.inputs ++ names) fault

abbrev pub IsTextEmbedFault : (text : List ℕ) → List GivenRelation → (name : List ℕ) → Unmade BlifFault EmbedFault
    → Type 0
IsTextEmbedFault text given name = IsUnmade (IsGivenFault text given) (IsTextNameFault text given name)
