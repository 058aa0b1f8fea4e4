-- To believe: which texts and sources are accepted, and that a command on such a file is done.
use Rattle.std.specs.Prelude.{◌≡◌, ℕ, ◌≤◌, ◌⊎◌, ⊤, List, length, Option, Some, Ok}
use Rattle.base_types.specs.declared.bounds.TheConstants.Limits.{TEXT_BYTES}
use Rattle.base_types.specs.Faults.{Rose}
use Rattle.base_types.specs.SinkChanges.{SinkChange}
use Rattle.cec_compile.specs.declared.refusal.Refusal.{Refusal}
use Rattle.cec_opt_texts.specs.Faults.{IsGivenFault}
use Rattle.cec_opt_texts.specs.Related.{GivenRelation}
use Rattle.blif_read.specs.declared.fault.BlifFault.{BlifFault}
use Rattle.csub_embed.specs.declared.fault.EmbedFault.{EmbedFault}
use Rattle.vlog_reset.specs.declared.fault.ResetFault.{ResetFault}
use Rattle.cec_opt_commands.specs.Outcomes.{IsOptOutcomeOf, CountsFiles, GainsOut, IsRefusedFor}
use Rattle.cec_opt_commands.specs.Outcomes.{IsSourceComponentFault, IsSourceModuleFault, IsTextComponentFault}
use Rattle.cec_opt_commands.specs.Outcomes.{IsTextModuleFault}
use Rattle.cec_opt_commands.specs.Words.{Request, Task, Tell, Do, Make}
use Rattle.cec_opt_commands.specs.declared.outcome.OptOutcome.{OptOutcome}
use Rattle.cec_opt_commands.specs.declared.outcome.OptOutcome.TheVariants.{Done, NoMemory}

-- The text keeps its limit, and has none of the faults for which it would be refused. The relations are of its inputs.
pub record IsFaultless (given : List GivenRelation) (text : List ℕ) : Type 0 where
  pub short : length text ≤ TEXT_BYTES
  pub faultless : (fault : BlifFault) → IsGivenFault text given fault → ⊥

-- the source has no cause for a refusal
abbrev pub IsNotRefused : (main : Option (List ℕ)) → (source : List ℕ) → Type 0
IsNotRefused main source = (refusal : Refusal) → IsRefusedFor main refusal source → ⊥

-- the names of the component and of the module and the signals have no fault
pub record FitsText (task : Task) (given : List GivenRelation) (text : List ℕ) : Type 0 where
  pub component : (fault : EmbedFault) → IsTextComponentFault task given fault text → ⊥
  pub names : (fault : ResetFault) → IsTextModuleFault task given fault text → ⊥

pub record FitsSource (task : Task) (main : Option (List ℕ)) (source : List ℕ) : Type 0 where
  pub component : (fault : EmbedFault) → IsSourceComponentFault task main fault source → ⊥
  pub names : (fault : ResetFault) → IsSourceModuleFault task main fault source → ⊥

-- a request, and files with these bytes, of which nothing is refused
abbrev pub IsAccepted : Request → (List ℕ → List ℕ) → Type 0
IsAccepted (Tell about) held = ⊤
IsAccepted (Do task given name) held = IsFaultless given (held name) × FitsText task given (held name)
IsAccepted (Make task name main) held = IsNotRefused main (held name) × FitsSource task main (held name)

-- what the top call says of an outcome, where no count of faults rises, leaves these two
abbrev pub AcceptedTextsAreDone : Type 0
AcceptedTextsAreDone = (request : Request) (held : List ℕ → List ℕ) (outcome : OptOutcome) (before now : ℕ)
    (failed_before failed_now : List ℕ) (s : SinkChange) → IsAccepted request held
    → IsOptOutcomeOf (Ok request) (Some held) outcome
    → CountsFiles (Ok request) outcome before now failed_before failed_now → (Rose before now → ⊥)
    → GainsOut (Ok request) (Some held) outcome s → (Rose s.faults_before s.faults_now → ⊥)
    → (outcome ≡ Done) ⊎ (outcome ≡ NoMemory)
