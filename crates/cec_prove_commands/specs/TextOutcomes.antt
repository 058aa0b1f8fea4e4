-- To believe: what each outcome of a task about BLIF texts says of them.
use Rattle.std.specs.Prelude.{◌≡◌, ◌≢◌, ◌<◌, ℕ, ⊤, Bool, true, false, List, length, Option}
use Rattle.base_types.specs.declared.bounds.TheConstants.Limits.{TEXT_BYTES}
use Rattle.blif_text.specs.Circuits.{Circuit}
use Rattle.net_ir.specs.NameLists.{is_among}
use Rattle.cec_opt_texts.specs.Faults.{IsOptFault}
use Rattle.cec_prove_sources.specs.DeviceSameness.{AreDifferentDevices, AreSameDevices, SharesNames}
use Rattle.cec_prove_sources.specs.DeviceSurveys.{IsDeviceSurveyText}
use Rattle.cec_prove_sources.specs.DeviceVerdicts.{AnswersDeviceBroken, AnswersDeviceHolds, DeviceHasSignals}
use Rattle.cec_prove_sources.specs.DeviceVerdicts.{IsNoOutput}
use Rattle.cec_prove_sources.specs.Devices.{Device}
use Rattle.cec_prove_sources.specs.Verdicts.{PlainQuestion}
use Rattle.cec_prove_sources.specs.declared.questions.Layout.TheVariants.{LinePerInstant}
use Rattle.cec_prove_texts.specs.Devices.{DescribesNamed, circuit_device}
use Rattle.cec_prove_texts.specs.Faults.{IsPairFault}
use Rattle.cec_prove_texts.specs.declared.fault.PairFault.TheVariants as pairs
use Rattle.cec_prove_commands.specs.declared.outcome.InputFault.{InputFault}
use Rattle.cec_prove_commands.specs.declared.outcome.InputFault.TheVariants.{BadText, TooLong}
use Rattle.cec_prove_commands.specs.declared.outcome.ProveOutcome.{ProveOutcome}
use Rattle.cec_prove_commands.specs.declared.outcome.ProveOutcome.TheVariants.{Proved, Refuted, Surveyed}
use Rattle.cec_prove_commands.specs.declared.outcome.ProveOutcome.TheVariants.{PartlySurveyed, Undecided, NoSignal}
use Rattle.cec_prove_commands.specs.declared.outcome.ProveOutcome.TheVariants.{NoAssumed, OtherGiven, OtherOutgoing}
use Rattle.cec_prove_commands.specs.declared.outcome.ProveOutcome.TheVariants.{BadInput, WriteFault, NoMemory}
use Rattle.cec_words.specs.declared.common.Which.{Which}
use Rattle.cec_words.specs.declared.common.Which.TheVariants.{First, Second}

-- The text describes a circuit whose outputs have names, and this is so of the circuit.
pub record TextAnswered (text : List ℕ) (Says : Device → Type 0) : Type 0 where
  pub circuit : Circuit
  pub names : List (List ℕ)
  pub describes : DescribesNamed text circuit names
  pub says : Says (circuit_device circuit names)

-- the text has too many bytes
abbrev pub IsLongText : List ℕ → Type 0
IsLongText text = TEXT_BYTES < length text

-- what the fault of a text says of it
abbrev pub TextFaultSays : InputFault → (text : List ℕ) → Type 0
TextFaultSays (BadText fault) text = IsOptFault text fault
TextFaultSays TooLong text = IsLongText text
TextFaultSays others text = ⊥

-- ---- claims

-- the trace leads to an instant that breaks the claim
abbrev pub IsTextRefutation : PlainQuestion → (text trace : List ℕ) → Type 0
IsTextRefutation q text trace = TextAnswered text (λ d. AnswersDeviceBroken LinePerInstant d q trace)

abbrev pub TextClaimSays : PlainQuestion → ProveOutcome → (text : List ℕ) → Type 0
TextClaimSays q Proved text = TextAnswered text (λ d. AnswersDeviceHolds d q)
TextClaimSays q Refuted text = (trace : List ℕ) × IsTextRefutation q text trace
TextClaimSays q (Undecided depth) text = TextAnswered text (λ d. DeviceHasSignals d q)
TextClaimSays q NoSignal text = TextAnswered text (λ d. is_among q.signal d.outputs ≡ false)
TextClaimSays q NoAssumed text = TextAnswered text (λ d. IsNoOutput d q.assumed)
TextClaimSays q (BadInput First fault) text = TextFaultSays fault text
TextClaimSays q WriteFault text = (trace : List ℕ) × IsTextRefutation q text trace
TextClaimSays q NoMemory text = ⊤
TextClaimSays q others text = ⊥

-- ---- surveys

-- the lines are the survey of all outputs, and each of them is decided, or not
abbrev pub IsTextSurveyOf : (assumed : Option (List ℕ)) → Bool → (text lines : List ℕ) → Type 0
IsTextSurveyOf assumed whole text lines =
    TextAnswered text (λ d. IsDeviceSurveyText d assumed d.outputs lines whole)

-- the lines of a survey that ended with an outcome
abbrev pub IsTextSurveyBy : ProveOutcome → (assumed : Option (List ℕ)) → (text lines : List ℕ) → Type 0
IsTextSurveyBy Surveyed assumed text lines = IsTextSurveyOf assumed true text lines
IsTextSurveyBy PartlySurveyed assumed text lines = IsTextSurveyOf assumed false text lines
IsTextSurveyBy others assumed text lines = (whole : Bool) × IsTextSurveyOf assumed whole text lines

abbrev pub TextSurveySays : ProveOutcome → (assumed : Option (List ℕ)) → (text : List ℕ) → Type 0
TextSurveySays Surveyed assumed text = (lines : List ℕ) × IsTextSurveyOf assumed true text lines
TextSurveySays PartlySurveyed assumed text = (lines : List ℕ) × IsTextSurveyOf assumed false text lines
TextSurveySays NoAssumed assumed text = TextAnswered text (λ d. IsNoOutput d assumed)
TextSurveySays (BadInput First fault) assumed text = TextFaultSays fault text
TextSurveySays WriteFault assumed text =
    (whole : Bool) × ((lines : List ℕ) × IsTextSurveyOf assumed whole text lines)
TextSurveySays NoMemory assumed text = ⊤
TextSurveySays others assumed text = ⊥

-- ---- comparisons

-- Each of two texts describes a circuit whose outputs have names, and this is so of the two circuits.
pub record TextsCompared (first second : List ℕ) (Says : Device → Device → Type 0) : Type 0 where
  pub left : Circuit
  pub left_names : List (List ℕ)
  pub left_describes : DescribesNamed first left left_names
  pub right : Circuit
  pub right_names : List (List ℕ)
  pub right_describes : DescribesNamed second right right_names
  pub says : Says (circuit_device left left_names) (circuit_device right right_names)

-- the trace leads to instants that differ
abbrev pub IsTextDistinction : (first second trace : List ℕ) → Type 0
IsTextDistinction first second trace = TextsCompared first second (λ d e. AreDifferentDevices d e trace)

-- what the fault of one of two texts says; one of the second text comes only where the first one has a netlist
abbrev pub TextsFaultSays : Which → InputFault → (first second : List ℕ) → Type 0
TextsFaultSays First fault first second = TextFaultSays fault first
TextsFaultSays Second (BadText fault) first second = IsPairFault first second (pairs.Second fault)
TextsFaultSays Second others first second = TextFaultSays others second

abbrev pub TextComparisonSays : ProveOutcome → (first second : List ℕ) → Type 0
TextComparisonSays Proved first second = TextsCompared first second (λ d e. AreSameDevices d e)
TextComparisonSays Refuted first second = (trace : List ℕ) × IsTextDistinction first second trace
TextComparisonSays (Undecided depth) first second = TextsCompared first second (λ d e. SharesNames d e)
TextComparisonSays OtherGiven first second = TextsCompared first second (λ d e. d.inputs ≢ e.inputs)
TextComparisonSays OtherOutgoing first second =
    TextsCompared first second (λ d e. (d.inputs ≡ e.inputs) × (d.outputs ≢ e.outputs))
TextComparisonSays (BadInput which fault) first second = TextsFaultSays which fault first second
TextComparisonSays WriteFault first second = (trace : List ℕ) × IsTextDistinction first second trace
TextComparisonSays NoMemory first second = ⊤
TextComparisonSays others first second = ⊥
