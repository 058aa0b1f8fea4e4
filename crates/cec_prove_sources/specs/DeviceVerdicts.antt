-- To believe: what the answer to a question says of a device. `Open` says only that the device has the outputs.
use Rattle.std.specs.Prelude.{◌≡◌, ℕ, Bool, false, List, Option, Some, None}
use Rattle.net_ir.specs.NameLists.{is_among}
use Rattle.cec_prove_sources.specs.DeviceClaims.{BreaksDevice, DeviceHolds}
use Rattle.cec_prove_sources.specs.Devices.{Device}
use Rattle.cec_prove_sources.specs.TraceTexts.{IsTraceOver}
use Rattle.cec_prove_sources.specs.Verdicts.{HasPlace, HasPlaceIfAny, PlainQuestion}
use Rattle.cec_prove_sources.specs.declared.questions.Layout.{Layout}
use Rattle.cec_prove_sources.specs.declared.questions.Layout.TheVariants.{LinePerInstant}
use Rattle.cec_prove_sources.specs.declared.questions.Verdict.{Verdict}
use Rattle.cec_prove_sources.specs.declared.questions.Verdict.TheVariants.{Holds, Broken, Open, NoSignal, NoAssumed}

-- the places of the signals of a question among the outputs of a device
pub record AsksDevice (d : Device) (q : PlainQuestion) (place : ℕ) (assumed : Option ℕ) : Type 0 where
  pub signal : HasPlace d.outputs q.signal place
  pub assumes : HasPlaceIfAny d.outputs q.assumed assumed

-- the device has the outputs of a question
pub record DeviceHasSignals (d : Device) (q : PlainQuestion) : Type 0 where
  pub place : ℕ
  pub assumed : Option ℕ
  pub asks : AsksDevice d q place assumed

-- the claim holds of the device
pub record AnswersDeviceHolds (d : Device) (q : PlainQuestion) : Type 0 where
  pub place : ℕ
  pub assumed : Option ℕ
  pub asks : AsksDevice d q place assumed
  pub holds : DeviceHolds d q.claim place assumed

pub record AnswersDeviceBroken (layout : Layout) (d : Device) (q : PlainQuestion) (trace : List ℕ) : Type 0 where
  pub place : ℕ
  pub assumed : Option ℕ
  pub asks : AsksDevice d q place assumed
  pub events : List (List Bool)
  pub broken : BreaksDevice d q.claim place assumed events
  pub is_trace : IsTraceOver layout d.inputs d.relations events trace

-- a name is given, and no output has it
abbrev pub IsNoOutput : Device → Option (List ℕ) → Type 0
IsNoOutput d None = ⊥
IsNoOutput d (Some name) = is_among name d.outputs ≡ false

abbrev pub IsDeviceVerdict : Device → PlainQuestion → Verdict → Type 0
IsDeviceVerdict d q Holds = AnswersDeviceHolds d q
IsDeviceVerdict d q (Broken trace) = AnswersDeviceBroken LinePerInstant d q trace.items
IsDeviceVerdict d q (Open depth) = DeviceHasSignals d q
IsDeviceVerdict d q NoSignal = is_among q.signal d.outputs ≡ false
IsDeviceVerdict d q NoAssumed = IsNoOutput d q.assumed
