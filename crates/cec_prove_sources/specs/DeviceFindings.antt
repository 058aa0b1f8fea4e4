-- Contract: what the search for a proof or a trace finds, and what gains a survey one more output.
use Rattle.std.specs.Prelude.{◌≡◌, ℕ, Bool, List, ◌++◌, Option}
use Rattle.cec_prove_sources.specs.Surveys.{Presence, is_known, presence_text}
use Rattle.cec_prove_sources.specs.Verdicts.{PlainQuestion}
use Rattle.cec_prove_sources.specs.declared.questions.Finding.{Finding}
use Rattle.cec_prove_sources.specs.declared.questions.Finding.TheVariants.{Holds, Broken, Open}
use Rattle.cec_prove_sources.specs.declared.questions.Layout.{Layout}
use Rattle.cec_prove_sources.specs.Devices.{Device}
use Rattle.cec_prove_sources.specs.DeviceSurveys.{IsDevicePresence}
use Rattle.cec_prove_sources.specs.DeviceVerdicts.{AnswersDeviceBroken, AnswersDeviceHolds, DeviceHasSignals}

abbrev pub IsDeviceFinding : Layout → Device → PlainQuestion → Finding → Type 0
IsDeviceFinding layout d q Holds = AnswersDeviceHolds d q
IsDeviceFinding layout d q (Broken trace) = AnswersDeviceBroken layout d q trace.items
IsDeviceFinding layout d q (Open depth) = DeviceHasSignals d q

-- a text gained the lines of an output, and whether it is known when the output is true
pub record AddsDevicePresence (d : Device) (assumed : Option (List ℕ)) (name old new : List ℕ) (sure : Bool) :
    Type 0 where
  pub presence : Presence
  pub is : IsDevicePresence d assumed name presence
  pub lines : new ≡ old ++ presence_text name presence
  pub sure_of_it : sure ≡ is_known presence
