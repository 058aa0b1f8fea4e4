-- To believe: what a survey says of the outputs of a device.
use Rattle.std.specs.Prelude.{◌≡◌, ℕ, Bool, true, false, List, Option, IfSome}
use Rattle.std.specs.List.{AllZip, list_all}
use Rattle.cec_prove_sources.specs.DeviceVerdicts.{AnswersDeviceBroken, AnswersDeviceHolds, IsNoOutput}
use Rattle.cec_prove_sources.specs.Devices.{Device}
use Rattle.cec_prove_sources.specs.Surveys.{Presence, Never, Always, Found, about, is_known, survey_text}
use Rattle.cec_prove_sources.specs.declared.questions.Claim.{Claim}
use Rattle.cec_prove_sources.specs.declared.questions.Claim.TheVariants as claims
use Rattle.cec_prove_sources.specs.declared.questions.Layout.TheVariants.{OneLine}
use Rattle.cec_prove_sources.specs.declared.questions.Survey.{Survey}
use Rattle.cec_prove_sources.specs.declared.questions.Survey.TheVariants.{Whole, Partly, NoAssumed}

-- a trace to a row that breaks the claim about an output, if there is one
abbrev pub BreaksDeviceIfAny : Device → Claim → (name : List ℕ) → (assumed : Option (List ℕ)) → Option (List ℕ)
    → Type 0
BreaksDeviceIfAny d claim name assumed trace = IfSome trace (AnswersDeviceBroken OneLine d (about claim name assumed))

-- what is known of the output of this name, where another one, if one is named, is true in each row
abbrev pub IsDevicePresence : Device → (assumed : Option (List ℕ)) → (name : List ℕ) → Presence → Type 0
IsDevicePresence d assumed name Never = AnswersDeviceHolds d (about claims.Never name assumed)
IsDevicePresence d assumed name Always = AnswersDeviceHolds d (about claims.Always name assumed)
IsDevicePresence d assumed name (Found present absent) =
    BreaksDeviceIfAny d claims.Never name assumed present × BreaksDeviceIfAny d claims.Always name assumed absent

-- A text is the survey of these outputs, with what is known of each, and whether it is whole: each of them is known.
pub record IsDeviceSurveyText (d : Device) (assumed : Option (List ℕ)) (names : List (List ℕ)) (text : List ℕ)
    (whole : Bool) : Type 0 where
  pub presences : List Presence
  pub known : AllZip (IsDevicePresence d assumed) names presences
  pub written : text ≡ survey_text names presences
  pub each_known : whole ≡ list_all is_known presences

abbrev pub IsDeviceSurvey : Device → Option (List ℕ) → Survey → Type 0
IsDeviceSurvey d assumed (Whole text) = IsDeviceSurveyText d assumed d.outputs text.items true
IsDeviceSurvey d assumed (Partly text) = IsDeviceSurveyText d assumed d.outputs text.items false
IsDeviceSurvey d assumed NoAssumed = IsNoOutput d assumed
