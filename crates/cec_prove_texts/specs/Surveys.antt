-- Contract: what a survey says of the outputs of a BLIF text.
use Rattle.std.specs.Prelude.{ℕ, List, Option}
use Rattle.blif_text.specs.Circuits.{Circuit}
use Rattle.cec_prove_sources.specs.DeviceSurveys.{IsDeviceSurvey}
use Rattle.cec_prove_sources.specs.declared.questions.Survey.{Survey}
use Rattle.cec_prove_texts.specs.Devices.{DescribesNamed, circuit_device}

-- The text describes a circuit whose outputs have names, and the survey is one of that circuit.
pub record HasTextSurvey (text : List ℕ) (assumed : Option (List ℕ)) (survey : Survey) : Type 0 where
  pub circuit : Circuit
  pub names : List (List ℕ)
  pub describes : DescribesNamed text circuit names
  pub says : IsDeviceSurvey (circuit_device circuit names) assumed survey
