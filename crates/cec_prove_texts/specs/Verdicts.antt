-- Contract: what the answer to a question says of a BLIF text.
use Rattle.std.specs.Prelude.{ℕ, List}
use Rattle.blif_text.specs.Circuits.{Circuit}
use Rattle.cec_prove_sources.specs.DeviceVerdicts.{IsDeviceVerdict}
use Rattle.cec_prove_sources.specs.Verdicts.{PlainQuestion}
use Rattle.cec_prove_sources.specs.declared.questions.Verdict.{Verdict}
use Rattle.cec_prove_texts.specs.Devices.{DescribesNamed, circuit_device}

-- The text describes a circuit whose outputs have names, and the answer is one of that circuit.
pub record HasTextVerdict (text : List ℕ) (q : PlainQuestion) (verdict : Verdict) : Type 0 where
  pub circuit : Circuit
  pub names : List (List ℕ)
  pub describes : DescribesNamed text circuit names
  pub says : IsDeviceVerdict (circuit_device circuit names) q verdict
