-- Contract: what a comparison of two BLIF texts says.
use Rattle.std.specs.Prelude.{ℕ, List}
use Rattle.blif_text.specs.Circuits.{Circuit}
use Rattle.cec_prove_sources.specs.DeviceSameness.{IsDeviceComparison}
use Rattle.cec_prove_sources.specs.declared.questions.Comparison.{Comparison}
use Rattle.cec_prove_texts.specs.Devices.{DescribesNamed, circuit_device}

-- Each text describes a circuit whose outputs have names, and the comparison is one of the two circuits.
pub record HasTextComparison (first second : List ℕ) (comparison : Comparison) : Type 0 where
  pub left : Circuit
  pub left_names : List (List ℕ)
  pub left_describes : DescribesNamed first left left_names
  pub right : Circuit
  pub right_names : List (List ℕ)
  pub right_describes : DescribesNamed second right right_names
  pub says : IsDeviceComparison (circuit_device left left_names) (circuit_device right right_names) comparison
