use Rattle.est_expand.proofs.FlatLaws.{flattened-fits, flattened-named}
use Rattle.est_expand.proofs.laws.flat_forms_fit.Goals as goal

pub returns : goal.returns
returns c = record {
  fit = λ modules main faultless. flattened-fits main modules faultless;
  named = λ modules main written. flattened-named main modules written;
}
