use Rattle.est_gen_laws.proofs.Interfaces.{drawn-interface}
use Rattle.est_gen_laws.proofs.laws.generated_sources_have_eight_inputs.Goals as goal

pub returns : goal.returns
returns c = record { interface = drawn-interface }
