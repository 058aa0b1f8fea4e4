use Rattle.csub_guard_writer_laws.proofs.RestingNets.{netlists_rest_lem}
use Rattle.csub_guard_writer_laws.proofs.laws.netlists_rest.Goals as goal

pub returns : goal.returns
returns c = netlists_rest_lem
