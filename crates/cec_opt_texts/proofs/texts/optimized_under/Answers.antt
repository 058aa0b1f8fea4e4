use Rattle.std.proofs.Common.{map, subst}
use Rattle.base_types.specs.Stops.{FaultIs}
use Rattle.cec_opt_texts.specs.Faults.{IsNoInput}
use Rattle.cec_opt_texts.specs.Related.{named_relation, numbered_relations}
use Rattle.cec_opt_texts.proofs.texts.optimized_under.Goals as goal

pub returns-in-Err-clause-fault : goal.returns-in-Err-clause-fault
returns-in-Err-clause-fault c =
    subst (λ inputs. FaultIs (IsNoInput (numbered_relations inputs (map named_relation c.args.given.now))) c.in-Err.stop) c.deref.ensures.value
    c.in-Err.ensures.fault
