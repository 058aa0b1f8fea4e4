use Rattle.base_types.proofs.Exports.{appends-nothing}
use Rattle.cec_prove_commands.proofs.Progress.{one-further}
use Rattle.cec_prove_commands.proofs.search.patient_answer.Goals as goal

pub loop-further-init : goal.loop-further-init
loop-further-init g c = appends-nothing _ _

pub loop-further-preserved : goal.loop-further-preserved
loop-further-preserved g c =
    one-further c.loop-further.further _ _ _ _ c.told_further-told.result (c.told_further-told.ensures _ _ _ c.loop-further.invariant)
