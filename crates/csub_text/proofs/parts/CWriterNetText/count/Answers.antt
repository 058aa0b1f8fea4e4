use Rattle.std.proofs.Common.{arith, ⊎_elim}
use Rattle.std.proofs.lemmas.List.{length-map}
use Rattle.net_ir.proofs.Exports.{length-numbered}
use Rattle.csub_text.proofs.parts.CWriterNetText.count.Goals as goal

pub returns-in-Inputs : goal.returns-in-Inputs
returns-in-Inputs c =
    ⊎_elim (λ e. grind (arith, length-map)) (⊎_elim (λ e. grind (arith, length-numbered)) (λ e. grind (arith, length-numbered)))
    c.in-Inputs.is
