use Rattle.std.proofs.Common.{arith, ⊎_elim}
use Rattle.std.proofs.lemmas.List.{length-map}
use Rattle.net_ir.proofs.Exports.{length-numbered}
use Rattle.blif_text.proofs.parts.BlifWriterNetText.count.Goals as goal

pub returns-in-InputNames : goal.returns-in-InputNames
returns-in-InputNames c = ⊎_elim (λ e. grind (arith, length-map)) (λ e. grind (arith, length-numbered)) c.in-InputNames.is
