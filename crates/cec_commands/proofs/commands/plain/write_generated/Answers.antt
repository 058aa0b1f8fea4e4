use Rattle.std.proofs.Common.{◌≡◌, ◌∙◌}
use Rattle.base_types.specs.SinkChanges.{change}
use Rattle.est_gen.specs.Sources.{source_text}
use Rattle.cec_commands.proofs.Pieces.{text_as}
use Rattle.cec_commands.proofs.commands.plain.write_generated.Goals as goal

pub returns-clause-out : goal.returns-clause-out
returns-clause-out g c =
    text_as (λ text. text ≡ c.deref.result.now) (λ text. text ≡ source_text c.args.start c.args.branches)
    (change g.O.Sink.told g.O.Sink.faults c.args.out.now c.write_whole.new.out) c.write_whole.result
    (λ text is. is ∙ c.deref.ensures.value ∙ c.in-Ok.ensures.source) c.write_whole.ensures.out
