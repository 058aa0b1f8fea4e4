use Rattle.std.proofs.Common.{ap, ◌∙◌}
use Rattle.csub_embed.specs.Written.{written}
use Rattle.csub_embed.proofs.pieces.embedded_text.Goals as goal

pub returns-clause-text : goal.returns-clause-text
returns-clause-text c = c.in_ok-text.ensures.text ∙ ap (written c.args.layout) c.in_ok-named.ensures.named
