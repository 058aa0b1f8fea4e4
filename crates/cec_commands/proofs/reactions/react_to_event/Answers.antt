use Rattle.std.proofs.Common.{length, refl, sym, ap, ◌∙◌}
use Rattle.base_types.proofs.Exports.{gains-nothing}
use Rattle.cec_commands.proofs.RunnerReactions.{outputs_wide}
use Rattle.cec_commands.proofs.reactions.react_to_event.Goals as goal

pub reaction_line-requires : goal.reaction_line-requires
reaction_line-requires g c =
    c.requires.each_output
    ∙ sym (ap length c.outputs.ensures ∙ outputs_wide c.args.runner.now c.react.new.self c.args.inputs.now c.in-Ok.paused c.in-Ok.ensures.steps)

pub returns-in-Err-reaction_line-clause-reaction : goal.returns-in-Err-reaction_line-clause-reaction
returns-in-Err-reaction_line-clause-reaction g c = (
  c.in-Ok.paused,
  record { reacts = c.in-Ok.ensures.reacts; steps = c.in-Ok.ensures.steps },
  (refl, record { taken = 0; gains = gains-nothing (g.O.Sink.told c.args.out.now) }),
)
