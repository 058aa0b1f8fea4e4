use Rattle.std.proofs.Common.{◌≡◌, ◌≤◌, ◌+◌, length, ap, subst, ◌∙◌}
use Rattle.std.specs.Prelude.{count_by}
use Rattle.cec_commands.proofs.commands.load.with_reaction.Goals as goal

pub returns-clause-more : goal.returns-clause-more
returns-clause-more g c =
    let react = c.react-word.ensures in
    let shown = c.outputs.ensures in
    let counted = c.present_count.ensures in
    let wide : length c.outputs.result.now ≡ 8 = ap length shown ∙ react.shown ∙ react.outputs_stay ∙ c.requires.each_output in
    let count = counted.count ∙ ap (count_by (λ b. b)) shown in
    record {
      answer = record { present = g.R.Runner.present c.react-word.new.self; word = c.react-word.result };
      answered = react.answered;
      emitted = ap (λ k. c.args.counts.emitted + k) count;
      few = subst (λ k. k ≤ 8) count (subst (λ n. c.present_count.result ≤ n) wide counted.within);
      paused = ap (λ k. c.args.counts.paused + k) c.pause_of.ensures;
    }
