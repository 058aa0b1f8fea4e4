use Rattle.std.proofs.Common.{[], None, refl, subst, ◌∙◌}
use Rattle.est_gen.specs.Sources.{source_text}
use Rattle.base_types.specs.SinkChanges.{SinkChange}
use Rattle.cec_commands.specs.declared.outcome.Outcome.TheVariants as outcomes
use Rattle.cec_compile.specs.declared.refusal.Limit.TheVariants as limits
use Rattle.cec_commands.specs.Lines.{Subject}
use Rattle.cec_commands.specs.Loads.{IsSummary}
use Rattle.cec_commands.specs.Outcomes.{OutcomeLeavesText, MakesOn}
use Rattle.est_front.specs.Sources.{StandsFor}
use Rattle.est_gen_laws.proofs.Exports.{drawn-interface}
use Rattle.cec_commands.proofs.OneFile.{err_alone}
use Rattle.cec_commands.proofs.commands.load.write_load.Goals as goal

pub returns-in-Err-NoMemory-clause-err : goal.returns-in-Err-NoMemory-clause-err
returns-in-Err-NoMemory-clause-err g c = λ content.
    let x : Subject = record { name = []; trace = []; main = []; source = source_text c.args.start c.args.branches } in
    err_alone _ content outcomes.NoMemory x _ _ _ _ (refl, refl) c.report.ensures

pub returns-then-len-gt-SOURCE_BYTES-clause-err : goal.returns-then-len-gt-SOURCE_BYTES-clause-err
returns-then-len-gt-SOURCE_BYTES-clause-err g c = λ content.
    let x : Subject = record { name = []; trace = []; main = []; source = source_text c.args.start c.args.branches } in
    err_alone _ content (outcomes.Limit limits.Source) x _ _ _ _ (refl, refl) c.report-then-len-gt-SOURCE_BYTES.ensures

pub returns-clause-out : goal.returns-clause-out
returns-clause-out g c =
    let s : SinkChange = record {
      before = g.O.Sink.told c.args.out.now;
      after = g.O.Sink.told c.write_summary-outcome.new.out;
      faults_before = g.O.Sink.faults c.args.out.now;
      faults_now = g.O.Sink.faults c.write_summary-outcome.new.out;
    } in
    let made = c.in-Ok.ensures in
    subst (λ x. OutcomeLeavesText (IsSummary (source_text c.args.start c.args.branches) x c.args.instants) s c.write_summary-outcome.result) made.rest
    (subst (λ b. OutcomeLeavesText (IsSummary b c.in-Ok.generated.rest c.args.instants) s c.write_summary-outcome.result) (c.deref.ensures.value ∙ made.source)
    c.write_summary-outcome.ensures.out)

pub returns-clause-agrees : goal.returns-clause-agrees
returns-clause-agrees g c =
    let made = c.in-Ok.ensures in
    subst (MakesOn None c.write_summary-outcome.result) (c.deref.ensures.value ∙ made.source) c.write_summary-outcome.ensures.agrees

pub write_summary-outcome-requires-clause-drawn : goal.write_summary-outcome-requires-clause-drawn
write_summary-outcome-requires-clause-drawn g c =
    let is = c.deref.ensures.value ∙ c.in-Ok.ensures.source in
    λ p stands. drawn-interface c.args.start c.args.branches p (subst (λ text. StandsFor text None p) is stands)
