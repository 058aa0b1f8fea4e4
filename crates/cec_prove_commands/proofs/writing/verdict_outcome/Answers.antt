use Rattle.std.proofs.Common.{◌≡◌, inl, refl, sym, subst}
use Rattle.std.specs.Prelude.{false}
use Rattle.base_types.specs.SinkChanges.{change}
use Rattle.base_types.proofs.Exports.{appends-nothing}
use Rattle.est_kernel.specs.Plain.{outgoing_names}
use Rattle.net_ir.specs.NameLists.{is_among}
use Rattle.cec_text_io.specs.Writings.{LeavesText}
use Rattle.cec_prove_sources.specs.DeviceVerdicts.{AnswersDeviceBroken, AnswersDeviceHolds, DeviceHasSignals, IsNoOutput}
use Rattle.cec_prove_sources.specs.Verdicts.{AnswersBroken, AnswersHolds, HasSignals, IsNone}
use Rattle.cec_prove_sources.specs.declared.questions.Layout.TheVariants.{LinePerInstant}
use Rattle.cec_prove_commands.specs.Outcomes.{ClaimSays, IsClaimTraceBy, IsRefutation}
use Rattle.cec_prove_commands.specs.Statuses.{written_of}
use Rattle.cec_prove_commands.specs.TextOutcomes.{IsTextRefutation, TextClaimSays}
use Rattle.cec_prove_commands.specs.declared.outcome.ProveOutcome.{ProveOutcome}
use Rattle.cec_prove_commands.specs.declared.outcome.ProveOutcome.TheVariants.{Refuted}
use Rattle.cec_prove_commands.proofs.Answering.{as_written, claim_writes, lines_left, text_verdict_says, trace_left, verdict_says}
use Rattle.cec_prove_commands.proofs.writing.verdict_outcome.Goals as goal

pub returns-in-Holds-clause-says : goal.returns-in-Holds-clause-says
returns-in-Holds-clause-says g c = λ q job text h. verdict_says text job q _ _ (λ p. AnswersHolds p q) h c.in-Holds.is (λ p is. is)

pub returns-in-Holds-clause-out : goal.returns-in-Holds-clause-out
returns-in-Holds-clause-out g c = λ q job text h. appends-nothing _ _

pub returns-in-Open-clause-says : goal.returns-in-Open-clause-says
returns-in-Open-clause-says g c = λ q job text h. verdict_says text job q _ _ (λ p. HasSignals p q) h c.in-Open.is (λ p is. is)

pub returns-in-Open-clause-out : goal.returns-in-Open-clause-out
returns-in-Open-clause-out g c = λ q job text h. appends-nothing _ _

pub returns-in-NoSignal-clause-says : goal.returns-in-NoSignal-clause-says
returns-in-NoSignal-clause-says g c = λ q job text h. verdict_says text job q _ _ (λ p. is_among q.signal (outgoing_names p) ≡ false) h
    c.in-NoSignal.is (λ p is. is)

pub returns-in-NoSignal-clause-out : goal.returns-in-NoSignal-clause-out
returns-in-NoSignal-clause-out g c = λ q job text h. appends-nothing _ _

pub returns-in-NoAssumed-clause-says : goal.returns-in-NoAssumed-clause-says
returns-in-NoAssumed-clause-says g c = λ q job text h. verdict_says text job q _ _ (λ p. IsNone p q.assumed) h c.in-NoAssumed.is (λ p is. is)

pub returns-in-NoAssumed-clause-out : goal.returns-in-NoAssumed-clause-out
returns-in-NoAssumed-clause-out g c = λ q job text h. appends-nothing _ _

pub returns-in-Broken-clause-says : goal.returns-in-Broken-clause-says
returns-in-Broken-clause-says g c = λ q job text h.
    let trace = c.in-Broken.trace.items in
    subst (λ (o : ProveOutcome). ClaimSays q o job text) (sym c.written_outcome.ensures)
    (claim_writes c.write_whole.result q job text trace
    (verdict_says text job q _ _ (λ p. AnswersBroken LinePerInstant p q trace) h c.in-Broken.is (λ p is. is)))

pub returns-in-Broken-clause-out : goal.returns-in-Broken-clause-out
returns-in-Broken-clause-out g c = λ q job text h.
    let trace = c.in-Broken.trace.items in
    let s = change g.O.Sink.told g.O.Sink.faults c.args.out.now c.write_whole.new.out in
    let broken : IsRefutation q job text trace = verdict_says text job q _ _ (λ p. AnswersBroken LinePerInstant p q trace) h c.in-Broken.is (λ p is. is) in
    subst (λ (o : ProveOutcome). LeavesText (IsClaimTraceBy q o job text) s (written_of o)) (sym c.written_outcome.ensures)
    (lines_left Refuted (λ o. IsClaimTraceBy q o job text) _ trace s c.write_whole.result refl broken (inl broken)
    c.deref.ensures.value c.write_whole.ensures)

pub returns-in-Holds-clause-says_of_text : goal.returns-in-Holds-clause-says_of_text
returns-in-Holds-clause-says_of_text g c = λ q text h. text_verdict_says text q _ _ (λ d. AnswersDeviceHolds d q) h c.in-Holds.is (λ d is. is)

pub returns-in-Holds-clause-out_of_text : goal.returns-in-Holds-clause-out_of_text
returns-in-Holds-clause-out_of_text g c = λ q text h. appends-nothing _ _

pub returns-in-Open-clause-says_of_text : goal.returns-in-Open-clause-says_of_text
returns-in-Open-clause-says_of_text g c = λ q text h. text_verdict_says text q _ _ (λ d. DeviceHasSignals d q) h c.in-Open.is (λ d is. is)

pub returns-in-Open-clause-out_of_text : goal.returns-in-Open-clause-out_of_text
returns-in-Open-clause-out_of_text g c = λ q text h. appends-nothing _ _

pub returns-in-NoSignal-clause-says_of_text : goal.returns-in-NoSignal-clause-says_of_text
returns-in-NoSignal-clause-says_of_text g c =
    λ q text h. text_verdict_says text q _ _ (λ d. is_among q.signal d.outputs ≡ false) h c.in-NoSignal.is (λ d is. is)

pub returns-in-NoSignal-clause-out_of_text : goal.returns-in-NoSignal-clause-out_of_text
returns-in-NoSignal-clause-out_of_text g c = λ q text h. appends-nothing _ _

pub returns-in-NoAssumed-clause-says_of_text : goal.returns-in-NoAssumed-clause-says_of_text
returns-in-NoAssumed-clause-says_of_text g c = λ q text h. text_verdict_says text q _ _ (λ d. IsNoOutput d q.assumed) h c.in-NoAssumed.is (λ d is. is)

pub returns-in-NoAssumed-clause-out_of_text : goal.returns-in-NoAssumed-clause-out_of_text
returns-in-NoAssumed-clause-out_of_text g c = λ q text h. appends-nothing _ _

pub returns-in-Broken-clause-says_of_text : goal.returns-in-Broken-clause-says_of_text
returns-in-Broken-clause-says_of_text g c = λ q text h.
    let trace = c.in-Broken.trace.items in
    let broken : IsTextRefutation q text trace =
    text_verdict_says text q _ _ (λ d. AnswersDeviceBroken LinePerInstant d q trace) h c.in-Broken.is (λ d is. is) in
    subst (λ (o : ProveOutcome). TextClaimSays q o text) (sym c.written_outcome.ensures)
    (as_written Refuted (λ o. TextClaimSays q o text) c.write_whole.result (trace, broken) (trace, broken) tt)

pub returns-in-Broken-clause-out_of_text : goal.returns-in-Broken-clause-out_of_text
returns-in-Broken-clause-out_of_text g c = λ q text h.
    let trace = c.in-Broken.trace.items in
    let s = change g.O.Sink.told g.O.Sink.faults c.args.out.now c.write_whole.new.out in
    subst (λ (o : ProveOutcome). LeavesText (IsTextRefutation q text) s (written_of o)) (sym c.written_outcome.ensures)
    (trace_left (IsTextRefutation q text) _ trace s c.write_whole.result
    (text_verdict_says text q _ _ (λ d. AnswersDeviceBroken LinePerInstant d q trace) h c.in-Broken.is (λ d is. is))
    c.deref.ensures.value c.write_whole.ensures)
