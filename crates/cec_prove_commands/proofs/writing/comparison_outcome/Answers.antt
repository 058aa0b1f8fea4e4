use Rattle.std.proofs.Common.{◌≡◌, inl, refl, sym, subst}
use Rattle.std.specs.Prelude.{◌≢◌}
use Rattle.base_types.specs.SinkChanges.{change}
use Rattle.base_types.proofs.Exports.{appends-nothing}
use Rattle.est_kernel.specs.Plain.{given_names, outgoing_names}
use Rattle.cec_text_io.specs.Writings.{LeavesText}
use Rattle.cec_prove_sources.specs.DeviceSameness.{AreDifferentDevices, AreSameDevices, SharesNames}
use Rattle.cec_prove_sources.specs.Sameness.{AreDifferent, AreSame, SharesInterface}
use Rattle.cec_prove_commands.specs.Outcomes.{ComparisonSays, IsDistinction, IsDistinctionBy}
use Rattle.cec_prove_commands.specs.Statuses.{written_of}
use Rattle.cec_prove_commands.specs.TextOutcomes.{IsTextDistinction, TextComparisonSays}
use Rattle.cec_prove_commands.specs.declared.outcome.ProveOutcome.{ProveOutcome}
use Rattle.cec_prove_commands.specs.declared.outcome.ProveOutcome.TheVariants.{Refuted}
use Rattle.cec_prove_commands.proofs.Answering.{as_written, comparison_says, comparison_writes, lines_left, text_comparison_says, trace_left}
use Rattle.cec_prove_commands.proofs.writing.comparison_outcome.Goals as goal

pub returns-in-Same-clause-says : goal.returns-in-Same-clause-says
returns-in-Same-clause-says g c = λ first second job h. comparison_says first second job _ _ (λ p q. AreSame p q) h c.in-Same.is (λ p q is. is)

pub returns-in-Same-clause-out : goal.returns-in-Same-clause-out
returns-in-Same-clause-out g c = λ first second job h. appends-nothing _ _

pub returns-in-Open-clause-says : goal.returns-in-Open-clause-says
returns-in-Open-clause-says g c = λ first second job h. comparison_says first second job _ _ (λ p q. SharesInterface p q) h c.in-Open.is (λ p q is. is)

pub returns-in-Open-clause-out : goal.returns-in-Open-clause-out
returns-in-Open-clause-out g c = λ first second job h. appends-nothing _ _

pub returns-in-OtherGiven-clause-says : goal.returns-in-OtherGiven-clause-says
returns-in-OtherGiven-clause-says g c = λ first second job h. comparison_says first second job _ _
    (λ p q. given_names p ≢ given_names q) h c.in-OtherGiven.is (λ p q is. is)

pub returns-in-OtherGiven-clause-out : goal.returns-in-OtherGiven-clause-out
returns-in-OtherGiven-clause-out g c = λ first second job h. appends-nothing _ _

pub returns-in-OtherOutgoing-clause-says : goal.returns-in-OtherOutgoing-clause-says
returns-in-OtherOutgoing-clause-says g c = λ first second job h. comparison_says first second job _ _
    (λ p q. outgoing_names p ≢ outgoing_names q) h c.in-OtherOutgoing.is (λ p q is. is)

pub returns-in-OtherOutgoing-clause-out : goal.returns-in-OtherOutgoing-clause-out
returns-in-OtherOutgoing-clause-out g c = λ first second job h. appends-nothing _ _

pub returns-in-OtherRelations-clause-says : goal.returns-in-OtherRelations-clause-says
returns-in-OtherRelations-clause-says g c = λ first second job h. comparison_says first second job _ _
    (λ p q. p.relations ≢ q.relations) h c.in-OtherRelations.is (λ p q is. is)

pub returns-in-OtherRelations-clause-out : goal.returns-in-OtherRelations-clause-out
returns-in-OtherRelations-clause-out g c = λ first second job h. appends-nothing _ _

pub returns-in-Different-clause-says : goal.returns-in-Different-clause-says
returns-in-Different-clause-says g c = λ first second job h.
    let trace = c.in-Different.trace.items in
    subst (λ (o : ProveOutcome). ComparisonSays o job first second) (sym c.written_outcome.ensures)
    (comparison_writes c.write_whole.result job first second trace
    (comparison_says first second job _ _ (λ p q. AreDifferent p q trace) h c.in-Different.is (λ p q is. is)))

pub returns-in-Different-clause-out : goal.returns-in-Different-clause-out
returns-in-Different-clause-out g c = λ first second job h.
    let trace = c.in-Different.trace.items in
    let s = change g.O.Sink.told g.O.Sink.faults c.args.out.now c.write_whole.new.out in
    let apart : IsDistinction job first second trace =
    comparison_says first second job _ _ (λ p q. AreDifferent p q trace) h c.in-Different.is (λ p q is. is) in
    subst (λ (o : ProveOutcome). LeavesText (IsDistinctionBy o job first second) s (written_of o)) (sym c.written_outcome.ensures)
    (lines_left Refuted (λ o. IsDistinctionBy o job first second) _ trace s c.write_whole.result refl apart (inl apart)
    c.deref.ensures.value c.write_whole.ensures)

pub returns-in-Same-clause-says_of_texts : goal.returns-in-Same-clause-says_of_texts
returns-in-Same-clause-says_of_texts g c = λ first second h. text_comparison_says first second _ _
    (λ d e. AreSameDevices d e) h c.in-Same.is (λ d e is. is)

pub returns-in-Same-clause-out_of_texts : goal.returns-in-Same-clause-out_of_texts
returns-in-Same-clause-out_of_texts g c = λ first second h. appends-nothing _ _

pub returns-in-Open-clause-says_of_texts : goal.returns-in-Open-clause-says_of_texts
returns-in-Open-clause-says_of_texts g c = λ first second h. text_comparison_says first second _ _
    (λ d e. SharesNames d e) h c.in-Open.is (λ d e is. is)

pub returns-in-Open-clause-out_of_texts : goal.returns-in-Open-clause-out_of_texts
returns-in-Open-clause-out_of_texts g c = λ first second h. appends-nothing _ _

pub returns-in-OtherGiven-clause-says_of_texts : goal.returns-in-OtherGiven-clause-says_of_texts
returns-in-OtherGiven-clause-says_of_texts g c = λ first second h. text_comparison_says first second _ _
    (λ d e. d.inputs ≢ e.inputs) h c.in-OtherGiven.is (λ d e is. is)

pub returns-in-OtherGiven-clause-out_of_texts : goal.returns-in-OtherGiven-clause-out_of_texts
returns-in-OtherGiven-clause-out_of_texts g c = λ first second h. appends-nothing _ _

pub returns-in-OtherOutgoing-clause-says_of_texts : goal.returns-in-OtherOutgoing-clause-says_of_texts
returns-in-OtherOutgoing-clause-says_of_texts g c = λ first second h. text_comparison_says first second _ _
    (λ d e. (d.inputs ≡ e.inputs) × (d.outputs ≢ e.outputs)) h c.in-OtherOutgoing.is (λ d e is. is)

pub returns-in-OtherOutgoing-clause-out_of_texts : goal.returns-in-OtherOutgoing-clause-out_of_texts
returns-in-OtherOutgoing-clause-out_of_texts g c = λ first second h. appends-nothing _ _

pub returns-in-OtherRelations-clause-says_of_texts : goal.returns-in-OtherRelations-clause-says_of_texts
returns-in-OtherRelations-clause-says_of_texts g c = λ first second h.
    let none = text_comparison_says first second _ _ (λ d e. d.relations ≢ e.relations) h c.in-OtherRelations.is (λ d e is. is) in absurd (none.says refl)

pub returns-in-OtherRelations-clause-out_of_texts : goal.returns-in-OtherRelations-clause-out_of_texts
returns-in-OtherRelations-clause-out_of_texts g c = λ first second h. appends-nothing _ _

pub returns-in-Different-clause-says_of_texts : goal.returns-in-Different-clause-says_of_texts
returns-in-Different-clause-says_of_texts g c = λ first second h.
    let trace = c.in-Different.trace.items in
    let apart : IsTextDistinction first second trace =
    text_comparison_says first second _ _ (λ d e. AreDifferentDevices d e trace) h c.in-Different.is (λ d e is. is) in
    subst (λ (o : ProveOutcome). TextComparisonSays o first second) (sym c.written_outcome.ensures)
    (as_written Refuted (λ o. TextComparisonSays o first second) c.write_whole.result (trace, apart) (trace, apart) tt)

pub returns-in-Different-clause-out_of_texts : goal.returns-in-Different-clause-out_of_texts
returns-in-Different-clause-out_of_texts g c = λ first second h.
    let trace = c.in-Different.trace.items in
    let s = change g.O.Sink.told g.O.Sink.faults c.args.out.now c.write_whole.new.out in
    subst (λ (o : ProveOutcome). LeavesText (IsTextDistinction first second) s (written_of o)) (sym c.written_outcome.ensures)
    (trace_left (IsTextDistinction first second) _ trace s c.write_whole.result
    (text_comparison_says first second _ _ (λ d e. AreDifferentDevices d e trace) h c.in-Different.is (λ d e is. is))
    c.deref.ensures.value c.write_whole.ensures)
