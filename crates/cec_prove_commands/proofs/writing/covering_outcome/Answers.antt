use Rattle.std.proofs.Common.{true, false, sym, subst}
use Rattle.base_types.specs.SinkChanges.{change}
use Rattle.base_types.proofs.Exports.{appends-nothing}
use Rattle.cec_text_io.specs.Writings.{LeavesText}
use Rattle.cec_prove_covers.specs.Coverings.{IsCovering}
use Rattle.cec_prove_sources.specs.Verdicts.{IsNone}
use Rattle.cec_prove_commands.specs.Outcomes.{CoveringSays, IsCoveringBy}
use Rattle.cec_prove_commands.specs.Statuses.{written_of}
use Rattle.cec_prove_commands.specs.declared.outcome.ProveOutcome.{ProveOutcome}
use Rattle.cec_prove_commands.proofs.Answering.{covering_part_left, covering_part_writes, covering_says, covering_left, covering_writes}
use Rattle.cec_prove_commands.proofs.writing.covering_outcome.Goals as goal

pub returns-in-Whole-clause-says : goal.returns-in-Whole-clause-says
returns-in-Whole-clause-says g c = λ job text h.
    let lines = c.in-Whole.lines.items in
    subst (λ (o : ProveOutcome). CoveringSays o job text) (sym c.written_outcome.ensures)
    (covering_writes c.write_whole.result job text lines
    (covering_says text job _ _ (λ p. IsCovering text job.main job.assumed lines true) h c.in-Whole.is (λ p is. is)))

pub returns-in-Whole-clause-out : goal.returns-in-Whole-clause-out
returns-in-Whole-clause-out g c = λ job text h.
    let lines = c.in-Whole.lines.items in
    let s = change g.O.Sink.told g.O.Sink.faults c.args.out.now c.write_whole.new.out in
    subst (λ (o : ProveOutcome). LeavesText (IsCoveringBy o job text) s (written_of o)) (sym c.written_outcome.ensures)
    (covering_left _ lines job text s c.write_whole.result
    (covering_says text job _ _ (λ p. IsCovering text job.main job.assumed lines true) h c.in-Whole.is (λ p is. is))
    c.deref.ensures.value c.write_whole.ensures)

pub returns-in-Partly-clause-says : goal.returns-in-Partly-clause-says
returns-in-Partly-clause-says g c = λ job text h.
    let lines = c.in-Partly.lines.items in
    subst (λ (o : ProveOutcome). CoveringSays o job text) (sym c.written_outcome-in-Partly.ensures)
    (covering_part_writes c.write_whole-in-Partly.result job text lines
    (covering_says text job _ _ (λ p. IsCovering text job.main job.assumed lines false) h c.in-Partly.is (λ p is. is)))

pub returns-in-Partly-clause-out : goal.returns-in-Partly-clause-out
returns-in-Partly-clause-out g c = λ job text h.
    let lines = c.in-Partly.lines.items in
    let s = change g.O.Sink.told g.O.Sink.faults c.args.out.now c.write_whole-in-Partly.new.out in
    subst (λ (o : ProveOutcome). LeavesText (IsCoveringBy o job text) s (written_of o)) (sym c.written_outcome-in-Partly.ensures)
    (covering_part_left _ lines job text s c.write_whole-in-Partly.result
    (covering_says text job _ _ (λ p. IsCovering text job.main job.assumed lines false) h c.in-Partly.is (λ p is. is))
    c.deref-in-Partly.ensures.value c.write_whole-in-Partly.ensures)

pub returns-in-NoAssumed-clause-says : goal.returns-in-NoAssumed-clause-says
returns-in-NoAssumed-clause-says g c = λ job text h. covering_says text job _ _ (λ p. IsNone p job.assumed) h c.in-NoAssumed.is (λ p is. is)

pub returns-in-NoAssumed-clause-out : goal.returns-in-NoAssumed-clause-out
returns-in-NoAssumed-clause-out g c = λ job text h. appends-nothing _ _
