-- What a group is refused for is the answer.
use Rattle.std.proofs.Common.{◌≡◌, ap, sym, ◌∙◌, Err}
use Rattle.run_trace_io.specs.declared.faults.TraceFault.{TraceFault}
use Rattle.run_trace_io.specs.declared.faults.TraceFault.TheVariants as faults
use Rattle.run_trace_io.specs.declared.faults.TraceError.{TraceError}
use Rattle.run_trace_io.specs.declared.faults.TraceError.TheVariants.{Fault, NoMemory}
use Rattle.run_trace_io.specs.Traces.{Reading, Refused, next_group}
use Rattle.run_trace_io.specs.Reads.{IsOfGroup, IsRead}
use Rattle.run_trace_io.specs.Answers.{IsFault, AnswersGroup}

IsFault-refused : (r : Reading) (fault : TraceFault) → next_group r ≡ Refused fault → IsOfGroup fault → IsFault r fault
IsFault-refused r (faults.BadByte place) refused of = refused
IsFault-refused r (faults.UnknownInput instant name) refused of = refused
IsFault-refused r (faults.Repeated instant name) refused of = refused
IsFault-refused r (faults.BadReset instant) refused of = refused
IsFault-refused r (faults.OpenInstant instant) refused of = refused
IsFault-refused r (faults.Breaks instant relation) refused of = absurd of

pub Answers-refused : (old new : Reading) (error : TraceError) → new ≡ old → IsRead new.text new.at (next_group new) (Err error)
    → AnswersGroup old (Err error) new
Answers-refused old new (Fault fault) same read = (IsFault-refused old fault (ap next_group (sym same) ∙ read.0) read.1, same)
Answers-refused old new NoMemory same read = same
