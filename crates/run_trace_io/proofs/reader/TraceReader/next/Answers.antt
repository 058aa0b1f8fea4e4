use Rattle.run_trace_io.specs.Answers.{reading_of}
use Rattle.run_trace_io.proofs.Refusing.{Answers-refused}
use Rattle.run_trace_io.proofs.reader.TraceReader.next.Goals as goal

pub returns-in-Err : goal.returns-in-Err
returns-in-Err c = Answers-refused (reading_of c.args.self.now) (reading_of c.make_places.new.self) c.in-Err.error c.in_ok-make_places.ensures.same
    c.in-Err.ensures
