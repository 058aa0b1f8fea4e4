use Rattle.base_types.proofs.Contents.{more_held, front_held}
use Rattle.base_types.proofs.sinks.writer.WriterSinkSink.write.Goals as goal

-- src/sinks/writer.rt:53:9
pub loop-rest-preserved : goal.loop-rest-preserved
loop-rest-preserved g c =
    (c.loop-rest.invariant.0, more_held _ _ _ _ _ _ c.loop-rest.invariant.1 (c.in-Some.ensures).some.1 (c.in-Some.ensures).holds)

-- src/sinks/writer.rt:58:21
pub returns-in-None-clause-holds : goal.returns-in-None-clause-holds
returns-in-None-clause-holds g c =
    rw (← c.self.view_is) (front_held _ _ _ _ _ c.loop-rest.invariant.1 (c.in-None.ensures).holds)
