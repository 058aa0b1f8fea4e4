-- Inner: what the functions of the reader answer.
use Rattle.std.specs.Prelude.{◌≡◌, ℕ, ◌<◌, ◌≤◌, Bool, List, length, Result, Ok, Err, ⊤}
use Rattle.run_trace_io.specs.declared.faults.TraceFault.{TraceFault}
use Rattle.run_trace_io.specs.declared.faults.TraceFault.TheVariants as faults
use Rattle.run_trace_io.specs.declared.faults.TraceError.{TraceError}
use Rattle.run_trace_io.specs.declared.faults.TraceError.TheVariants.{Fault, NoMemory}
use Rattle.run_trace_io.specs.declared.groups.Stage.TheVariants as stages
use Rattle.run_trace_io.specs.declared.groups.Stage.{Stage as Standing}
use Rattle.run_trace_io.specs.declared.groups.Read.{Read}
use Rattle.run_trace_io.specs.declared.groups.Read.TheVariants as reads
use Rattle.run_trace_io.specs.Traces.{Stage, Fresh, Named, Resetting, TraceGroup, End, Reset, Instant, Refused}
use Rattle.run_trace_io.specs.Traces.{NameEffect}
use Rattle.run_trace_io.specs.Traces.{Goes, Faulty}

abbrev pub stage_of : Standing → Stage
stage_of stages.Fresh = Fresh
stage_of stages.Named = Named
stage_of stages.Resetting = Resetting

abbrev pub group_of : Read → TraceGroup
group_of reads.End = End
group_of (reads.Reset behind) = Reset behind
group_of (reads.Instant event behind) = Instant event.items behind

-- a fault of a group, and not of what the environment keeps
abbrev pub IsOfGroup : TraceFault → Type 0
IsOfGroup (faults.Breaks instant relation) = ⊥
IsOfGroup fault = ⊤

-- a name is met: the group goes on with this event, or the fault is this
abbrev pub IsMet : List Bool → NameEffect → Result Standing TraceError → Type 0
IsMet event met (Ok stage) = met ≡ Goes (stage_of stage) event
IsMet event met (Err (Fault fault)) = (met ≡ Faulty fault) × IsOfGroup fault
IsMet event met (Err NoMemory) = ⊤

abbrev pub IsEnd : TraceGroup → Result Read TraceError → Type 0
IsEnd group (Ok read) = (group ≡ group_of read) × (read ≡ reads.End)
IsEnd group (Err (Fault fault)) = (group ≡ Refused fault) × IsOfGroup fault
IsEnd group (Err NoMemory) = ⊤

-- the place after a group is one of the text, after its beginning
abbrev pub IsBehind : List ℕ → ℕ → Read → Type 0
IsBehind text at reads.End = ⊤
IsBehind text at (reads.Reset behind) = (at < behind) × (behind ≤ length text)
IsBehind text at (reads.Instant event behind) = (at < behind) × (behind ≤ length text)

-- a group is read
abbrev pub IsRead : List ℕ → ℕ → TraceGroup → Result Read TraceError → Type 0
IsRead text at group (Ok read) = (group ≡ group_of read) × IsBehind text at read
IsRead text at group (Err (Fault fault)) = (group ≡ Refused fault) × IsOfGroup fault
IsRead text at group (Err NoMemory) = ⊤
