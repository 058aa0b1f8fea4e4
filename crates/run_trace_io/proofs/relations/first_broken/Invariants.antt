use Rattle.std.proofs.Common.{ℕ, ◌<◌, map, slice_index_or}
use Rattle.base_types.specs.Relations.{Relation, relation_of, Meets}
use Rattle.run_trace_io.proofs.relations.first_broken.Given as goal

-- the event meets the relations so far
abbrev pub invariant-loop-k : goal.invariant-loop-k
invariant-loop-k l = (j : ℕ) (d : Relation) → j < l.k → Meets l.event (slice_index_or (map relation_of l.relations) j d)
