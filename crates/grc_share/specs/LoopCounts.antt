-- Inner: how the loop bodies around a statement are counted from those around the statement around it.
use Rattle.std.specs.Prelude.{ℕ, ◌+◌, ◌<◌, List, slice_index_or, ⊤}
use Rattle.grc_graph.specs.Statements.{Entry, Body, Part, Branch, Then, Else, Suspended, Second, Looped}
use Rattle.grc_graph.specs.declared.loops.LoopBodies.{LoopBodies}
pub use Rattle.grc_graph.specs.LoopTables.{AreLoopCounts}

abbrev pub inside_at : List LoopBodies → ℕ → ℕ
inside_at list n = (slice_index_or list n (record { above = 0; inside = 0 })).inside

-- the counts of a statement that is entered so
abbrev pub part_counts : ℕ → LoopBodies
part_counts k = record { above = k; inside = k }

abbrev pub counts_in : List LoopBodies → Entry → LoopBodies
counts_in list Body = part_counts 0
counts_in list (Part n) = part_counts (inside_at list n)
counts_in list (Branch n) = part_counts (inside_at list n)
counts_in list (Then n e) = part_counts (inside_at list n)
counts_in list (Else n e) = part_counts (inside_at list n)
counts_in list (Suspended n e) = part_counts (inside_at list n)
counts_in list (Second n) = part_counts (inside_at list n)
counts_in list (Looped n) = record { above = inside_at list n; inside = inside_at list n + 1 }

-- the statement around it is among so many
abbrev pub Enters : ℕ → Entry → Type 0
Enters m Body = ⊤
Enters m (Part n) = n < m
Enters m (Branch n) = n < m
Enters m (Then n e) = n < m
Enters m (Else n e) = n < m
Enters m (Suspended n e) = n < m
Enters m (Second n) = n < m
Enters m (Looped n) = n < m
