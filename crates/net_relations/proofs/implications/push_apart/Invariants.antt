use Rattle.std.proofs.Common.{map}
use Rattle.base_types.specs.Relations.{Excludes}
use Rattle.net_relations.specs.Implications.{AddsOnly, IsSaid}
use Rattle.net_relations.proofs.implications.push_apart.Given as goal

abbrev pub invariant-loop-k : goal.invariant-loop-k
invariant-loop-k l = AddsOnly (IsSaid l.inputs (Excludes (map (λ s. s.0) l.signals))) l.initial.list.items l.list.items
