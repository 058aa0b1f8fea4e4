use Rattle.std.proofs.Common.{◌≡◌, map}
use Rattle.std.specs.List.{range_with_len}
use Rattle.grc_graph.specs.Scopes.{program_scope}
use Rattle.grc_graph.specs.StatementViews.{binding_of}
use Rattle.grc_graph.proofs.statements.program_scope.Given as goal

abbrev pub invariant-loop-signal : goal.invariant-loop-signal
invariant-loop-signal l = map binding_of l.table.items ≡ map (program_scope l.inputs l.interface) (range_with_len 0 l.signal)
