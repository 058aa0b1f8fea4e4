use Rattle.std.proofs.Common.{◌≡◌, ◌++◌, map, take}
use Rattle.std.specs.Prelude.{flat_map}
use Rattle.grc_graph.specs.PlainInstances.{layer_of}
use Rattle.grc_graph.specs.Scopes.{Scope}
use Rattle.grc_graph.specs.StatementViews.{binding_of}
use Rattle.grc_graph.specs.Wires.{status_wire}
use Rattle.grc_graph.specs.Edges.{status_to}
use Rattle.grc_dep.specs.Names.{wire_named}
use Rattle.grc_dep.specs.Found.{found_by}
use Rattle.grc_dep.proofs.statuses.push_statuses.Given as goal

-- the edges of the signals so far
abbrev pub invariant-loop-k : goal.invariant-loop-k
invariant-loop-k l =
    (B : Scope) → map binding_of l.bindings ≡ map B (map (λ s. s.0) l.signals)
    → l.pairs.items ≡ l.fn.pairs.items ++ found_by l.lookups
    (flat_map (λ s. status_to (status_wire (B s) s (layer_of l.layer)) (wire_named l.to)) (map (λ s. s.0) (take l.k l.signals)))
