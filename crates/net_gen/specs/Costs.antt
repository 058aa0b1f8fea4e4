-- To believe: the greatest number of gates that a netlist needs.
use Rattle.std.specs.Prelude.{ℕ, ◌+◌, ◌*◌, true, List, length, slice_index_or}
use Rattle.std.specs.List.{sum_by}
use Rattle.base_types.specs.declared.indices.WireId.{WireId}
use Rattle.est_kernel.specs.Plain.{Program}
use Rattle.grc_graph.specs.declared.formulas.Formula.TheVariants as formulas
use Rattle.grc_graph.specs.declared.graph.Graph.{Graph}
use Rattle.grc_graph.specs.GateCosts.{cost_of}
use Rattle.grc_graph.specs.GraphSizes.{graph_size}

-- a wire's formula, and the gate that carries the wire
abbrev pub wire_cost : Graph → WireId → ℕ
wire_cost g v = cost_of (slice_index_or g.equations.items v.0 (formulas.Const true)) + 1

-- The greatest number of gates: two constants, one run of ends for each wire, one gate for each row of the table of
-- words, the gates of each wire in the order, and those of the next formulas.
abbrev pub gates_at_most : Graph → (rows : ℕ) → List WireId → ℕ
gates_at_most g rows order =
    2 + length g.wires.items + rows + sum_by (wire_cost g) order + sum_by cost_of g.next.items

-- It is linear in what is counted of the program's own graph: some gates for each wire and each live test node.
abbrev pub linear_bound : Program → ℕ
linear_bound p = 15 * graph_size p
