-- Worked costs, by hand: of the wires and the next state of a graph, and of a small program.
use Rattle.std.proofs.Common.{◌≡◌, [], ◌∷◌, length, codes, refl, ap, arith}
use Rattle.std.specs.List.{sum_by}
use Rattle.est_kernel.specs.Terms.{Nothing}
use Rattle.grc_graph.specs.Wires.{listed, codes_below}
use Rattle.grc_graph.specs.declared.formulas.Formula.TheVariants as formulas
use Rattle.grc_graph.specs.declared.graph.Graph.{Graph}
use Rattle.grc_graph.specs.GateCosts.{cost_of}
use Rattle.net_gen.specs.Costs.{wire_cost, gates_at_most, linear_bound}

-- five wires, three rows, and nothing to be kept
of_a_graph : (g : Graph) → length g.wires.items ≡ 5 → g.next.items ≡ [] → gates_at_most g 3 [] ≡ 10
of_a_graph g wires none = let e = ap (sum_by cost_of) none in omega (arith, wires, e)

-- and one wire that has the value of another
of_one_wire : (g : Graph) → length g.wires.items ≡ 5 → g.next.items ≡ [] → g.equations.items ≡ formulas.Wire (record { 0 = 3 }) ∷ []
    → gates_at_most g 3 (record { 0 = 0 } ∷ []) ≡ 11
of_one_wire g wires none one =
    let e = ap (sum_by cost_of) none in
    let cost : wire_cost g (record { 0 = 0 }) ≡ 1 = rw one in
    omega (arith, wires, e, cost)

-- one wire for the start of the body, and one for its end
of_a_program : linear_bound (record { name = codes "T"; signals = []; inputs = 0; both = 0; outputs = 0; relations = []; body = Nothing }) ≡ 30
unfolding listed codes_below
of_a_program = refl
