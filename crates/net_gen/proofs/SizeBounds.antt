-- The netlist of a graph has at most 15 gates for each wire and each live test node.
use Rattle.std.proofs.Common.{◌≡◌, ℕ, ◌+◌, ◌*◌, ◌<◌, ◌≤◌, ◌^◌, true, List, [], ◌∷◌, length, get_or, refl, ap, ◌∙◌, arith}
use Rattle.std.specs.List.{sum_by}
use Rattle.std.proofs.lemmas.List.{length-map, take_all}
use Rattle.std.proofs.lemmas.List.Sums.{sum_by-cons}
use Rattle.base_types.specs.declared.indices.WireId.{WireId}
use Rattle.est_kernel.specs.Plain.{program_of}
use Rattle.grc_graph.specs.declared.formulas.Formula as declared
use Rattle.grc_graph.specs.declared.formulas.Formula.TheVariants as formulas
use Rattle.grc_graph.specs.declared.graph.Graph.{Graph}
use Rattle.grc_graph.specs.Formulas.{Formula}
use Rattle.grc_graph.specs.GateCosts.{cost_of}
use Rattle.grc_graph.specs.GraphSizes.{graph_size}
use Rattle.grc_graph.specs.PlainGraphs.{instances_of, names_of, wire_of}
use Rattle.grc_graph.specs.Reads.{IsReadingOrder}
use Rattle.grc_formulas.specs.declared.table.Words.{Words}
use Rattle.grc_formulas.specs.Sizes.{rows_at_most}
use Rattle.net_gen.specs.Costs.{wire_cost, gates_at_most}
use Rattle.net_gen.specs.Senses.{first_of}
use Rattle.net_gen.proofs.FirstNumbers.{numbers_are_few}
use Rattle.net_gen.proofs.GateSums.{total-list, permuted}

one_more_each : {X : Type 0} (f : X → ℕ) (xs : List X) → sum_by (λ x. f x + 1) xs ≡ sum_by f xs + length xs
one_more_each f [] = refl
one_more_each f (x ∷ xs) = omega (arith, sum_by-cons (λ y. f y + 1) x xs, sum_by-cons f x xs, one_more_each f xs)

-- each wire of an order has its equation, and its gate
pub wires_cost : (g : Graph) (forms : List Formula) (order : List WireId) → IsReadingOrder (names_of g) forms order
    → sum_by (wire_cost g) order ≡ sum_by cost_of g.equations.items + length g.wires.items
wires_cost g forms order o =
    let xs = g.equations.items in
    let n = length (names_of g) in
    let many : n ≡ length g.wires.items = length-map g.wires.items (wire_of (instances_of g)) in
    let h : declared.Formula → ℕ = λ f. cost_of f + 1 in
    permuted (λ i. h (get_or xs i (formulas.Const true))) order n o.in_range o.each_once
    ∙ total-list h xs (formulas.Const true) n (omega (arith, g.indices.equations_all, many))
    ∙ ap (sum_by h) (take_all n xs (omega (arith, g.indices.equations_all, many))) ∙ one_more_each cost_of xs
    ∙ ap (λ k. sum_by cost_of xs + k) g.indices.equations_all

-- all gates but those of the rows
others_cost : (g : Graph) (rows : ℕ) (forms : List Formula) (order : List WireId) → IsReadingOrder (names_of g) forms order
    → gates_at_most g rows order + rows_at_most g ≤ 15 * graph_size (program_of g.program) + rows
others_cost g rows forms order o = omega (arith, wires_cost g forms order o, g.few.gates)

pub gates_few : (g : Graph) (forms : List Formula) (order : List WireId) → IsReadingOrder (names_of g) forms order
    → gates_at_most g (rows_at_most g) order ≤ 15 * graph_size (program_of g.program)
gates_few g forms order o = omega (arith, others_cost g (rows_at_most g) forms order o)

-- the numbers of all nets are small
pub numbers_small : (g : Graph) (w : Words) (forms : List Formula) (order : List WireId) → IsReadingOrder (names_of g) forms order
    → first_of g + gates_at_most g (length w.rows.items) order < 2 ^ 32
numbers_small g w forms order o =
    let first = numbers_are_few g in
    omega (arith, others_cost g (length w.rows.items) forms order o, first.given, first.leaves, g.few.size, w.few)
