-- The names and the equations of a graph's wires, and the places of wires in lists.
use Rattle.std.proofs.Common.{List, [], arith, inl, inr, length, suc, ℕ, ◌<◌, ◌==◌, ◌∷◌, ◌≡◌}
use Rattle.std.proofs.lemmas.Bool.{cases_eq, ne_eqb}
use Rattle.std.proofs.lemmas.List.{length-map}
use Rattle.base_facts.proofs.Lists.{count_by-no}
use Rattle.base_types.specs.declared.indices.WireId.{WireId}
use Rattle.grc_graph.specs.PlainGraphs.{instances_of, names_of, wire_of}
use Rattle.grc_graph.specs.WireOrders.{times, wire_at}
use Rattle.grc_graph.specs.declared.graph.Graph.{Graph}

pub length-names : (g : Graph) → length (names_of g) ≡ length g.wires.items
length-names g = length-map g.wires.items (wire_of (instances_of g))

pub equations-all : (g : Graph) → length g.equations.items ≡ length (names_of g)
equations-all g = omega (arith, g.indices.equations_all, length-names g)

-- what stands in a list has a place
pub place-of : (xs : List WireId) (w : ℕ) → 0 < times xs w → (k : ℕ) × (k < length xs) × (wire_at xs k ≡ w)
place-of [] w some = absurd (omega arith)
place-of (x ∷ xs) w some = elim (cases_eq x.0 w) [
  | inl same ↦ (0, omega arith, same)
  | inr apart ↦
      let e = ne_eqb x.0 w apart in
      let more = count_by-no (λ (v : WireId). v.0 == w) x xs e in
      let rest = place-of xs w (omega arith) in
      (suc rest.0, omega (arith, rest.1), rest.2)
]
