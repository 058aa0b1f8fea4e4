-- What an occasion on which the wires solve the graph's equations says of wires and rows.
use Rattle.std.proofs.Common.{◌≡◌, ℕ, ◌+◌, ◌<◌, ◌≤◌, zero, suc, Bool, false, ◌||◌, List, [], ◌∷◌, length, map, slice_index_or, refl, sym, ap, ◌∙◌, subst, arith}
use Rattle.std.proofs.Common.{IsTrue}
use Rattle.std.specs.List.{list_any, zip}
use Rattle.std.proofs.lemmas.List.{get_or-map, length-map}
use Rattle.std.proofs.lemmas.Slice.Zip.{get_or-zip, length-zip}
use Rattle.grc_graph.specs.declared.formulas.Formula.{Formula}
use Rattle.grc_graph.specs.declared.graph.Graph.{Graph}
use Rattle.grc_graph.specs.Equations.{Equation}
use Rattle.grc_graph.specs.GraphRuns.{formula_value}
use Rattle.grc_graph.specs.Instances.{Instance}
use Rattle.grc_graph.specs.Layers.{Resumed}
use Rattle.grc_graph.specs.PlainGraphs.{formula_of, instances_of, names_of, equations_of, plain_graph, wire_at}
use Rattle.grc_graph.specs.Wires.{Wire, Go, same_wire}
use Rattle.grc_graph.proofs.Exports.{equations-all, length-names}
use Rattle.grc_formulas.specs.declared.table.Row.{Row}
use Rattle.grc_formulas.specs.declared.table.Words.{Words}
use Rattle.grc_formulas.specs.Occasions.{Occasion, FalseOffWires, state_in, surroundings}
use Rattle.grc_formulas.specs.Rows.{row_value, row_values}
use Rattle.grc_formulas.specs.WordLaws.{WordsFit, late_bounds}
use Rattle.grc_formulas.proofs.Exports.{rows-met}
use Rattle.net_gen.specs.Senses.{Instant, form_sense, wire_sense}

any-equations : (w : Wire) (insts : List Instance) (all names : List Wire) (forms : List Formula) → length forms ≡ length names
    → list_any (λ (e : Equation). same_wire w e.wire)
    (map (λ (e : Wire × Formula). record { wire = e.0; formula = formula_of insts all e.1 }) (zip names forms))
    ≡ list_any (same_wire w) names
any-equations w insts all [] forms len = refl
any-equations w insts all (n ∷ names) [] len = absurd (omega arith)
any-equations w insts all (n ∷ names) (f ∷ forms) len =
    ap (λ b. same_wire w n || b) (any-equations w insts all names forms (omega arith))

-- a solution is false off the wires
pub false-off_wires : (g : Graph) (t : Instant g) → FalseOffWires g t.occasion.valuation
false-off_wires g t = λ w none.
    t.solves.others w (any-equations w (instances_of g) (names_of g) (names_of g) g.equations.items (equations-all g) ∙ none)

wire-value : (g : Graph) (t : Instant g) (v : ℕ) (d : Formula) → v < length g.wires.items
    → t.occasion.valuation (wire_at (names_of g) v)
    ≡ formula_value (plain_graph g) (state_in g t.occasion) t.occasion.event t.occasion.valuation
    (formula_of (instances_of g) (names_of g) (slice_index_or g.equations.items v d))
wire-value g t v d low =
    let names = names_of g in
    let forms = g.equations.items in
    let F = λ (e : Wire × Formula). formula_of (instances_of g) names e.1 in
    let E = λ (e : Wire × Formula). let r : Equation = record { wire = e.0; formula = F e } in r in
    let many = length-names g in
    let all = equations-all g in
    let pair = get_or-zip names forms v (Go 0 Resumed, d) (omega arith) (omega arith) in
    let within : v < length (zip names forms) = omega (arith, length-zip names forms) in
    let at = get_or-map E (zip names forms) v (Go 0 Resumed, d) (E (Go 0 Resumed, d)) within ∙ ap E pair in
    let P = λ (e : Equation). t.occasion.valuation e.wire
    ≡ formula_value (plain_graph g) (state_in g t.occasion) t.occasion.event t.occasion.valuation e.formula in
    subst P at (t.solves.met v (E (Go 0 Resumed, d)) (omega (arith, length-map (zip names forms) E)))

-- a wire says what its formula means
pub wire_sense-formula : (g : Graph) (v : ℕ) (d : Formula) → v < length g.wires.items → form_sense g (slice_index_or g.equations.items v d) ≡ wire_sense g v
unfolding form_sense wire_sense
wire_sense-formula g v d low = λ i t. sym (wire-value g t v d low) i

-- a row has the value of its equation
pub row-value : (g : Graph) (w : Words) (t : Occasion g) (r : ℕ) (d : Row) → WordsFit g w → r < length w.rows.items
    → slice_index_or (row_values (surroundings g t) [] w.rows.items) r false
    ≡ row_value (surroundings g t) (row_values (surroundings g t) [] w.rows.items) (slice_index_or w.rows.items r d)
row-value g w t r d fit low = rows-met (surroundings g t) (late_bounds g) w.rows.items r d (λ n. refl) (λ j h. fit.rows j d h) low
