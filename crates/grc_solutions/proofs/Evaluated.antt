-- The valuation of a list of values.
use Rattle.std.proofs.Common.{◌≡◌, ℕ, zero, suc, ◌<◌, Bool, false, List, [], ◌∷◌, length, get_or, refl, sym, ◌∙◌, arith}
use Rattle.std.specs.List.{list_any}
use Rattle.std.proofs.lemmas.Bool.{or_from, cond-true, cond-false, cond_both, or_parts}
use Rattle.grc_graph.specs.Layers.{Resumed}
use Rattle.grc_graph.specs.Wires.{Wire, Go, same_wire}
use Rattle.grc_graph.specs.Equations.{Equation}
use Rattle.grc_graph.specs.PlainGraphs as graphs
use Rattle.grc_graph.proofs.Exports.{same_wire-self, same_wire-true}
use Rattle.grc_solutions.specs.GraphWires.{equation_wires, Differ}
use Rattle.grc_solutions.specs.Evaluations.{valuation_of}
use Rattle.grc_solutions.proofs.SameWires.{is_given}

-- where no wire stands twice, each wire has its value
pub value_there : (names : List Wire) (values : List Bool) → Differ names → (v : ℕ) → v < length names → v < length values →
    valuation_of names values (graphs.wire_at names v) ≡ get_or values v false
value_there [] values d v l m = absurd (omega arith)
value_there (u ∷ us) [] d v l m = absurd (omega arith)
value_there (u ∷ us) (b ∷ bs) d zero l m = cond-true (same_wire u u) b (valuation_of us bs u) (same_wire-self u)
value_there (u ∷ us) (b ∷ bs) d (suc v) l m =
    cond_both (same_wire (graphs.wire_at us v) u) b (valuation_of us bs (graphs.wire_at us v)) (λ x. x ≡ get_or bs v false)
    (λ e. absurd (d 0 (suc v) (Go 0 Resumed) (omega arith) l (sym (same_wire-true (graphs.wire_at us v) u e))))
    (λ e. value_there us bs (λ i j x h k. d (suc i) (suc j) x (omega arith) (omega arith)) v (omega arith) (omega arith))

-- what is no wire is false
pub value_off : (names : List Wire) (values : List Bool) (w : Wire) → list_any (same_wire w) names ≡ false → valuation_of names values w ≡ false
value_off [] values w h = refl
value_off (u ∷ us) [] w h = refl
value_off (u ∷ us) (b ∷ bs) w h =
    let p = or_parts (same_wire w u) (list_any (same_wire w) us) h in
    cond-false (same_wire w u) b (valuation_of us bs w) p.0 ∙ value_off us bs w p.1

-- a wire with no equation is not among the wires of the equations
pub unnamed : (es : List Equation) (w : Wire) → is_given es w ≡ false → list_any (same_wire w) (equation_wires es) ≡ false
unnamed [] w h = refl
unnamed (e ∷ es) w h =
    let p = or_parts (same_wire w e.wire) (is_given es w) h in
    or_from (same_wire w e.wire) (list_any (same_wire w) (equation_wires es)) p.0 (unnamed es w p.1)
