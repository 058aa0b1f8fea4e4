-- Parts of a list of gates that lies in memory as two.
use Rattle.std.proofs.Common.{◌≡◌, ℕ, ◌+◌, ◌-◌, ◌≤◌, zero, suc, Bool, List, [], ◌∷◌, ◌++◌, length, map, set, take, drop, All, refl, ap, ◌∙◌, arith}
use Rattle.std.specs.Prelude.{slice_range}
use Rattle.std.proofs.lemmas.List.{length-map, length-set, length-drop, drop-map, take-map, take-append-le, drop-append-le}
use Rattle.std.proofs.Math.Seq.{take-append-add, drop-append-add}
use Rattle.run_steps.specs.declared.gate.Gate.{Gate}
use Rattle.run_steps.specs.declared.gate.NarrowGate.{NarrowGate}
use Rattle.run_steps.specs.Records.{GateFits, gate_value, gates_made, widened}

pub gates-made-append : (gs hs : List Gate) (values : List Bool) → gates_made (gs ++ hs) values ≡ gates_made hs (gates_made gs values)
gates-made-append [] hs values = refl
gates-made-append (g ∷ gs) hs values = gates-made-append gs hs (set values g.output (gate_value g values))

pub gates-made-length : (gs : List Gate) (values : List Bool) → length (gates_made gs values) ≡ length values
gates-made-length [] values = refl
gates-made-length (g ∷ gs) values = gates-made-length gs (set values g.output (gate_value g values)) ∙ length-set values g.output (gate_value g values)

pub part-front : (narrow : List NarrowGate) (wide : List Gate) (from to : ℕ) → from ≤ to → to ≤ length narrow
    → slice_range (map widened narrow ++ wide) from to ≡ map widened (slice_range narrow from to)
part-front narrow wide from to order within =
    let gates = map widened narrow in
    let many = length-map narrow widened in
    let left = length-drop from gates in
    ap (take (to - from)) (drop-append-le from gates wide (omega (arith, many)))
    ∙ take-append-le (to - from) (drop from gates) wide (omega (arith, many, left))
    ∙ ap (take (to - from)) (drop-map widened from narrow) ∙ take-map widened (to - from) (drop from narrow)

pub part-behind : (narrow : List NarrowGate) (wide : List Gate) (from to : ℕ) → from ≤ to → length narrow ≤ from
    → slice_range (map widened narrow ++ wide) from to ≡ slice_range wide (from - length narrow) (to - length narrow)
part-behind narrow wide from to order above =
    let gates = map widened narrow in
    let many = length-map narrow widened in
    let at : from ≡ length gates + (from - length narrow) = omega (arith, many) in
    let size : to - from ≡ (to - length narrow) - (from - length narrow) = omega arith in
    ap (λ n. take (to - from) (drop n (gates ++ wide))) at ∙ ap (take (to - from)) (drop-append-add gates wide (from - length narrow))
    ∙ ap (λ n. take n (drop (from - length narrow) wide)) size

pub part-across : (narrow : List NarrowGate) (wide : List Gate) (from to : ℕ) → from ≤ length narrow → length narrow ≤ to
    → slice_range (map widened narrow ++ wide) from to ≡ map widened (drop from narrow) ++ take (to - length narrow) wide
part-across narrow wide from to low above =
    let gates = map widened narrow in
    let many = length-map narrow widened in
    let left = length-drop from gates in
    let size : to - from ≡ length (drop from gates) + (to - length narrow) = omega (arith, many, left) in
    ap (take (to - from)) (drop-append-le from gates wide (omega (arith, many)))
    ∙ ap (λ n. take n (drop from gates ++ wide)) size ∙ take-append-add (drop from gates) wide (to - length narrow)
    ∙ ap (λ gs. gs ++ take (to - length narrow) wide) (drop-map widened from narrow)

-- gates that fit, those in 16 bytes first
pub front-fits : (slots : ℕ) (narrow : List NarrowGate) (wide : List Gate) → All (GateFits slots) (map widened narrow ++ wide)
    → All (λ n. GateFits slots (widened n)) narrow
front-fits slots [] wide all k d low = absurd (omega arith)
front-fits slots (n ∷ narrow) wide all zero d low = all zero (widened d) (omega arith)
front-fits slots (n ∷ narrow) wide all (suc k) d low =
    front-fits slots narrow wide (λ j e more. all (suc j) e (omega arith)) k d (omega arith)

pub behind-fits : (slots : ℕ) (narrow : List NarrowGate) (wide : List Gate) → All (GateFits slots) (map widened narrow ++ wide)
    → All (GateFits slots) wide
behind-fits slots [] wide all = all
behind-fits slots (n ∷ narrow) wide all = behind-fits slots narrow wide (λ j e more. all (suc j) e (omega arith))
