-- Wires that are marked: by their numbers, and by themselves.
use Rattle.std.proofs.Common.{◌≡◌, ℕ, ◌+◌, Bool, true, false, List, [], ◌∷◌, length, map, drop, refl, sym, ap, ◌∙◌, arith}
use Rattle.std.proofs.lemmas.List.{drop_more}
use Rattle.std.proofs.lemmas.Simd.{map-map}
use Rattle.base_types.specs.declared.indices.WireId.{WireId}
use Rattle.grc_graph.specs.Layers.{Resumed}
use Rattle.grc_graph.specs.PlainGraphs.{wire_at}
use Rattle.grc_graph.specs.WireNames.{WireName}
use Rattle.grc_graph.specs.Wires.{Wire, Go}
use Rattle.grc_ternary_stops.specs.MarkedWires.{marked_from, marked_of}

marked_at : (wires : List Wire) (n : ℕ) (marks : List Bool) → n + length marks ≡ length wires
    → map (wire_at wires) (marked_from n marks) ≡ marked_of marks (drop n wires)
marked_at wires n [] e = refl
marked_at wires n (mark ∷ marks) e =
    by mark (marked_at wires (n + 1) marks (omega (arith, e))) (drop_more wires n (Go 0 Resumed) (omega (arith, e)))
  where
    by : (b : Bool) → map (wire_at wires) (marked_from (n + 1) marks) ≡ marked_of marks (drop (n + 1) wires)
        → drop n wires ≡ wire_at wires n ∷ drop (n + 1) wires
        → map (wire_at wires) (marked_from n (b ∷ marks)) ≡ marked_of (b ∷ marks) (drop n wires)
    by true rest here = ap (λ l. wire_at wires n ∷ l) rest ∙ ap (marked_of (true ∷ marks)) (sym here)
    by false rest here = rest ∙ ap (marked_of (false ∷ marks)) (sym here)

-- the names of the wires with these numbers
pub marked_names : (name : Wire → WireName) (wires : List Wire) (marks : List Bool) (numbers : List WireId) (names : List WireName)
    → length marks ≡ length wires → map (λ (w : WireId). w.0) numbers ≡ marked_from 0 marks
    → names ≡ map (λ (w : WireId). name (wire_at wires w.0)) numbers → names ≡ map name (marked_of marks wires)
marked_names name wires marks numbers names each are named =
    named ∙ sym (map-map (λ n. name (wire_at wires n)) (λ (w : WireId). w.0) numbers)
    ∙ ap (map (λ n. name (wire_at wires n))) are
    ∙ sym (map-map name (wire_at wires) (marked_from 0 marks))
    ∙ ap (map name) (marked_at wires 0 marks (omega (arith, each)))
