-- Inner: wires that are marked, by their numbers and by themselves.
use Rattle.std.specs.Prelude.{ℕ, ◌+◌, Bool, true, false, List, [], ◌∷◌}
use Rattle.grc_graph.specs.Wires.{Wire}

-- the numbers of the marks, the first of which stands at this number
abbrev pub marked_from : ℕ → List Bool → List ℕ
marked_from n [] = []
marked_from n (true ∷ marks) = n ∷ marked_from (n + 1) marks
marked_from n (false ∷ marks) = marked_from (n + 1) marks

-- the wires at the marks
abbrev pub marked_of : List Bool → List Wire → List Wire
marked_of [] wires = []
marked_of (mark ∷ marks) [] = []
marked_of (true ∷ marks) (w ∷ wires) = w ∷ marked_of marks wires
marked_of (false ∷ marks) (w ∷ wires) = marked_of marks wires
