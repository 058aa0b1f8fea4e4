-- To believe: the texts of some wires in a line.
use Rattle.std.specs.Prelude.{ℕ, List, [], ◌∷◌, ◌++◌, flat_map}
use Rattle.grc_graph.specs.WireNames.{WireName}
use Rattle.grc_list.specs.Listings.{wire_text}

-- the texts of wires, with this text between each and the next
abbrev pub joined_texts : List ℕ → List WireName → List ℕ
joined_texts between [] = []
joined_texts between (w ∷ ws) = wire_text w ++ flat_map (λ v. between ++ wire_text v) ws
