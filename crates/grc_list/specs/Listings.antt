-- To believe: the listing of a graph, a text of bytes. Every line ends with one line feed, and its words are separated
-- by one space. The first line is `grc 1`. Then come a line for each node of the selection tree, and a line for each
-- wire, by number.
use Rattle.std.specs.Prelude.{ℕ, ◌+◌, Bool, true, false, List, [], ◌∷◌, ◌++◌, flat_map, codes, decimal}
use Rattle.std.specs.List.{concat}
use Rattle.est_kernel.specs.Terms.{Term}
use Rattle.est_kernel.specs.Plain.{Program, interface_of}
use Rattle.grc_graph.specs.Wires.{Wire}
use Rattle.grc_graph.specs.Equations.{wires}
use Rattle.grc_graph.specs.GraphRuns.{program_spots}
use Rattle.grc_graph.specs.SelectionTrees.{Form, Leaf, Exclusive, Parallel, Passing, TreeNode, body_tree}
use Rattle.grc_graph.specs.WireNames.{LayerName, Resumed, Started, WireName, Out, Go, StatusOf, End, path_at, wire_name}

-- a path: a full stop alone for that of the body, else a full stop and the child number for each step
abbrev pub path_text : List ℕ → List ℕ
path_text [] = codes "."
path_text (k ∷ ks) = flat_map (λ child. codes "." ++ decimal child) (k ∷ ks)

-- a layer: `r`, or `s` and the root
abbrev pub layer_text : LayerName → List ℕ
layer_text Resumed = codes "r"
layer_text (Started root) = codes "s " ++ path_text root

-- a wire by its name
abbrev pub wire_text : WireName → List ℕ
wire_text (Out signal) = codes "out " ++ signal
wire_text (Go path l) = concat (codes "go " ∷ path_text path ∷ codes " " ∷ layer_text l ∷ [])
wire_text (StatusOf path l signal) =
    concat (codes "st " ∷ path_text path ∷ codes " " ∷ layer_text l ∷ codes " " ∷ signal ∷ [])
wire_text (End path l k) =
    concat (codes "end " ∷ path_text path ∷ codes " " ∷ layer_text l ∷ codes " " ∷ decimal k ∷ [])

-- a branch of a parallel is marked 1 where it can be over while the other goes on, else 0
abbrev pub mark_text : Bool → List ℕ
mark_text true = codes "1"
mark_text false = codes "0"

-- a node of the selection tree, by its form and the path of its statement
abbrev pub node_text : Form → List ℕ → List ℕ
node_text (Leaf k) path = codes "leaf " ++ path_text path
node_text Exclusive path = codes "excl " ++ path_text path
node_text (Parallel a b) path = concat (codes "par " ∷ path_text path ∷ codes " " ∷ mark_text a ∷ mark_text b ∷ [])
node_text Passing path = codes "pass " ++ path_text path

abbrev pub node_line : Term → TreeNode → List ℕ
node_line body x = node_text x.form (path_at body x.path) ++ codes "\n"

-- the line of the wire with a number
abbrev pub wire_line : Program → ℕ → Wire → List ℕ
wire_line p number w = concat (codes "w" ∷ decimal number ∷ codes " " ∷ wire_text (wire_name p w) ∷ codes "\n" ∷ [])

-- the lines of wires, the first of which has this number
abbrev pub wire_lines : Program → ℕ → List Wire → List ℕ
wire_lines p number [] = []
wire_lines p number (w ∷ ws) = wire_line p number w ++ wire_lines p (number + 1) ws

-- the listing of a program's graph with these wires and this selection tree
abbrev pub listing : Program → List Wire → List TreeNode → List ℕ
listing p wires tree = codes "grc 1\n" ++ (flat_map (node_line p.body) tree ++ wire_lines p 0 wires)

-- the listing of a program's graph
abbrev pub program_listing : Program → List ℕ
program_listing p = listing p (wires (interface_of p).outgoing (program_spots p)) (body_tree p.body)
