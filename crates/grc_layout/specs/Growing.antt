-- Inner: how the selection tree grows in the walk over a body.
use Rattle.std.specs.Prelude.{◌≡◌, ℕ, ◌+◌, Bool, if◌then◌else◌, List, [], ◌∷◌, ◌++◌, length, map, slice_set}
use Rattle.est_kernel.specs.Terms.{Term}
use Rattle.grc_graph.specs.declared.trees.SelForm.{SelForm}
use Rattle.grc_graph.specs.declared.trees.SelForm.TheVariants.{Leaf}
use Rattle.grc_graph.specs.declared.trees.SelNode.{SelNode}
use Rattle.grc_graph.specs.SelectionTrees.{tree_nodes, leaf_paths}
use Rattle.grc_graph.specs.TreeForms.{tree_node}
use Rattle.grc_layout.specs.declared.nodes.TreeDraft.{TreeDraft}
use Rattle.grc_layout.specs.declared.nodes.Part.{Part}

-- a node of a statement with this number, form and end
abbrev pub node : ℕ → SelForm → ℕ → SelNode
node path form after = record { path = record { 0 = path }; after = after; form = form }

-- the node of a statement with a live resumed instance, before its end is known
abbrev pub opened : Part → SelForm → List SelNode
opened part form = if part.live then node part.path form 0 ∷ [] else []

-- the list with the end of that node
abbrev pub closed : List SelNode → ℕ → Part → SelForm → List SelNode
closed nodes place part form = if part.live then slice_set nodes place (node part.path form (length nodes)) else nodes

-- the leaf of a pause, at a place, with a number
abbrev pub leaf_of : Part → ℕ → ℕ → List SelNode
leaf_of part place k = if part.live then node part.path (Leaf k) (place + 1) ∷ [] else []

-- the nodes of a statement were appended, and their leaves counted
pub record Grows (old new : TreeDraft) (live : Bool) (t : Term) (n : ℕ) : Type 0 where
  pub nodes : map tree_node new.nodes.items
      ≡ map tree_node old.nodes.items ++ tree_nodes live t n (length old.nodes.items) old.leaves
  pub leaves : new.leaves ≡ old.leaves + length (leaf_paths live t n)
