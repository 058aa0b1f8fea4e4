-- Contract: what a netlist has in common with the one whose latches it encodes.
use Rattle.std.specs.Prelude.{◌≡◌, Bool, true, false, List, ◌∷◌, length, map, drop, replicate}
use Rattle.base_types.specs.Items.{Item, EachEvent}
use Rattle.est_kernel.specs.Terms.{Term}
use Rattle.grc_graph.specs.declared.trees.SelTree.{SelTree}
use Rattle.grc_graph.specs.Selections.{well_formed}
use Rattle.grc_graph.specs.SelectionTrees.{body_leaves, body_tree, selecting}
use Rattle.grc_graph.specs.TreeForms.{tree_node}
use Rattle.net_ir.specs.Gates.{carried}
use Rattle.net_ir.specs.Netlists.{Netlist, output_names}
use Rattle.net_ir.specs.Runs.{initial_latches}
use Rattle.net_simp.specs.SameRuns.{RunsAlike}
use Rattle.net_state_enc.specs.EncodedCounts.{encoded_bits, encoded_count}
use Rattle.net_state_enc.specs.Meeting.{LatchesMeet}

-- a tree of nodes is the selection tree of a body
pub record IsTreeOf (tree : SelTree) (body : Term) : Type 0 where
  pub nodes : map tree_node tree.nodes.items ≡ body_tree body
  pub leaves : tree.leaves ≡ length (body_leaves body)

-- The latches after the first one select leaves, in their order, as the body's selection tree wants.
abbrev pub SelectsWell : Term → List Bool → Type 0
SelectsWell body latches = well_formed (selecting (body_leaves body) (drop 1 latches)) body 0 ≡ true

-- Name, interface and carried wires stay, in their order. There are just as many latches as the encoded state takes:
-- the first one tells the first instant, and there is one for each bit of the code, all false at first. Over items,
-- wherever the old latches are well formed in each instant, both show the same, and gates that carry a wire have the
-- same values.
pub record Encodes (net new : Netlist) (body : Term) : Type 0 where
  pub name : new.name ≡ net.name
  pub inputs : new.inputs ≡ net.inputs
  pub outputs : output_names new ≡ output_names net
  pub carries : carried new.gates ≡ carried net.gates
  pub count : length new.latches ≡ encoded_count body
  pub latches : initial_latches new ≡ true ∷ replicate (encoded_bits body) false
  pub runs : (items : List Item) → EachEvent (λ event. length event ≡ length net.inputs) items
      → LatchesMeet (SelectsWell body) net (initial_latches net) items → RunsAlike net new items
