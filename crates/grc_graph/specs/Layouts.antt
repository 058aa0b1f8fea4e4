-- Inner: what a graph is laid out over: live instances of a program, each with the one around it, their wires and the
-- program's selection tree, in order.
use Rattle.std.specs.Prelude.{◌≡◌, ℕ, ◌<◌, Bool, true, ◌==◌, ◌&&◌, if◌then◌else◌, Some, List, [], ◌∷◌, ◌++◌, length}
use Rattle.std.specs.Prelude.{map}
use Rattle.std.specs.List.{flat_map, list_any, range_with_len}
use Rattle.est_kernel.specs.Plain.{Program, outgoing_count}
use Rattle.est_kernel.specs.Preorder.{statement_count}
use Rattle.est_kernel.specs.WellFormed.{IsWellFormed}
use Rattle.grc_graph.specs.declared.trees.SelNode.{SelNode}
use Rattle.grc_graph.specs.declared.wires.Wire as stored
use Rattle.grc_graph.specs.Instances.{Instance}
use Rattle.grc_graph.specs.Layers.{Layer, layer_above, same_layer}
use Rattle.grc_graph.specs.PlainInstances.{instance_at, wire_of}
use Rattle.grc_graph.specs.Rows.{live_in, program_rows, row_at}
use Rattle.grc_graph.specs.SelectionTrees.{body_leaves, body_tree}
use Rattle.grc_graph.specs.Statements.{around}
use Rattle.grc_graph.specs.TreeForms.{tree_node}
use Rattle.grc_graph.specs.Wires.{Wire, Out, Go, StatusOf, End, instance_codes, listed, same_wire}

-- whether an instance is among these
abbrev pub is_among : List Instance → ℕ → Layer → Bool
is_among insts n l = list_any (λ x. x.path == n && same_layer x.layer l) insts

-- whether these wires have a status of an instance
abbrev pub has_status : List Wire → ℕ → Layer → Bool
has_status names n l = list_any (same_wire (StatusOf n l)) names

-- The wires of an instance, if its status is among these wires or is not: its `go`, its status, and an end for each of
-- its codes.
abbrev pub laid_wires : Program → List Wire → Instance → List Wire
laid_wires p names x =
    Go x.path x.layer
    ∷ ((if has_status names x.path x.layer then StatusOf x.path x.layer ∷ [] else [])
    ++ map (End x.path x.layer) (listed (instance_codes (row_at (program_rows p) x.path).statement x.layer)))

-- those of the outgoing signals, and then of these instances
abbrev pub laid_names : Program → List Instance → List Wire → List Wire
laid_names p insts names =
    map Out (range_with_len p.inputs (outgoing_count p)) ++ flat_map (laid_wires p names) insts

-- These are live instances of a well-formed program, and with each that of the statement around, by number their wires,
-- and the nodes of the selection tree of the program's body, which has so many leaves.
pub record IsLaidOut (p : Program) (insts : List Instance) (wires : List stored.Wire) (nodes : List SelNode)
    (count : ℕ) : Type 0 where
  pub formed : IsWellFormed p
  pub within : (i : ℕ) → i < length insts → (instance_at insts i).path < statement_count p.body
  pub live : (i : ℕ) → i < length insts
      → live_in (row_at (program_rows p) (instance_at insts i).path).live (instance_at insts i).layer ≡ true
  pub enclosed : (i n : ℕ) → i < length insts
      → around (row_at (program_rows p) (instance_at insts i).path).entry ≡ Some n
      → is_among insts n (layer_above n (instance_at insts i).layer) ≡ true
  pub names : map (wire_of insts) wires ≡ laid_names p insts (map (wire_of insts) wires)
  pub tree : map tree_node nodes ≡ body_tree p.body
  pub leaves : count ≡ length (body_leaves p.body)
