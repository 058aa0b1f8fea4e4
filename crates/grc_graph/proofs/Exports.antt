-- What other crates use of these proofs.
pub use Rattle.grc_graph.proofs.Sums.{sum_both, sum_mapped, sum_none, sum_swap}
pub use Rattle.grc_graph.proofs.CodeReads.{StandsAt, codes_at, codes_of_body, stands_head, stands_left, stands_right, stands_tail, stands_whole}
pub use Rattle.grc_graph.proofs.CodeReads.{statement_count-le}
pub use Rattle.grc_graph.proofs.TreeLaws.{tree_nests, tree_none, tree_numbers}
pub use Rattle.grc_graph.proofs.TreeSelections.{judged_body, leaves_among, leaves_none}
pub use Rattle.grc_graph.proofs.LiveInstances.{RootsFit, above_above, above_behind, above_within, at_layer, cases_of, enclosing_are_live_lem, from_map}
pub use Rattle.grc_graph.proofs.LiveInstances.{in_map, instances_among, instances_ascend_lem, of_fewer, own_root, started_in}
pub use Rattle.grc_graph.proofs.ResumedPauses.{leaves_are_resumed_pauses_lem}
pub use Rattle.grc_graph.proofs.CodesBelow.{codes_below-has, codes_below-lacks, codes_below-none, codes_below-suc, listed-below}
pub use Rattle.grc_graph.proofs.RowReads.{codes_read, length-program_rows, length-statements, preorder_read, statement_read}
pub use Rattle.grc_graph.proofs.RowFacts.{Entered, LoopedPart, PartOf, Placed, SecondPart, TestedPart, one_place, program_placed, two_places}
pub use Rattle.grc_graph.proofs.StatementPaths.{bound_at-past, first_path, length-paths, length-preorder, long_below, long_one, long_two, path_at-past}
pub use Rattle.grc_graph.proofs.WireNames.{Below, IsEnd, IsGo, IsStatus, Kind, LiveAt, WireAt, below_only, body_by_row, in_layers, instance_live}
pub use Rattle.grc_graph.proofs.WireNames.{live_instance, live_of, out_only, row_instances, wire_named, wire_only, wire_there}
pub use Rattle.grc_graph.proofs.WireFilling.{outs_of, program_wires_by_row, row_wires}
pub use Rattle.grc_graph.proofs.NeighbourReads.{body_ascending, first_instance, first_wire, name_at, path_within, place_once, wires_fit}
pub use Rattle.grc_graph.proofs.LiveLayers.{Agrees, body_agrees, first_agrees, here_agrees, only_agrees, second_agrees}
pub use Rattle.grc_graph.proofs.RowSpots.{Read, length-rows, program_spots_by_row, row_read, stands_first, stands_one, stands_second}
pub use Rattle.grc_graph.proofs.CodeBounds.{codes_below-kernel, program_kernel, resumed_below, started_below}
pub use Rattle.grc_graph.proofs.RowScopes.{EmitShown, HasStatus, out_there, program_fits}
pub use Rattle.grc_graph.proofs.BuiltReads.{formulas_each}
pub use Rattle.grc_graph.proofs.SameWires.{layer_irrefl, same_layer-self, same_layer-true, same_wire-back, same_wire-self, same_wire-true}
pub use Rattle.grc_graph.proofs.Holding.{holds-false, holds-none, holds_at-self}
pub use Rattle.grc_graph.proofs.StateForms.{formed-part, states-are-formed}
pub use Rattle.grc_graph.proofs.WirePlaces.{equations-all, length-names, place-of}
pub use Rattle.grc_graph.proofs.Beside.{LiveAround, own-layer, row-around}
pub use Rattle.grc_graph.proofs.BuiltLayouts.{laid-out}
