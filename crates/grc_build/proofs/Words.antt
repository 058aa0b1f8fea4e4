-- The words of other modules that the proofs of this crate use.
pub use Rattle.base_types.specs.CodeSet.{members}
pub use Rattle.base_types.specs.declared.bounds.TheConstants.Limits.{WIRES}
pub use Rattle.base_types.specs.declared.indices.InstId.{InstId}
pub use Rattle.base_types.specs.declared.indices.WireId.{WireId}
pub use Rattle.base_types.specs.declared.place.Span.{Span}
pub use Rattle.est_kernel.proofs.Exports.{trees_are_kernels_lem, upto-in}
pub use Rattle.est_kernel.specs.Plain.{Program, expression_of, given_count, interface_count, interface_of, outgoing_count, program_of, term_of}
pub use Rattle.est_kernel.specs.Preorder.{statement_count}
pub use Rattle.est_kernel.specs.Sizes.{test_size}
pub use Rattle.est_kernel.specs.StaticCodes.{codes_if, has_code, resumed_codes, started_codes}
pub use Rattle.est_kernel.specs.Terms.{And, Awake, Emit, Exit, Expression, Local, Loop, Not, Nothing, Or, Par, Pause, Present, Seq, Sig, Suspend, Term, Tick}
pub use Rattle.est_kernel.specs.Terms.{Trap}
pub use Rattle.est_kernel.specs.WellFormed.{IsKernel}
pub use Rattle.est_kernel.specs.declared.programs.KernelProgram.{KernelProgram}
pub use Rattle.base_facts.proofs.Lists.{sum-flat_map}
pub use Rattle.grc_build.specs.Emitting.{AreEmitters, Gathers, IsWireIn, list_at, spot_in, status_at, values}
pub use Rattle.grc_build.specs.Ending.{IsEnding, MeansIfIn, Tells, end_if, held_end, held_upto}
pub use Rattle.grc_build.specs.Entering.{IsTestOf, first_end, loop_start}
pub use Rattle.grc_build.specs.Meanings.{Means, MeansSome, formula_if}
pub use Rattle.grc_build.specs.Nexts.{IsRun, layers_from, leaves_before, selected_from}
pub use Rattle.grc_build.specs.Noding.{AreBranches, IsNodeOf, parallel_node}
pub use Rattle.grc_build.specs.Parts.{AreParts}
pub use Rattle.grc_build.specs.Rooms.{Leaves, instance_size, size_at}
pub use Rattle.grc_build.specs.Tabled.{AreTables, IsLive, IsThere, MeansAnyIn, MeansIn, StatusIsThere, StatusesAreThere, bound_test, program_in, row_in}
pub use Rattle.grc_build.specs.WireFormulas.{wire_formula}
pub use Rattle.grc_build.specs.declared.graphs.Parts.{Parts}
pub use Rattle.grc_build.specs.declared.tables.Tables.{Tables}
pub use Rattle.grc_graph.proofs.Exports.{HasStatus, IsEnd, IsStatus, Placed, StandsAt, at_layer, codes_below-kernel, codes_below-none, first_instance}
pub use Rattle.grc_graph.proofs.Exports.{instance_live, instances_ascend_lem, length-program_rows, length-statements, outs_of, program_fits, program_kernel}
pub use Rattle.grc_graph.proofs.Exports.{program_placed, program_spots_by_row, program_wires_by_row, row_read, row_wires, same_layer-true, stands_head}
pub use Rattle.grc_graph.proofs.Exports.{stands_whole, statement_read, sum_both, sum_mapped, sum_none, wires_fit}
pub use Rattle.grc_graph.specs.Equations.{Equation, branch_over, emissions, emits_on, end_formula, equations, instance_equations, instance_status, is_wire}
pub use Rattle.grc_graph.specs.Equations.{kept_start, next_formula, output_equation, part_end, trapped_ends}
pub use Rattle.grc_graph.specs.Formulas.{Conjunction, Disjunction, Formula, Held, Input, Kept, Negation, Selected, Upto, Value, any_of}
pub use Rattle.grc_graph.specs.GateCosts.{cost_of}
pub use Rattle.grc_graph.specs.GraphRuns.{graph_of, program_spots}
pub use Rattle.grc_graph.specs.GraphShapes.{formula_fits, node_fits}
pub use Rattle.grc_graph.specs.GraphSizes.{graph_size, live_tests}
pub use Rattle.grc_graph.specs.Instances.{Ascends, Before, Instance, LayerBefore, body_instances, instances_at}
pub use Rattle.grc_graph.specs.Layers.{Layer, Liveness, Resumed, Started, body_layers, body_liveness, can_pass, layer_above, layers_of, loop_liveness}
pub use Rattle.grc_graph.specs.Layers.{part_liveness, second_liveness}
pub use Rattle.grc_graph.specs.Neighbouring.{instances_in, names_in, program_wires}
pub use Rattle.grc_graph.specs.Nodes.{node_at, spot_node}
pub use Rattle.grc_graph.specs.PlainGraphs.{equations_of, formula_of, instance_at, node_form, wire_at, wire_of}
pub use Rattle.grc_graph.specs.PlainInstances.{instance_of, layer_of}
pub use Rattle.grc_graph.specs.RowCosts.{operators, rows_by, test_of}
pub use Rattle.grc_graph.specs.Rows.{Row, entry_formula, listed_row, live_in, program_rows, row, row_at, rows, second_of, spot_at}
pub use Rattle.grc_graph.specs.Scopes.{Binding, BoundAt, Entering, Outgoing, Scope, Unbound, bind, program_scope}
pub use Rattle.grc_graph.specs.SelectionTrees.{body_leaves}
pub use Rattle.grc_graph.specs.Spots.{Spot, status_formula, test_formula}
pub use Rattle.grc_graph.specs.StatementViews.{binding_of, entry_view, view_of}
pub use Rattle.grc_graph.specs.Statements.{Body, Branch, Else, Entry, Looped, Part, Second, Suspended, Then, signals_in, signals_of}
pub use Rattle.grc_graph.specs.WireTables.{HasName, IsNumberOf, is_local}
pub use Rattle.grc_graph.specs.Wires.{End, Go, Out, StatusOf, Wire, codes_below, instance_codes, instance_wires, listed, own_status, same_wire, status_wire}
pub use Rattle.grc_graph.specs.declared.instances.Instances.{Instances}
pub use Rattle.grc_graph.specs.declared.statements.Statement.{Statement}
pub use Rattle.std.proofs.Common.{Bool, List, None, Option, Some, [], ap, arith, false, get_or, inl, inr, length, length-append, map, not, refl, set, subst}
pub use Rattle.std.proofs.Common.{suc, sym, take, true, zero, ℕ, ⊎_elim, ◌&&◌, ◌*◌, ◌++◌, ◌+◌, ◌-◌, ◌<◌, ◌==◌, ◌∙◌, ◌∷◌, ◌≡◌, ◌≤◌}
pub use Rattle.std.proofs.lemmas.Bool.{and_from, and_parts, cases_Bool, cases_eq, cases_lt, eq-eqb, eqb-true, false≢true, le-ltb, lt-ltb, ne_eqb}
pub use Rattle.std.proofs.lemmas.List.{append-nil, get_or-map, get_or_default, length-map, map-append, take_all, take_more}
pub use Rattle.std.proofs.lemmas.List.Concat.{length-flat_map}
pub use Rattle.std.proofs.lemmas.List.Elements.{All-head, All-push, All-tail}
pub use Rattle.std.proofs.lemmas.List.FromFn.{length-map-range_with_len}
pub use Rattle.std.proofs.lemmas.List.Sums.{sum_by-append, sum_by-cons, sum_by-le-sum_by}
pub use Rattle.std.proofs.lemmas.Simd.{map-map}
pub use Rattle.std.specs.List.{flat_map, sum_by}
pub use Rattle.std.specs.Prelude.{All, Contains, IfOk, IsTrue, Vec, filter, if◌then◌else◌, nat_lt, zip}
pub use Rattle.std.specs.declared.alloc.Global.{Global}
