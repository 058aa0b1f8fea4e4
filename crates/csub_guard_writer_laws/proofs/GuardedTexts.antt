-- A guarded text that means a netlist wherever regions are at rest means it over all items.
use Rattle.std.proofs.Common.{◌≡◌, List, length, subst}
use Rattle.std.specs.Prelude.{All}
use Rattle.base_types.specs.Items.{Item, EachEvent}
use Rattle.grc_graph.specs.Walk.{Initial}
use Rattle.grc_solutions.proofs.Exports.{graph_runs_exist_lem}
use Rattle.net_ir.specs.Runs.{net_values_run}
use Rattle.csub_guard_blocks.specs.Resting.{AreAtRest}
use Rattle.csub_guard_writer_laws.specs.Laws.{GuardedTextsRun}
use Rattle.csub_guard_writer_laws.proofs.RestingNets.{netlists_rest_lem}

pub guarded_texts_run_lem : GuardedTextsRun
guarded_texts_run_lem g p net regions rank text codes no_loop up built inputs follows are means =
    let rests : (items : List Item) → EachEvent (λ event. length event ≡ length net.inputs) items → All (AreAtRest regions net) (net_values_run net items)
    = λ items wide.
    let one = graph_runs_exist_lem p rank codes up Initial items in
    netlists_rest_lem g p net regions codes no_loop built follows are items one.0.0
    (subst (λ n. EachEvent (λ event. length event ≡ n) items) inputs wide) one.0.1 in
    record {
      program = means.program;
      describes = means.describes;
      inputs = means.inputs;
      outputs = means.outputs;
      states = means.states;
      shows = λ items wide. means.shows items wide (rests items wide);
      counts = λ items wide. means.counts items wide (rests items wide);
    }
