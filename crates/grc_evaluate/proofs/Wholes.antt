-- The stages of an evaluation: before its first wire, and once all wires and rows are made.
use Rattle.std.proofs.Common.{◌≡◌, Bool, List, [], length, map, take, slice_index_or, sym, ap, ◌∙◌, subst, arith, IsTrue}
use Rattle.std.proofs.lemmas.List.{length-take-le}
use Rattle.base_facts.proofs.Lists.{map-equal}
use Rattle.grc_graph.specs.declared.graph.Graph.{Graph}
use Rattle.grc_graph.specs.GraphRuns.{shown}
use Rattle.grc_graph.specs.PlainGraphs.{names_of, plain_graph}
use Rattle.grc_solutions.specs.Evaluations.{valuation_of}
use Rattle.grc_formulas.specs.declared.table.Row.{Row}
use Rattle.grc_formulas.specs.declared.table.Words.{Words}
use Rattle.grc_formulas.specs.Rows.{source_value, row_values, source_fits}
use Rattle.grc_formulas.specs.WordLaws.{late_bounds, value_of}
use Rattle.grc_formulas.proofs.Exports.{length-row_values}
use Rattle.grc_evaluate.specs.declared.rows.Start.{Start}
use Rattle.grc_evaluate.specs.Evaluations.{Begins, Early, Late, surroundings_of}
use Rattle.grc_evaluate.proofs.Stages.{occasion, false-off, source-known}

pub begun : (g : Graph) (w : Words) (s : Start) (wires old new : List Bool) (table : List Row) → Begins g w s → length wires ≡ length g.wires.items
    → old ≡ [] → table ≡ w.rows.items → new ≡ row_values (surroundings_of s wires) old (take w.early table) → Early g w s wires new
begun g w s wires old new table m all none is made =
    let S = surroundings_of s wires in
    let rows = made ∙ ap (λ xs. row_values S xs (take w.early table)) none ∙ ap (λ xs. row_values S [] (take w.early xs)) is in
    let few = m.words.fit.early in
    let many : length new ≡ w.early =
    omega (arith, ap length rows, length-row_values S [] (take w.early w.rows.items), length-take-le w.early w.rows.items few) in
    record {
      stage = record {
        words = m.words;
        differ = m.differ;
        leaves = m.leaves;
        given = m.given;
        first = m.first;
        each_wire = all;
        early = omega arith;
        known = rows ∙ ap (λ n. row_values S [] (take n w.rows.items)) (sym many);
      };
      early = many;
    }

-- what is shown of the outgoing signals
pub outputs-mean : (g : Graph) (w : Words) (s : Start) (wires rows : List Bool) → Late g w s wires rows
    → map (source_value (surroundings_of s wires) rows) w.outputs.items ≡ (shown (plain_graph g) (valuation_of (names_of g) wires)).outputs
outputs-mean g w s wires rows m =
    let t = occasion g w s wires rows m.stage in
    map-equal (source_value (surroundings_of s wires) rows) (value_of g w t) w.outputs.items
    (λ k d low. source-known g w s wires rows (slice_index_or w.outputs.items k d) m.stage
    (subst (λ n. IsTrue (source_fits (late_bounds g n) (slice_index_or w.outputs.items k d))) (sym m.all) (m.stage.words.fit.outputs k d low)))
    ∙ m.stage.words.outputs t (false-off g wires)
