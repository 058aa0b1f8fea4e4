-- What a stage of an evaluation says of the sources of the table of words.
use Rattle.std.proofs.Common.{◌≡◌, ℕ, ◌<◌, ◌≤◌, Bool, false, List, [], length, take, drop, slice_index_or, refl, sym, ap, ◌∙◌, arith, IsTrue}
use Rattle.std.proofs.lemmas.Bool.{ltb-true, lt-ltb}
use Rattle.std.proofs.lemmas.List.{take-append-drop}
use Rattle.grc_graph.specs.declared.graph.Graph.{Graph}
use Rattle.grc_graph.specs.PlainGraphs.{names_of, wire_at}
use Rattle.grc_graph.proofs.Exports.{length-names}
use Rattle.grc_solutions.specs.Evaluations.{valuation_of}
use Rattle.grc_solutions.proofs.Exports.{value_there, value_off}
use Rattle.grc_formulas.specs.declared.table.Source.{Source}
use Rattle.grc_formulas.specs.declared.table.Source.TheVariants as sources
use Rattle.grc_formulas.specs.declared.table.Words.{Words}
use Rattle.grc_formulas.specs.Occasions.{Occasion, FalseOffWires, surroundings}
use Rattle.grc_formulas.specs.Rows.{source_value, row_values, source_fits}
use Rattle.grc_formulas.specs.WordLaws.{early_bounds, late_bounds, value_of}
use Rattle.grc_formulas.proofs.Exports.{row_values-append, value-stays, source_value-same}
use Rattle.grc_evaluate.specs.declared.rows.Start.{Start}
use Rattle.grc_evaluate.specs.Evaluations.{Stage, surroundings_of, value_at}
use Rattle.grc_evaluate.proofs.Agreement.{Agree, source-agrees, rows-agree}

-- the occasion that a stage is
abbrev pub occasion : (g : Graph) (w : Words) (s : Start) (wires rows : List Bool) → Stage g w s wires rows → Occasion g
occasion g w s wires rows st = record {
  boot = s.boot;
  bits = s.selected.now;
  event = s.inputs.now;
  valuation = valuation_of (names_of g) wires;
  one_per_leaf = st.leaves;
  one_per_given = st.given;
  unselected = st.first;
}

pub false-off : (g : Graph) (wires : List Bool) → FalseOffWires g (valuation_of (names_of g) wires)
false-off g wires = λ w none. value_off (names_of g) wires w none

-- the value of a wire by name
pub wire-named : (g : Graph) (w : Words) (s : Start) (wires rows : List Bool) (v : ℕ) → Stage g w s wires rows → v < length g.wires.items
    → valuation_of (names_of g) wires (wire_at (names_of g) v) ≡ value_at wires v
wire-named g w s wires rows v st low =
    let many = length-names g in
    value_there (names_of g) wires st.differ v (omega arith) (omega (arith, st.each_wire))

agree : (g : Graph) (w : Words) (s : Start) (wires rows : List Bool) (n : ℕ) (st : Stage g w s wires rows)
    → Agree (late_bounds g n) (surroundings_of s wires) (surroundings g (occasion g w s wires rows st))
agree g w s wires rows n st = record { leaves = refl; event = refl; wires = λ v low. sym (wire-named g w s wires rows v st low) }

-- a row that is there has its value in the whole table
row-known : (g : Graph) (w : Words) (s : Start) (wires rows : List Bool) (st : Stage g w s wires rows) (r : ℕ) → r < length rows
    → slice_index_or rows r false ≡ slice_index_or (row_values (surroundings g (occasion g w s wires rows st)) [] w.rows.items) r false
row-known g w s wires rows st r low =
    let table = w.rows.items in
    let here = surroundings_of s wires in
    let there = surroundings g (occasion g w s wires rows st) in
    let first = row_values here [] (take (length rows) table) in
    let many : r < length first = omega (arith, ap length st.known) in
    ap (λ xs. slice_index_or xs r false) st.known
    ∙ sym (value-stays here first (drop (length rows) table) r many)
    ∙ ap (λ xs. slice_index_or xs r false) (sym (row_values-append here [] (take (length rows) table) (drop (length rows) table)))
    ∙ ap (λ xs. slice_index_or (row_values here [] xs) r false) (take-append-drop (length rows) table)
    ∙ ap (λ xs. slice_index_or xs r false) (rows-agree (late_bounds g) here there [] table (λ n. agree g w s wires rows n st)
    (λ k d h. (k, st.words.fit.rows k d h)))

-- a source that reads what there is has the value that the table gives it
pub source-known : (g : Graph) (w : Words) (s : Start) (wires rows : List Bool) (x : Source) (st : Stage g w s wires rows)
    → IsTrue (source_fits (late_bounds g (length rows)) x)
    → source_value (surroundings_of s wires) rows x ≡ value_of g w (occasion g w s wires rows st) x
source-known g w s wires rows x st fits =
    let there = surroundings g (occasion g w s wires rows st) in
    source-agrees (late_bounds g (length rows)) (surroundings_of s wires) there rows x (agree g w s wires rows (length rows) st) fits
    ∙ source_value-same there (late_bounds g (length rows)) rows (row_values there [] w.rows.items) x fits (λ r low. row-known g w s wires rows st r low)

-- what an early source reads a late one may read
pub early-late : (g : Graph) (e n : ℕ) (x : Source) → e ≤ n → IsTrue (source_fits (early_bounds g e) x) → IsTrue (source_fits (late_bounds g n) x)
early-late g e n (sources.Const b) le fits = refl
early-late g e n (sources.Leaf k) le fits = fits
early-late g e n (sources.Input s) le fits = absurd (omega (arith, ltb-true s.0 0 fits))
early-late g e n (sources.Wire w) le fits = absurd (omega (arith, ltb-true w.0 0 fits))
early-late g e n (sources.Row r) le fits = lt-ltb r n (omega (arith, ltb-true r e fits))
