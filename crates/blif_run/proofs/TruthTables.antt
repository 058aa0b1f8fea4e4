-- The truth table of a table, and what a step looks up there.
use Rattle.std.proofs.Common.{◌≡◌, ℕ, ◌+◌, ◌-◌, ◌/◌, ◌%◌, ◌^◌, ◌<◌, ◌==◌, zero, suc, Bool, true, false, ◌&&◌, List, [], ◌∷◌, length, map, get_or, drop}
use Rattle.std.proofs.Common.{refl, sym, ap, ◌∙◌, arith}
use Rattle.std.specs.List.{list_any}
use Rattle.std.proofs.Math.Seq.{drop-cons}
use Rattle.std.proofs.lemmas.List.{length-map}
use Rattle.std.proofs.lemmas.List.FromFn.{length-map-range_with_len, get_or-map-range_with_len}
use Rattle.blif_text.specs.declared.circuit.Cell.{Cell}
use Rattle.blif_text.specs.Circuits.{Table}
use Rattle.blif_text.specs.Runs.{cell_fits, row_fits, table_value}
use Rattle.run_steps.specs.Slots.{slot_in, value_at, memory_in}
use Rattle.run_steps.specs.Plans.{number_of, digits, looked_up}
use Rattle.run_steps.proofs.Exports.{through, number-below, digits-number}
use Rattle.blif_run.specs.Truths.{truth_at, truth_of}

-- ---- looking up

pub value-truth : (rows : List (List Cell)) (vs : List Bool) → value_at (truth_of (length vs) rows) (number_of vs) ≡ list_any (λ row. row_fits row vs) rows
value-truth rows vs =
    get_or-map-range_with_len (truth_at (length vs) rows) 0 (2 ^ length vs) (number_of vs) (number_of vs) false (number-below vs) (omega arith)
    ∙ ap (λ (ds : List Bool). list_any (λ row. row_fits row ds) rows) (digits-number vs)

pub length-truth : (width : ℕ) (rows : List (List Cell)) → length (truth_of width rows) ≡ 2 ^ width
length-truth width rows = length-map-range_with_len (truth_at width rows) 0 (2 ^ width)

-- what is looked up for a table is its value
pub table-looked : (t : Table) (reads : List ℕ) (names : List (List ℕ)) (values : List Bool) → reads ≡ map (slot_in names) t.inputs
    → looked_up reads (truth_of (length t.inputs) t.rows) values ≡ table_value t (memory_in names values)
table-looked t reads names values is =
    let vs = map (memory_in names values) t.inputs in
    let read : map (value_at values) reads ≡ vs = ap (map (value_at values)) is ∙ through names values t.inputs in
    ap (λ l. value_at (truth_of (length t.inputs) t.rows) (number_of l)) read
    ∙ ap (λ n. value_at (truth_of n t.rows) (number_of vs)) (sym (length-map t.inputs (memory_in names values)))
    ∙ value-truth t.rows vs

-- ---- a row against the digits of a number

pub row_fits-width : (cells : List Cell) (width place : ℕ) → (length cells ≡ width → ⊥) → row_fits cells (digits width place) ≡ false
row_fits-width [] zero place ne = absurd (ne refl)
row_fits-width [] (suc width) place ne = refl
row_fits-width (cell ∷ cells) zero place ne = refl
row_fits-width (cell ∷ cells) (suc width) place ne =
    let rest = row_fits-width cells width (place / 2) (λ e. ne (ap (λ n. suc n) e)) in rw rest (and-none (cell_fits cell (place % 2 == 1)))
  where
    and-none : (b : Bool) → (b && false) ≡ false
    and-none true = refl
    and-none false = refl

pub row_fits-step : (cells : List Cell) (i width rest : ℕ) (d : Cell) → i < length cells → length cells ≡ width
    → row_fits (drop i cells) (digits (width - i) rest)
    ≡ (cell_fits (get_or cells i d) (rest % 2 == 1) && row_fits (drop (i + 1) cells) (digits (width - (i + 1)) (rest / 2)))
row_fits-step cells i width rest d low wide =
    let n : width - i ≡ suc (width - (i + 1)) = omega arith in
    let s : i + 1 ≡ suc i = omega arith in
    rw (drop-cons cells i d low, n, s) refl
