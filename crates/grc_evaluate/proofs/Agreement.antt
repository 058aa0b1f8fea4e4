-- Sources and rows have the same values in surroundings that agree in what they read.
use Rattle.std.proofs.Common.{◌≡◌, ℕ, ◌<◌, zero, suc, Bool, false, not, ◌&&◌, ◌||◌, List, [], ◌∷◌, ◌++◌, length, slice_index_or, refl, ap, ◌∙◌, arith}
use Rattle.std.proofs.Common.{IsTrue}
use Rattle.std.proofs.lemmas.Bool.{ltb-true, and_parts}
use Rattle.grc_formulas.specs.declared.table.Source.{Source}
use Rattle.grc_formulas.specs.declared.table.Source.TheVariants as sources
use Rattle.grc_formulas.specs.declared.table.Row.{Row}
use Rattle.grc_formulas.specs.declared.table.Row.TheVariants as rows
use Rattle.grc_formulas.specs.Rows.{Surroundings, Bounds, source_value, row_value, row_values, source_fits, row_fits}

-- the surroundings agree in what these bounds allow
pub record Agree (b : Bounds) (t u : Surroundings) : Type 0 where
  pub leaves : t.leaves ≡ u.leaves
  pub event : t.event ≡ u.event
  pub wires : (v : ℕ) → v < b.wires → t.wires v ≡ u.wires v

pub source-agrees : (b : Bounds) (t u : Surroundings) (values : List Bool) (x : Source) → Agree b t u → IsTrue (source_fits b x)
    → source_value t values x ≡ source_value u values x
source-agrees b t u values (sources.Const c) a fits = refl
source-agrees b t u values (sources.Leaf k) a fits = ap (λ xs. slice_index_or xs k false) a.leaves
source-agrees b t u values (sources.Input s) a fits = ap (λ xs. slice_index_or xs s.0 false) a.event
source-agrees b t u values (sources.Wire w) a fits = a.wires w.0 (ltb-true w.0 b.wires fits)
source-agrees b t u values (sources.Row r) a fits = refl

row-agrees : (b : Bounds) (t u : Surroundings) (values : List Bool) (x : Row) → Agree b t u → IsTrue (row_fits b x)
    → row_value t values x ≡ row_value u values x
row-agrees b t u values (rows.Not c) a fits = ap not (source-agrees b t u values c a fits)
row-agrees b t u values (rows.And c d) a fits =
    let parts = and_parts (source_fits b c) (source_fits b d) fits in
    let first = source-agrees b t u values c a parts.0 in
    let second = source-agrees b t u values d a parts.1 in
    λ i. first i && second i
row-agrees b t u values (rows.Or c d) a fits =
    let parts = and_parts (source_fits b c) (source_fits b d) fits in
    let first = source-agrees b t u values c a parts.0 in
    let second = source-agrees b t u values d a parts.1 in
    λ i. first i || second i

-- The values of rows, where each reads what some of these bounds allow.
pub rows-agree : (b : ℕ → Bounds) (t u : Surroundings) (values : List Bool) (rs : List Row) → ((n : ℕ) → Agree (b n) t u)
    → ((k : ℕ) (d : Row) → k < length rs → (n : ℕ) × IsTrue (row_fits (b n) (slice_index_or rs k d)))
    → row_values t values rs ≡ row_values u values rs
rows-agree b t u values [] a fits = refl
rows-agree b t u values (r ∷ rs) a fits =
    let here = fits zero r (omega arith) in
    let first = row-agrees (b here.0) t u values r (a here.0) here.1 in
    ap (λ x. row_values t (values ++ x ∷ []) rs) first
    ∙ rows-agree b t u (values ++ row_value u values r ∷ []) rs a (λ k d low. fits (suc k) d (omega arith))
