-- The values of rows, one after another, meet the rows' equations.
use Rattle.std.proofs.Common.{◌≡◌, ℕ, ◌+◌, ◌<◌, zero, suc, Bool, false, not, List, [], ◌∷◌, ◌++◌, length, slice_index_or, refl, sym, ap, ◌∙◌, subst, arith}
use Rattle.std.proofs.Common.{IsTrue}
use Rattle.std.proofs.lemmas.Bool.{ltb-true, and_parts}
use Rattle.std.proofs.lemmas.List.{get_or_append_left, get_or_push, length_push}
use Rattle.grc_formulas.specs.declared.table.Source.{Source}
use Rattle.grc_formulas.specs.declared.table.Source.TheVariants as sources
use Rattle.grc_formulas.specs.declared.table.Row.{Row}
use Rattle.grc_formulas.specs.declared.table.Row.TheVariants as rows
use Rattle.grc_formulas.specs.Rows.{Surroundings, Bounds, source_value, row_value, row_values, source_fits, row_fits}

-- each row adds one value
pub length-row_values : (t : Surroundings) (values : List Bool) (rs : List Row) → length (row_values t values rs) ≡ length values + length rs
length-row_values t values [] = omega arith
length-row_values t values (r ∷ rs) =
    let v = row_value t values r in
    omega (arith, length-row_values t (values ++ v ∷ []) rs, length_push values v)

-- rows in two parts: the values of the first part, and then those of the other
pub row_values-append : (t : Surroundings) (values : List Bool) (first others : List Row)
    → row_values t values (first ++ others) ≡ row_values t (row_values t values first) others
row_values-append t values [] others = refl
row_values-append t values (r ∷ first) others = row_values-append t (values ++ row_value t values r ∷ []) first others

-- the values that are given stay
pub value-stays : (t : Surroundings) (values : List Bool) (rs : List Row) (n : ℕ) → n < length values
    → slice_index_or (row_values t values rs) n false ≡ slice_index_or values n false
value-stays t values [] n low = refl
value-stays t values (r ∷ rs) n low =
    let v = row_value t values r in
    let longer : n < length (values ++ v ∷ []) = omega (arith, length_push values v) in
    value-stays t (values ++ v ∷ []) rs n longer ∙ get_or_append_left values (v ∷ []) false n low

-- the value of a source depends on the rows that it may read alone
pub source_value-same : (t : Surroundings) (b : Bounds) (u v : List Bool) (s : Source) → IsTrue (source_fits b s)
    → ((n : ℕ) → n < b.rows → slice_index_or u n false ≡ slice_index_or v n false) → source_value t u s ≡ source_value t v s
source_value-same t b u v (sources.Const c) fits same = refl
source_value-same t b u v (sources.Leaf k) fits same = refl
source_value-same t b u v (sources.Input s) fits same = refl
source_value-same t b u v (sources.Wire w) fits same = refl
source_value-same t b u v (sources.Row r) fits same = same r (ltb-true r b.rows fits)

pub row_value-same : (t : Surroundings) (b : Bounds) (u v : List Bool) (r : Row) → IsTrue (row_fits b r)
    → ((n : ℕ) → n < b.rows → slice_index_or u n false ≡ slice_index_or v n false) → row_value t u r ≡ row_value t v r
row_value-same t b u v (rows.Not a) fits same = ap not (source_value-same t b u v a fits same)
row_value-same t b u v (rows.And a c) fits same =
    let parts = and_parts (source_fits b a) (source_fits b c) fits in
    let x = source_value-same t b u v a parts.0 same in
    let y = source_value-same t b u v c parts.1 same in
    cc
row_value-same t b u v (rows.Or a c) fits same =
    let parts = and_parts (source_fits b a) (source_fits b c) fits in
    let x = source_value-same t b u v a parts.0 same in
    let y = source_value-same t b u v c parts.1 same in
    cc

-- each row has the value of its equation, where it reads those before it alone
row-met : (t : Surroundings) (b : ℕ → Bounds) (values : List Bool) (rs : List Row) (k : ℕ) (d : Row)
    → ((n : ℕ) → (b n).rows ≡ n)
    → ((j : ℕ) → j < length rs → IsTrue (row_fits (b (length values + j)) (slice_index_or rs j d))) → k < length rs
    → slice_index_or (row_values t values rs) (length values + k) false ≡ row_value t (row_values t values rs) (slice_index_or rs k d)
row-met t b values [] k d counts fits h = absurd (omega arith)
row-met t b values (r ∷ rs) zero d counts fits h =
    let v = row_value t values r in
    let all = row_values t (values ++ v ∷ []) rs in
    let longer = length_push values v in
    let e : length values + 0 ≡ length values = omega arith in
    let stays = value-stays t (values ++ v ∷ []) rs (length values) (omega arith) ∙ get_or_push values v false (length values) refl in
    let below = λ (n : ℕ) (low : n < (b (length values)).rows).
    let lower : n < length values = omega (arith, counts (length values)) in
    sym (value-stays t (values ++ v ∷ []) rs n (omega arith) ∙ get_or_append_left values (v ∷ []) false n lower) in
    let here : IsTrue (row_fits (b (length values)) r) = rw e at (fits zero (omega arith)) in
    ap (λ n. slice_index_or all n false) e ∙ stays ∙ row_value-same t (b (length values)) values all r here below
row-met t b values (r ∷ rs) (suc k) d counts fits h =
    let v = row_value t values r in
    let longer = length_push values v in
    let e : length values + suc k ≡ length (values ++ v ∷ []) + k = omega arith in
    ap (λ n. slice_index_or (row_values t (values ++ v ∷ []) rs) n false) e
    ∙ row-met t b (values ++ v ∷ []) rs k d counts (λ j low.
    let f : length values + suc j ≡ length (values ++ v ∷ []) + j = omega arith in
    rw f at (fits (suc j) (omega arith))) (omega arith)

pub rows-met : (t : Surroundings) (b : ℕ → Bounds) (rs : List Row) (k : ℕ) (d : Row) → ((n : ℕ) → (b n).rows ≡ n)
    → ((j : ℕ) → j < length rs → IsTrue (row_fits (b j) (slice_index_or rs j d))) → k < length rs
    → slice_index_or (row_values t [] rs) k false ≡ row_value t (row_values t [] rs) (slice_index_or rs k d)
rows-met t b rs k d counts fits h =
    let e : 0 + k ≡ k = omega arith in
    ap (λ n. slice_index_or (row_values t [] rs) n false) (sym e)
    ∙ row-met t b [] rs k d counts (λ j low.
    let f : j ≡ 0 + j = omega arith in subst (λ n. IsTrue (row_fits (b n) (slice_index_or rs j d))) f (fits j low)) h
