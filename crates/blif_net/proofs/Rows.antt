-- Rows and tables, cell by cell and row by row.
use Rattle.std.proofs.Common.{◌≡◌, ℕ, ◌+◌, ◌<◌, ◌≤◌, zero, suc, Bool, true, false, ◌&&◌, ◌||◌, List, [], ◌∷◌, length, map, take, get_or}
use Rattle.std.proofs.Common.{refl, ap, ◌∙◌, sym, arith}
use Rattle.std.specs.List.{list_any, sum_by}
use Rattle.std.proofs.lemmas.List.{length-map, get_or-map, take-map}
use Rattle.std.proofs.lemmas.List.Folds.{list_any_more}
use Rattle.std.proofs.lemmas.List.Sums.{sum_by_more, sum_by-take-le}
use Rattle.base_facts.proofs.Tests.{and-true}
use Rattle.blif_text.specs.declared.circuit.Cell.{Cell}
use Rattle.blif_text.specs.declared.circuit.Row.{Row}
use Rattle.blif_text.specs.Plain.{plain_row}
use Rattle.blif_text.specs.Runs.{cell_fits, row_fits}

and_assoc : (a b c : Bool) → (a && (b && c)) ≡ ((a && b) && c)
and_assoc true b c = refl
and_assoc false b c = refl

row-suc : (cells : List Cell) (values : List Bool) (k : ℕ) (d : Cell) → k < length cells → length cells ≡ length values
    → row_fits (take (suc k) cells) (take (suc k) values) ≡ (row_fits (take k cells) (take k values) && cell_fits (get_or cells k d) (get_or values k false))
row-suc [] values k d low same = absurd (omega (arith, low))
row-suc (c ∷ cells) [] k d low same = absurd (omega (arith, same))
row-suc (c ∷ cells) (v ∷ values) zero d low same = and-true (cell_fits c v)
row-suc (c ∷ cells) (v ∷ values) (suc k) d low same =
    ap (λ b. cell_fits c v && b) (row-suc cells values k d (omega (arith, low)) (omega (arith, same)))
    ∙ and_assoc (cell_fits c v) (row_fits (take k cells) (take k values)) (cell_fits (get_or cells k d) (get_or values k false))

-- one more cell
pub row-more : (cells : List Cell) (values : List Bool) (k : ℕ) (d : Cell) → k < length cells → length cells ≡ length values
    → row_fits (take (k + 1) cells) (take (k + 1) values) ≡ (row_fits (take k cells) (take k values) && cell_fits (get_or cells k d) (get_or values k false))
row-more cells values k d low same =
    let on : k + 1 ≡ suc k = omega arith in
    ap (λ m. row_fits (take m cells) (take m values)) on ∙ row-suc cells values k d low same

-- a row of another width
pub row-wide : (cells : List Cell) (values : List Bool) → (length cells ≡ length values → ⊥) → row_fits cells values ≡ false
row-wide [] [] ne = absurd (ne refl)
row-wide [] (v ∷ values) ne = refl
row-wide (c ∷ cells) [] ne = refl
row-wide (c ∷ cells) (v ∷ values) ne = rw (row-wide cells values (λ e. ne (ap (λ n. suc n) e))) (and_none (cell_fits c v))
  where
    and_none : (b : Bool) → (b && false) ≡ false
    and_none true = refl
    and_none false = refl

-- one more row
pub rows-more : (rows : List Row) (values : List Bool) (i : ℕ) (row : Row) → i < length rows → row ≡ get_or rows i row
    → list_any (λ cells. row_fits cells values) (map plain_row (take (i + 1) rows))
    ≡ (list_any (λ cells. row_fits cells values) (map plain_row (take i rows)) || row_fits row.cells.items values)
rows-more rows values i row low is =
    let inside : i < length (map plain_row rows) = omega (arith, low, length-map rows plain_row) in
    let fits : List Cell → Bool = λ cells. row_fits cells values in
    ap (list_any fits) (sym (take-map plain_row (i + 1) rows)) ∙ list_any_more fits (map plain_row rows) i [] inside
    ∙ ap (λ l. list_any fits l || fits (get_or (map plain_row rows) i [])) (take-map plain_row i rows)
    ∙ ap (λ cells. list_any fits (map plain_row (take i rows)) || fits cells) (get_or-map plain_row rows i row [] low ∙ ap plain_row (sym is))

-- what one element more adds to a sum over what is made of each
pub mapped-sum : {X Y : Type 0} (f : Y → ℕ) (g : X → Y) (xs : List X) (i : ℕ) (x : X) → i < length xs → x ≡ get_or xs i x
    → sum_by f (map g (take (i + 1) xs)) ≡ sum_by f (map g (take i xs)) + f (g x)
mapped-sum f g xs i x low is =
    let inside : i < length (map g xs) = omega (arith, low, length-map xs g) in
    ap (sum_by f) (sym (take-map g (i + 1) xs)) ∙ sum_by_more f (map g xs) i (g x) inside
    ∙ ap (λ l. sum_by f l + f (get_or (map g xs) i (g x))) (take-map g i xs)
    ∙ ap (λ y. sum_by f (map g (take i xs)) + f y) (get_or-map g xs i x (g x) low ∙ ap g (sym is))

pub mapped-within : {X Y : Type 0} (f : Y → ℕ) (g : X → Y) (xs : List X) (i : ℕ) (x : X) → i < length xs → x ≡ get_or xs i x
    → sum_by f (map g (take i xs)) + f (g x) ≤ sum_by f (map g xs)
mapped-within f g xs i x low is =
    omega (arith, mapped-sum f g xs i x low is, ap (sum_by f) (take-map g (i + 1) xs), sum_by-take-le f (map g xs) (i + 1))
