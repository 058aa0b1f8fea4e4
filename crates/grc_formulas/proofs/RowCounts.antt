-- How many rows connectives take, and a whole table.
use Rattle.std.proofs.Common.{◌≡◌, ◌+◌, ◌*◌, ◌≤◌, Bool, true, false, List, [], ◌∷◌, ◌++◌, length, refl, ap, arith}
use Rattle.std.specs.Prelude.{if◌then◌else◌}
use Rattle.std.proofs.lemmas.List.{length_push}
use Rattle.base_types.specs.declared.bounds.TheConstants.Limits.{WIRES}
use Rattle.grc_graph.specs.declared.graph.Graph.{Graph}
use Rattle.grc_formulas.specs.declared.table.Source.{Source}
use Rattle.grc_formulas.specs.declared.table.Source.TheVariants.{Const}
use Rattle.grc_formulas.specs.declared.table.Row.{Row}
use Rattle.grc_formulas.specs.declared.table.Row.TheVariants as rows
use Rattle.grc_formulas.specs.Building.{is_constant, with_both, both_source, with_either}
use Rattle.grc_formulas.specs.Sizes.{rows_at_most}

pub both-few : (rs : List Row) (a b : Source) → length (with_both rs a b) ≤ length rs + 1
both-few rs a b = by (is_constant true a) (is_constant true b) (is_constant false b)
  where
    by : (x y z : Bool) → length (if x then rs else if y then rs else if z then rs else rs ++ rows.And a b ∷ []) ≤ length rs + 1
    by true y z = omega arith
    by false true z = omega arith
    by false false true = omega arith
    by false false false = omega (arith, length_push rs (rows.And a b))

pub either-few : (rs : List Row) (a b : Source) → length (with_either rs a b) ≤ length rs + 1
either-few rs a b = by (is_constant false a) (is_constant false b)
  where
    by : (x y : Bool) → length (if x then rs else if y then rs else rs ++ rows.Or a b ∷ []) ≤ length rs + 1
    by true y = omega arith
    by false true = omega arith
    by false false = omega (arith, length_push rs (rows.Or a b))

-- what is false takes none
pub both-none : (rs : List Row) (a : Source) → (with_both rs a (Const false) ≡ rs) × (both_source rs a (Const false) ≡ Const false)
both-none rs a = by (is_constant true a)
  where
    by : (x : Bool) → ((if x then rs else rs) ≡ rs) × ((if x then Const false else Const false) ≡ Const false)
    by true = (refl, refl)
    by false = (refl, refl)

pub either-none : (rs : List Row) (a : Source) → with_either rs a (Const false) ≡ rs
either-none rs a = by (is_constant false a)
  where
    by : (x : Bool) → (if x then rs else rs) ≡ rs
    by true = refl
    by false = refl

-- the rows of a graph's table are few
pub rows-small : (g : Graph) → rows_at_most g ≤ 15 * WIRES
rows-small g = omega (arith, g.few.size, g.few.gates)
