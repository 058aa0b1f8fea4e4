-- The lines of places, in the parts in which they are written.
use Rattle.std.proofs.Common.{◌≡◌, ℕ, List, ◌++◌, ap, ◌∙◌, codes, arith}
use Rattle.std.proofs.lemmas.Grind.{common_steps}
use Rattle.est_front.specs.Lines.{placed}
use Rattle.base_types.proofs.Exports.{regroup}

-- what follows the text about a place follows the place
pub placed-more : (source : List ℕ) (place : ℕ) (x y : List ℕ) → placed source place (x ++ y) ≡ placed source place x ++ y
placed-more source place x y = grind (arith, common_steps)

-- the line of a `run` that leads back, in the parts in which it is written
pub line_parts : (source : List ℕ) (place : ℕ) (x y z : List ℕ) →
    codes "cec: " ++ (placed source place (x ++ y) ++ z) ≡ (codes "cec: " ++ placed source place x) ++ (y ++ z)
line_parts source place x y z =
    ap (λ t. codes "cec: " ++ (t ++ z)) (placed-more source place x y) ∙ regroup (codes "cec: ") (placed source place x) y z
