-- Inner: the plain form of a portion.
use Rattle.est_cover.specs.declared.portions.Portion as code
use Rattle.est_cover.specs.Covered.{Portion}

abbrev pub portion_of : code.Portion → Portion
portion_of w = record { seen = w.seen; first = w.first; count = w.count }
