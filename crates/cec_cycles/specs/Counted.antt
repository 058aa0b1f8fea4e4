-- To believe: what is counted of the cycles of a source's dependencies.
use Rattle.std.specs.Prelude.{ℕ, List, Option}
use Rattle.est_kernel.specs.Plain.{Program}
use Rattle.est_front.specs.Sources.{StandsFor}
use Rattle.grc_cycles.specs.CycleCounts.{HasCycleCounts}

-- The bytes stand for a program whose dependency relation has this number of components and of cuts.
pub record HasCountedCycles (text : List ℕ) (main : Option (List ℕ)) (components cuts : ℕ) : Type 0 where
  pub program : Program
  pub source : StandsFor text main program
  pub counts : HasCycleCounts program components cuts
