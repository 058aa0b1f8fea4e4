-- Contract: laws of generated sources.
use Rattle.std.specs.Prelude.{◌≡◌, ℕ, [], None}
use Rattle.est_kernel.specs.Plain.{Program}
use Rattle.est_gen.specs.Sources.{source_text}
use Rattle.est_front.specs.Sources.{StandsFor}

-- eight inputs and eight outputs, no signal that is both, and no relation
pub record HasDrawnInterface (p : Program) : Type 0 where
  pub inputs : p.inputs ≡ 8
  pub both : p.both ≡ 0
  pub outputs : p.outputs ≡ 8
  pub relations : p.relations ≡ []

-- each program that a generated source stands for has this interface, whatever its number of branches is
abbrev pub GeneratedSourcesHaveEightInputs : Type 0
GeneratedSourcesHaveEightInputs =
    (start branches : ℕ) (p : Program) → StandsFor (source_text start branches) None p → HasDrawnInterface p
