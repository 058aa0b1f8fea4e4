-- Contract: what is asked of the points of a source, and the lines of the first of them.
use Rattle.std.specs.Prelude.{◌≡◌, ◌+◌, ◌-◌, ◌≤◌, ◌<◌, ◌^◌, ℕ, length, map, option_map, take}
use Rattle.est_ast.specs.FlatPrograms.{IsFlat}
use Rattle.est_ast.specs.FlatViews.{flat_of}
use Rattle.est_cover.specs.Covered.{visible_count}
use Rattle.est_cover.specs.NewNames.{AreNew}
use Rattle.est_cover.specs.Points.{points_of}
use Rattle.cec_prove_covers.specs.declared.portions.Asked.{Asked}
use Rattle.cec_prove_covers.specs.declared.portions.Lines.{Lines}
use Rattle.cec_prove_covers.specs.Stages.{IsCoveringPart}

pub record IsAsked (asked : Asked) : Type 0 where
  pub short : length asked.source.now < 2 ^ 32 - 1
  pub flat : IsFlat (flat_of asked.flat.now)
  pub points : asked.points.now ≡ points_of (flat_of asked.flat.now)
  pub room : length asked.flat.now.signals.items + length asked.names.now ≤ 4096
  pub new : AreNew (take (visible_count (flat_of asked.flat.now)) (flat_of asked.flat.now).signals)
      (map (λ s. s.name) asked.names.now)

-- the lines of the points before this number
abbrev pub HasLines : Asked → ℕ → Lines → Type 0
HasLines asked number lines = IsCoveringPart asked.source.now (flat_of asked.flat.now)
    (option_map (λ n. n.now) asked.assumed) asked.points.now number lines.text.items lines.whole
