-- Inner: written by hand: a worked body with three instantaneous loops, two of which start at one place: the fault names the one of these that ends
-- first.
use Rattle.std.proofs.Common.{◌≡◌, ℕ, [], ◌∷◌, Some, refl, arith}
use Rattle.std.proofs.lemmas.List.Elements.{All-nil, All-cons}
use Rattle.base_types.specs.declared.place.Span.{Span}
use Rattle.est_kernel.specs.Terms.{Term, Nothing, Pause, Emit, Seq, Loop}
use Rattle.est_kernel.specs.StaticCodes.{instant_loops}
use Rattle.est_codes.specs.Faults.{IsNotAfter, IsLeastSpan}

abbrev place : ℕ → ℕ → Span
place a b = record { start = a; end = b }

-- loop nothing end; loop emit O end; loop nothing end; loop pause end
abbrev body : Term
body =
    Seq (Seq (Loop (place 40 50) Nothing) (Loop (place 20 35) (Emit 0)))
    (Seq (Loop (place 20 30) Nothing) (Loop (place 10 15) Pause))

loops : instant_loops body ≡ place 40 50 ∷ place 20 35 ∷ place 20 30 ∷ []
loops = refl

least : IsLeastSpan (Some (place 20 30)) (instant_loops body)
least =
    let n : Span → Type 0 = IsNotAfter (place 20 30) in (
      (2, omega arith, refl),
      All-cons n (place 40 50) (place 20 35 ∷ place 20 30 ∷ []) (record { start = omega arith; end = λ e. omega arith })
          (All-cons n (place 20 35) (place 20 30 ∷ []) (record { start = omega arith; end = λ e. omega arith })
          (All-cons n (place 20 30) [] (record { start = omega arith; end = λ e. omega arith }) (All-nil n))),
    )
