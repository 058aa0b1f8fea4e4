-- Traps that are numbered from the outermost, as those between a place and a trap.
use Rattle.std.proofs.Common.{◌≡◌, ℕ, ◌+◌, ◌-◌, ◌≤◌, Bool, true, false, List, [], ◌∷◌, map, length, refl, ap, ◌∙◌, Option, Some, None, arith}
use Rattle.std.specs.Prelude.{if◌then◌else◌}
use Rattle.std.specs.Option.{option_map}
use Rattle.base_types.specs.Names.{is_same_name}
use Rattle.est_expand.specs.declared.scope.Meaning.{Meaning}
use Rattle.est_expand.specs.Scopes.{NameScope, meaning}
use Rattle.est_expand.specs.Counted.{Numbered}
use Rattle.est_expand.specs.Flattening.{traps_between}

-- so many traps stand between, where there are n traps and one with this number was found
abbrev pub IsBetween : Option Meaning → ℕ → Option ℕ → Type 0
IsBetween None n between = between ≡ None
IsBetween (Some m) n between = (m.signal + 1 ≤ n) × (between ≡ Some (n - 1 - m.signal))

later : (found : Option Meaning) (n : ℕ) (between : Option ℕ) → IsBetween found n between → IsBetween found (n + 1) (option_map (λ k. k + 1) between)
later None n between is = ap (option_map (λ k. k + 1)) is
later (Some m) n between (low, is) =
    let e : n - 1 - m.signal + 1 ≡ n + 1 - 1 - m.signal = omega arith in
    (omega arith, ap (option_map (λ k. k + 1)) is ∙ ap Some e)

pub traps_between-numbered : (traps : NameScope) (name : List ℕ) → Numbered traps →
    IsBetween (meaning traps name) (length traps) (traps_between name (map (λ b. b.0) traps))
traps_between-numbered [] name numbered = refl
traps_between-numbered (trap ∷ traps) name (number, numbered) = by (is_same_name name trap.0) (traps_between-numbered traps name numbered)
  where
    by : (b : Bool) → IsBetween (meaning traps name) (length traps) (traps_between name (map (λ b. b.0) traps))
        → IsBetween (if b then Some trap.1 else meaning traps name) (length (trap ∷ traps))
        (if b then Some 0 else option_map (λ k. k + 1) (traps_between name (map (λ b. b.0) traps)))
    by true others =
        let e : 0 ≡ length traps + 1 - 1 - trap.1.signal = omega arith in
        let n : length (trap ∷ traps) ≡ length traps + 1 = omega arith in
        rw n (omega arith, ap Some e)
    by false others =
        let n : length (trap ∷ traps) ≡ length traps + 1 = omega arith in
        rw n (later (meaning traps name) (length traps) (traps_between name (map (λ b. b.0) traps)) others)
