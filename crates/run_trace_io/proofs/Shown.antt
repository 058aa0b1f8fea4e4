-- The names of an answer, one by one.
use Rattle.std.proofs.Common.{◌≡◌, ℕ, ◌+◌, ◌<◌, Bool, true, false, ◌||◌, if◌then◌else◌, List, [], ◌∷◌, ◌++◌, length, get_or, drop, refl, ap, ◌∙◌}
use Rattle.std.proofs.lemmas.List.{drop_more}
use Rattle.run_trace_io.specs.Lines.{shown, spaced}

shown-cons : (any : Bool) (name : List ℕ) (names : List (List ℕ)) (b : Bool) (present : List Bool) →
    shown any (name ∷ names) (b ∷ present) ≡ (if b then spaced any name else []) ++ shown (any || b) names present
shown-cons false name names true present = refl
shown-cons true name names true present = refl
shown-cons false name names false present = refl
shown-cons true name names false present = refl

-- the next name
pub shown-drop : (any : Bool) (names : List (List ℕ)) (present : List Bool) (k : ℕ) (d : List ℕ) (e : Bool) → k < length names → k < length present
    → shown any (drop k names) (drop k present) ≡ (if get_or present k e then spaced any (get_or names k d) else [])
    ++ shown (any || get_or present k e) (drop (k + 1) names) (drop (k + 1) present)
shown-drop any names present k d e low high =
    ap (λ n. shown any n (drop k present)) (drop_more names k d low) ∙ ap (shown any (get_or names k d ∷ drop (k + 1) names)) (drop_more present k e high)
    ∙ shown-cons any (get_or names k d) (drop (k + 1) names) (get_or present k e) (drop (k + 1) present)
