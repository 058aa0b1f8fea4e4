-- Inner: what is added to a text, piece by piece.
use Rattle.std.proofs.Common.{◌≡◌, ℕ, Bool, true, false, List, ◌++◌, refl, append_assoc}
use Rattle.std.specs.Prelude.{codes, if◌then◌else◌}
use Rattle.vlog_reset.specs.Written.{level_word, time_words}

pub front-pieces : (t a b c d : List ℕ) → ((t ++ a) ++ (b ++ c)) ++ d ≡ t ++ (a ++ (b ++ (c ++ d)))
front-pieces t a b c d = simp append_assoc refl

-- the assignment of `paused`
pub paused-pieces : (t a b c d : List ℕ) → ((t ++ a) ++ (b ++ c)) ++ d ≡ t ++ ((a ++ (b ++ c)) ++ d)
paused-pieces t a b c d = simp append_assoc refl

-- what the reset does
pub words-pieces : (low now : Bool) (t reset : List ℕ)
    → ((t ++ (codes "// " ++ (reset ++ codes " resets it while it is "))) ++ (if low then codes "low" else codes "high"))
    ++ (if now then codes ", at once" else codes " at such an edge")
    ≡ t ++ (codes "// " ++ (reset ++ (codes " resets it while it is " ++ (level_word low ++ time_words now))))
words-pieces true true t reset = simp append_assoc refl
words-pieces true false t reset = simp append_assoc refl
words-pieces false true t reset = simp append_assoc refl
words-pieces false false t reset = simp append_assoc refl

pub comment-pieces : (t name a clock reset b low now c d : List ℕ)
    → ((t ++ (codes "// " ++ (name ++ (a ++ (clock ++ codes ".\n"))))) ++ (codes "// " ++ (reset ++ (b ++ (low ++ now))))) ++ (c ++ d)
    ≡ t ++ ((codes "// " ++ (name ++ (a ++ (clock ++ (codes ".\n// " ++ (reset ++ (b ++ (low ++ (now ++ c))))))))) ++ d)
comment-pieces t name a clock reset b low now c d = simp append_assoc refl

-- whether the reset is active
pub test-pieces : (low : Bool) (t reset : List ℕ)
    → ((t ++ (if low then codes ")\n        if (!" else codes ")\n        if (")) ++ reset) ++ codes ") begin\n"
    ≡ t ++ (codes ")\n        if (" ++ ((if low then codes "!" ++ reset else reset) ++ codes ") begin\n"))
test-pieces true t reset = simp append_assoc refl
test-pieces false t reset = simp append_assoc refl
