-- Inner: texts that are put together from parts, and given away piece by piece.
use Rattle.std.specs.Prelude.{◌≡◌, ℕ, ◌<◌, ◌≤◌, Bool, true, false, List, [], ◌++◌, length, flat_map}
use Rattle.std.specs.Prelude.{slice_index_or, Option, Some, None}

-- the text of parts, one after another
abbrev pub joined : List (List ℕ) → List ℕ
joined parts = flat_map (λ part. part) parts

-- the part with this number was put after a text, or there is none
abbrev pub PutsPart : List (List ℕ) → ℕ → List ℕ → List ℕ → Bool → Type 0
PutsPart parts k old new true = (k < length parts) × (new ≡ old ++ slice_index_or parts k [])
PutsPart parts k old new false = (length parts ≤ k) × (new ≡ old)

-- Of a text that is put place by place, what stands at this place was put after another text, and the answer is the
-- place after it; or the text is at its end.
abbrev pub PutsPlace : (ℕ → List ℕ) → ℕ → List ℕ → List ℕ → Option ℕ → Type 0
PutsPlace text_from place old new (Some next) = (place < next) × (new ++ text_from next ≡ old ++ text_from place)
PutsPlace text_from place old new None = (text_from place ≡ []) × (new ≡ old)
