-- Inner: how far a trace is scanned.
use Rattle.std.specs.Prelude.{◌≡◌, ℕ, ◌+◌, ◌-◌, ◌<◌, ◌≤◌, true, false, List, [], ◌∷◌, length, take, drop, slice_index}
use Rattle.run_trace_io.specs.declared.scan.Found.{Found}
use Rattle.run_trace_io.specs.declared.scan.Found.TheVariants as found
use Rattle.run_trace_io.specs.Tokens.{TraceToken, Semicolon, BadByte, Name, is_trace_byte, tokens}

-- the tokens from a place on begin with the token that is found
abbrev pub Begins : List ℕ → ℕ → List TraceToken → Found → Type 0
Begins text from seen found.End = seen ≡ []
Begins text from seen (found.Semicolon behind) =
    (from < behind) × (behind ≤ length text) × (seen ≡ Semicolon behind ∷ tokens false behind (drop behind text))
Begins text from seen (found.Bad place) =
    (place < length text) × (seen ≡ BadByte place ∷ tokens false (place + 1) (drop (place + 1) text))
Begins text from seen (found.Name start end) =
    (from ≤ start) × (start < end) × (end ≤ length text)
    × (seen ≡ Name (take (end - start) (drop start text)) ∷ tokens false end (drop end text))

-- a name stands from the one place to the other
pub record IsNameAt (text : List ℕ) (start end : ℕ) : Type 0 where
  pub some : start < end
  pub within : end ≤ length text
  pub bytes : (k : ℕ) → start ≤ k → k < end → is_trace_byte (slice_index text k) ≡ true
  pub stops : end < length text → is_trace_byte (slice_index text end) ≡ false
