-- Contract: runs of bytes of one class at the front of a text.
use Rattle.std.specs.Prelude.{ℕ, ◌<◌, ◌≤◌, List, length, slice_index}

-- the first n bytes are of the class P, and the byte after them, if there is one, is not
pub record IsRun (P : ℕ → Type 0) (text : List ℕ) (n : ℕ) : Type 0 where
  pub within : n ≤ length text
  pub passes : (k : ℕ) → k < n → P (slice_index text k)
  pub stops : n < length text → ¬ P (slice_index text n)
