-- Inner: what is left of a room.
-- (It is in specs/, short as it is, because a contract can cite definitions of specs/ alone.)
use Rattle.std.specs.Prelude.{◌≡◌, ℕ, ◌+◌, ◌<◌, Option, MatchOption}

-- this size leaves so much of the room; nothing where it is greater
abbrev pub Leaves : ℕ → ℕ → Option ℕ → Type 0
Leaves room size result = MatchOption result (room < size) (λ left. left + size ≡ room)
