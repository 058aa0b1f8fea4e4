-- To believe: the instants of a generated source's inputs, made at random from a start number.
use Rattle.std.specs.Prelude.{ℕ, zero, suc, Bool, ◌==◌, List, [], ◌∷◌}
use Rattle.base_types.specs.Draws.{next_state, drawn}

-- an instant of some inputs: each is present where a draw below 4 is 0
abbrev pub event_from : ℕ → ℕ → List Bool
event_from zero x = []
event_from (suc n) x = (drawn (next_state x) 4 == 0) ∷ event_from n (next_state x)
