-- To believe: the draws, after the example of `rand` in the standard of ISO C.
use Rattle.std.specs.Prelude.{ℕ, zero, suc, ◌+◌, ◌*◌, ◌/◌, ◌%◌, ◌^◌}

-- the state that a start number gives
abbrev pub first_state : ℕ → ℕ
first_state start = start % 2 ^ 31

-- the state of the next draw
abbrev pub next_state : ℕ → ℕ
next_state x = (x * 1103515245 + 12345) % 2 ^ 31

-- what a state says to its draw: the bits above its low 16, which are not used
abbrev pub high_bits : ℕ → ℕ
high_bits x = x / 2 ^ 16

-- what is drawn with a state: a number below m
abbrev pub drawn : ℕ → ℕ → ℕ
drawn x m = high_bits x % m

-- the state after some draws
abbrev pub state_after : ℕ → ℕ → ℕ
state_after zero x = x
state_after (suc n) x = state_after n (next_state x)
