-- To believe: the tokens of a trace. A name is a run of bytes 33 to 126 other than `;` and `%`, as long as it can be. A
-- `%` begins a comment, up to the next line feed. Spaces, tabs, line feeds, form feeds and carriage returns stand
-- between tokens; no other byte does.
use Rattle.std.specs.Prelude.{ℕ, ◌+◌, Bool, true, false, not, ◌==◌, ◌&&◌, ◌||◌, nat_le, List, [], ◌∷◌, if◌then◌else◌}

pub data TraceToken : Type 0 where
  -- a `;`, by the place after it
  Semicolon : (behind : ℕ) → TraceToken
  -- a byte that has no place in a trace, by its place
  BadByte : (place : ℕ) → TraceToken
  Name : (name : List ℕ) → TraceToken

abbrev pub is_blank : ℕ → Bool
is_blank c = c == 32 || c == 9 || c == 10 || c == 12 || c == 13

abbrev pub is_trace_byte : ℕ → Bool
is_trace_byte c = nat_le 33 c && nat_le c 126 && not (c == 59) && not (c == 37)

abbrev pub begins_name : List ℕ → Bool
begins_name [] = false
begins_name (c ∷ cs) = is_trace_byte c

-- a byte of a name, before the tokens after it: it is of the name that is there, where the name goes on
abbrev pub with_byte : ℕ → Bool → List TraceToken → List TraceToken
with_byte c true (Name name ∷ more) = Name (c ∷ name) ∷ more
with_byte c goes_on more = Name (c ∷ []) ∷ more

-- the tokens from a place on, where the place may lie in a comment
abbrev pub tokens : Bool → ℕ → List ℕ → List TraceToken
tokens in_comment at [] = []
tokens true at (c ∷ cs) = tokens (not (c == 10)) (at + 1) cs
tokens false at (c ∷ cs) =
    if is_blank c then tokens false (at + 1) cs
    else if c == 37 then tokens true (at + 1) cs
    else if c == 59 then Semicolon (at + 1) ∷ tokens false (at + 1) cs
    else if is_trace_byte c then with_byte c (begins_name cs) (tokens false (at + 1) cs)
    else BadByte at ∷ tokens false (at + 1) cs
