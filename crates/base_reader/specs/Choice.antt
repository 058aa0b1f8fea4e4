-- Inner: reading functions for choices by the next token, and the languages that a choice is put together from.
use Rattle.std.specs.Prelude.{◌≡◌, ℕ, zero, suc, Bool, true, false, List, Option, Some, None}
use Rattle.std.specs.Option.{option_map_or}
use Rattle.base_reader.specs.Languages.{Empty}
use Rattle.base_reader.specs.Readings.{Rule, refuse, too_deep, give, mapped, picked, when, maybe}

-- a value that is made of another, and spelled as that one is
abbrev pub Made : {T A B : Type 0} → (A → B) → (A → List T → Type 0) → B → List T → Type 0
Made {T} {A} f L value tokens = (part : A) × (f part ≡ value) × L part tokens

-- one value, and no token
abbrev pub Only : {T A : Type 0} → A → A → List T → Type 0
Only value = Made {A = Unit {0}} (λ _. value) (λ _. Empty)

-- what the token opens, or else what ends a list
abbrev pub optional_or : {T X A : Type 0} → (T → Option X) → (X → Rule T A) → Rule T (Unit {0}) → Rule T (Option A)
optional_or test p q = when test (λ x. mapped Some (p x)) (mapped (λ _. None) q)

-- a token or nothing
abbrev pub may : {T : Type 0} → (T → Option (Unit {0})) → Rule T (Unit {0})
may test = when test give (give tt)

-- a separator and the part after it, where one begins there, or a last separator, or nothing
abbrev pub trailing : {T X A : Type 0} → (T → Option (Unit {0})) → (T → Option X) → Rule T A → Rule T (Option A)
trailing separator start p = when separator (λ _. maybe start p) (give None)

-- the room with one more, where a token takes some
abbrev pub adds : Bool → ℕ → ℕ
adds true room = suc room
adds false room = room

-- the room that is left after a token that takes some, if there is any
abbrev pub fits : Bool → ℕ → Option ℕ
fits true zero = None
fits true (suc room) = Some room
fits false room = Some room

-- what a token opens, where there is room for it
abbrev pub entered : {T A : Type 0} → Option ℕ → Rule T A → List T → Rule T A
entered None p tokens rest = too_deep tokens
entered (Some room) p tokens rest = p rest

-- A choice by the next token: the test gives it a value, and the rule for the value goes on after it. Where the
-- value takes room and there is none, the token is the place of the fault.
abbrev pub choose : {T X A : Type 0} → (T → Option X) → (X → Bool) → ℕ → (X → Rule T A) → Rule T A
choose test deep room p tokens =
    option_map_or (λ found. entered (fits (deep found.0) room) (p found.0) tokens found.1) (picked test tokens)
    (refuse tokens)
