-- Inner: reading functions, from the left, with one token ahead, to a value and the tokens that are left.
use Rattle.std.specs.Prelude.{ℕ, zero, suc, ◌-◌, Bool, true, false, List, [], ◌∷◌, length, take, Option, Some, None}
use Rattle.std.specs.Prelude.{Result, Ok, Err}
use Rattle.std.specs.Option.{option_map, option_map_or}
use Rattle.base_reader.specs.declared.faults.Fault.{Fault}
pub use Rattle.base_reader.specs.Languages.{next_of}

-- what reading answers: the value and the tokens after it, or the first fault
abbrev pub Read : Type 0 → Type 0 → Type 0
Read T A = Result (A × List T) Fault

abbrev pub Rule : Type 0 → Type 0 → Type 0
Rule T A = List T → Read T A

-- the fault at the next token
abbrev pub fault_at : {T : Type 0} → Bool → List T → Fault
fault_at deep tokens = record { deep = deep; left = length tokens }

-- nothing can stand here
abbrev pub refuse : {T A : Type 0} → Rule T A
refuse tokens = Err (fault_at false tokens)

-- only the nesting goes too far here
abbrev pub too_deep : {T A : Type 0} → Rule T A
too_deep tokens = Err (fault_at true tokens)

-- the value, and no token
abbrev pub give : {T A : Type 0} → A → Rule T A
give value tokens = Ok (value, tokens)

-- go on with the value and the tokens after it
abbrev pub follow : {T A B : Type 0} → Read T A → (A → Rule T B) → Read T B
follow (Ok found) go = go found.0 found.1
follow (Err fault) go = Err fault

-- a function of the value
abbrev pub mapped : {T A B : Type 0} → (A → B) → Rule T A → Rule T B
mapped f rule tokens = follow (rule tokens) (λ value. give (f value))

-- one part and then another, with both values
abbrev pub both : {T A B : Type 0} → Rule T A → Rule T B → Rule T (A × B)
both p q tokens = follow (p tokens) (λ value. mapped (λ other. (value, other)) q)

-- one part and then another, with the second's value
abbrev pub lead : {T A B : Type 0} → Rule T A → Rule T B → Rule T B
lead p q tokens = follow (p tokens) (λ _. q)

-- one part and then another, with the first's value
abbrev pub trail : {T A B : Type 0} → Rule T A → Rule T B → Rule T A
trail p q tokens = follow (p tokens) (λ value. mapped (λ _. value) q)

-- the value that the test gives the next token, and the tokens after it
abbrev pub picked : {T X : Type 0} → (T → Option X) → List T → Option (X × List T)
picked test [] = None
picked test (token ∷ rest) = option_map (λ value. (value, rest)) (test token)

-- Where the test gives the next token a value, that token is taken and the rule for the value goes on.
-- Else the other rule has the tokens as they are.
abbrev pub when : {T X A : Type 0} → (T → Option X) → (X → Rule T A) → Rule T A → Rule T A
when test p q tokens = option_map_or (λ found. p found.0 found.1) (picked test tokens) (q tokens)

-- the same, where the next token is not taken
abbrev pub ahead : {T X A : Type 0} → (T → Option X) → Rule T A → Rule T A → Rule T A
ahead test p q tokens = option_map_or (λ _. p tokens) (picked test tokens) (q tokens)

-- a token to which the test gives a value, and then the rule for the value
abbrev pub on : {T X A : Type 0} → (T → Option X) → (X → Rule T A) → Rule T A
on test p = when test p refuse

-- a token to which the test gives a value
abbrev pub the : {T X : Type 0} → (T → Option X) → Rule T X
the test = on test give

-- what the token opens, or nothing
abbrev pub optional : {T X A : Type 0} → (T → Option X) → (X → Rule T A) → Rule T (Option A)
optional test p = when test (λ value. mapped Some (p value)) (give None)

-- the part, where the next token is one that begins it
abbrev pub maybe : {T X A : Type 0} → (T → Option X) → Rule T A → Rule T (Option A)
maybe test p = ahead test (mapped Some p) (give None)

-- what is done after a step that gave this value, or none
abbrev pub turn : {T A : Type 0} → Rule T (List A) → Option A → Rule T (List A)
turn more None = give []
turn more (Some value) = mapped (λ others. value ∷ others) more

-- steps until one gives no value, at most this many
abbrev pub turns : {T A : Type 0} → ℕ → Rule T (Option A) → Rule T (List A)
turns zero step tokens = Ok ([], tokens)
turns (suc left) step tokens = follow (step tokens) (turn (turns left step))

-- Steps until one gives no value. One that gives a value takes a token, so more turns than there are
-- tokens are never made.
abbrev pub loop : {T A : Type 0} → Rule T (Option A) → Rule T (List A)
loop step tokens = turns (suc (length tokens)) step tokens

-- what each of the tokens opens, as long as the next token opens something
abbrev pub many : {T X A : Type 0} → (T → Option X) → (X → Rule T A) → Rule T (List A)
many test p = loop (optional test p)

-- the tokens before the rest
abbrev pub taken_of : {T : Type 0} → List T → List T → List T
taken_of tokens rest = take (length tokens - length rest) tokens

-- the part, and what a function says of its tokens
abbrev pub placed : {T A P : Type 0} → (List T → P) → Rule T A → Rule T (A × P)
placed place rule tokens = follow (rule tokens) (λ value rest. Ok ((value, place (taken_of tokens rest)), rest))

-- the value, where no token is left
abbrev pub ended : {T A : Type 0} → A → List T → Result A Fault
ended value [] = Ok value
ended value (token ∷ rest) = Err (fault_at false (token ∷ rest))

abbrev pub end_of : {T A : Type 0} → Read T A → Result A Fault
end_of (Ok found) = ended found.0 found.1
end_of (Err fault) = Err fault

-- the rule over the whole list
abbrev pub whole : {T A : Type 0} → Rule T A → List T → Result A Fault
whole rule tokens = end_of (rule tokens)
