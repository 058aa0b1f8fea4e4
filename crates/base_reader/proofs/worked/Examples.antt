-- Inner: written by hand: worked examples of the reading rules and of the words for languages, each by computing.
use Rattle.std.proofs.Common.{◌≡◌, true, false, [], ◌∷◌, Option, Some, None, Ok, Err, refl}
use Rattle.base_reader.specs.declared.statements.Token.{Token}
use Rattle.base_reader.specs.declared.statements.Token.TheVariants as kinds
use Rattle.base_reader.specs.Readings.{both, lead, trail, the, optional, maybe, many, placed, whole}
use Rattle.base_reader.specs.StatementGrammar.{Plain, Nothing, Pause, Group, Sequence, NoPlains, More, semicolon}
use Rattle.base_reader.specs.StatementReading.{statement}

-- the tokens that are an item
abbrev word : Token → Option Plain
word kinds.Nothing = Some Nothing
word kinds.Pause = Some Pause
word _ = None

one_token : the word (kinds.Pause ∷ kinds.Close ∷ []) ≡ Ok (Pause, kinds.Close ∷ [])
one_token = refl

no_such_token : the word (kinds.Close ∷ kinds.Pause ∷ []) ≡ Err (record { deep = false; left = 2 })
no_such_token = refl

second_part_stops : both (the word) (the semicolon) (kinds.Pause ∷ kinds.Close ∷ []) ≡ Err (record { deep = false; left = 1 })
second_part_stops = refl

second_alone : lead (the semicolon) (the word) (kinds.Semicolon ∷ kinds.Pause ∷ []) ≡ Ok (Pause, [])
second_alone = refl

first_alone : trail (the word) (the semicolon) (kinds.Pause ∷ kinds.Semicolon ∷ []) ≡ Ok (Pause, [])
first_alone = refl

left_out : optional semicolon (λ _. the word) (kinds.Pause ∷ []) ≡ Ok (None, kinds.Pause ∷ [])
left_out = refl

-- once the token is taken, what it opens must follow
opened : optional semicolon (λ _. the word) (kinds.Semicolon ∷ []) ≡ Err (record { deep = false; left = 0 })
opened = refl

not_taken : maybe word (the word) (kinds.Pause ∷ []) ≡ Ok (Some Pause, [])
not_taken = refl

as_many_as_there_are : many semicolon (λ _. the word) (kinds.Semicolon ∷ kinds.Pause ∷ kinds.Semicolon ∷ kinds.Nothing ∷ kinds.Close ∷ []) ≡
    Ok (Pause ∷ Nothing ∷ [], kinds.Close ∷ [])
as_many_as_there_are = refl

its_tokens : placed (λ tokens. tokens) (both (the word) (the semicolon)) (kinds.Pause ∷ kinds.Semicolon ∷ kinds.Close ∷ []) ≡
    Ok (((Pause, tt), kinds.Pause ∷ kinds.Semicolon ∷ []), kinds.Close ∷ [])
its_tokens = refl

one_list : whole (statement 0) (kinds.Nothing ∷ kinds.Semicolon ∷ kinds.Pause ∷ kinds.Semicolon ∷ kinds.Nothing ∷ kinds.Semicolon ∷ []) ≡
    Ok (Sequence (More Nothing (More Pause (More Nothing NoPlains))))
one_list = refl

room_for_one : whole (statement 1) (kinds.Open ∷ kinds.Pause ∷ kinds.Close ∷ []) ≡ Ok (Group Pause)
room_for_one = refl

-- at room 0 the bracket is the place, whatever stands behind it
no_room : whole (statement 0) (kinds.Open ∷ kinds.Close ∷ []) ≡ Err (record { deep = true; left = 2 })
no_room = refl

nothing_in_brackets : whole (statement 1) (kinds.Open ∷ kinds.Close ∷ []) ≡ Err (record { deep = false; left = 1 })
nothing_in_brackets = refl

token_left : whole (statement 1) (kinds.Pause ∷ kinds.Close ∷ []) ≡ Err (record { deep = false; left = 1 })
token_left = refl
