-- Inner: written by hand: the worked example's answers and places, each by computing.
use Rattle.std.proofs.Common.{◌≡◌, true, false, [], ◌∷◌, Ok, Err, refl}
use Rattle.base_reader.specs.declared.statements.Token.TheVariants as kinds
use Rattle.base_reader.specs.Readings.{whole}
use Rattle.base_reader.specs.StatementGrammar.{Nothing, Pause, Group, Sequence, NoPlains, More}
use Rattle.base_reader.specs.StatementReading.{statement}

one_item : whole (statement 0) (kinds.Nothing ∷ []) ≡ Ok Nothing
one_item = refl

last_semicolon : whole (statement 0) (kinds.Pause ∷ kinds.Semicolon ∷ []) ≡ Ok Pause
last_semicolon = refl

three_items : whole (statement 0) (kinds.Nothing ∷ kinds.Semicolon ∷ kinds.Pause ∷ kinds.Semicolon ∷ kinds.Nothing ∷ []) ≡
    Ok (Sequence (More Nothing (More Pause (More Nothing NoPlains))))
three_items = refl

group_and_item : whole (statement 1) (kinds.Open ∷ kinds.Pause ∷ kinds.Close ∷ kinds.Semicolon ∷ kinds.Nothing ∷ []) ≡
    Ok (Sequence (More (Group Pause) (More Nothing NoPlains)))
group_and_item = refl

groups_in_groups : whole (statement 2)
    (kinds.Open ∷ kinds.Open ∷ kinds.Nothing ∷ kinds.Semicolon ∷ kinds.Close ∷ kinds.Semicolon ∷ kinds.Pause ∷ kinds.Close ∷ []) ≡
    Ok (Group (Sequence (More (Group Nothing) (More Pause NoPlains))))
groups_in_groups = refl

no_token : whole (statement 0) [] ≡
    Err (record { deep = false; left = 0 })
no_token = refl

no_item_at_the_start : whole (statement 0) (kinds.Semicolon ∷ []) ≡
    Err (record { deep = false; left = 1 })
no_item_at_the_start = refl

no_item_between : whole (statement 0) (kinds.Nothing ∷ kinds.Semicolon ∷ kinds.Semicolon ∷ []) ≡
    Err (record { deep = false; left = 1 })
no_item_between = refl

no_semicolon_between : whole (statement 0) (kinds.Nothing ∷ kinds.Pause ∷ []) ≡
    Err (record { deep = false; left = 1 })
no_semicolon_between = refl

no_bracket_open : whole (statement 1) (kinds.Nothing ∷ kinds.Close ∷ []) ≡
    Err (record { deep = false; left = 1 })
no_bracket_open = refl

bracket_left_open : whole (statement 1) (kinds.Open ∷ kinds.Pause ∷ []) ≡
    Err (record { deep = false; left = 0 })
bracket_left_open = refl

bracket_left_open_behind_a_semicolon : whole (statement 1) (kinds.Open ∷ kinds.Pause ∷ kinds.Semicolon ∷ []) ≡
    Err (record { deep = false; left = 0 })
bracket_left_open_behind_a_semicolon = refl

no_room_for_a_bracket : whole (statement 0) (kinds.Open ∷ []) ≡
    Err (record { deep = true; left = 1 })
no_room_for_a_bracket = refl

no_room_for_a_second_bracket : whole (statement 1) (kinds.Pause ∷ kinds.Semicolon ∷ kinds.Open ∷ kinds.Open ∷ kinds.Nothing ∷ kinds.Close ∷ kinds.Close ∷ []) ≡
    Err (record { deep = true; left = 4 })
no_room_for_a_second_bracket = refl

nothing_in_brackets_behind_an_item : whole (statement 1) (kinds.Pause ∷ kinds.Semicolon ∷ kinds.Open ∷ kinds.Close ∷ []) ≡
    Err (record { deep = false; left = 1 })
nothing_in_brackets_behind_an_item = refl
