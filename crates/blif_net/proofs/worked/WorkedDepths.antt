-- Depths of tables, worked by hand.
use Rattle.std.proofs.Common.{◌≡◌, ◌∷◌, [], refl}
use Rattle.blif_text.specs.declared.circuit.Cell.TheVariants.{Any, One, Zero}
use Rattle.blif_net.specs.Depths.{row_depth, table_depth}

-- no row, and a row that fits everything: constants
no_row : table_depth [] (5 ∷ []) ≡ 0
no_row = refl

any_value : table_depth ((Any ∷ []) ∷ []) (5 ∷ []) ≡ 0
any_value = refl

-- one cell needs no gate, or a negation
same_value : table_depth ((One ∷ []) ∷ []) (5 ∷ []) ≡ 5
same_value = refl

other_value : table_depth ((Zero ∷ []) ∷ []) (5 ∷ []) ≡ 6
other_value = refl

-- cells are joined one after another: two gates for three, the deeper part counts
three_cells : row_depth (One ∷ One ∷ One ∷ []) (0 ∷ 0 ∷ 0 ∷ []) ≡ 2
three_cells = refl

late_input : row_depth (One ∷ One ∷ One ∷ []) (0 ∷ 0 ∷ 7 ∷ []) ≡ 8
late_input = refl

early_input : row_depth (One ∷ One ∷ One ∷ []) (7 ∷ 0 ∷ 0 ∷ []) ≡ 9
early_input = refl

-- exclusive or: in each row a negation and a conjunction, and a disjunction of both
one_of_two : table_depth ((One ∷ Zero ∷ []) ∷ (Zero ∷ One ∷ []) ∷ []) (0 ∷ 0 ∷ []) ≡ 3
one_of_two = refl

-- a row of another width fits nothing
wrong_width : table_depth ((One ∷ []) ∷ (One ∷ One ∷ []) ∷ []) (4 ∷ 4 ∷ []) ≡ 5
wrong_width = refl
