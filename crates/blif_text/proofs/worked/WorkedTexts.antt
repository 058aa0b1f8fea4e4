-- Worked texts: the definitions compute what a reader finds by hand.
use Rattle.std.proofs.Common.{◌≡◌, ℕ, false, List, [], ◌∷◌, ◌++◌, None, Ok, Err, codes, refl, map}
use Rattle.std.specs.Prelude.{flat_map}
use Rattle.std.specs.Fmt.{digits}
use Rattle.net_ir.specs.declared.netlist.Op.TheVariants.{Not, And}
use Rattle.net_ir.specs.Netlists.{Netlist}
use Rattle.blif_text.specs.Lines.{text_lines, read_lines, words}
use Rattle.blif_text.specs.Statements.{Zero, One, Any}
use Rattle.blif_text.specs.Circuits.{Circuit, Table, reading, Line, TwoDrivers, NoDriver}
use Rattle.blif_text.specs.Written.{written}

-- lines, each of which a line feed ends
abbrev feeds : List (List ℕ) → List ℕ
feeds lines = flat_map (λ l. l ++ 10 ∷ []) lines

abbrev backslash : List ℕ
backslash = 92 ∷ []

abbrev return : List ℕ
return = 13 ∷ []

-- ---- lines and words

a_last_line_needs_no_line_feed : text_lines (codes "a" ++ (10 ∷ 10 ∷ codes "b")) ≡ codes "a" ∷ [] ∷ codes "b" ∷ []
a_last_line_needs_no_line_feed = refl

an_empty_text_has_no_line : text_lines [] ≡ []
an_empty_text_has_no_line = refl

one_carriage_return_is_dropped : text_lines (codes "a" ++ (13 ∷ 13 ∷ 10 ∷ codes "b") ++ return) ≡ (codes "a" ++ return) ∷ (codes "b" ++ return) ∷ []
one_carriage_return_is_dropped = refl

a_joined_line_has_the_number_of_its_first : map (λ l. l.number)
    (read_lines (feeds (codes "a" ∷ (codes "b" ++ backslash) ∷ (codes "c" ++ backslash) ∷ codes "d" ∷ codes "e" ∷ []))) ≡ 1 ∷ 2 ∷ 5 ∷ []
a_joined_line_has_the_number_of_its_first = refl

nothing_stands_in_place_of_a_join : map (λ l. l.bytes) (read_lines (feeds ((codes "b" ++ backslash) ∷ codes "d" ∷ []))) ≡ codes "bd" ∷ []
nothing_stands_in_place_of_a_join = refl

comments_come_first : map (λ l. l.bytes) (read_lines (feeds ((codes "a# " ++ backslash) ∷ (codes "b" ++ backslash ++ codes "# c") ∷ codes "d" ∷ []))) ≡ codes
    "a" ∷ codes "bd" ∷ []
comments_come_first = refl

a_last_line_joins_nothing : map (λ l. l.bytes) (read_lines (feeds ((codes "a" ++ backslash) ∷ []))) ≡ (codes "a" ++ backslash) ∷ []
a_last_line_joins_nothing = refl

spaces_and_tabs_separate_words : words (32 ∷ codes "ab" ++ (9 ∷ 32 ∷ codes "c ")) ≡ codes "ab" ∷ codes "c" ∷ []
spaces_and_tabs_separate_words = refl

-- ---- the net of one latch and two gates

abbrev worked_net : Netlist
worked_net = record {
  name = codes "T";
  inputs = codes "A" ∷ [];
  outputs = record { name = codes "O"; net = record { 0 = 2 } } ∷ [];
  paused = 1;
  latches = record { init = false; from = record { 0 = 3 } } ∷ [];
  gates = record { op = And (record { 0 = 0 }) (record { 0 = 1 }); wire = None }
      ∷ record { op = Not (record { 0 = 2 }); wire = None } ∷ [];
}

abbrev worked_lines : List (List ℕ)
worked_lines =
    codes ".model T" ∷ codes ".inputs A" ∷ codes ".outputs O _paused" ∷ codes ".latch _g1 _s0 0"
    ∷ codes ".names A _i0" ∷ codes "1 1" ∷ codes ".names _i0 _s0 _g0" ∷ codes "11 1"
    ∷ codes ".names _g0 _g1" ∷ codes "0 1" ∷ codes ".names _g0 O" ∷ codes "1 1"
    ∷ codes ".names _s0 _paused" ∷ codes "1 1" ∷ codes ".end" ∷ []

abbrev copy : List ℕ → List ℕ → Table
copy source target = record { inputs = source ∷ []; output = target; rows = (One ∷ []) ∷ [] }

abbrev worked_circuit : Circuit
worked_circuit = record {
  name = codes "T";
  inputs = codes "A" ∷ [];
  outputs = codes "O" ∷ codes "_paused" ∷ [];
  latches = record { source = codes "_g1"; target = codes "_s0"; init = false } ∷ [];
  tables = copy (codes "A") (codes "_i0")
      ∷ record { inputs = codes "_i0" ∷ codes "_s0" ∷ []; output = codes "_g0"; rows = (One ∷ One ∷ []) ∷ [] }
      ∷ record { inputs = codes "_g0" ∷ []; output = codes "_g1"; rows = (Zero ∷ []) ∷ [] }
      ∷ copy (codes "_g0") (codes "O") ∷ copy (codes "_s0") (codes "_paused") ∷ [];
}

its_text : written worked_net ≡ feeds worked_lines
unfolding digits
its_text = refl

its_text_is_read : reading (feeds worked_lines) ≡ Ok worked_circuit
its_text_is_read = refl

-- ---- texts that are refused, and one that is read, in a free layout

abbrev model : List ℕ
model = codes ".model m"

abbrev finish : List ℕ
finish = codes ".end"

a_free_layout_is_read : reading (feeds (codes "# a comment" ∷ codes ".model" ∷ codes "" ∷ (codes ".inputs a " ++ backslash) ∷ codes "b" ∷
    (codes ".names a b c # and" ++ return) ∷ codes "11 1" ∷ codes "-0 1" ∷ codes ".outputs c" ∷ []) ++ finish) ≡ Ok
    (record {
      name = [];
      inputs = codes "a" ∷ codes "b" ∷ [];
      outputs = codes "c" ∷ [];
      latches = [];
      tables = record
          { inputs = codes "a" ∷ codes "b" ∷ []; output = codes "c"; rows = (One ∷ One ∷ []) ∷ (Any ∷ Zero ∷ []) ∷ [] } ∷ [];
    })
a_free_layout_is_read = refl

an_empty_text_lacks_its_end : reading [] ≡ Err (Line 1)
an_empty_text_lacks_its_end = refl

a_missing_end_is_refused_behind_the_last_line : reading (feeds (model ∷ codes "" ∷ [])) ≡ Err (Line 3)
a_missing_end_is_refused_behind_the_last_line = refl

no_model_line : reading (feeds (codes ".inputs a" ∷ finish ∷ [])) ≡ Err (Line 1)
no_model_line = refl

a_second_model_line : reading (feeds (model ∷ model ∷ finish ∷ [])) ≡ Err (Line 2)
a_second_model_line = refl

a_line_behind_the_end : reading (feeds (model ∷ finish ∷ codes "# a comment" ∷ finish ∷ [])) ≡ Err (Line 4)
a_line_behind_the_end = refl

a_row_of_another_width : reading (feeds (model ∷ codes ".inputs a" ∷ codes ".names a b" ∷ codes "1 1" ∷ codes "11 1" ∷ finish ∷ [])) ≡ Err (Line 5)
a_row_of_another_width = refl

a_row_of_no_table : reading (feeds (model ∷ codes ".names b" ∷ codes ".inputs a" ∷ codes "1" ∷ finish ∷ [])) ≡ Err (Line 4)
a_row_of_no_table = refl

a_row_that_gives_false : reading (feeds (model ∷ codes ".inputs a" ∷ codes ".names a b" ∷ codes "1 0" ∷ finish ∷ [])) ≡ Err (Line 4)
a_row_that_gives_false = refl

ten_names : reading (feeds (model ∷ codes ".names a b c d e f g h i j" ∷ finish ∷ [])) ≡ Err (Line 2)
ten_names = refl

a_latch_without_initial_value : reading (feeds (model ∷ codes ".latch a b" ∷ finish ∷ [])) ≡ Err (Line 2)
a_latch_without_initial_value = refl

a_byte_that_no_line_may_have : reading (feeds (model ∷ (backslash ++ codes "a") ∷ finish ∷ [])) ≡ Err (Line 2)
a_byte_that_no_line_may_have = refl

a_join_at_the_end_of_the_text : reading (feeds (model ∷ (finish ++ backslash) ∷ [])) ≡ Err (Line 2)
a_join_at_the_end_of_the_text = refl

a_name_with_two_drivers : reading (feeds (model ∷ codes ".inputs a b" ∷ codes ".names b" ∷ codes ".names a" ∷ finish ∷ [])) ≡ Err (TwoDrivers (codes "b"))
a_name_with_two_drivers = refl

a_name_without_driver : reading (feeds (model ∷ codes ".inputs a" ∷ codes ".outputs a b" ∷ codes ".latch c d 1" ∷ finish ∷ [])) ≡ Err (NoDriver (codes "b"))
a_name_without_driver = refl
