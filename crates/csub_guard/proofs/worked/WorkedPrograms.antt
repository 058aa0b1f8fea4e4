-- Written by hand, with values of the reference implementation: worked programs: the rules of places and of reads, one by one, and calls with their
-- counts. The values are those of the reference implementation.
use Rattle.std.proofs.Common.{◌≡◌, Bool, true, false, List, [], ◌∷◌, map, codes, refl, Some, None, ℕ}
use Rattle.base_types.specs.Items.{Event}
use Rattle.csub_text.specs.Machine.{SeenCall}
use Rattle.csub_text.specs.Trees.{Assign, Expr, Name, Const}
use Rattle.csub_guard.specs.Machine.{calls, run}
use Rattle.csub_guard.specs.Names.{Undeclared, Again, Unset, name_fault}
use Rattle.csub_guard.specs.Trees.{One, If, Program}

abbrev sets : List ℕ → Expr → Assign
sets target value = record { target = target; value = value }

abbrev shows : List Bool → Bool → SeenCall
shows outputs answer = record { outputs = outputs; answer = answer }

abbrev the_y : Expr
the_y = Name (codes "y")

abbrev the_i0 : Expr
the_i0 = Name (codes "i0")

abbrev the_g0 : Expr
the_g0 = Name (codes "g0")

abbrev the_g1 : Expr
the_g1 = Name (codes "g1")

abbrev the_g2 : Expr
the_g2 = Name (codes "g2")

abbrev in_A : Expr
in_A = Name (codes "I_A")

-- int i0; int g0; int g1; i0 = I_A; if (i0) { g0 = 1; g1 = g0; } else { g1 = 0; } O_O = g1; return 0;
abbrev first : Program
first = record {
  states = [];
  globals = codes "I_A" ∷ codes "O_O" ∷ [];
  locals = codes "i0" ∷ codes "g0" ∷ codes "g1" ∷ [];
  body = One (sets (codes "i0") in_A)
      ∷ If (codes "i0") (sets (codes "g0") (Const true) ∷ sets (codes "g1") the_g0 ∷ []) (sets (codes "g1") (Const false) ∷ [])
      ∷ One (sets (codes "O_O") the_g1)
      ∷ [];
  answer = Const false;
}

first_fault : name_fault first ≡ None
first_fault = refl

first_runs : run first (Event (true ∷ []) ∷ Event (false ∷ []) ∷ [])
    ≡ shows (true ∷ []) false ∷ shows (false ∷ []) false ∷ []
first_runs = refl

first_counts : map (λ c. c.count) (calls first (Event (true ∷ []) ∷ Event (false ∷ []) ∷ [])) ≡ 4 ∷ 3 ∷ []
first_counts = refl

-- int i0; int g0; int g1; i0 = I_A; if (i0) { g0 = 1; g1 = g0; } else { g1 = 0; } O_O = g0; return 0;
abbrev unset_row : Program
unset_row = record {
  states = [];
  globals = codes "I_A" ∷ codes "O_O" ∷ [];
  locals = codes "i0" ∷ codes "g0" ∷ codes "g1" ∷ [];
  body = One (sets (codes "i0") in_A)
      ∷ If (codes "i0") (sets (codes "g0") (Const true) ∷ sets (codes "g1") the_g0 ∷ []) (sets (codes "g1") (Const false) ∷ [])
      ∷ One (sets (codes "O_O") the_g0)
      ∷ [];
  answer = Const false;
}

unset_row_fault : name_fault unset_row ≡ Some (Unset (codes "g0"))
unset_row_fault = refl

-- int i0; int g0; int g1; i0 = I_A; if (i0) { g0 = 1; g1 = g0; } else { g1 = 0; } g1 = 0; O_O = g1; return 0;
abbrev again_row : Program
again_row = record {
  states = [];
  globals = codes "I_A" ∷ codes "O_O" ∷ [];
  locals = codes "i0" ∷ codes "g0" ∷ codes "g1" ∷ [];
  body = One (sets (codes "i0") in_A)
      ∷ If (codes "i0") (sets (codes "g0") (Const true) ∷ sets (codes "g1") the_g0 ∷ []) (sets (codes "g1") (Const false) ∷ [])
      ∷ One (sets (codes "g1") (Const false))
      ∷ One (sets (codes "O_O") the_g1)
      ∷ [];
  answer = Const false;
}

again_row_fault : name_fault again_row ≡ Some (Again (codes "g1"))
again_row_fault = refl

-- int i0; int g0; int g1; if (i0) { g0 = 1; g1 = g0; } else { g1 = 0; } i0 = I_A; O_O = g1; return 0;
abbrev test_unset : Program
test_unset = record {
  states = [];
  globals = codes "I_A" ∷ codes "O_O" ∷ [];
  locals = codes "i0" ∷ codes "g0" ∷ codes "g1" ∷ [];
  body = If (codes "i0") (sets (codes "g0") (Const true) ∷ sets (codes "g1") the_g0 ∷ []) (sets (codes "g1") (Const false) ∷ [])
      ∷ One (sets (codes "i0") in_A)
      ∷ One (sets (codes "O_O") the_g1)
      ∷ [];
  answer = Const false;
}

test_unset_fault : name_fault test_unset ≡ Some (Unset (codes "i0"))
test_unset_fault = refl

-- int i0; int g0; int g1; i0 = I_A; if (O_O) { g0 = 1; g1 = g0; } else { g1 = 0; } O_O = g1; return 0;
abbrev test_no_local : Program
test_no_local = record {
  states = [];
  globals = codes "I_A" ∷ codes "O_O" ∷ [];
  locals = codes "i0" ∷ codes "g0" ∷ codes "g1" ∷ [];
  body = One (sets (codes "i0") in_A)
      ∷ If (codes "O_O") (sets (codes "g0") (Const true) ∷ sets (codes "g1") the_g0 ∷ []) (sets (codes "g1") (Const false) ∷ [])
      ∷ One (sets (codes "O_O") the_g1)
      ∷ [];
  answer = Const false;
}

test_no_local_fault : name_fault test_no_local ≡ Some (Undeclared (codes "O_O"))
test_no_local_fault = refl

-- int i0; int g0; int g1; i0 = I_A; if (i0) { O_O = 1; g1 = g0; } else { g1 = 0; } O_O = g1; return 0;
abbrev output_in_a_half : Program
output_in_a_half = record {
  states = [];
  globals = codes "I_A" ∷ codes "O_O" ∷ [];
  locals = codes "i0" ∷ codes "g0" ∷ codes "g1" ∷ [];
  body = One (sets (codes "i0") in_A)
      ∷ If (codes "i0") (sets (codes "O_O") (Const true) ∷ sets (codes "g1") the_g0 ∷ []) (sets (codes "g1") (Const false) ∷ [])
      ∷ One (sets (codes "O_O") the_g1)
      ∷ [];
  answer = Const false;
}

output_in_a_half_fault : name_fault output_in_a_half ≡ Some (Undeclared (codes "O_O"))
output_in_a_half_fault = refl

-- int i0; int g0; int g1; i0 = I_A; if (i0) { g0 = 1; g1 = g0; } else { g1 = g0; } O_O = g1; return 0;
abbrev other_half_is_read : Program
other_half_is_read = record {
  states = [];
  globals = codes "I_A" ∷ codes "O_O" ∷ [];
  locals = codes "i0" ∷ codes "g0" ∷ codes "g1" ∷ [];
  body = One (sets (codes "i0") in_A)
      ∷ If (codes "i0") (sets (codes "g0") (Const true) ∷ sets (codes "g1") the_g0 ∷ []) (sets (codes "g1") the_g0 ∷ [])
      ∷ One (sets (codes "O_O") the_g1)
      ∷ [];
  answer = Const false;
}

other_half_is_read_fault : name_fault other_half_is_read ≡ Some (Unset (codes "g0"))
other_half_is_read_fault = refl

-- int i0; int g0; int g1; i0 = I_A; if (i0) { g0 = 1; g1 = g0; } else { g1 = 0; g0 = g1; } O_O = g1; return g0;
abbrev both_halves : Program
both_halves = record {
  states = [];
  globals = codes "I_A" ∷ codes "O_O" ∷ [];
  locals = codes "i0" ∷ codes "g0" ∷ codes "g1" ∷ [];
  body = One (sets (codes "i0") in_A)
      ∷ If (codes "i0")
      (sets (codes "g0") (Const true)
      ∷ sets (codes "g1") the_g0
      ∷ [])
      (sets (codes "g1") (Const false)
      ∷ sets (codes "g0") the_g1
      ∷ [])
      ∷ One (sets (codes "O_O") the_g1)
      ∷ [];
  answer = the_g0;
}

both_halves_fault : name_fault both_halves ≡ None
both_halves_fault = refl

both_halves_runs : run both_halves (Event (true ∷ []) ∷ Event (false ∷ []) ∷ [])
    ≡ shows (true ∷ []) true ∷ shows (false ∷ []) false ∷ []
both_halves_runs = refl

both_halves_counts : map (λ c. c.count) (calls both_halves (Event (true ∷ []) ∷ Event (false ∷ []) ∷ [])) ≡ 4 ∷ 4 ∷ []
both_halves_counts = refl

-- int i0; int g0; int g1; i0 = I_A; if (i0) { g0 = 1; g1 = g0; } else { g1 = 0; } if (i0) { O_O = g0; } O_O = g1; return 0;
abbrev a_second_block : Program
a_second_block = record {
  states = [];
  globals = codes "I_A" ∷ codes "O_O" ∷ [];
  locals = codes "i0" ∷ codes "g0" ∷ codes "g1" ∷ [];
  body = One (sets (codes "i0") in_A)
      ∷ If (codes "i0") (sets (codes "g0") (Const true) ∷ sets (codes "g1") the_g0 ∷ []) (sets (codes "g1") (Const false) ∷ [])
      ∷ If (codes "i0") (sets (codes "O_O") the_g0 ∷ []) ([])
      ∷ One (sets (codes "O_O") the_g1)
      ∷ [];
  answer = Const false;
}

a_second_block_fault : name_fault a_second_block ≡ Some (Undeclared (codes "O_O"))
a_second_block_fault = refl

-- int i0; int g0; int g1; int g2; i0 = I_A; if (i0) { g0 = 1; g1 = g0; } else { g1 = 0; } if (i0) { g2 = g0; } else { g2 = g1; } O_O = g2; return 0;
abbrev a_second_block_reads : Program
a_second_block_reads = record {
  states = [];
  globals = codes "I_A" ∷ codes "O_O" ∷ [];
  locals = codes "i0" ∷ codes "g0" ∷ codes "g1" ∷ codes "g2" ∷ [];
  body = One (sets (codes "i0") in_A)
      ∷ If (codes "i0") (sets (codes "g0") (Const true) ∷ sets (codes "g1") the_g0 ∷ []) (sets (codes "g1") (Const false) ∷ [])
      ∷ If (codes "i0") (sets (codes "g2") the_g0 ∷ []) (sets (codes "g2") the_g1 ∷ [])
      ∷ One (sets (codes "O_O") the_g2)
      ∷ [];
  answer = Const false;
}

a_second_block_reads_fault : name_fault a_second_block_reads ≡ None
a_second_block_reads_fault = refl

a_second_block_reads_runs : run a_second_block_reads (Event (true ∷ []) ∷ Event (false ∷ []) ∷ [])
    ≡ shows (true ∷ []) false ∷ shows (false ∷ []) false ∷ []
a_second_block_reads_runs = refl

a_second_block_reads_counts : map (λ c. c.count) (calls a_second_block_reads (Event (true ∷ []) ∷ Event (false ∷ []) ∷ [])) ≡ 5 ∷ 4 ∷ []
a_second_block_reads_counts = refl

-- int i0; int g0; int g1; int g2; int i1; i0 = I_A; i1 = I_A; if (i0) { g0 = 1; g1 = g0; } else { g1 = 0; } if (i1) { g2 = g0; } O_O = g1; return 0;
abbrev another_test : Program
another_test = record {
  states = [];
  globals = codes "I_A" ∷ codes "O_O" ∷ [];
  locals = codes "i0" ∷ codes "g0" ∷ codes "g1" ∷ codes "g2" ∷ codes "i1" ∷ [];
  body = One (sets (codes "i0") in_A)
      ∷ One (sets (codes "i1") in_A)
      ∷ If (codes "i0") (sets (codes "g0") (Const true) ∷ sets (codes "g1") the_g0 ∷ []) (sets (codes "g1") (Const false) ∷ [])
      ∷ If (codes "i1") (sets (codes "g2") the_g0 ∷ []) ([])
      ∷ One (sets (codes "O_O") the_g1)
      ∷ [];
  answer = Const false;
}

another_test_fault : name_fault another_test ≡ Some (Unset (codes "g0"))
another_test_fault = refl

-- int i0; int i1; int g1; int g2; i0 = I_A; i1 = I_A; if (i0) { } else { g1 = 0; } if (i0) { } else { g2 = g1; } O_O = i0; return 0;
abbrev second_halves : Program
second_halves = record {
  states = [];
  globals = codes "I_A" ∷ codes "O_O" ∷ [];
  locals = codes "i0" ∷ codes "i1" ∷ codes "g1" ∷ codes "g2" ∷ [];
  body = One (sets (codes "i0") in_A)
      ∷ One (sets (codes "i1") in_A)
      ∷ If (codes "i0") ([]) (sets (codes "g1") (Const false) ∷ [])
      ∷ If (codes "i0") ([]) (sets (codes "g2") the_g1 ∷ [])
      ∷ One (sets (codes "O_O") the_i0)
      ∷ [];
  answer = Const false;
}

second_halves_fault : name_fault second_halves ≡ None
second_halves_fault = refl

second_halves_runs : run second_halves (Event (true ∷ []) ∷ Event (false ∷ []) ∷ [])
    ≡ shows (true ∷ []) false ∷ shows (false ∷ []) false ∷ []
second_halves_runs = refl

second_halves_counts : map (λ c. c.count) (calls second_halves (Event (true ∷ []) ∷ Event (false ∷ []) ∷ [])) ≡ 3 ∷ 5 ∷ []
second_halves_counts = refl

-- int i0; int i1; int g1; int g2; i0 = I_A; i1 = I_A; if (i0) { } else { g1 = 0; } if (i1) { } else { g2 = g1; } O_O = i0; return 0;
abbrev second_half_of_another_test : Program
second_half_of_another_test = record {
  states = [];
  globals = codes "I_A" ∷ codes "O_O" ∷ [];
  locals = codes "i0" ∷ codes "i1" ∷ codes "g1" ∷ codes "g2" ∷ [];
  body = One (sets (codes "i0") in_A)
      ∷ One (sets (codes "i1") in_A)
      ∷ If (codes "i0") ([]) (sets (codes "g1") (Const false) ∷ [])
      ∷ If (codes "i1") ([]) (sets (codes "g2") the_g1 ∷ [])
      ∷ One (sets (codes "O_O") the_i0)
      ∷ [];
  answer = Const false;
}

second_half_of_another_test_fault : name_fault second_half_of_another_test ≡ Some (Unset (codes "g1"))
second_half_of_another_test_fault = refl

-- int i0; int i1; int g1; int g2; i0 = I_A; i1 = I_A; if (i0) { } else { g1 = 0; } if (i0) { g2 = g1; } O_O = i0; return 0;
abbrev first_half_behind_a_second : Program
first_half_behind_a_second = record {
  states = [];
  globals = codes "I_A" ∷ codes "O_O" ∷ [];
  locals = codes "i0" ∷ codes "i1" ∷ codes "g1" ∷ codes "g2" ∷ [];
  body = One (sets (codes "i0") in_A)
      ∷ One (sets (codes "i1") in_A)
      ∷ If (codes "i0") ([]) (sets (codes "g1") (Const false) ∷ [])
      ∷ If (codes "i0") (sets (codes "g2") the_g1 ∷ []) ([])
      ∷ One (sets (codes "O_O") the_i0)
      ∷ [];
  answer = Const false;
}

first_half_behind_a_second_fault : name_fault first_half_behind_a_second ≡ Some (Unset (codes "g1"))
first_half_behind_a_second_fault = refl

-- int i0; int i1; int g1; int g2; i0 = I_A; i1 = I_A; if (i0) { } else { g1 = 0; } if (i0) { } else { g2 = g1; g2 = g1; } O_O = i0; return 0;
abbrev twice_in_one_half : Program
twice_in_one_half = record {
  states = [];
  globals = codes "I_A" ∷ codes "O_O" ∷ [];
  locals = codes "i0" ∷ codes "i1" ∷ codes "g1" ∷ codes "g2" ∷ [];
  body = One (sets (codes "i0") in_A)
      ∷ One (sets (codes "i1") in_A)
      ∷ If (codes "i0") ([]) (sets (codes "g1") (Const false) ∷ [])
      ∷ If (codes "i0") ([]) (sets (codes "g2") the_g1 ∷ sets (codes "g2") the_g1 ∷ [])
      ∷ One (sets (codes "O_O") the_i0)
      ∷ [];
  answer = Const false;
}

twice_in_one_half_fault : name_fault twice_in_one_half ≡ Some (Again (codes "g2"))
twice_in_one_half_fault = refl

-- int i0; int i1; int g1; int g2; i0 = I_A; i1 = I_A; if (i0) { } else { g1 = 0; } if (i0) { g1 = 1; } O_O = i0; return 0;
abbrev second_then_first : Program
second_then_first = record {
  states = [];
  globals = codes "I_A" ∷ codes "O_O" ∷ [];
  locals = codes "i0" ∷ codes "i1" ∷ codes "g1" ∷ codes "g2" ∷ [];
  body = One (sets (codes "i0") in_A)
      ∷ One (sets (codes "i1") in_A)
      ∷ If (codes "i0") ([]) (sets (codes "g1") (Const false) ∷ [])
      ∷ If (codes "i0") (sets (codes "g1") (Const true) ∷ []) ([])
      ∷ One (sets (codes "O_O") the_i0)
      ∷ [];
  answer = Const false;
}

second_then_first_fault : name_fault second_then_first ≡ Some (Again (codes "g1"))
second_then_first_fault = refl

-- int i0; int i1; int g1; int g2; i0 = I_A; i1 = I_A; if (i0) { g1 = 0; } if (i0) { } else { g1 = 1; } O_O = i0; return 0;
abbrev halves_of_two_blocks : Program
halves_of_two_blocks = record {
  states = [];
  globals = codes "I_A" ∷ codes "O_O" ∷ [];
  locals = codes "i0" ∷ codes "i1" ∷ codes "g1" ∷ codes "g2" ∷ [];
  body = One (sets (codes "i0") in_A)
      ∷ One (sets (codes "i1") in_A)
      ∷ If (codes "i0") (sets (codes "g1") (Const false) ∷ []) ([])
      ∷ If (codes "i0") ([]) (sets (codes "g1") (Const true) ∷ [])
      ∷ One (sets (codes "O_O") the_i0)
      ∷ [];
  answer = Const false;
}

halves_of_two_blocks_fault : name_fault halves_of_two_blocks ≡ Some (Again (codes "g1"))
halves_of_two_blocks_fault = refl

-- int i0; int i1; int g1; int g2; i0 = I_A; i1 = I_A; if (i0) { } else { g1 = 0; } if (i0) { } else { g2 = g1; } I_A = i0; return 0;
abbrev an_input_is_assigned : Program
an_input_is_assigned = record {
  states = [];
  globals = codes "I_A" ∷ codes "O_O" ∷ [];
  locals = codes "i0" ∷ codes "i1" ∷ codes "g1" ∷ codes "g2" ∷ [];
  body = One (sets (codes "i0") in_A)
      ∷ One (sets (codes "i1") in_A)
      ∷ If (codes "i0") ([]) (sets (codes "g1") (Const false) ∷ [])
      ∷ If (codes "i0") ([]) (sets (codes "g2") the_g1 ∷ [])
      ∷ One (sets (codes "I_A") the_i0)
      ∷ [];
  answer = Const false;
}

an_input_is_assigned_fault : name_fault an_input_is_assigned ≡ Some (Undeclared (codes "I_A"))
an_input_is_assigned_fault = refl

-- int i0; int i1; int g1; int g2; i0 = I_A; i1 = I_A; if (i0) { } else { g1 = 0; } if (i0) { } else { g2 = g1; } z = y; return 0;
abbrev assigned_and_undeclared_come_first : Program
assigned_and_undeclared_come_first = record {
  states = [];
  globals = codes "I_A" ∷ codes "O_O" ∷ [];
  locals = codes "i0" ∷ codes "i1" ∷ codes "g1" ∷ codes "g2" ∷ [];
  body = One (sets (codes "i0") in_A)
      ∷ One (sets (codes "i1") in_A)
      ∷ If (codes "i0") ([]) (sets (codes "g1") (Const false) ∷ [])
      ∷ If (codes "i0") ([]) (sets (codes "g2") the_g1 ∷ [])
      ∷ One (sets (codes "z") the_y)
      ∷ [];
  answer = Const false;
}

assigned_and_undeclared_come_first_fault : name_fault assigned_and_undeclared_come_first ≡ Some (Undeclared (codes "z"))
assigned_and_undeclared_come_first_fault = refl
