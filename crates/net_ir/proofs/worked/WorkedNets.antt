-- Worked nets: the definitions compute what a reader finds by hand.
use Rattle.std.proofs.Common.{◌≡◌, ◌^◌, ◌<◌, Bool, true, false, List, [], ◌∷◌, None, Some, codes, refl, sym, map, arith, rules, lit<, lit≤}
use Rattle.std.proofs.lemmas.Bool.{true≢false}
use Rattle.base_types.specs.Items.{Event, Reset}
use Rattle.net_ir.specs.declared.netlist.Op.TheVariants.{Const, Copy, Not, And, Or}
use Rattle.net_ir.specs.declared.netlist.Gate.{Gate}
use Rattle.net_ir.specs.declared.netlist.NetOut.{NetOut}
use Rattle.net_ir.specs.Gates.{carried, gate_values, operand_end, value_in}
use Rattle.base_types.specs.Names.{is_name}
use Rattle.net_ir.specs.NameLists.{is_among, first_again}
use Rattle.net_ir.specs.Netlists.{Netlist, IsNet, net_count}
use Rattle.net_ir.specs.Numbered.{numbered}
use Rattle.net_ir.specs.Runs.{Shown, net_values, net_run}

-- one input, one latch that reads the second gate, an And and a Not
abbrev worked : Netlist
worked = record {
  name = codes "T";
  inputs = codes "A" ∷ [];
  outputs = record { name = codes "O"; net = record { 0 = 2 } } ∷ [];
  paused = 1;
  latches = record { init = false; from = record { 0 = 3 } } ∷ [];
  gates = record { op = And (record { 0 = 0 }) (record { 0 = 1 }); wire = None }
      ∷ record { op = Not (record { 0 = 2 }); wire = Some (record { 0 = 9 }) } ∷ [];
}

abbrev shows : Bool → Bool → Shown
shows output paused = record { outputs = output ∷ []; paused = paused }

the_latch_is_set_after_the_first_instant : net_run worked (Event (true ∷ []) ∷ Event (true ∷ []) ∷ Event (false ∷ []) ∷ Event (true ∷ []) ∷ []) ≡ shows false
    false ∷ shows true true ∷ shows false false ∷ shows true true ∷ []
the_latch_is_set_after_the_first_instant = refl

a_reset_shows_nothing_and_puts_the_latch_back : net_run worked
    (Event (true ∷ []) ∷ Reset ∷ Event (true ∷ []) ∷ Event (true ∷ []) ∷ Reset ∷ Reset ∷ Event (true ∷ []) ∷ []) ≡ shows false false ∷ shows false false ∷
    shows true true ∷ shows false false ∷ []
a_reset_shows_nothing_and_puts_the_latch_back = refl

each_net_in_order : net_values worked (true ∷ []) (true ∷ []) ≡ true ∷ true ∷ true ∷ false ∷ []
each_net_in_order = refl

one_wire_is_carried : carried worked.gates ≡ 9 ∷ []
one_wire_is_carried = refl

every_kind_of_gate : gate_values (true ∷ false ∷ []) (map (λ op. record { op = op; wire = None })
    (Const true ∷ Copy (record { 0 = 0 }) ∷ Not (record { 0 = 0 }) ∷ And (record { 0 = 0 }) (record { 0 = 1 }) ∷ Or (record { 0 = 0 }) (record { 0 = 1 }) ∷
    [])) ≡ true ∷ false ∷ true ∷ true ∷ false ∷ false ∷ true ∷ []
every_kind_of_gate = refl

above_what_is_read : map operand_end (Const true ∷ Copy (record { 0 = 4 }) ∷ Not (record { 0 = 5 }) ∷ And (record { 0 = 3 }) (record { 0 = 6 })
    ∷ And (record { 0 = 6 }) (record { 0 = 3 }) ∷ Or (record { 0 = 3 }) (record { 0 = 6 }) ∷ Or (record { 0 = 6 }) (record { 0 = 3 }) ∷ [])
    ≡ 0 ∷ 5 ∷ 6 ∷ 7 ∷ 7 ∷ 7 ∷ 7 ∷ []
above_what_is_read = refl

what_is_no_net_is_false : value_in (true ∷ []) 1 ≡ false
what_is_no_net_is_false = refl

among : map (λ name. is_among name (codes "A" ∷ codes "B" ∷ [])) (codes "A" ∷ codes "B" ∷ codes "C" ∷ codes "AB" ∷ []) ≡ true ∷ true ∷ false ∷ false ∷ []
among = refl

again : first_again [] (codes "A" ∷ codes "B" ∷ codes "C" ∷ codes "B" ∷ codes "A" ∷ []) ∷ first_again [] (codes "A" ∷ codes "B" ∷ [])
    ∷ first_again (codes "B" ∷ []) (codes "A" ∷ codes "B" ∷ codes "A" ∷ []) ∷ [] ≡ Some (codes "B") ∷ None ∷ Some (codes "B") ∷ []
again = refl

names : map is_name (codes "a_1" ∷ codes "Z" ∷ codes "_a" ∷ codes "1a" ∷ codes "a.b" ∷ [] ∷ []) ≡ true ∷ true ∷ false ∷ false ∷ false ∷ false ∷ []
names = refl

-- ---- what every net keeps, and what it refuses

worked_is_a_net : IsNet worked
worked_is_a_net = record {
  name_fits = refl;
  input_names_fit = search rules;
  output_names_fit = search rules;
  inputs_differ = refl;
  outputs_differ = refl;
  numbered = lit≤ tt;
  outputs_in_range = search rules;
  paused_in_range = lit< tt;
  latches_in_range = search rules;
  reads_lower = search rules;
  carries_once = refl;
}

-- an output may have the name of an input
abbrev given_and_shown : Netlist
given_and_shown = record worked { outputs = record { name = codes "A"; net = record { 0 = 2 } } ∷ [] }

an_output_with_the_name_of_an_input : IsNet given_and_shown
an_output_with_the_name_of_an_input = record {
  name_fits = refl;
  input_names_fit = search rules;
  output_names_fit = search rules;
  inputs_differ = refl;
  outputs_differ = refl;
  numbered = lit≤ tt;
  outputs_in_range = search rules;
  paused_in_range = lit< tt;
  latches_in_range = search rules;
  reads_lower = search rules;
  carries_once = refl;
}

a_name_that_begins_with_a_digit : IsNet (record worked { name = codes "1A" }) → ⊥
a_name_that_begins_with_a_digit is = true≢false (sym is.name_fits)

an_input_with_a_mark_in_its_name : IsNet (record worked { inputs = codes "a.b" ∷ [] }) → ⊥
an_input_with_a_mark_in_its_name is = true≢false (sym (is.input_names_fit 0 [] (lit< tt)))

an_output_with_a_leading_underscore : IsNet (record worked { outputs = record { name = codes "_O"; net = record { 0 = 2 } } ∷ [] }) → ⊥
an_output_with_a_leading_underscore is =
    true≢false (sym (is.output_names_fit 0 (record { name = []; net = record { 0 = 0 } }) (lit< tt)))

two_inputs_of_one_name : IsNet (record worked { inputs = codes "A" ∷ codes "B" ∷ codes "A" ∷ [] }) → ⊥
two_inputs_of_one_name is = true≢false (sym is.inputs_differ)

abbrev twice_O : List NetOut
twice_O = record { name = codes "O"; net = record { 0 = 2 } } ∷ record { name = codes "O"; net = record { 0 = 1 } } ∷ []

two_outputs_of_one_name : IsNet (record worked { outputs = twice_O }) → ⊥
two_outputs_of_one_name is = true≢false (sym is.outputs_differ)

more_than_2_to_the_32_nets : (net : Netlist) → 2 ^ 32 < net_count net → IsNet net → ⊥
more_than_2_to_the_32_nets net many is = let few = is.numbered in omega arith

an_output_of_no_net : IsNet (record worked { outputs = record { name = codes "O"; net = record { 0 = 4 } } ∷ [] }) → ⊥
an_output_of_no_net is =
    let low = is.outputs_in_range 0 (record { name = []; net = record { 0 = 0 } }) (lit< tt) in omega arith

a_paused_of_no_net : IsNet (record worked { paused = 4 }) → ⊥
a_paused_of_no_net is = let low = is.paused_in_range in omega arith

a_latch_that_reads_no_net : IsNet (record worked { latches = record { init = true; from = record { 0 = 4 } } ∷ [] }) → ⊥
a_latch_that_reads_no_net is =
    let low = is.latches_in_range 0 (record { init = true; from = record { 0 = 0 } }) (lit< tt) in omega arith

abbrev reads_itself : List Gate
reads_itself = record { op = Const true; wire = None } ∷ record { op = Or (record { 0 = 0 }) (record { 0 = 3 }); wire = None } ∷ []

a_gate_that_reads_itself : IsNet (record worked { gates = reads_itself }) → ⊥
a_gate_that_reads_itself is =
    let low = is.reads_lower 1 (record { op = Const true; wire = None }) (lit< tt) in omega arith

abbrev one_wire_twice : List Gate
one_wire_twice = record { op = Const true; wire = Some (record { 0 = 7 }) } ∷ record { op = Const true; wire = Some (record { 0 = 7 }) } ∷ []

a_wire_that_two_gates_carry : IsNet (record worked { gates = one_wire_twice }) → ⊥
a_wire_that_two_gates_carry is = true≢false (sym is.carries_once)

numbers_from_four : numbered (λ n x. n ∷ x ∷ []) 4 (7 ∷ 8 ∷ 9 ∷ []) ≡ (4 ∷ 7 ∷ []) ∷ (5 ∷ 8 ∷ []) ∷ (6 ∷ 9 ∷ []) ∷ []
numbers_from_four = refl
