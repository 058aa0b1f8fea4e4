-- Worked pairs, by hand: a latch that turns in each instant, and one that stays.
use Rattle.std.proofs.Common.{◌≡◌, true, false, [], ◌∷◌, ◌++◌, None, codes, refl}
use Rattle.base_types.specs.Items.{Event, Reset}
use Rattle.net_ir.specs.declared.netlist.Op.TheVariants.{Copy, Not}
use Rattle.net_ir.specs.Netlists.{Netlist}
use Rattle.net_ir.specs.Runs.{net_run}
use Rattle.net_pair.specs.Pairs.{any_differ, differences, is_different, pair_count, shown_difference}
use Rattle.net_pair.specs.Layout.{different_net, false_net, left_net, pair_net, right_net}

-- its output is the latch, and it pauses where the input is true
abbrev turning : Netlist
turning = record {
  name = codes "T";
  inputs = codes "A" ∷ [];
  outputs = record { name = codes "O"; net = record { 0 = 1 } } ∷ [];
  paused = 0;
  latches = record { init = false; from = record { 0 = 2 } } ∷ [];
  gates = record { op = Not (record { 0 = 1 }); wire = None } ∷ [];
}

-- the same, with a latch that stays false
abbrev staying : Netlist
staying = record {
  name = codes "S";
  inputs = codes "A" ∷ [];
  outputs = record { name = codes "O"; net = record { 0 = 1 } } ∷ [];
  paused = 0;
  latches = record { init = false; from = record { 0 = 2 } } ∷ [];
  gates = record { op = Copy (record { 0 = 1 }); wire = None } ∷ [];
}

a_place_that_differs : any_differ false (true ∷ false ∷ []) (true ∷ true ∷ []) ≡ true
a_place_that_differs = refl

no_place_that_differs : any_differ false (true ∷ false ∷ []) (true ∷ false ∷ []) ≡ false
no_place_that_differs = refl

only_one_that_pauses : is_different (record { outputs = true ∷ []; paused = false }) (record { outputs = true ∷ []; paused = true }) ≡ true
only_one_that_pauses = refl

the_second_instant : differences (net_run turning (Event (true ∷ []) ∷ Event (true ∷ []) ∷ Event (false ∷ []) ∷ []))
    (net_run staying (Event (true ∷ []) ∷ Event (true ∷ []) ∷ Event (false ∷ []) ∷ [])) ≡ false ∷ true ∷ false ∷ []
the_second_instant = refl

the_pair : net_run (pair_net turning staying) (Event (true ∷ []) ∷ Event (true ∷ []) ∷ Reset ∷ Event (false ∷ []) ∷ [])
    ≡ shown_difference false ∷ shown_difference true ∷ shown_difference false ∷ []
the_pair = refl

-- the input, two latches, two gates, the gate that is false, and five gates for each of two comparisons
nets_of_the_pair : pair_count turning staying ≡ 16
nets_of_the_pair = refl

the_last_gate : different_net turning staying ≡ 15
the_last_gate = refl

a_gate_of_the_second : right_net turning staying 2 ≡ 4
a_gate_of_the_second = refl
