-- A worked netlist, by hand: an output that is the second of two inputs where the first one is absent. Where the two
-- exclude each other, it is the second input.
use Rattle.std.proofs.Common.{◌≡◌, true, false, [], ◌∷◌, None, codes, refl}
use Rattle.base_types.specs.Items.{Event, Reset}
use Rattle.net_ir.specs.declared.netlist.Op.TheVariants.{And, Copy, Not}
use Rattle.net_ir.specs.Netlists.{Netlist}
use Rattle.net_ir.specs.Runs.{net_run}
use Rattle.net_relations.specs.Implications.{opposite, signed_value, with_gates}

abbrev guarded : Netlist
guarded = record {
  name = codes "G";
  inputs = codes "A" ∷ codes "B" ∷ [];
  outputs = record { name = codes "O"; net = record { 0 = 3 } } ∷ [];
  paused = 2;
  latches = [];
  gates = record { op = Not (record { 0 = 0 }); wire = None } ∷ record { op = And (record { 0 = 1 }) (record { 0 = 2 }); wire = None } ∷ [];
}

abbrev bare : Netlist
bare = with_gates guarded (record { op = Not (record { 0 = 0 }); wire = None } ∷ record { op = Copy (record { 0 = 1 }); wire = None } ∷ [])

-- over events that meet the exclusion both show the same
allowed_events : net_run bare (Event (true ∷ false ∷ []) ∷ Reset ∷ Event (false ∷ true ∷ []) ∷ Event (false ∷ false ∷ []) ∷ [])
    ≡ net_run guarded (Event (true ∷ false ∷ []) ∷ Reset ∷ Event (false ∷ true ∷ []) ∷ Event (false ∷ false ∷ []) ∷ [])
allowed_events = refl

-- an event that breaks it shows the difference
a_broken_event : net_run guarded (Event (true ∷ true ∷ []) ∷ []) ≡ record { outputs = false ∷ []; paused = false } ∷ []
a_broken_event = refl

the_bare_one : net_run bare (Event (true ∷ true ∷ []) ∷ []) ≡ record { outputs = true ∷ []; paused = false } ∷ []
the_bare_one = refl

a_negated_net : signed_value (true ∷ false ∷ []) (record { net = record { 0 = 1 }; negated = true }) ≡ true
a_negated_net = refl

its_opposite : signed_value (true ∷ false ∷ []) (opposite (record { net = record { 0 = 1 }; negated = true })) ≡ false
its_opposite = refl
