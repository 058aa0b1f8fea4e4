-- A worked netlist, by hand: a latch that turns in each instant, and a net that is true where the latch and its negation are.
use Rattle.std.proofs.Common.{◌≡◌, true, false, [], ◌∷◌, None, codes, refl}
use Rattle.base_types.specs.Items.{Event, Reset}
use Rattle.net_ir.specs.declared.netlist.Op.TheVariants.{Const, Not, And}
use Rattle.net_ir.specs.Netlists.{Netlist}
use Rattle.net_ir.specs.Runs.{net_values_run}
use Rattle.sat_kernel.specs.declared.literals.Premise.TheVariants.{Assumed}
use Rattle.sat_kernel.specs.Clauses.{Derivation}
use Rattle.sat_kernel.specs.Propagation.{is_implied_along}
use Rattle.net_never.specs.GateClauses.{op_clauses, signed}
use Rattle.net_never.specs.Inductive.{holds_at_first, is_over_latches, known_clauses, next_clause}
use Rattle.net_never.specs.Reached.{is_reached}

abbrev turning : Netlist
turning = record {
  name = codes "T";
  inputs = codes "A" ∷ [];
  outputs = [];
  paused = 3;
  latches = record { init = false; from = record { 0 = 2 } } ∷ [];
  gates = record { op = Not (record { 0 = 1 }); wire = None } ∷ record { op = And (record { 0 = 1 }) (record { 0 = 2 }); wire = None } ∷ [];
}

three_instants : net_values_run turning (Event (true ∷ []) ∷ Event (false ∷ []) ∷ Reset ∷ Event (false ∷ []) ∷ [])
    ≡ (true ∷ false ∷ true ∷ false ∷ []) ∷ (false ∷ true ∷ false ∷ false ∷ []) ∷ (false ∷ false ∷ true ∷ false ∷ []) ∷ []
three_instants = refl

clauses_of_the_gates : known_clauses turning [] []
    ≡ (signed 2 false ∷ signed 1 false ∷ []) ∷ (signed 2 true ∷ signed 1 true ∷ [])
    ∷ (signed 3 false ∷ signed 1 true ∷ []) ∷ (signed 3 false ∷ signed 2 true ∷ []) ∷ (signed 3 true ∷ signed 1 false ∷ signed 2 false ∷ []) ∷ []
clauses_of_the_gates = refl

one_clause_of_a_constant : op_clauses 7 (Const true) ≡ (signed 7 true ∷ []) ∷ []
one_clause_of_a_constant = refl

abbrev known : Derivation
known = record { variables = 4; assumed = known_clauses turning [] []; derived = [] }

-- the third and fourth clauses give the latch and its negation, and the first one is false then
never_both : is_implied_along known (signed 3 false ∷ []) (Assumed 2 ∷ Assumed 3 ∷ Assumed 0 ∷ []) ≡ true
never_both = refl

not_by_the_gate_alone : is_implied_along known (signed 3 false ∷ []) (Assumed 2 ∷ Assumed 3 ∷ []) ≡ false
not_by_the_gate_alone = refl

-- the latch is false in the first instant and true in the next one
false_at_first : holds_at_first turning ((signed 1 false ∷ []) ∷ []) ≡ true
false_at_first = refl

true_is_not_at_first : holds_at_first turning ((signed 1 true ∷ []) ∷ []) ≡ false
true_is_not_at_first = refl

of_the_next_instant : next_clause 1 turning.latches (signed 1 false ∷ []) ≡ signed 2 false ∷ []
of_the_next_instant = refl

latches_alone : (is_over_latches turning ((signed 1 true ∷ []) ∷ []) ≡ true) × (is_over_latches turning ((signed 0 true ∷ []) ∷ []) ≡ false)
    × (is_over_latches turning ((signed 2 true ∷ []) ∷ []) ≡ false)
latches_alone = (refl, refl, refl)

-- the latch is true in the second instant, and the clause that it is false is not met there
reached_in_the_second_instant : (is_reached turning [] (signed 1 true) ((true ∷ []) ∷ (false ∷ []) ∷ []) ≡ true)
    × (is_reached turning [] (signed 1 true) ((true ∷ []) ∷ []) ≡ false)
    × (is_reached turning [] (signed 1 true) ((true ∷ []) ∷ (false ∷ []) ∷ (true ∷ []) ∷ []) ≡ false)
    × (is_reached turning ((signed 1 false ∷ []) ∷ []) (signed 1 true) ((true ∷ []) ∷ (false ∷ []) ∷ []) ≡ false)
    × (is_reached turning [] (signed 1 true) ((true ∷ []) ∷ [] ∷ []) ≡ false) × (is_reached turning [] (signed 0 true) [] ≡ false)
reached_in_the_second_instant = (refl, refl, refl, refl, refl, refl)

false_in_the_first_instant : is_reached turning [] (signed 1 false) ((true ∷ []) ∷ []) ≡ true
false_in_the_first_instant = refl
