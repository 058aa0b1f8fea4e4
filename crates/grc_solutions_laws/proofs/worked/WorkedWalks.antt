-- Worked values, by hand: what a valuation tells of a program, its state, and the code that it shows.
use Rattle.std.proofs.Common.{◌≡◌, ◌==◌, ◌||◌, Bool, true, false, List, [], ◌∷◌, map, codes, refl, All, Contains}
use Rattle.est_kernel.specs.Plain.{Program, interface_of}
use Rattle.est_kernel.specs.Reactions.{is_given}
use Rattle.est_kernel.specs.StaticCodes.{has_code, resumed_codes}
use Rattle.est_kernel.specs.Terms.{Sig, Emit, Pause, Present, Seq, Nothing}
use Rattle.grc_graph.specs.Coherence.{StartedWalked, ResumedWalked}
use Rattle.grc_graph.specs.GraphRuns.{ShownInstant, program_wires}
use Rattle.grc_graph.specs.Layers.{Resumed, Started}
use Rattle.grc_graph.specs.Readings.{Valuation}
use Rattle.grc_graph.specs.Residuals.{holds}
use Rattle.grc_graph.specs.Walk.{State, Initial, Selecting, is_initial}
use Rattle.grc_graph.specs.Wires.{Wire, Out, End, same_wire, listed, codes_below}
use Rattle.grc_solutions_laws.specs.GraphWalks.{selected_of, program_values, graph_walk, IsWalkOf, SelectsLeaves, ends_with, shown_code, shown_answer}

-- an input, a signal that is both, and an output; 0 sequence, 1 pause, 2 present, 3 emit, 4 nothing
abbrev program : Program
program = record {
  name = codes "T";
  signals = codes "A" ∷ codes "B" ∷ codes "O" ∷ [];
  inputs = 1;
  both = 1;
  outputs = 1;
  relations = [];
  body = Seq Pause (Present (Sig 0) (Emit 2) Nothing);
}

-- ---- states

selected : selected_of Initial 1 ∷ selected_of (Selecting (λ m. m == 1)) 1 ∷ selected_of (Selecting (λ m. m == 1)) 2 ∷ [] ≡ false ∷ true ∷ false ∷ []
selected = refl

first_instants_select_nothing : SelectsLeaves Initial program.body
first_instants_select_nothing = tt

nothing_is_selected : SelectsLeaves (Selecting (λ m. false)) program.body
nothing_is_selected m e = absurd (differ e)
  where
    differ : false ≡ true → ⊥
    differ e = cc

no_leaf_is_selected : SelectsLeaves (Selecting (λ m. m == 2)) program.body → ⊥
no_leaf_is_selected h = differ (h 2 refl)
  where
    differ : false ≡ true → ⊥
    differ e = cc

-- ---- values and walks

-- the input from the event, the others from their wires
values : map (program_values program (true ∷ true ∷ []) (same_wire (Out 2))) (0 ∷ 1 ∷ 2 ∷ []) ≡ true ∷ false ∷ true ∷ []
values = refl

abbrev later : State
later = Selecting (λ m. m == 1)

emitted : (graph_walk program later (true ∷ false ∷ []) (λ w. false)).signals 2 ∷ (graph_walk program later (false ∷ true ∷ []) (λ w. false)).signals 2
    ∷ (graph_walk program Initial (true ∷ false ∷ []) (λ w. false)).signals 2 ∷ [] ≡ true ∷ false ∷ false ∷ []
emitted = refl

kept : (graph_walk program Initial (true ∷ false ∷ []) (λ w. false)).kept 1 ∷ (graph_walk program later (true ∷ false ∷ []) (λ w. false)).kept 1 ∷ []
    ≡ true ∷ false ∷ []
kept = refl

-- ---- what is shown

ends : map (ends_with (λ w. same_wire w (End 0 Resumed 1) || same_wire w (End 0 (Started 0) 3))) (0 ∷ 1 ∷ 2 ∷ 3 ∷ []) ≡ false ∷ true ∷ false ∷ true ∷ []
ends = refl

codes_shown : shown_code (λ w. same_wire w (End 0 Resumed 1) || same_wire w (End 0 (Started 0) 3)) ∷ shown_code (same_wire (End 0 (Started 0) 2))
    ∷ shown_code (same_wire (End 1 Resumed 2)) ∷ [] ≡ 1 ∷ 2 ∷ 0 ∷ []
unfolding listed codes_below
codes_shown = refl

abbrev shows : Bool → Bool → ShownInstant
shows output paused = record { outputs = output ∷ []; paused = paused }

answers_shown : map (λ k. shown_answer (record { outputs = true ∷ []; code = k })) (0 ∷ 1 ∷ 2 ∷ []) ≡ shows true false ∷ shows true true ∷ shows true false ∷ []
answers_shown = refl

-- ---- a valuation that is that of a walk

what_is_started : (p : Program) (q : State) (event : List Bool) (V : Valuation) → IsWalkOf p q event V
    → StartedWalked V p.body 0 (Started 0) (program_values p event V) (is_initial q)
what_is_started p q event V h = h.started

what_is_resumed : (p : Program) (q : State) (event : List Bool) (V : Valuation) → IsWalkOf p q event V → has_code (resumed_codes p.body) ≡ true
    → ResumedWalked V (selected_of q) p.body 0 (program_values p event V) (holds (selected_of q) p.body 0)
what_is_resumed p q event V h = h.resumed

what_goes_out : (p : Program) (q : State) (event : List Bool) (V : Valuation) → IsWalkOf p q event V
    → All (λ s. V (Out s) ≡ (is_given event s || (graph_walk p q event V).signals s)) (interface_of p).outgoing
what_goes_out p q event V h = h.outputs

what_is_no_wire : (p : Program) (q : State) (event : List Bool) (V : Valuation) → IsWalkOf p q event V
    → (w : Wire) → (Contains (program_wires p) w → ⊥) → V w ≡ false
what_is_no_wire p q event V h = h.others
