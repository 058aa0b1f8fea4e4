-- Each premise of the laws is needed: for each, a program that keeps all the others and for which the conclusion fails.
-- Values and ranks stand in the order of the program's wires.
use Rattle.std.proofs.Common.{◌≡◌, ℕ, Bool, true, false, not, ◌==◌, ◌&&◌, ◌||◌, List, [], ◌∷◌, length, Option, Some, None, refl, sym, ap, ◌∙◌, arith}
use Rattle.std.specs.List.{All}
use Rattle.std.proofs.lemmas.Bool.{false≢true}
use Rattle.std.proofs.lemmas.List.Elements.{All-nil}
use Rattle.base_types.specs.declared.place.Span.{Span}
use Rattle.base_types.specs.Items.{Item, Event, EachEvent}
use Rattle.est_kernel.specs.Terms.{Expression, Tick, Sig, Term, Nothing, Pause, Emit, Exit, Present, Suspend, Seq, Loop, Par, Local, Awake}
use Rattle.est_kernel.specs.Plain.{Program, interface_of, given_count}
use Rattle.est_kernel.specs.Reactions.{Answer, Reaction, react, run_of}
use Rattle.est_kernel.specs.StaticCodes.{NoInstantLoop}
use Rattle.est_kernel.specs.WellFormed.{IsWellFormed, RelatesGiven}
use Rattle.est_kernel.specs.WellFormed as programs
use Rattle.grc_graph.specs.Wires.{Wire, Out, Go, StatusOf, listed, codes_below}
use Rattle.grc_graph.specs.Formulas.{Boot}
use Rattle.grc_graph.specs.Equations.{Equation}
use Rattle.grc_graph.specs.Edges.{edge}
use Rattle.grc_graph.specs.Orders.{GoUp}
use Rattle.grc_graph.specs.Residuals.{resumption}
use Rattle.grc_graph.specs.Walk.{State, Initial, Selecting, remaining}
use Rattle.grc_graph.specs.Selected.{HasExitCodes, IsState}
use Rattle.grc_graph.specs.Readings.{Valuation}
use Rattle.grc_graph.specs.GraphRuns.{SolvesGraph, IsGraphRun, shown, graph_of, next_state}
use Rattle.grc_solutions.specs.GraphWires.{program_edges}
use Rattle.grc_solutions_laws.specs.GraphWalks.{graph_walk, selected_of}
use Rattle.grc_solutions.proofs.Exports.{start, by_values, solved_by, rank_in, go_up}
use Rattle.grc_solutions.proofs.Examples as examples

-- a program whose signals have names of no letters
abbrev program : (inputs outputs : ℕ) (signals : List (List ℕ)) → Term → Program
program inputs outputs signals body = record {
  name = [];
  signals = signals;
  inputs = inputs;
  both = 0;
  outputs = outputs;
  relations = [];
  body = body;
}

abbrev here : Span
here = record { start = 0; end = 0 }

-- the conclusion of `solutions_react`
abbrev Reacts : Program → State → List Bool → Valuation → Type 0
Reacts p q event V =
    react (interface_of p) (remaining q p.body) event
    ≡ Some (record {
      answer = record { outputs = (shown (graph_of p) V).outputs; code = (graph_walk p q event V).code };
      residual = resumption (graph_walk p q event V).kept p.body;
    })

no_reaction : {x : Reaction} → None ≡ Some x → ⊥
no_reaction e = cc

abbrev paused_in : Option Reaction → Bool
paused_in None = false
paused_in (Some x) = x.answer.code == 1

abbrev left_in : Option Reaction → Term
left_in None = Nothing
left_in (Some x) = x.residual

abbrev first_of : List Bool → Bool
first_of [] = false
first_of (b ∷ bs) = b

abbrev output_in : Option Reaction → Bool
output_in None = false
output_in (Some x) = first_of x.answer.outputs

no_relations : (given : ℕ) → All (RelatesGiven given) []
no_relations given = All-nil (RelatesGiven given)

-- ---- ranks

-- signal S in present S then emit S end end: each status of S solves the graph, and no reaction is constructive
abbrev two_statuses : Program
two_statuses = program 0 0 ([] ∷ []) (Local 0 (Present (Sig 0) (Emit 0) Nothing))

two_statuses_formed : IsWellFormed two_statuses
two_statuses_formed = record {
  body = record { size = omega arith; height = omega arith; traps = omega arith; exits = (tt, tt) };
  at_most = omega arith;
  interface = omega arith;
  signals = (omega arith, omega arith, (refl, (refl, omega arith), tt));
  relations = no_relations _;
}

abbrev ReactsWithoutRanks : Type 0
ReactsWithoutRanks =
    (p : Program) (q : State) (event : List Bool) (V : Valuation)
    → IsWellFormed p → programs.IsKernel p.body → NoInstantLoop p.body → IsState q p.body
    → length event ≡ given_count p → SolvesGraph (graph_of p) q event V → Reacts p q event V

ranks_needed : ReactsWithoutRanks → ⊥
unfolding listed codes_below
ranks_needed law =
    no_reaction
    (law two_statuses Initial [] (by_values two_statuses examples.present) two_statuses_formed (tt, tt) refl tt refl
    (solved_by two_statuses Initial [] examples.present (refl, (refl, (refl, (refl, (refl, (refl, (refl, (refl, (refl, tt)))))))))))

-- signal S in present S then emit S else emit S end end: one status of S solves the graph, and still no reaction is
-- constructive
abbrev one_status : Program
one_status = program 0 0 ([] ∷ []) (Local 0 (Present (Sig 0) (Emit 0) (Emit 0)))

one_status_solves : SolvesGraph (graph_of one_status) Initial [] (by_values one_status examples.present)
unfolding listed codes_below
one_status_solves =
    solved_by one_status Initial [] examples.present (refl, (refl, (refl, (refl, (refl, (refl, (refl, (refl, (refl, tt)))))))))

emitted_either_way : (s : Bool) → s ≡ (s || not s) → s ≡ true
emitted_either_way true e = refl
emitted_either_way false e = e

one_status_alone : (V : Valuation) → SolvesGraph (graph_of one_status) Initial [] V → V (StatusOf 0 start) ≡ true
unfolding listed codes_below
one_status_alone V s =
    let d : Equation = record { wire = Out 0; formula = Boot } in
    let runs = s.met 3 d (omega arith) ∙ s.met 0 d (omega arith) in
    emitted_either_way (V (StatusOf 0 start))
    (s.met 1 d (omega arith)
    ∙ ap (λ b. b || V (Go 3 start)) (s.met 5 d (omega arith) ∙ ap (λ b. b && V (StatusOf 0 start)) runs)
    ∙ ap (λ b. V (StatusOf 0 start) || b) (s.met 7 d (omega arith) ∙ ap (λ b. b && not (V (StatusOf 0 start))) runs))

one_status_does_not_react : react (interface_of one_status) one_status.body [] ≡ None
one_status_does_not_react = refl

-- signal S in present S else emit S end end: no status of S solves the graph, and no reaction is constructive
abbrev no_status : Program
no_status = program 0 0 ([] ∷ []) (Local 0 (Present (Sig 0) Nothing (Emit 0)))

no_status_formed : IsWellFormed no_status
no_status_formed = record {
  body = record { size = omega arith; height = omega arith; traps = omega arith; exits = (tt, tt) };
  at_most = omega arith;
  interface = omega arith;
  signals = (omega arith, omega arith, (refl, tt, (refl, omega arith)));
  relations = no_relations _;
}

abbrev RunsWithoutRanks : Type 0
RunsWithoutRanks =
    (p : Program)
    → IsWellFormed p → programs.IsKernel p.body → NoInstantLoop p.body
    → (items : List Item) → EachEvent (λ event. length event ≡ given_count p) items
    → (answers : List Answer) × (Vs : List Valuation) × (run_of p items ≡ Some answers) × IsGraphRun (graph_of p) Initial items Vs

no_answers : {xs : List Answer} → None ≡ Some xs → ⊥
no_answers e = cc

ranks_needed_for_runs : RunsWithoutRanks → ⊥
ranks_needed_for_runs law = no_answers (law no_status no_status_formed (tt, tt) refl (Event [] ∷ []) (refl, tt)).2

-- input A; signal S, T in present A then present S then emit T end else present T then emit S end end end: every reaction
-- is constructive, and still the edges go up in no rank. Of such a program the laws say nothing.
abbrev cyclic : Program
cyclic =
    program 1 0 ([] ∷ [] ∷ [] ∷ [])
    (Local 1 (Local 2 (Present (Sig 0) (Present (Sig 1) (Emit 2) Nothing) (Present (Sig 2) (Emit 1) Nothing))))

abbrev over : Reaction
over = record { answer = record { outputs = []; code = 0 }; residual = Nothing }

cyclic_reacts : react (interface_of cyclic) cyclic.body (false ∷ []) ≡ Some over
cyclic_reacts = refl

cyclic_reacts_with_input : react (interface_of cyclic) cyclic.body (true ∷ []) ≡ Some over
cyclic_reacts_with_input = refl

-- S lets the first branch run, which emits T, which lets the second run, which emits S
cyclic_goes_round : (rank : Wire → ℕ) → GoUp rank (program_edges cyclic) → ⊥
unfolding listed codes_below
cyclic_goes_round rank up =
    let a = up (edge (StatusOf 0 start) (Go 4 start)) (10, omega arith, refl) in
    let b = up (edge (Go 4 start) (StatusOf 1 start)) (15, omega arith, refl) in
    let c = up (edge (StatusOf 1 start) (Go 7 start)) (19, omega arith, refl) in
    let d = up (edge (Go 7 start) (StatusOf 0 start)) (24, omega arith, refl) in
    omega (arith, a, b, c, d)

-- ---- loops

-- loop nothing end: the graph has a solution and ranks, and the step has none
abbrev looping : Program
looping = program 0 0 [] (Loop here Nothing)

looping_formed : IsWellFormed looping
looping_formed = record {
  body = record { size = omega arith; height = omega arith; traps = omega arith; exits = tt };
  at_most = omega arith;
  interface = omega arith;
  signals = tt;
  relations = no_relations _;
}

abbrev ReactsWithInstantLoops : Type 0
ReactsWithInstantLoops =
    (p : Program) (q : State) (event : List Bool) (V : Valuation) (rank : Wire → ℕ)
    → IsWellFormed p → programs.IsKernel p.body → IsState q p.body
    → GoUp rank (program_edges p) → length event ≡ given_count p → SolvesGraph (graph_of p) q event V → Reacts p q event V

loops_needed : ReactsWithInstantLoops → ⊥
unfolding listed codes_below
loops_needed law =
    no_reaction
    (law looping Initial [] (by_values looping (true ∷ true ∷ true ∷ [])) (rank_in looping (0 ∷ 1 ∷ 2 ∷ [])) looping_formed tt tt
    (go_up looping (0 ∷ 1 ∷ 2 ∷ []) refl) refl
    (solved_by looping Initial [] (true ∷ true ∷ true ∷ []) (refl, (refl, (refl, tt)))))

-- ---- well-formed programs

abbrev ReactsWithoutForm : Type 0
ReactsWithoutForm =
    (p : Program) (q : State) (event : List Bool) (V : Valuation) (rank : Wire → ℕ)
    → programs.IsKernel p.body → NoInstantLoop p.body → IsState q p.body
    → GoUp rank (program_edges p) → length event ≡ given_count p → SolvesGraph (graph_of p) q event V → Reacts p q event V

-- An exit with code 1 counts as a pause. Round it a suspension stays under way, where no pause is selected.
abbrev exits_with_one : Program
exits_with_one = program 0 0 [] (Suspend Tick (Exit 1))

not_awake : {e : Expression} {t : Term} → Awake e t ≡ Nothing → ⊥
not_awake h = cc

exits_needed : ReactsWithoutForm → ⊥
unfolding listed codes_below
exits_needed law =
    not_awake
    (ap left_in
    (law exits_with_one Initial [] (by_values exits_with_one (true ∷ true ∷ true ∷ true ∷ [])) (rank_in exits_with_one (0 ∷ 3 ∷ 1 ∷ 2 ∷ []))
    tt refl tt (go_up exits_with_one (0 ∷ 3 ∷ 1 ∷ 2 ∷ []) refl) refl
    (solved_by exits_with_one Initial [] (true ∷ true ∷ true ∷ true ∷ []) (refl, (refl, (refl, (refl, tt)))))))

-- The values of the wires of a test at the start, where the signal is absent, and their ranks.
abbrev tested : List Bool
tested = true ∷ true ∷ false ∷ false ∷ true ∷ true ∷ []

abbrev test_ranks : List ℕ
test_ranks = 0 ∷ 3 ∷ 1 ∷ 2 ∷ 1 ∷ 2 ∷ []

-- A test of a signal that nothing binds: the graph reads it as absent, and the reaction does not know it.
abbrev unbound : Program
unbound = program 0 0 [] (Present (Sig 0) Nothing Nothing)

signals_needed : ReactsWithoutForm → ⊥
unfolding listed codes_below
signals_needed law =
    no_reaction
    (law unbound Initial [] (by_values unbound tested) (rank_in unbound test_ranks) (tt, tt) refl tt
    (go_up unbound test_ranks refl) refl
    (solved_by unbound Initial [] tested (refl, (refl, (refl, (refl, (refl, (refl, tt))))))))

-- ---- events of the right width

abbrev ReactsToAnyWidth : Type 0
ReactsToAnyWidth =
    (p : Program) (q : State) (event : List Bool) (V : Valuation) (rank : Wire → ℕ)
    → IsWellFormed p → programs.IsKernel p.body → NoInstantLoop p.body → IsState q p.body
    → GoUp rank (program_edges p) → SolvesGraph (graph_of p) q event V → Reacts p q event V

-- input A; present A then nothing end: an event that says nothing of A
abbrev testing : Program
testing = program 1 0 ([] ∷ []) (Present (Sig 0) Nothing Nothing)

testing_formed : IsWellFormed testing
testing_formed = record {
  body = record { size = omega arith; height = omega arith; traps = omega arith; exits = (tt, tt) };
  at_most = omega arith;
  interface = omega arith;
  signals = (refl, tt, tt);
  relations = no_relations _;
}

width_needed : ReactsToAnyWidth → ⊥
unfolding listed codes_below
width_needed law =
    no_reaction
    (law testing Initial [] (by_values testing tested) (rank_in testing test_ranks) testing_formed (tt, tt) refl tt
    (go_up testing test_ranks refl)
    (solved_by testing Initial [] tested (refl, (refl, (refl, (refl, (refl, (refl, tt))))))))

-- ---- kernels

abbrev ReactsWithAwake : Type 0
ReactsWithAwake =
    (p : Program) (q : State) (event : List Bool) (V : Valuation) (rank : Wire → ℕ)
    → IsWellFormed p → NoInstantLoop p.body → IsState q p.body
    → GoUp rank (program_edges p) → length event ≡ given_count p → SolvesGraph (graph_of p) q event V → Reacts p q event V

-- a suspension that is under way before the first instant: it is held, and the graph knows no such start
abbrev under_way : Program
under_way = program 0 0 [] (Awake Tick Nothing)

under_way_formed : IsWellFormed under_way
under_way_formed = record {
  body = record { size = omega arith; height = omega arith; traps = omega arith; exits = tt };
  at_most = omega arith;
  interface = omega arith;
  signals = (tt, tt);
  relations = no_relations _;
}

abbrev under_way_values : List Bool
under_way_values = false ∷ false ∷ true ∷ true ∷ false ∷ false ∷ true ∷ true ∷ []

abbrev under_way_ranks : List ℕ
under_way_ranks = 0 ∷ 0 ∷ 0 ∷ 0 ∷ 0 ∷ 0 ∷ 0 ∷ 1 ∷ []

kernels_needed : ReactsWithAwake → ⊥
unfolding listed codes_below
kernels_needed law =
    false≢true
    (sym
    (ap paused_in
    (law under_way Initial [] (by_values under_way under_way_values) (rank_in under_way under_way_ranks) under_way_formed refl tt
    (go_up under_way under_way_ranks refl) refl
    (solved_by under_way Initial [] under_way_values (refl, (refl, (refl, (refl, (refl, (refl, (refl, (refl, tt))))))))))))

-- ---- states

abbrev ReactsInAnySelection : Type 0
ReactsInAnySelection =
    (p : Program) (q : State) (event : List Bool) (V : Valuation) (rank : Wire → ℕ)
    → IsWellFormed p → programs.IsKernel p.body → NoInstantLoop p.body
    → GoUp rank (program_edges p) → length event ≡ given_count p → SolvesGraph (graph_of p) q event V → Reacts p q event V

-- output O; [pause || loop pause end]; emit O, where the first pause alone is selected. The parallel is over, but its
-- second branch never ends, so the graph has no emission.
abbrev half : Program
half = program 0 1 ([] ∷ []) (Seq (Par Pause (Loop here Pause)) (Emit 0))

half_formed : IsWellFormed half
half_formed = record {
  body = record { size = omega arith; height = omega arith; traps = omega arith; exits = ((tt, tt), tt) };
  at_most = omega arith;
  interface = omega arith;
  signals = ((tt, tt), (refl, omega arith));
  relations = no_relations _;
}

abbrev first_pause : State
first_pause = Selecting (λ m. m == 2)

abbrev half_values : List Bool
half_values =
    false ∷ true ∷ false ∷ false ∷ false ∷ true ∷ false ∷ false ∷ false ∷ true ∷ true ∷ false ∷ false ∷ false ∷ false ∷ false
    ∷ false ∷ false ∷ false ∷ false ∷ false ∷ false ∷ false ∷ []

abbrev half_ranks : List ℕ
half_ranks = 0 ∷ 0 ∷ 9 ∷ 0 ∷ 7 ∷ 1 ∷ 8 ∷ 1 ∷ 6 ∷ 2 ∷ 3 ∷ 2 ∷ 3 ∷ 2 ∷ 7 ∷ 2 ∷ 5 ∷ 3 ∷ 4 ∷ 3 ∷ 4 ∷ 5 ∷ 6 ∷ []

states_needed : ReactsInAnySelection → ⊥
unfolding listed codes_below
states_needed law =
    false≢true
    (sym
    (ap output_in
    (law half first_pause [] (by_values half half_values) (rank_in half half_ranks) half_formed ((tt, tt), tt) refl
    (go_up half half_ranks refl) refl
    (solved_by half first_pause [] half_values (
      refl,
      (
        refl,
        (
          refl,
          (
            refl,
            (
              refl,
              (
                refl,
                (
                  refl,
                  (
                    refl,
                    (
                      refl,
                      (
                        refl,
                        (
                          refl,
                          (
                            refl,
                            (
                              refl,
                              (
                                refl,
                                (refl, (refl, (refl, (refl, (refl, (refl, (refl, (refl, (refl, tt))))))))),
                              ),
                            ),
                          ),
                        ),
                      ),
                    ),
                  ),
                ),
              ),
            ),
          ),
        ),
      ),
    )))))

-- suspend pause; nothing when tick, where the number of the nothing is selected too: what is held is kept by number, and
-- the next state has leaves alone
abbrev held : Program
held = program 0 0 [] (Suspend Tick (Seq Pause Nothing))

abbrev pause_and_more : State
pause_and_more = Selecting (λ m. m == 2 || m == 3)

abbrev held_values : List Bool
held_values =
    true ∷ false ∷ true ∷ false ∷ false ∷ false ∷ false ∷ false ∷ false ∷ false ∷ false ∷ false ∷ false ∷ false ∷ false ∷ []

abbrev KeepsAnySelection : Type 0
KeepsAnySelection =
    (p : Program) (q : State) (event : List Bool) (V : Valuation)
    → HasExitCodes p.body → NoInstantLoop p.body → IsState q p.body → SolvesGraph (graph_of p) q event V
    → (m : ℕ) → selected_of (next_state (graph_of p) q event V) m ≡ (graph_walk p q event V).kept m

leaves_needed : KeepsAnySelection → ⊥
unfolding listed codes_below
leaves_needed law =
    false≢true
    (law held pause_and_more [] (by_values held held_values) (tt, tt) refl (λ h. (refl, (λ i. tt), (λ i. absurd (false≢true i))))
    (solved_by held pause_and_more [] held_values
    (refl, (refl, (refl, (refl, (refl, (refl, (refl, (refl, (refl, (refl, (refl, (refl, (refl, (refl, (refl, tt))))))))))))))))
    3)
