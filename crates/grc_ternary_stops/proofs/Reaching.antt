-- Where items lead a runner of a graph, and what the program answers on the way.
use Rattle.std.proofs.Common.{◌≡◌, ℕ, ◌+◌, ◌<◌, Bool, true, false, List, [], ◌∷◌, ◌++◌, Vec, length, map, take, slice_index_or, Option, Some, None}
use Rattle.std.proofs.Common.{if◌then◌else◌, refl, sym, ap, ◌∙◌, subst, append-nil, append_assoc, arith}
use Rattle.std.specs.Prelude.{filter}
use Rattle.std.specs.List.{list_any}
use Rattle.std.specs.declared.alloc.Global.{Global}
use Rattle.std.proofs.lemmas.List.{get_or-map, length-map, map_more}
use Rattle.base_types.specs.Items.{Item, Event, Reset}
use Rattle.est_kernel.specs.Plain.{Program, interface_of, program_of}
use Rattle.est_kernel.specs.Reactions.{Answer, before, goes_on, run_from, run_of}
use Rattle.grc_graph.specs.declared.graph.Graph.{Graph}
use Rattle.grc_graph.specs.BuiltGraphs.{IsGraphOf}
use Rattle.grc_graph.specs.GraphRuns.{PlainGraph, graph_of, next_state, program_wires}
use Rattle.grc_graph.specs.PlainGraphs.{names_of, plain_graph}
use Rattle.grc_graph.specs.Walk.{State, Initial, remaining}
use Rattle.grc_graph.specs.Wires.{Wire}
use Rattle.grc_ternary.specs.LeastSolutions.{IsLeast, true_wires}
use Rattle.grc_ternary.specs.TriRuns.{StopsAt, is_unknown, state_behind, tri_machine}
use Rattle.grc_formulas.specs.Occasions.{state_of}
use Rattle.base_machines.specs.Machines.{Machine, IsRunFrom}
use Rattle.grc_ternary_run.specs.Runners.{IsFresh, Resets, Runner, Steps, program_in, state_in, unknown_wires}
use Rattle.grc_ternary_stops.specs.MarkedWires.{marked_of}
use Rattle.grc_ternary_stops.specs.Reaches.{Reaches, Reacted, Stuck, all_before, answers_from, machine_of}
use Rattle.grc_ternary_stops.specs.Stops.{plain_events}

-- ---- runs of machines, one behind another

run_behind : {X : Type 0} (M : Machine X) (s : M.State) (items : List Item) (xs : List X) (more : List Item) (ys : List X) → IsRunFrom M s items xs
    → IsRunFrom M (state_behind M s items xs) more ys → IsRunFrom M s (items ++ more) (xs ++ ys)
run_behind M s [] [] more ys a b = b
run_behind M s [] (x ∷ xs) more ys a b = absurd a
run_behind M s (Event event ∷ items) [] more ys a b = absurd a
run_behind M s (Event event ∷ items) (x ∷ xs) more ys a b = (a.0, run_behind M (M.next s event x) items xs more ys a.1 b)
run_behind M s (Reset ∷ items) xs more ys a b = run_behind M M.start items xs more ys a b

state_twice : {X : Type 0} (M : Machine X) (s : M.State) (items : List Item) (xs : List X) (more : List Item) (ys : List X) → IsRunFrom M s items xs
    → state_behind M (state_behind M s items xs) more ys ≡ state_behind M s (items ++ more) (xs ++ ys)
state_twice M s [] [] more ys a = refl
state_twice M s [] (x ∷ xs) more ys a = absurd a
state_twice M s (Event event ∷ items) [] more ys a = absurd a
state_twice M s (Event event ∷ items) (x ∷ xs) more ys a = state_twice M (M.next s event x) items xs more ys a.1
state_twice M s (Reset ∷ items) xs more ys a = state_twice M M.start items xs more ys a

-- ---- answers, some before others

before_all : (some others : List Answer) (later : Option (List Answer)) → all_before (some ++ others) later ≡ all_before some (all_before others later)
before_all [] others later = refl
before_all (a ∷ some) others later = ap (before a) (before_all some others later)

before_none : (some : List Answer) → all_before some None ≡ None
before_none [] = refl
before_none (a ∷ some) = ap (before a) (before_none some)

pub before_some : (some others : List Answer) → all_before some (Some others) ≡ Some (some ++ others)
before_some [] others = refl
before_some (a ∷ some) others = ap (before a) (before_some some others)

-- ---- where items lead

pub reaches_nowhere : (r : Runner) → Reaches r [] [] r
reaches_nowhere r = record { graph = refl; told = λ more. refl; instants = []; run = tt; state = refl }

pub reaches_more : (r s t : Runner) (items more : List Item) (first others : List Answer) → Reaches r items first s → Reaches s more others t
    → Reaches r (items ++ more) (first ++ others) t
reaches_more r s t items more first others a b =
    let M = machine_of r in
    let q = state_behind M (state_in r) items a.instants in
    let run = subst (λ x. IsRunFrom M x more b.instants) a.state
    (subst (λ (g : Graph). IsRunFrom (tri_machine (plain_graph g)) (state_in s) more b.instants) a.graph b.run) in
    record {
      graph = b.graph ∙ a.graph;
      told = λ rest.
          ap (answers_from r) (append_assoc items more rest) ∙ a.told (more ++ rest) ∙ ap (all_before first) (b.told rest)
          ∙ sym (before_all first others (answers_from t rest));
      instants = a.instants ++ b.instants;
      run = run_behind M (state_in r) items a.instants more b.instants a.run run;
      state =
          b.state ∙ ap (λ (g : Graph). state_behind (tri_machine (plain_graph g)) (state_in s) more b.instants) a.graph
          ∙ ap (λ x. state_behind M x more b.instants) a.state
          ∙ state_twice M (state_in r) items a.instants more b.instants a.run;
    }

-- the first state
pub fresh_state : (r : Runner) → IsFresh r → state_in r ≡ Initial
fresh_state r fresh = ap (λ b. state_of (plain_graph r.graph).leaves b r.selected) fresh.boot

pub reaches_reset : (old new : Runner) → Resets old new → Reaches old (Reset ∷ []) [] new
reaches_reset old new back =
    let first = fresh_state new back.fresh in
    record {
      graph = back.same;
      told = λ more.
          sym (ap (λ q. run_from (interface_of (program_in new)) (program_in new).body (remaining q (program_in new).body) more) first
          ∙ ap (λ (g : Graph).
          run_from (interface_of (program_of g.program)) (program_of g.program).body (program_of g.program).body more) back.same);
      instants = [];
      run = tt;
      state = first;
    }

-- the state behind a step
step_state : (old new : Runner) (event : List Bool) (paused : Bool) (s : Steps old event paused new)
    → state_in new ≡ next_state (plain_graph old.graph) (state_in old) event (true_wires s.statuses)
step_state old new event paused s = λ i. state_of (plain_graph (s.graph i)).leaves (s.later i) (s.next i)

pub reaches_event : (old new : Runner) (event : List Bool) (paused : Bool) (re : Reacted old event paused new)
    → Reaches old (Event event ∷ []) (re.reacts.reaction.answer ∷ []) new
reaches_event old new event paused re =
    let x = re.reacts.reaction in
    let back = sym re.reacts.graph in
    record {
      graph = re.reacts.graph;
      told = λ more.
          ap (λ o. goes_on o (λ r. run_from (interface_of (program_in old)) (program_in old).body r more)) re.reacts.is
          ∙ (λ i. before x.answer (run_from (interface_of (program_of (back i).program)) (program_of (back i).program).body (re.reacts.residual i) more));
      instants = re.steps.statuses ∷ [];
      run = ((re.steps.least, re.steps.known), tt);
      state = step_state old new event paused re.steps;
    }

-- the wires at the marks of those that pass a test
marked_filtered : (test : Wire → Bool) (wires : List Wire) → marked_of (map test wires) wires ≡ filter test wires
marked_filtered test [] = refl
marked_filtered test (w ∷ wires) = by (test w) (marked_filtered test wires)
  where
    by : (b : Bool) → marked_of (map test wires) wires ≡ filter test wires
        → marked_of (b ∷ map test wires) (w ∷ wires) ≡ (if b then w ∷ filter test wires else filter test wires)
    by true h = ap (λ l. w ∷ l) h
    by false h = h

some_filtered : (test : Wire → Bool) (wires : List Wire) → list_any (λ b. b) (map test wires) ≡ true → 0 < length (filter test wires)
some_filtered test [] e = cc
some_filtered test (w ∷ wires) e = by (test w) (some_filtered test wires) e
  where
    by : (b : Bool) → (list_any (λ x. x) (map test wires) ≡ true → 0 < length (filter test wires)) → list_any (λ x. x) (b ∷ map test wires) ≡ true
        → 0 < length (if b then w ∷ filter test wires else filter test wires)
    by true more e = omega arith
    by false more e = more e

-- what a program's run answers, over the items that led its runner from the beginning
run_reached : (g : Graph) (old last : Runner) (items : List Item) (answers : List Answer) → old.graph ≡ g → state_in old ≡ Initial
    → Reaches old items answers last
    → (more : List Item) → run_of (program_of g.program) (items ++ more) ≡ all_before answers (answers_from last more)
run_reached g old last items answers same first reaches more =
    (λ i. run_from (interface_of (program_of (sym same i).program)) (program_of (sym same i).program).body
    (remaining (sym first i) (program_of (sym same i).program).body) (items ++ more)) ∙ reaches.told more

pub answers_reached : (g : Graph) (old last : Runner) (items : List Item) (answers : List Answer) → old.graph ≡ g → state_in old ≡ Initial
    → Reaches old items answers last → run_of (program_of g.program) items ≡ Some answers
answers_reached g old last items answers same first reaches =
    ap (run_of (program_of g.program)) (sym (append-nil items)) ∙ run_reached g old last items answers same first reaches [] ∙ before_some answers []
    ∙ ap Some (append-nil answers)

-- the program of a runner that items led to an event to which it does not react
pub stopped : (g : Graph) (old last new : Runner) (items : List Item) (answers : List Answer) (event : List Bool) → IsGraphOf g (program_of g.program)
    → old.graph ≡ g → state_in old ≡ Initial → Reaches old items answers last → Stuck last event new
    → (s : StopsAt (program_of g.program) items event (marked_of new.unknown (names_of g))) × (s.answers ≡ answers)
stopped g old last new items answers event is same first reaches stuck =
    let p = program_of g.program in
    let T = stuck.stays.statuses in
    let whose : last.graph ≡ g = reaches.graph ∙ same in
    let marks : new.unknown ≡ map (λ w. is_unknown (T w)) (names_of g) = stuck.stays.marks ∙ ap (λ x. unknown_wires x T) whose in
    let left : marked_of new.unknown (names_of g) ≡ filter (λ w. is_unknown (T w)) (program_wires p) = ap (λ l. marked_of l (names_of g)) marks
    ∙ marked_filtered (λ w. is_unknown (T w)) (names_of g) ∙ ap (filter (λ w. is_unknown (T w))) is.wires in
    let plain : plain_graph old.graph ≡ graph_of p = ap plain_graph same ∙ is.graph in
    let none : answers_from last (Event event ∷ []) ≡ None =
    ap (λ x. goes_on x (λ r. run_from (interface_of (program_in last)) (program_in last).body r [])) stuck.none.none in
    let state : state_in last ≡ state_behind (tri_machine (graph_of p)) Initial items reaches.instants =
    reaches.state ∙ ap (λ (G : PlainGraph). state_behind (tri_machine G) (state_in old) items reaches.instants) plain
    ∙ ap (λ (q : State). state_behind (tri_machine (graph_of p)) q items reaches.instants) first in (
      record {
        answers = answers;
        constructive = answers_reached g old last items answers same first reaches;
        stops = run_reached g old last items answers same first reaches (Event event ∷ []) ∙ ap (all_before answers) none ∙ before_none answers;
        instants = reaches.instants;
        run = subst (λ (G : PlainGraph). IsRunFrom (tri_machine G) Initial items reaches.instants) plain
            (subst (λ (q : State). IsRunFrom (machine_of old) q items reaches.instants) first reaches.run);
        statuses = T;
        least = subst (λ (q : State). IsLeast (graph_of p) q event T) state
            (subst (λ (G : PlainGraph). IsLeast G (state_in last) event T) (ap plain_graph whose ∙ is.graph) stuck.stays.least);
        left = left;
        some = subst (λ ws. 0 < length ws) (sym left) (subst (λ ws. 0 < length (filter (λ w. is_unknown (T w)) ws)) is.wires
            (some_filtered (λ w. is_unknown (T w)) (names_of g) (sym (ap (list_any (λ b. b)) marks) ∙ stuck.stays.some)));
      },
      refl,
    )

-- ---- events of a list

-- an event of a list by its place
pub event-at : (events : List (Vec Bool Global)) (k : ℕ) (e : Vec Bool Global) → k < length events → e ≡ slice_index_or events k e
    → e.items ≡ slice_index_or (plain_events events) k []
event-at events k e low is =
    ap (λ (x : Vec Bool Global). x.items) is ∙ sym (get_or-map (λ (x : Vec Bool Global). x.items) events k e [] low)

pub one-event-more : (old s t : Runner) (events : List (Vec Bool Global)) (k : ℕ) (e : List Bool) (answers more : List Answer) → k < length events
    → e ≡ slice_index_or (plain_events events) k [] → Reaches old (map Event (take k (plain_events events))) answers s
    → Reaches s (Event e ∷ []) more t → Reaches old (map Event (take (k + 1) (plain_events events))) (answers ++ more) t
one-event-more old s t events k e answers more low is a b =
    let plain : List (List Bool) = plain_events events in
    let inside : k < length plain = omega (arith, length-map events (λ (x : Vec Bool Global). x.items)) in
    let items : map Event (take k plain) ++ Event e ∷ [] ≡ map Event (take (k + 1) plain) =
    ap (λ x. map Event (take k plain) ++ Event x ∷ []) is ∙ sym (map_more Event plain k [] inside) in
    subst (λ l. Reaches old l (answers ++ more) t) items (reaches_more old s t (map Event (take k plain)) (Event e ∷ []) answers more a b)
