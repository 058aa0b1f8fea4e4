-- What a step of a runner is for the program whose graph it runs: the least solution of its graph is its reaction.
use Rattle.std.proofs.Common.{◌≡◌, Bool, true, false, ◌==◌, ◌||◌, List, [], ◌∷◌, length, map, refl, sym, ap, ◌∙◌, subst, Some}
use Rattle.std.proofs.Common.{None, Result, Ok, Err}
use Rattle.std.specs.Prelude.{Option, IfErr, IfOk}
use Rattle.std.specs.List.{list_any}
use Rattle.std.proofs.lemmas.Bool.{false≢true}
use Rattle.est_kernel.specs.Plain.{given_count, interface_of, program_of}
use Rattle.est_kernel.specs.Reactions.{Reaction, react}
use Rattle.est_kernel.specs.StaticCodes.{NoInstantLoop}
use Rattle.est_kernel.specs.Statuses.{known}
use Rattle.est_kernel.specs.WellFormed.{IsWellFormed}
use Rattle.est_kernel.specs.WellFormed as programs
use Rattle.est_kernel.specs.Terms.{Term}
use Rattle.est_kernel.proofs.Exports.{below_meets}
use Rattle.grc_graph.specs.BuiltGraphs.{IsGraphOf}
use Rattle.grc_graph.specs.GraphRuns.{PlainGraph, formula_value, graph_of, next_state, shown}
use Rattle.grc_graph.specs.PlainGraphs.{names_of, plain_graph}
use Rattle.grc_graph.specs.Selected.{IsState}
use Rattle.grc_graph.specs.SelectionTrees.{selecting}
use Rattle.grc_graph.specs.Walk.{State, Selecting, remaining}
use Rattle.grc_graph.specs.Wires.{Wire}
use Rattle.grc_solutions_laws.specs.GraphWalks.{SelectsLeaves, shown_code}
use Rattle.grc_solutions_laws.proofs.Exports.{codes_are_shown_lem, next_state_is_kept_lem, program_kernel}
use Rattle.grc_formulas.specs.Occasions.{state_of}
use Rattle.grc_ternary.specs.LeastSolutions.{IsKnown, IsLeast, Statuses, true_wires}
use Rattle.grc_ternary.specs.TriRuns.{is_unknown}
use Rattle.grc_ternary.proofs.Exports.{known_reacts_lem, reacts_known_lem}
use Rattle.grc_ternary_run.specs.Runners.{IsFresh, IsStuck, Runner, Stays, Steps, TriReacts, program_in, state_in, unknown_wires}
use Rattle.grc_ternary_run.specs.States.{KeepsProgram}
use Rattle.grc_ternary_run.specs.declared.state.NotConstructive.{NotConstructive}

-- a step is a reaction of the program
reacts-from : (old new : Runner) (inputs : List Bool) (paused : Bool) → KeepsProgram old → length inputs ≡ given_count (program_in old)
    → Steps old inputs paused new
    → TriReacts old inputs paused new
reacts-from old new inputs paused runs width s =
    let p = program_in old in
    let q = state_in old in
    let V = true_wires s.statuses in
    let least = subst (λ g. IsLeast g q inputs s.statuses) runs.graph.graph s.least in
    let r = known_reacts_lem p q inputs s.statuses runs.formed runs.kernel runs.no_loop runs.state runs.leaves width least s.known in
    let kernel = program_kernel p runs.formed runs.kernel in
    let kept = next_state_is_kept_lem p q inputs V kernel runs.no_loop runs.state runs.leaves r.0 in
    let code = codes_are_shown_lem p q inputs V kernel runs.no_loop runs.state r.0 in
    let next : state_in new ≡ next_state (graph_of p) q inputs V =
    (λ i. state_of (plain_graph (s.graph i)).leaves (s.later i) (s.next i))
    ∙ ap (λ (g : PlainGraph). Selecting (selecting g.leaves (map (formula_value g q inputs V) g.next))) runs.graph.graph in
    let body : (program_in new).body ≡ p.body = ap (λ g. (program_of g.program).body) s.graph in
    record {
      reaction = record {
        answer = record { outputs = (shown (graph_of p) V).outputs; code = shown_code V };
        residual = remaining (next_state (graph_of p) q inputs V) p.body;
      };
      is = r.1;
      outputs = s.outputs ∙ ap (λ (g : PlainGraph). (shown g V).outputs) runs.graph.graph;
      paused_is = s.paused_is ∙ ap (λ (g : PlainGraph). (shown g V).paused) runs.graph.graph ∙ kept.3 ∙ ap (λ k. k == 1) (sym code);
      residual = λ i. remaining (sym next i) (sym body i);
      state = subst (λ b. IsState (state_in new) b) (sym body) (subst (λ x. IsState x p.body) (sym next) kept.1);
      leaves = subst (λ b. SelectsLeaves (state_in new) b) (sym body) (subst (λ x. SelectsLeaves x p.body) (sym next) kept.2);
      graph = s.graph;
      settled = s.settled;
    }

-- two least solutions are the same
same-least : (g : PlainGraph) (q : State) (event : List Bool) (T U : Statuses) → IsLeast g q event T → IsLeast g q event U → T ≡ U
same-least g q event T U a b =
    let each : (w : Wire) → T w ≡ U w = λ w. below_meets (T w) (U w) (a.least U b.solves w) (b.least T a.solves w) in
    λ i w. each w i

none-unknown : (T : Statuses) → IsKnown T → (ws : List Wire) → list_any (λ b. b) (map (λ w. is_unknown (T w)) ws) ≡ false
none-unknown T known_all [] = refl
none-unknown T known_all (w ∷ ws) =
    let k = known_all w in
    ap (λ b. b || list_any (λ x. x) (map (λ w. is_unknown (T w)) ws)) (ap is_unknown k.1 ∙ by k.0) ∙ none-unknown T known_all ws
  where
    by : (b : Bool) → is_unknown (known b) ≡ false
    by true = refl
    by false = refl

-- where the runner stays, the program does not react
stuck-from : (old new : Runner) (inputs : List Bool) → KeepsProgram old → length inputs ≡ given_count (program_in old) → Stays old inputs new
    → IsStuck old inputs new
stuck-from old new inputs runs width s = record {
  none = by (react (interface_of (program_in old)) (remaining (state_in old) (program_in old).body) inputs) refl;
  marks = λ T l. s.marks ∙ (λ i. unknown_wires old.graph (same-least (graph_of (program_in old)) (state_in old) inputs s.statuses T least l i))
      ∙ ap (map (λ w. is_unknown (T w))) runs.graph.wires;
  some = s.some;
  same = s.same;
}
  where
    least : IsLeast (graph_of (program_in old)) (state_in old) inputs s.statuses
    least = subst (λ g. IsLeast g (state_in old) inputs s.statuses) runs.graph.graph s.least

    by : (o : Option Reaction) → react (interface_of (program_in old)) (remaining (state_in old) (program_in old).body) inputs ≡ o
        → react (interface_of (program_in old)) (remaining (state_in old) (program_in old).body) inputs ≡ None
    by None e = e
    by (Some x) e =
        let known_all = reacts_known_lem (program_in old) (state_in old) inputs s.statuses x
        runs.formed runs.kernel runs.no_loop runs.state runs.leaves width least e in
        absurd (false≢true (sym (none-unknown s.statuses known_all (names_of old.graph)) ∙ ap (list_any (λ b. b)) (sym s.marks) ∙ s.some))

-- a fresh runner of the graph of a program keeps what its reactions need
pub keeps-fresh : (r : Runner) → IsFresh r → IsWellFormed (program_in r) → programs.IsKernel (program_in r).body → NoInstantLoop (program_in r).body
    → IsGraphOf r.graph (program_in r) → KeepsProgram r
keeps-fresh r fresh formed kernel no_loop graph = record {
  formed = formed;
  kernel = kernel;
  no_loop = no_loop;
  graph = graph;
  state = subst (λ b. IsState (at b) body) (sym fresh.boot) tt;
  leaves = subst (λ b. SelectsLeaves (at b) body) (sym fresh.boot) tt;
}
  where
    body : Term
    body = (program_in r).body

    at : Bool → State
    at b = state_of (plain_graph r.graph).leaves b r.selected

-- a reaction keeps it, and so does a call that answers that there is none
pub keeps-going : (old new : Runner) (inputs : List Bool) → KeepsProgram old → length inputs ≡ given_count (program_in old)
    → (result : Result Bool NotConstructive) → IfOk result (λ paused. Steps old inputs paused new) → IfErr result (λ e. Stays old inputs new)
    → KeepsProgram new
keeps-going old new inputs keeps width (Ok paused) steps stays =
    let r = reacts-from old new inputs paused keeps width steps in
    let g = sym r.graph in
    record {
      formed = subst (λ g. IsWellFormed (program_of g.program)) g keeps.formed;
      kernel = subst (λ g. programs.IsKernel (program_of g.program).body) g keeps.kernel;
      no_loop = subst (λ g. NoInstantLoop (program_of g.program).body) g keeps.no_loop;
      graph = subst (λ g. IsGraphOf g (program_of g.program)) g keeps.graph;
      state = r.state;
      leaves = r.leaves;
    }
keeps-going old new inputs keeps width (Err e) steps stays = subst KeepsProgram (sym stays.same) (record {
  formed = keeps.formed;
  kernel = keeps.kernel;
  no_loop = keeps.no_loop;
  graph = keeps.graph;
  state = keeps.state;
  leaves = keeps.leaves;
})

-- a result of a call is a reaction of the program, or says that there is none
pub reacted : (old new : Runner) (inputs : List Bool) → KeepsProgram old → length inputs ≡ given_count (program_in old)
    → (result : Result Bool NotConstructive) → IfOk result (λ paused. Steps old inputs paused new)
    → IfOk result (λ paused. TriReacts old inputs paused new)
reacted old new inputs keeps width (Ok paused) steps = reacts-from old new inputs paused keeps width steps
reacted old new inputs keeps width (Err e) steps = tt

pub stuck : (old new : Runner) (inputs : List Bool) → KeepsProgram old → length inputs ≡ given_count (program_in old)
    → (result : Result Bool NotConstructive) → IfErr result (λ e. Stays old inputs new) → IfErr result (λ e. IsStuck old inputs new)
stuck old new inputs keeps width (Ok paused) stays = tt
stuck old new inputs keeps width (Err e) stays = stuck-from old new inputs keeps width stays
