-- The laws on the least solution of a program's graph: it is there; where nothing of it is unknown the program reacts,
-- with what the solution shows; and where the program reacts, nothing of it is unknown.
use Rattle.std.proofs.Common.{◌≡◌, ℕ, ◌+◌, ◌<◌, ◌≤◌, Bool, true, false, not, ◌||◌, cond, List, [], ◌∷◌, ◌++◌, length, map, Some}
use Rattle.std.proofs.Common.{refl, sym, ap, ◌∙◌, subst, inl, ⊎_elim, arith}
use Rattle.std.specs.Prelude.{Contains}
use Rattle.std.specs.List.{flat_map, range_with_len}
use Rattle.std.proofs.lemmas.Bool.{cases_Bool, both_ways, false_from_ne_true}
use Rattle.std.proofs.lemmas.List.Elements.{All-contains}
use Rattle.base_facts.proofs.Lists.{Every, every-append}
use Rattle.est_kernel.specs.Plain.{Program, interface_of, interface_count, outgoing_count, given_count}
use Rattle.est_kernel.specs.Terms.{Term, Nothing, Pause, Emit, Exit, Present, Suspend, Seq, Loop, Par, Trap, Local, Awake}
use Rattle.est_kernel.specs.Statuses.{Plus, Minus, Unknown, Environment, known}
use Rattle.est_kernel.specs.StaticCodes.{has_code, resumed_codes, NoInstantLoop}
use Rattle.est_kernel.specs.Steps.{Step, step}
use Rattle.est_kernel.specs.Steps as steps
use Rattle.est_kernel.specs.Reactions.{Reaction, is_given, settle, reaction_of, step_in, react}
use Rattle.est_kernel.specs.WellFormed.{IsWellFormed}
use Rattle.est_kernel.specs.WellFormed as programs
use Rattle.est_kernel.specs.Laws.{IsBelow, KnowsMore}
use Rattle.est_kernel.proofs.RunLaws as runs
use Rattle.est_kernel.proofs.Exports.{same_step}
use Rattle.grc_graph.specs.Layers.{Layer, Resumed, Started, body_layers, body_liveness}
use Rattle.grc_graph.specs.Wires.{Wire, Out, Go, End, listed, instance_codes}
use Rattle.grc_graph.specs.Spots.{Spot, body_entry}
use Rattle.grc_graph.specs.Equations.{Equation, end_formula, instance_status, instance_equations, output_equation}
use Rattle.grc_graph.specs.Residuals.{holds, left_if, residual, resumption}
use Rattle.grc_graph.specs.Walk.{State, Initial, Selecting, Values, remaining, resumed_walk, body_walk}
use Rattle.grc_graph.specs.Walk as walks
use Rattle.grc_graph.specs.Selected.{HasExitCodes, IsState}
use Rattle.grc_graph.specs.Readings.{Valuation, seen_value}
use Rattle.grc_graph.specs.Coherence as coherence
use Rattle.grc_graph.specs.Edges.{edge}
use Rattle.grc_graph.specs.Reads.{ReadsOnly}
use Rattle.grc_graph.specs.Scopes.{Binding, Entering, Outgoing, BoundAt, Unbound, Scope}
use Rattle.grc_graph.proofs.Exports.{codes_below-kernel, body_agrees, holds-false}
use Rattle.grc_graph.specs.GraphRuns.{graph_of, SolvesGraph, shown, next_state}
use Rattle.grc_solutions_laws.specs.GraphWalks.{selected_of, graph_walk, program_values, SelectsLeaves, shown_code}
use Rattle.grc_solutions.specs.GraphWires.{equation_wires, program_wires, program_edges, Differ}
use Rattle.grc_solutions.proofs.Exports.{every_left, every_right, every_map, every_flat_map, every_contained, every_at, every_both, every_from, every_of_all}
use Rattle.grc_solutions.proofs.Exports.{every_listed, every_mapped, every_flat, listed_every, EachStarted, EachResumed, Root, layered, gathered, given_at}
use Rattle.grc_solutions.proofs.Exports.{given_contained, equation_of, wires_differ_lem, range_has, reads_are_edges_lem}
use Rattle.grc_solutions.proofs.SameWires as given
use Rattle.grc_ternary.proofs.Scoped.{InScope}
use Rattle.grc_ternary.proofs.Scoped.{fit_scope}
use Rattle.grc_solutions_laws.proofs.Exports.{program_kernel, code_shown, next_residual, range_bounds, resumed_live, state_reach, Same}
use Rattle.est_ternary.specs.Settled.{EachOnce, EachMeets}
use Rattle.est_ternary.specs.KnownPlaces.{Known}
use Rattle.est_ternary.specs.KnownPlaces as statuses
use Rattle.est_ternary.proofs.Exports.{settle_known, settle_solved, below_equal, step_known, known_step, step_walk_signals}
use Rattle.grc_ternary.specs.LeastSolutions.{IsKnown, IsLeast, Statuses, TriSolves, is_plus, true_wires}
use Rattle.grc_ternary.specs.Laws.{LeastIsThere, KnownReacts, ReactsKnown}
use Rattle.grc_ternary.proofs.Stages.{Stage, least_kept, least_is_kept, next, next_at, next_off, start, start_on, start_off}
use Rattle.grc_ternary.proofs.KnownWires.{known_form, form_known, true_known, plus_known, known_solves}
use Rattle.grc_ternary.proofs.ResumedWalks.{KnownResumed}
use Rattle.grc_ternary.proofs.StartedPlaces.{Follows, under_known, above_known, WiresKnown, StatusKnown}
use Rattle.grc_ternary.proofs.ResumedPlaces.{FollowsResumed, UnderResumed}
use Rattle.grc_ternary.proofs.ResumedKnown.{under_known_resumed, above_known_resumed}
use Rattle.grc_ternary.proofs.Quiet.{deep_quiet}
use Rattle.grc_ternary.proofs.ResumedEquations.{low_roots}
use Rattle.grc_ternary.proofs.Rows.{Off, off_layers, dead_end, RowMet, looks}
use Rattle.grc_ternary.proofs.Rows as rows
use Rattle.grc_ternary.proofs.Firsts.{New, first_started, first_resumed, deep_under}
use Rattle.grc_ternary.proofs.Bodies as bodies
use Rattle.grc_ternary.proofs.Outgoing.{each_kept, kept_at, map_range}
use Rattle.grc_ternary.proofs.StepsLeft.{Valued, started_left, resumed_left}
use Rattle.grc_ternary.proofs.Joint.{starts, resumes, rest_known, known_rest, rest_loops, Stays}
use Rattle.grc_ternary.proofs.Joint as joint

-- ---- the graph's wires differ, and its equations read no words of the next state

pub graph_differs : (p : Program) → HasExitCodes p.body → Differ (equation_wires (graph_of p).equations)
graph_differs p kernel = let d = wires_differ_lem p kernel in subst Differ (sym d.0) d.1

pub least_is_there_lem : LeastIsThere
least_is_there_lem p q event kernel =
    let l = least_kept (graph_of p) q event (graph_differs p kernel) (λ T. Unit {0}) (record { first = tt; later = λ T o t. tt }) in
    (l.at, l.least)

-- of a solution without unknown wires, those that are true solve the graph
pub true_solves : (p : Program) (q : State) (event : List Bool) (T : Statuses) → HasExitCodes p.body → TriSolves (graph_of p) q event T → IsKnown T →
    SolvesGraph (graph_of p) q event (true_wires T)
true_solves p q event T kernel =
    known_solves (graph_of p) q event (λ e u. Contains (program_wires p) u → Contains (program_edges p) (edge u e.wire))
    (λ e c. All-contains (λ y. ReadsOnly (λ u. Contains (program_wires p) u → Contains (program_edges p) (edge u y.wire)) y.formula)
    (graph_of p).equations e (reads_are_edges_lem p kernel) c) T

-- ---- nothing is known at first

module _ (inputs outs given_count : ℕ) (body : Term) (U : Statuses) where
  abbrev Unmet : Equation → Type 0
  Unmet e = U e.wire ≡ Unknown

  record Fresh (x : Spot) : Type 0 where
    met : Every Unmet (instance_equations (rows.all inputs outs given_count body) x)
    gone : (k : ℕ) → instance_codes x.statement x.layer k ≡ false → U (End x.path x.layer k) ≡ Minus

  new_ends : (B : Scope) (t : Term) (n : ℕ) (l : Layer) → HasExitCodes t →
      Every Unmet (map (λ k. record { wire = End n l k; formula = end_formula B t n l k }) (listed (instance_codes t l))) → (k : ℕ) →
      instance_codes t l k ≡ true → U (End n l k) ≡ Unknown
  new_ends B t n l b h k e =
      every_listed (λ j. U (End n l j) ≡ Unknown) (instance_codes t l)
      (every_map Unmet (λ j. record { wire = End n l j; formula = end_formula B t n l j }) (listed (instance_codes t l)) h) k (codes_below-kernel t l k b e) e

  new_at : (x : Spot) → HasExitCodes x.statement → Fresh x → New U x
  new_at x b a = go x.scope x.statement x.path x.layer b a.met a.gone
    where
      go : (B : Scope) (t : Term) (n : ℕ) (l : Layer) → HasExitCodes t →
          Every Unmet (record { wire = Go n l; formula = x.entry } ∷ (instance_status (rows.all inputs outs given_count body) t n l
          ++ map (λ k. record { wire = End n l k; formula = end_formula B t n l k }) (listed (instance_codes t l)))) →
          ((k : ℕ) → instance_codes t l k ≡ false → U (End n l k) ≡ Minus) →
          New U (record { statement = t; path = n; layer = l; scope = B; entry = x.entry })
      go B (Local s p) n l b h d = record { go = h.0; ends = new_ends B (Local s p) n l b h.1.1; status = h.1.0; dead = d }
      go B (Awake e p) n l b h d = absurd b
      go B t n l b h d = record { go = h.0; ends = new_ends B t n l b h.1; status = tt; dead = d }

  pub each_new : HasExitCodes body → Every Unmet (rows.rows inputs outs given_count body) → Off inputs outs given_count body U →
      (has_code (resumed_codes body) ≡ true → EachResumed (New U) (rows.B0 inputs outs given_count body) body_entry body 0)
      × EachStarted (New U) (rows.B0 inputs outs given_count body) body_entry body 0 (Started 0)
  each_new k met off =
      let all = rows.all inputs outs given_count body in
      let instances = every_flat_map Unmet (instance_equations all) all
      (every_right Unmet (map (output_equation given_count all) (range_with_len inputs outs)) (flat_map (instance_equations all) all) met) in
      let fresh = every_from _ Fresh all
      (λ x p. record {
        met = p.0;
        gone = λ j e. dead_end inputs outs given_count body k U off x.path x.layer j (subst (λ t. instance_codes t x.layer j ≡ false) (sym p.1) e);
      })
      (every_both _ _ all instances (looks inputs outs given_count body k)) in
      let l = layered (body_layers body) Fresh (New U) new_at (body_liveness body) (rows.B0 inputs outs given_count body) body_entry body 0 k
      (body_agrees body) fresh in
      (l.0, l.1 0 (inl refl))

-- ---- the equations of an instance all of whose wires are known

module _ (T : Statuses) (all : List Spot) where
  abbrev KnownRow : Equation → Type 0
  KnownRow e = statuses.IsKnown (T e.wire)

  status_rows : (t : Term) (n : ℕ) (l : Layer) → StatusKnown T t n l → Every KnownRow (instance_status all t n l)
  status_rows (Local s p) n l h = (h, tt)
  status_rows _ n l h = tt

  known_rows : (x : Spot) → WiresKnown T x → Every KnownRow (instance_equations all x)
  known_rows x m = (
    m.go,
    every-append KnownRow (instance_status all x.statement x.path x.layer) _ (status_rows x.statement x.path x.layer m.status)
        (every_mapped KnownRow (λ k. record { wire = End x.path x.layer k; formula = end_formula x.scope x.statement x.path x.layer k })
        (listed (instance_codes x.statement x.layer))
        (listed_every _ (instance_codes x.statement x.layer) (λ k u e. m.ends k))),
  )

-- ---- the step of what a state leaves, under the values of a solution

module _ (T : Statuses) (V : Valuation) (known_all : (w : Wire) → T w ≡ known (V w)) where
  same_kept : (K : ℕ → Bool) (a b : ℕ) → Same K K a b
  same_kept K a b = record { at = λ m l u. refl }

  step_of_state : (q : State) (body : Term) → HasExitCodes body → IsState q body → (v : Values) (E F : Environment) →
      Follows T T body 0 (Started 0) E → FollowsResumed T T (selected_of q) body 0 E → T (Go 0 (Started 0)) ≡ starts q → T (Go 0 Resumed) ≡ resumes q body →
      KnowsMore F E → Valued E v → (a : Step) → step (remaining q body) F ≡ Some a →
      (a.code ≡ (body_walk (coherence.statuses V) q body v).code) × (a.residual ≡ resumption (body_walk (coherence.statuses V) q body v).kept body)
  step_of_state Initial body k state v E F f g go re m val a e =
      let s = started_left T V known_all body 0 (Started 0) v E F k f go m val (a, e) in
      let same : a ≡ s.done = same_step a s.done (sym e ∙ s.is) in
      (ap (λ y. y.code) same ∙ s.code, ap (λ y. y.residual) same ∙ s.left _ (same_kept _ 0 _))
  step_of_state (Selecting S) body k state v E F f g go re m val a e = by (holds S body 0) refl e
    where
      by : (h : Bool) → holds S body 0 ≡ h → step (left_if h (residual S body 0)) F ≡ Some a →
          (a.code ≡ (cond h (resumed_walk (coherence.statuses V) S body 0 v) (walks.ended 0)).code)
          × (a.residual ≡ resumption (cond h (resumed_walk (coherence.statuses V) S body 0 v) (walks.ended 0)).kept body)
      by true h e =
          let s = resumed_left T V known_all S body 0 v E F k g h (state h) (re ∙ ap known h) m val (a, e) in
          let same : a ≡ s.done = same_step a s.done (sym e ∙ s.is) in
          (ap (λ y. y.code) same ∙ s.code, ap (λ y. y.residual) same ∙ s.left _ (same_kept _ 0 _))
      by false h e =
          let same : a ≡ steps.ended 0 = same_step a (steps.ended 0) (sym e) in (
            ap (λ y. y.code) same,
            ap (λ y. y.residual) same ∙ sym (ap (λ b. left_if b (residual (λ m. false) body 0)) (holds-false body 0)),
          )

-- ---- a program in a state and an event

module _ (p : Program) (q : State) (event : List Bool) (formed : IsWellFormed p) (kernels : programs.IsKernel p.body) (nl : NoInstantLoop p.body)
    (state : IsState q p.body) (width : length event ≡ given_count p) where
  abbrev outs : ℕ
  outs = outgoing_count p

  kernel : HasExitCodes p.body
  kernel = program_kernel p formed kernels

  scope : InScope (bodies.B0 p.inputs outs (given_count p) p.body q event) p.body
  scope = fit_scope p.inputs (interface_count p) _ p.body (omega arith) formed.signals

  low : p.inputs ≤ given_count p
  low = omega arith

  high : given_count p ≤ p.inputs + outs
  high = omega arith

  abbrev S : ℕ → Bool
  S = selected_of q

  abbrev all : List Spot
  all = rows.all p.inputs outs (given_count p) p.body

  abbrev es : List Equation
  es = rows.rows p.inputs outs (given_count p) p.body

  abbrev O : Statuses → Type 0
  O U = Off p.inputs outs (given_count p) p.body U

  abbrev Met : Statuses → Statuses → Type 0
  Met W U = Every (RowMet p.inputs outs (given_count p) p.body q (is_given event) W U) es

  abbrev Kept : Statuses → Type 0
  Kept U = Stays p.inputs outs (given_count p) p.body q event nl kernel scope state width low high U

  abbrev r : Term
  r = remaining q p.body

  abbrev E0 : Environment
  E0 = joint.E0 p.inputs outs (given_count p) p.body q event nl kernel scope state width low high

  abbrev os : List ℕ
  os = joint.os p.inputs outs (given_count p) p.body q event nl kernel scope state width low high

  abbrev G : Environment
  G = joint.G p.inputs outs (given_count p) p.body q event nl kernel scope state width low high

  once : EachOnce os
  once = joint.once p.inputs outs (given_count p) p.body q event nl kernel scope state width low high

  -- ---- each stage knows no more than the walk settles

  lives : holds S p.body 0 ≡ true → has_code (resumed_codes p.body) ≡ true
  lives h = resumed_live S p.body 0 nl kernel h ((state_reach q p.body state).selected h)

  first_off : O (start (graph_of p) q event)
  first_off = start_off (graph_of p) q event

  first_unmet : Every (λ e. start (graph_of p) q event e.wire ≡ Unknown) es
  first_unmet =
      every_contained (λ e. start (graph_of p) q event e.wire ≡ Unknown) es (λ e c. start_on (graph_of p) q event e.wire (given_at es e c))

  out_given : (o : ℕ) → p.inputs ≤ o → o < p.inputs + outs → start (graph_of p) q event (Out o) ≡ Unknown
  out_given o l u =
      every_at (λ s. start (graph_of p) q event (Out s) ≡ Unknown) (range_with_len p.inputs outs)
      (every_map (λ e. start (graph_of p) q event e.wire ≡ Unknown) (output_equation (given_count p) all) (range_with_len p.inputs outs)
      (every_left (λ e. start (graph_of p) q event e.wire ≡ Unknown) (map (output_equation (given_count p) all) (range_with_len p.inputs outs))
      (flat_map (instance_equations all) all) first_unmet))
      o (range_has p.inputs outs o l u)

  root_low : (r : ℕ) → Root r (0 ∷ []) → r ≤ 0
  root_low r i = ⊎_elim (λ e. omega arith) (λ e. absurd e) i

  first_kept : Kept (start (graph_of p) q event)
  first_kept =
      let U = start (graph_of p) q event in
      let L = body_layers p.body in
      let B = rows.B0 p.inputs outs (given_count p) p.body in
      let o = off_layers p.inputs outs (given_count p) p.body U first_off in
      let each = each_new p.inputs outs (given_count p) p.body U kernel first_unmet first_off in
      record {
        started = first_started L U o (body_liveness p.body) p.body B body_entry 0 0 (starts q) G (body_agrees p.body) (omega arith) nl kernel each.1;
        resumed = ⊎_elim
            (λ live. first_resumed L U o S (body_liveness p.body) p.body B body_entry 0 (resumes q p.body) G
            (body_agrees p.body) live (low_roots (0 ∷ []) 0 root_low) live nl kernel (λ h. (state_reach q p.body state).selected h) (λ h. ap known h)
            (each.0 live))
            (λ z. subst (λ b. UnderResumed U S p.body 0 (known b) G)
            (sym (false_from_ne_true (holds S p.body 0) (λ h. both_ways (has_code (resumed_codes p.body)) z (lives h))))
            (deep_under U S p.body 0 G kernel (deep_quiet L U o (body_liveness p.body) p.body 0 (body_agrees p.body) z (low_roots (0 ∷ []) 0 root_low))))
            (cases_Bool (has_code (resumed_codes p.body)));
        outputs = λ s l u. subst (λ v. IsBelow v (G s)) (sym (out_given s l u)) tt;
      }

  next_met : (U : Statuses) → Met (next (graph_of p) q event U es) U
  next_met U =
      every_contained (RowMet p.inputs outs (given_count p) p.body q (is_given event) (next (graph_of p) q event U es) U) es
      (λ e c. next_at (graph_of p) q event U es (graph_differs p kernel) e c)

  kept_stage : Stage (graph_of p) q event Kept
  kept_stage = record {
    first = first_kept;
    later = λ U off k.
        joint.stays p.inputs outs (given_count p) p.body q event nl kernel scope state width low high (next (graph_of p) q event U es) U (next_met U)
        (next_off (graph_of p) q event U es) off k;
  }

  -- ---- a least solution

  module _ (T : Statuses) (least : IsLeast (graph_of p) q event T) where
    abbrev V : Valuation
    V = true_wires T

    abbrev shown_of : Environment
    shown_of = joint.shown p.inputs outs (given_count p) p.body q event nl kernel scope state width low high T

    met : Met T T
    met = every_of_all (RowMet p.inputs outs (given_count p) p.body q (is_given event) T T) es least.solves.met

    off : O T
    off = least.solves.others

    kept : Kept T
    kept = least_is_kept (graph_of p) q event (graph_differs p kernel) Kept kept_stage T least

    settled : (o : ℕ) → p.inputs ≤ o → o < p.inputs + outs → T (Out o) ≡ G o
    settled o l u = joint.output_settled p.inputs outs (given_count p) p.body q event nl kernel scope state width low high T met off kept o l u

    below : KnowsMore G shown_of
    below = joint.settled_below p.inputs outs (given_count p) p.body q event nl kernel scope state width low high T met off

    follows : Follows T T p.body 0 (Started 0) shown_of
    follows = joint.follows_here p.inputs outs (given_count p) p.body q event nl kernel scope state width low high T T met off off

    follows_resumed : FollowsResumed T T S p.body 0 shown_of
    follows_resumed = joint.resumes_here p.inputs outs (given_count p) p.body q event nl kernel scope state width low high T T met off off

    starts_at : T (Go 0 (Started 0)) ≡ starts q
    starts_at = joint.starts_here p.inputs outs (given_count p) p.body q event nl kernel scope state width low high T T met off off

    resumes_at : T (Go 0 Resumed) ≡ resumes q p.body
    resumes_at = joint.resumed_here p.inputs outs (given_count p) p.body q event nl kernel scope state width low high T T met off off

    given_out : (o : ℕ) → p.inputs ≤ o → o < p.inputs + outs → is_given event o ≡ true → T (Out o) ≡ Plus
    given_out o l u e = joint.given_here p.inputs outs (given_count p) p.body q event nl kernel scope state width low high T T met off off o l u e

    -- ---- where the program reacts

    module _ (x : Reaction) (reacts : react (interface_of p) r event ≡ Some x) where
      stepped : runs.Stepped (interface_of p) r event x
      stepped = runs.react-step (interface_of p) r event x reacts

      settles : EachMeets (λ o. statuses.IsKnown (G o)) os × (G ≡ stepped.environment)
      settles = settle_known os r E0 stepped.environment once stepped.settles

      asked : Known p.body (starts q) G × KnownResumed S p.body 0 (resumes q p.body) G
      asked = rest_known q p.body state G (step_known r G stepped.step_made (ap (λ F. step r F) settles.1 ∙ stepped.steps))

      started_known : EachStarted (WiresKnown T) (rows.B0 p.inputs outs (given_count p) p.body) body_entry p.body 0 (Started 0)
      started_known =
          above_known T p.body 0 (Started 0) (starts q) shown_of G (rows.B0 p.inputs outs (given_count p) p.body) body_entry follows asked.0
          (below_equal (sym starts_at)) below

      resumed_known : EachResumed (WiresKnown T) (rows.B0 p.inputs outs (given_count p) p.body) body_entry p.body 0
      resumed_known =
          above_known_resumed T S p.body 0 (resumes q p.body) shown_of G (rows.B0 p.inputs outs (given_count p) p.body) body_entry follows_resumed
          (λ h. resumes_at ∙ ap known h) asked.1 (below_equal (sym resumes_at)) below

      instances_known : Every (WiresKnown T) all
      instances_known =
          gathered (body_layers p.body) (WiresKnown T) (body_liveness p.body) (rows.B0 p.inputs outs (given_count p) p.body) body_entry p.body 0 kernel
          (body_agrees p.body) (λ live. resumed_known)
          (λ i e. ⊎_elim
          (λ z. subst (λ j. EachStarted (WiresKnown T) (rows.B0 p.inputs outs (given_count p) p.body) body_entry p.body 0 (Started j)) (sym z) started_known)
          (λ z. absurd z) e)

      output_known : (o : ℕ) → p.inputs ≤ o → o < p.inputs + outs → statuses.IsKnown (T (Out o))
      output_known o l u =
          ⊎_elim
          (λ e. subst statuses.IsKnown (sym (given_out o l u e)) tt)
          (λ e. subst statuses.IsKnown (sym (settled o l u))
          (kept_at (λ s. statuses.IsKnown (G s)) (λ s. not (is_given event s)) p.inputs outs settles.0 o l u (ap not e)))
          (cases_Bool (is_given event o))

      rows_known : Every (λ e. statuses.IsKnown (T e.wire)) es
      rows_known =
          every-append (λ e. statuses.IsKnown (T e.wire)) (map (output_equation (given_count p) all) (range_with_len p.inputs outs))
          (flat_map (instance_equations all) all)
          (every_mapped (λ e. statuses.IsKnown (T e.wire)) (output_equation (given_count p) all) (range_with_len p.inputs outs)
          (every_from (λ o. (p.inputs ≤ o) × (o < p.inputs + outs)) (λ o. statuses.IsKnown (T (Out o))) (range_with_len p.inputs outs)
          (λ o h. output_known o h.0 h.1) (range_bounds p.inputs outs)))
          (every_flat (λ e. statuses.IsKnown (T e.wire)) (instance_equations all) all
          (every_from (WiresKnown T) (λ y. Every (λ e. statuses.IsKnown (T e.wire)) (instance_equations all y)) all (known_rows T all) instances_known))

      reacts_known : IsKnown T
      reacts_known w =
          known_form (T w)
          (⊎_elim
          (λ h. let e = equation_of es w (given_contained es w h) in
          subst (λ u. statuses.IsKnown (T u)) e.2 (every_at (λ y. statuses.IsKnown (T y.wire)) es rows_known e.0 e.1))
          (λ h. subst statuses.IsKnown (sym (off w h)) tt)
          (cases_Bool (given.is_given es w)))

    -- ---- where nothing is unknown

    module _ (known_all : IsKnown T) where
      each : (w : Wire) → statuses.IsKnown (T w)
      each w = form_known (T w) (known_all w).0 (known_all w).1

      pub solves : SolvesGraph (graph_of p) q event V
      solves = true_solves p q event T kernel least.solves known_all

      asks_known : Known r Plus G
      asks_known =
          known_rest q p.body state G
          (under_known T each p.body 0 (Started 0) (starts q) G kept.started)
          (under_known_resumed T each S p.body 0 (resumes q p.body) G kept.resumed)

      made : (a : Step) × (step r G ≡ Some a)
      made = known_step r G (rest_loops q p.body nl) asks_known

      all_settled : settle os r E0 ≡ Some G
      all_settled =
          settle_solved os r E0 once
          (each_kept (λ o. statuses.IsKnown (G o)) (λ o. not (is_given event o)) p.inputs outs
          (λ o l u e. subst statuses.IsKnown (settled o l u) (each (Out o))))

      -- what the step emits is what the wires of the outgoing signals say
      shown_output : (o : ℕ) → p.inputs ≤ o → o < p.inputs + outs → (is_given event o || made.0.emitted o) ≡ V (Out o)
      shown_output o l u =
          ⊎_elim
          (λ e. ap (λ b. b || made.0.emitted o) e ∙ sym (ap is_plus (given_out o l u e)))
          (λ e. ap (λ b. b || made.0.emitted o) e
          ∙ sym (ap is_plus
          (settled o l u ∙ joint.settled_open p.inputs outs (given_count p) p.body q event nl kernel scope state width low high o l u e
          ∙ step_walk_signals r G made.0 made.1 o)
          ∙ plus_known (made.0.emitted o)))
          (cases_Bool (is_given event o))

      -- the values that the body sees are those that the solution shows
      valued : Valued shown_of (program_values p event V)
      valued = record { each = λ s. at s (rows.B0 p.inputs outs (given_count p) p.body s) }
        where
          self : (b : Bool) → IsBelow (known b) (known b)
          self true = refl
          self false = refl

          at : (s : ℕ) (b : Binding)
              → IsBelow (bodies.shown_as p.inputs outs (given_count p) p.body q event T b s) (known (seen_value (is_given event) V b s Resumed))
          at s Entering = self (is_given event s)
          at s Outgoing = below_equal (true_known T known_all (Out s))
          at s _ = tt

      -- the step completes with the walk's code, and leaves what the kept pauses leave
      step_is_walk : (made.0.code ≡ (graph_walk p q event V).code) × (made.0.residual ≡ resumption (graph_walk p q event V).kept p.body)
      step_is_walk =
          step_of_state T V (true_known T known_all) q p.body kernel state
          (program_values p event V) shown_of G follows follows_resumed starts_at resumes_at below
          valued made.0 made.1

      -- so the program reacts, with the answer of the walk, and to what the kept pauses leave
      pub walk_reacts : react (interface_of p) r event
          ≡ Some (record {
            answer = record { outputs = (shown (graph_of p) V).outputs; code = (graph_walk p q event V).code };
            residual = resumption (graph_walk p q event V).kept p.body;
          })
      walk_reacts =
          ap (λ o. reaction_of (interface_of p) event (step_in r o)) all_settled
          ∙ ap (λ o. reaction_of (interface_of p) event o) made.1
          ∙ ap (λ l. Some (record { answer = record { outputs = l; code = made.0.code }; residual = made.0.residual }))
          (map_range (λ s. is_given event s || made.0.emitted s) (λ s. V (Out s)) p.inputs outs shown_output)
          ∙ ap (λ c. Some (record { answer = record { outputs = (shown (graph_of p) V).outputs; code = c }; residual = made.0.residual })) step_is_walk.0
          ∙ ap (λ t. Some (record { answer = record { outputs = (shown (graph_of p) V).outputs; code = (graph_walk p q event V).code }; residual = t }))
          step_is_walk.1

      -- which the solution shows
      pub reaction : SelectsLeaves q p.body → react (interface_of p) r event
          ≡ Some (record {
            answer = record { outputs = (shown (graph_of p) V).outputs; code = shown_code V };
            residual = remaining (next_state (graph_of p) q event V) p.body;
          })
      reaction leaves =
          walk_reacts
          ∙ ap (λ c. Some (record {
            answer = record { outputs = (shown (graph_of p) V).outputs; code = c };
            residual = resumption (graph_walk p q event V).kept p.body;
          })) (sym (code_shown p kernel nl q event V state solves))
          ∙ ap (λ t. Some (record { answer = record { outputs = (shown (graph_of p) V).outputs; code = shown_code V }; residual = t }))
          (next_residual p kernel nl q event V state solves leaves)

pub known_reacts_lem : KnownReacts
known_reacts_lem p q event T formed kernels nl state leaves width least k = (
  solves p q event formed kernels nl state width T least k,
  reaction p q event formed kernels nl state width T least k leaves,
)

pub reacts_known_lem : ReactsKnown
reacts_known_lem p q event T x formed kernels nl state leaves width least reacts = reacts_known p q event formed kernels nl state width T least x reacts
