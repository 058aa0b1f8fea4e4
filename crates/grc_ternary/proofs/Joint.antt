-- The least solution of a program's graph and the reaction of what a state leaves of the program. What the solution
-- shows of the outgoing signals is what the walk settles, one within another, and nothing of the graph is unknown exactly
-- where the walk asks for nothing unknown.
use Rattle.std.proofs.Common.{◌≡◌, ℕ, ◌+◌, ◌<◌, ◌≤◌, Bool, true, false, not, ltb, List, length}
use Rattle.std.proofs.Common.{refl, sym, ap, ◌∙◌, subst, ⊎_elim, arith}
use Rattle.std.specs.Prelude.{slice_get}
use Rattle.std.specs.List.{range_with_len}
use Rattle.std.proofs.lemmas.List.{get_or_past}
use Rattle.std.proofs.lemmas.Bool.{cases_Bool, false≢true, cond-true, cond-false, lt-ltb, ltb-true, cond_both}
use Rattle.base_facts.proofs.Lists.{Every}
use Rattle.est_kernel.specs.Terms.{Term, Nothing}
use Rattle.est_kernel.specs.Statuses.{Status, Plus, Minus, Unknown, Environment, known, environment_of, status_of_input, status_of_other, disjunction}
use Rattle.est_kernel.specs.StaticCodes.{has_code, resumed_codes, NoInstantLoop}
use Rattle.est_kernel.specs.Reactions.{is_given, open_signals}
use Rattle.est_kernel.specs.Laws.{IsBelow, KnowsMore}
use Rattle.est_kernel.proofs.Exports.{below_meets, disjunction_below, knows_self}
use Rattle.grc_graph.specs.Layers.{Resumed, Started}
use Rattle.grc_graph.specs.Scopes.{Binding, Entering, Outgoing, Unbound}
use Rattle.grc_graph.specs.Wires.{Out, Go}
use Rattle.grc_graph.specs.Residuals.{holds, left_if, residual}
use Rattle.grc_graph.specs.Walk.{State, Initial, Selecting, remaining, is_initial}
use Rattle.grc_graph.specs.Selected.{HasExitCodes, IsState}
use Rattle.grc_solutions_laws.specs.GraphWalks.{selected_of}
use Rattle.grc_solutions.proofs.Exports.{range_has}
use Rattle.grc_ternary.proofs.Scoped.{InScope}
use Rattle.grc_solutions_laws.proofs.Exports.{resumed_live, residual_static, InPart, scope_part, enters, goes_out, unbound, state_reach}
use Rattle.est_ternary.specs.TriWalks.{Tri, tri_idle, tri_either, tri}
use Rattle.est_ternary.specs.Settled.{solved, EachOnce}
use Rattle.est_ternary.specs.KnownPlaces.{Known}
use Rattle.est_ternary.proofs.Exports.{silent_walk, below_equal, solved_off, solved_meets, solved_least, idle_known}
use Rattle.grc_graph.proofs.Exports.{holds-false}
use Rattle.grc_ternary.specs.LeastSolutions.{Statuses}
use Rattle.grc_ternary.proofs.ResumedWalks.{resumed_tri, KnownResumed, silent, left_walk, left_known, known_left, quiet_known, either_left}
use Rattle.grc_ternary.proofs.StartedPlaces.{emits, Follows, below_to, to_below, above, Under, under_emits, stays_under}
use Rattle.grc_ternary.proofs.ResumedPlaces.{resumed_emits, FollowsResumed, above_resumed, UnderResumed, under_resumed_emits, stays_resumed}
use Rattle.grc_ternary.proofs.Rows.{Off, RowMet}
use Rattle.grc_ternary.proofs.Rows as programs
use Rattle.grc_ternary.proofs.Bodies.{body_follows, body_resumes, body_starts, body_is_resumed, output_next}
use Rattle.grc_ternary.proofs.Bodies as bodies
use Rattle.grc_ternary.proofs.Outgoing.{kept_once, below_range, not_kept, each_kept, kept_at, other_status_below, given_value, input_known}
use Rattle.grc_ternary.proofs.Outgoing.{other_given, given_from, get_from}

-- ---- the walk of what a state leaves of a body

-- whether the body starts, and whether it is resumed
abbrev pub starts : State → Status
starts q = known (is_initial q)

abbrev pub resumes : State → Term → Status
resumes q body = known (holds (selected_of q) body 0)

-- the walk of the body in both layers, of which at most one runs
abbrev pub body_tri : State → Term → Environment → Tri
body_tri q body F = tri_either (resumed_tri (selected_of q) body 0 (resumes q body) F) (tri body (starts q) F)

pub rest_signals : (q : State) (body : Term) → IsState q body → (F : Environment) (t : ℕ) →
    (tri (remaining q body) Plus F).signals t ≡ (body_tri q body F).signals t
rest_signals Initial body s F t =
    sym (ap (λ b. (tri_either (resumed_tri (λ m. false) body 0 (known b) F) (tri body Plus F)).signals t) (holds-false body 0)
    ∙ ap (λ a. (tri_either a (tri body Plus F)).signals t) (silent (λ m. false) body 0 F))
rest_signals (Selecting S) body s F t = by (holds S body 0) refl
  where
    by : (h : Bool) → holds S body 0 ≡ h → (tri (left_if h (residual S body 0)) Plus F).signals t
        ≡ (tri_either (resumed_tri S body 0 (known h) F) (tri body Minus F)).signals t
    by true e =
        sym (ap (λ b. (tri_either (resumed_tri S body 0 Plus F) b).signals t) (silent_walk body F)
        ∙ ap (λ a. a.signals t) (either_left (resumed_tri S body 0 Plus F))
        ∙ ap (λ a. a.signals t) (left_walk S body 0 Plus F (s e) e))
    by false e =
        sym (ap (λ b. (tri_either (resumed_tri S body 0 Minus F) b).signals t) (silent_walk body F)
        ∙ ap (λ a. (tri_either a tri_idle).signals t) (silent S body 0 F))

-- what is asked of what is left, and of the body in both layers
pub rest_known : (q : State) (body : Term) → IsState q body → (F : Environment) → Known (remaining q body) Plus F →
    Known body (starts q) F × KnownResumed (selected_of q) body 0 (resumes q body) F
rest_known Initial body s F k = (
  k,
  subst (λ b. KnownResumed (λ m. false) body 0 (known b) F) (sym (holds-false body 0)) (quiet_known (λ m. false) body 0 F),
)
rest_known (Selecting S) body s F k = (idle_known body F, by (holds S body 0) refl k)
  where
    by : (h : Bool) → holds S body 0 ≡ h → Known (left_if h (residual S body 0)) Plus F → KnownResumed S body 0 (known h) F
    by true e k = known_left S body 0 Plus F (s e) e k
    by false e k = quiet_known S body 0 F

pub known_rest : (q : State) (body : Term) → IsState q body → (F : Environment) → Known body (starts q) F →
    KnownResumed (selected_of q) body 0 (resumes q body) F → Known (remaining q body) Plus F
known_rest Initial body s F k r = k
known_rest (Selecting S) body s F k r = by (holds S body 0) refl r
  where
    by : (h : Bool) → holds S body 0 ≡ h → KnownResumed S body 0 (known h) F → Known (left_if h (residual S body 0)) Plus F
    by true e r = left_known S body 0 Plus F (s e) e r
    by false e r = tt

pub rest_loops : (q : State) (body : Term) → NoInstantLoop body → NoInstantLoop (remaining q body)
rest_loops Initial body nl = nl
rest_loops (Selecting S) body nl = cond_both (holds S body 0) (residual S body 0) Nothing (λ t. NoInstantLoop t) (λ e. residual_static S body 0 nl) (λ e. refl)

-- ---- a program

module _ (inputs outs given_count : ℕ) (body : Term) (q : State) (event : List Bool) (nl : NoInstantLoop body) (kernel : HasExitCodes body)
    (scope : InScope (bodies.B0 inputs outs given_count body q event) body) (state : IsState q body) (width : length event ≡ given_count)
    (low : inputs ≤ given_count) (high : given_count ≤ inputs + outs) where
  abbrev pub S : ℕ → Bool
  S = selected_of q

  -- the outgoing signals that the event leaves open
  abbrev pub keep : ℕ → Bool
  keep o = not (is_given event o)

  abbrev pub os : List ℕ
  os = open_signals event (range_with_len inputs outs)

  abbrev pub E0 : Environment
  E0 = environment_of inputs event

  abbrev pub r : Term
  r = remaining q body

  -- the environment that the walk decides
  abbrev pub G : Environment
  G = solved os r E0

  abbrev pub shown : Statuses → Environment
  shown U = bodies.shown_env inputs outs given_count body q event U

  pub once : EachOnce os
  once = kept_once keep inputs outs

  -- ---- what is known at first

  not_below : (a b : ℕ) → b ≤ a → ltb a b ≡ false
  not_below a b h = cond_both (ltb a b) true false (λ x. ltb a b ≡ false) (λ e. let i = ltb-true a b e in absurd (omega arith)) (λ e. e)

  first_of_input : (s : ℕ) → s < inputs → E0 s ≡ known (is_given event s)
  first_of_input s l =
      cond-true (ltb s inputs) (status_of_input (slice_get event s)) (status_of_other (slice_get event s)) (lt-ltb s inputs l)
      ∙ input_known (slice_get event s) (is_given event s) (given_value event s (omega arith))

  first_of_other : (s : ℕ) → inputs ≤ s → E0 s ≡ status_of_other (slice_get event s)
  first_of_other s l = cond-false (ltb s inputs) (status_of_input (slice_get event s)) (status_of_other (slice_get event s)) (not_below s inputs l)

  first_of_given : (s : ℕ) → inputs ≤ s → is_given event s ≡ true → E0 s ≡ Plus
  first_of_given s l e = first_of_other s l ∙ other_given (slice_get event s) (get_from event s e)

  -- a signal that is not left open keeps what is known of it at first
  settled_input : (s : ℕ) → s < inputs → G s ≡ known (is_given event s)
  settled_input s l = solved_off os r E0 s (below_range keep s inputs outs l) ∙ first_of_input s l

  pub settled_given : (s : ℕ) → inputs ≤ s → is_given event s ≡ true → G s ≡ Plus
  settled_given s l e = solved_off os r E0 s (not_kept keep s (range_with_len inputs outs) (ap not e)) ∙ first_of_given s l e

  -- one that is left open has the status that the walk gives it
  pub settled_open : (o : ℕ) → inputs ≤ o → o < inputs + outs → is_given event o ≡ false → G o ≡ (tri r Plus G).signals o
  settled_open o l u e = kept_at (λ s. G s ≡ (tri r Plus G).signals s) keep inputs outs (solved_meets os r E0 once) o l u (ap not e)

  -- what the body shows of a signal
  shown_at : (U : Statuses) (s : ℕ) (b : Binding) → bodies.B0 inputs outs given_count body q event s ≡ b
      → shown U s ≡ bodies.shown_as inputs outs given_count body q event U b s
  shown_at U s b e = ap (λ c. bodies.shown_as inputs outs given_count body q event U c s) e

  pub shown_out : (U : Statuses) (o : ℕ) → inputs ≤ o → o < inputs + outs → shown U o ≡ U (Out o)
  shown_out U o l u = go (scope_part inputs (inputs + outs) o (omega arith))
    where
      go : InPart inputs (inputs + outs) o (bodies.B0 inputs outs given_count body q event o) → shown U o ≡ U (Out o)
      go (enters k e) = absurd (omega arith)
      go (goes_out k j e) = shown_at U o Outgoing e
      go (unbound k e) = absurd (omega arith)

  lives : holds S body 0 ≡ true → has_code (resumed_codes body) ≡ true
  lives h = resumed_live S body 0 nl kernel h ((state_reach q body state).selected h)

  -- ---- new statuses under old ones

  module _ (W U : Statuses) (met : Every (RowMet inputs outs given_count body q (is_given event) W U) (programs.rows inputs outs given_count body))
      (offW : Off inputs outs given_count body W) (offU : Off inputs outs given_count body U) where
    pub follows_here : Follows W U body 0 (Started 0) (shown U)
    follows_here = body_follows inputs outs given_count body q event W U nl kernel scope state width met offW offU

    pub resumes_here : FollowsResumed W U S body 0 (shown U)
    resumes_here = body_resumes inputs outs given_count body q event W U nl kernel scope state width met offW offU

    pub starts_here : W (Go 0 (Started 0)) ≡ starts q
    starts_here = body_starts inputs outs given_count body q event W U nl kernel scope state width met offW offU

    pub resumed_here : W (Go 0 Resumed) ≡ resumes q body
    resumed_here = body_is_resumed inputs outs given_count body q event W U nl kernel scope state width met offW offU lives

    abbrev pub emitted : ℕ → Status
    emitted o = disjunction (resumed_emits U body 0 o) (emits U body 0 (Started 0) o)

    pub output_here : (o : ℕ) → inputs ≤ o → o < inputs + outs → W (Out o) ≡ disjunction (known (is_given event o)) (emitted o)
    output_here o l u =
        output_next inputs outs given_count body q event W U nl kernel scope state width met offW offU o (range_has inputs outs o l u) l u

    pub given_here : (o : ℕ) → inputs ≤ o → o < inputs + outs → is_given event o ≡ true → W (Out o) ≡ Plus
    given_here o l u e = output_here o l u ∙ ap (λ b. disjunction (known b) (emitted o)) e

    pub open_here : (o : ℕ) → inputs ≤ o → o < inputs + outs → is_given event o ≡ false → W (Out o) ≡ emitted o
    open_here o l u e = output_here o l u ∙ ap (λ b. disjunction (known b) (emitted o)) e

  -- ---- stages know no more than the walk

  pub record Stays (U : Statuses) : Type 0 where
    pub started : Under U body 0 (Started 0) (starts q) G
    pub resumed : UnderResumed U S body 0 (resumes q body) G
    pub outputs : (o : ℕ) → inputs ≤ o → o < inputs + outs → IsBelow (U (Out o)) (G o)

  pub shown_below : (U : Statuses) → Stays U → KnowsMore (shown U) G
  shown_below U t = record { statuses = λ s. go s (scope_part inputs (inputs + outs) s (omega arith)) }
    where
      go : (s : ℕ) → InPart inputs (inputs + outs) s (bodies.B0 inputs outs given_count body q event s) → IsBelow (shown U s) (G s)
      go s (enters l e) = below_equal (shown_at U s Entering e ∙ sym (settled_input s l))
      go s (goes_out l u e) = to_below _ (t.outputs s l u) (shown_at U s Outgoing e)
      go s (unbound l e) = to_below {w = Unknown} (G s) tt (shown_at U s Unbound e)

  pub stays : (W U : Statuses) → Every (RowMet inputs outs given_count body q (is_given event) W U) (programs.rows inputs outs given_count body) →
      Off inputs outs given_count body W → Off inputs outs given_count body U → Stays U → Stays W
  stays W U met offW offU t = record {
    started = stays_under W U body 0 (Started 0) (starts q) (shown U) G (follows_here W U met offW offU) (shown_below U t) t.started
        (below_equal (starts_here W U met offW offU));
    resumed = stays_resumed W U S body 0 (resumes q body) (shown U) G (resumes_here W U met offW offU) (shown_below U t) (λ h. ap known h) t.resumed
        (below_equal (resumed_here W U met offW offU));
    outputs = λ o l u.
        ⊎_elim
        (λ e. below_equal (given_here W U met offW offU o l u e ∙ sym (settled_given o l e)))
        (λ e. to_below _
        (subst (λ v. IsBelow (emitted W U met offW offU o) v) (sym (rest_signals q body state G o) ∙ sym (settled_open o l u e))
        (disjunction_below _ _ _ _ (under_resumed_emits U S body 0 (resumes q body) G t.resumed o) (under_emits U body 0 (Started 0) (starts q) G t.started o)))
        (open_here W U met offW offU o l u e))
        (cases_Bool (is_given event o));
  }

  -- ---- a solution knows at least what the walk settles

  module _ (T : Statuses) (met : Every (RowMet inputs outs given_count body q (is_given event) T T) (programs.rows inputs outs given_count body))
      (off : Off inputs outs given_count body T) where
    idle_above : holds S body 0 ≡ false → T (Go 0 Resumed) ≡ Minus
    idle_above h = resumed_here T T met off off ∙ ap known h

    first_below : KnowsMore E0 (shown T)
    first_below = record { statuses = λ s. go s (scope_part inputs (inputs + outs) s (omega arith)) }
      where
        go : (s : ℕ) → InPart inputs (inputs + outs) s (bodies.B0 inputs outs given_count body q event s) → IsBelow (E0 s) (shown T s)
        go s (enters l e) = below_equal (first_of_input s l ∙ sym (shown_at T s Entering e))
        go s (goes_out l u e) =
            to_below _
            (below_to _ (other_status_below (slice_get event s) (T (Out s)) (λ g. given_here T T met off off s l u (given_from event s g)))
            (shown_at T s Outgoing e))
            (first_of_other s l)
        go s (unbound l e) =
            to_below _
            (other_status_below (slice_get event s) (shown T s)
            (λ g. absurd (false≢true (sym (get_or_past event s false (omega arith)) ∙ given_from event s g))))
            (first_of_other s (omega arith))

    emits_above : (F : Environment) → KnowsMore F (shown T) → (o : ℕ) → IsBelow ((tri r Plus F).signals o) (emitted T T met off off o)
    emits_above F m o =
        to_below _
        (disjunction_below _ _ _ _
        ((above_resumed T S body 0 (resumes q body) (shown T) F (resumes_here T T met off off) idle_above
        (below_equal (sym (resumed_here T T met off off))) m).signals o)
        ((above T body 0 (Started 0) (starts q) (shown T) F (follows_here T T met off off) (below_equal (sym (starts_here T T met off off))) m).signals o))
        (rest_signals q body state F o)

    pub settled_below : KnowsMore G (shown T)
    settled_below =
        solved_least os r E0 (shown T) once first_below
        (each_kept (λ o. IsBelow ((tri r Plus (shown T)).signals o) (shown T o)) keep inputs outs
        (λ o l u e. below_to _ (emits_above (shown T) (knows_self (shown T)) o)
        (shown_out T o l u ∙ open_here T T met off off o l u (unkept (is_given event o) e))))
      where
        unkept : (b : Bool) → not b ≡ true → b ≡ false
        unkept true e = absurd (false≢true e)
        unkept false e = refl

    -- so where the solution knows no more either, it has just what the walk settles
    pub output_settled : Stays T → (o : ℕ) → inputs ≤ o → o < inputs + outs → T (Out o) ≡ G o
    output_settled t o l u =
        below_meets (T (Out o)) (G o) (t.outputs o l u) (below_to _ (settled_below.statuses o) (sym (shown_out T o l u)))
