-- What a solution of a program's graph shows of an instant: the next state, the code, and whether the program pauses.
use Rattle.std.proofs.Common.{◌≡◌, ℕ, Bool, true, false, ◌&&◌, ◌||◌, ◌==◌, cond, List, refl, sym, ap, ◌∙◌, subst, ⊎_elim, arith, ◌<◌}
use Rattle.std.proofs.lemmas.Bool.{and_parts, ne_eqb, cond_both, false≢true, cases_Bool, or_parts}
use Rattle.base_facts.proofs.Tests.{or-equal, or-false}
use Rattle.est_kernel.specs.Terms.{Term, Nothing}
use Rattle.est_kernel.specs.StaticCodes.{has_code, resumed_codes, NoInstantLoop}
use Rattle.est_kernel.specs.Plain.{Program, interface_count, outgoing_count, given_count}
use Rattle.est_kernel.specs.Reactions.{is_given}
use Rattle.grc_graph.specs.Layers.{Resumed, Started}
use Rattle.grc_graph.specs.Scopes.{program_scope}
use Rattle.grc_graph.specs.Wires.{End}
use Rattle.grc_graph.specs.Residuals.{holds, residual, left_if, resumption}
use Rattle.grc_graph.specs.SelectionTrees.{resumes}
use Rattle.grc_graph.specs.Walk.{Values, State, Initial, Selecting, ended, is_initial, remaining, started_walk, resumed_walk, body_walk}
use Rattle.grc_graph.specs.Selected.{HasExitCodes, IsSelected, IsState}
use Rattle.grc_graph.specs.Readings.{Valuation}
use Rattle.grc_graph.specs.Coherence.{statuses, StartedWalked, ResumedWalked}
use Rattle.grc_graph.specs.GraphRuns.{graph_of, SolvesGraph, shown, next_state}
use Rattle.grc_solutions_laws.specs.GraphWalks.{selected_of, program_values, graph_walk, SelectsLeaves, ends_with, shown_code}
use Rattle.grc_solutions_laws.specs.Laws.{NextStateIsKept, CodesAreShown}
use Rattle.grc_solutions_laws.proofs.Residues.{some_has, resumed_live}
use Rattle.grc_solutions_laws.proofs.Kept.{Same, holds_same, residual_same}
use Rattle.grc_solutions_laws.proofs.Meets.{started_at, resumed_at}
use Rattle.grc_solutions.proofs.Exports.{statement_at}
use Rattle.grc_solutions_laws.proofs.Joint.{dead_wire}
use Rattle.grc_solutions_laws.proofs.Tops.{state_reach}
use Rattle.grc_solutions_laws.proofs.Solutions.{top_started, top_resumed}
use Rattle.grc_solutions_laws.proofs.NextKept.{one_flip}
use Rattle.grc_solutions_laws.proofs.NextStates.{selected_as, leaf_way}
use Rattle.grc_solutions_laws.proofs.NextTop.{StatePauses, keeps_state, next_kept, next_selected}
use Rattle.grc_graph.proofs.Exports.{started_below, resumed_below, holds-false}
use Rattle.grc_solutions_laws.proofs.WalkCodes.{started_code, resumed_code}
use Rattle.grc_solutions_laws.proofs.FirstCodes.{first_listed, none_listed}

top_statement : (t : Term) → statement_at t 0 0 ≡ t
top_statement Nothing = refl
top_statement _ = refl

no_code : (t : Term) (k : ℕ) → HasExitCodes t → has_code (resumed_codes t) ≡ false → resumed_codes t k ≡ false
no_code t k b e =
    cond_both (resumed_codes t k) true false (λ c. resumed_codes t k ≡ false)
    (λ h. absurd (false≢true (sym e ∙ some_has (resumed_codes t) (k, omega (arith, resumed_below t b k h), h)))) (λ h. h)

not_held : (S : ℕ → Bool) (t : Term) → NoInstantLoop t → HasExitCodes t → (holds S t 0 ≡ true → IsSelected S t 0) → has_code (resumed_codes t) ≡ false →
    holds S t 0 ≡ false
not_held S t nl k s e = cond_both (holds S t 0) true false (λ b. holds S t 0 ≡ false) (λ h. absurd (false≢true (sym e ∙ resumed_live S t 0 nl k h (s h))))
    (λ h. h)

pauses_of : (q : State) (body : Term) → SelectsLeaves q body → StatePauses q body
pauses_of Initial body h = λ m e. absurd (false≢true e)
pauses_of (Selecting S) body h = λ m e. leaf_way (resumes body) body 0 m (h m e)

-- whether the walk of a body runs
runs_in : State → Term → Bool
runs_in q body = holds (selected_of q) body 0 || is_initial q

code_is : (Z : _) (body : Term) (q : State) (v : Values) (k : ℕ) →
    ((holds (selected_of q) body 0 && (k == (resumed_walk Z (selected_of q) body 0 v).code))
    || (is_initial q && (k == (started_walk Z body 0 (Started 0) v).code))) ≡ (runs_in q body && (k == (body_walk Z q body v).code))
unfolding runs_in
code_is Z body Initial v k =
    ap (λ b. (b && (k == (resumed_walk Z (λ m. false) body 0 v).code)) || (k == (started_walk Z body 0 (Started 0) v).code)) (holds-false body 0)
    ∙ ap (λ b. (b || true) && (k == (started_walk Z body 0 (Started 0) v).code)) (sym (holds-false body 0))
code_is Z body (Selecting S) v k = held (holds S body 0)
  where
    held : (h : Bool) → ((h && (k == (resumed_walk Z S body 0 v).code)) || false) ≡ ((h || false) && (k == (cond h (resumed_walk Z S body 0 v) (ended 0)).code))
    held true = or-false _
    held false = refl

-- where it does not, its code is 0
rests_with : (Z : _) (body : Term) (q : State) (v : Values) → runs_in q body ≡ false → (body_walk Z q body v).code ≡ 0
unfolding runs_in
rests_with Z body Initial v e = absurd (false≢true (sym (or_parts (holds (λ m. false) body 0) true e).1))
rests_with Z body (Selecting S) v e = ap (λ h. (cond h (resumed_walk Z S body 0 v) (ended 0)).code) (or_parts (holds S body 0) false e).0

-- one instant
module _ (p : Program) (kernel : HasExitCodes p.body) (nl : NoInstantLoop p.body) (q : State) (event : List Bool) (V : Valuation) (state : IsState q p.body)
    (s : SolvesGraph (graph_of p) q event V) where
  abbrev S : ℕ → Bool
  S = selected_of q

  abbrev v : Values
  v = program_values p event V

  started : StartedWalked V p.body 0 (Started 0) v (is_initial q)
  started = top_started p.inputs (outgoing_count p) (given_count p) p.body q event V nl kernel state s.met s.others

  resumed : has_code (resumed_codes p.body) ≡ true → ResumedWalked V S p.body 0 v (holds S p.body 0)
  resumed live = top_resumed p.inputs (outgoing_count p) (given_count p) p.body q event V nl kernel state s.met s.others live

  resumed_end : (k : ℕ) → V (End 0 Resumed k) ≡ (holds S p.body 0 && (k == (resumed_walk (statuses V) S p.body 0 v).code))
  resumed_end k =
      ⊎_elim
      (λ live. (resumed_at V S p.body 0 v (holds S p.body 0) kernel (resumed live)).ends k)
      (λ dead.
      dead_wire p.inputs (outgoing_count p) (given_count p) p.body q event V kernel s.others 0 Resumed k
      (subst (λ t. resumed_codes t k ≡ false) (sym (top_statement p.body)) (no_code p.body k kernel dead))
      ∙ sym (ap (λ b. b && (k == (resumed_walk (statuses V) S p.body 0 v).code)) (not_held S p.body nl kernel (state_reach q p.body state).selected dead)))
      (cases_Bool (has_code (resumed_codes p.body)))

  ends_are : (k : ℕ) → ends_with V k ≡ (runs_in q p.body && (k == (graph_walk p q event V).code))
  ends_are k = or-equal (resumed_end k) ((started_at V p.body 0 (Started 0) v (is_initial q) kernel started).ends k) ∙ code_is (statuses V) p.body q v k

  code_below : (graph_walk p q event V).code < 64
  code_below = below q v (state_reach q p.body state).selected
    where
      below : (r : State) (u : Values) → (holds (selected_of r) p.body 0 ≡ true → IsSelected (selected_of r) p.body 0) →
          (body_walk (statuses V) r p.body u).code < 64
      below Initial u h = started_below p.body kernel _ (started_code (statuses V) p.body 0 (Started 0) u nl kernel)
      below (Selecting R) u h =
          cond_both (holds R p.body 0) (resumed_walk (statuses V) R p.body 0 u) (ended 0) (λ w. w.code < 64)
          (λ e. resumed_below p.body kernel _ (resumed_code (statuses V) R p.body 0 u nl kernel e (h e))) (λ e. omega arith)

  pub code_shown : shown_code V ≡ (graph_walk p q event V).code
  code_shown =
      ⊎_elim
      (λ e. first_listed (ends_with V) (graph_walk p q event V).code code_below (λ k. ends_are k ∙ ap (λ b. b && (k == (graph_walk p q event V).code)) e))
      (λ e. none_listed (ends_with V) (λ k. ends_are k ∙ ap (λ b. b && (k == (graph_walk p q event V).code)) e) ∙ sym (rests_with (statuses V) p.body q v e))
      (cases_Bool (runs_in q p.body))

  pub paused_is : (shown (graph_of p) V).paused ≡ ((graph_walk p q event V).code == 1)
  paused_is =
      ⊎_elim
      (λ e. ends_are 1 ∙ ap (λ b. b && (1 == (graph_walk p q event V).code)) e ∙ one_flip (graph_walk p q event V).code)
      (λ e. ends_are 1 ∙ ap (λ b. b && (1 == (graph_walk p q event V).code)) e
      ∙ sym (ne_eqb (graph_walk p q event V).code 1 (λ z. let o = rests_with (statuses V) p.body q v e in omega (arith, z, o))))
      (cases_Bool (runs_in q p.body))

  -- the next state, where leaves are selected
  module _ (leaves : SelectsLeaves q p.body) where
    abbrev K : ℕ → Bool
    K = (graph_walk p q event V).kept

    abbrev T : ℕ → Bool
    T = selected_of (next_state (graph_of p) q event V)

    pub next_as : (m : ℕ) → T m ≡ K m
    next_as m =
        next_kept (is_given event) V (program_scope p.inputs (interface_count p)) p.body q v nl kernel state (record { each = λ i. refl }) started resumed
        (pauses_of q p.body leaves) m

    same : (a b : ℕ) → Same T K a b
    same a b = record { at = λ m l u. next_as m }

    pub next_is_state : IsState (next_state (graph_of p) q event V) p.body
    next_is_state = λ h.
        selected_as K T p.body 0 (record { at = λ m l u. sym (next_as m) })
        (keeps_state (statuses V) q p.body v kernel nl state (sym (holds_same T K p.body 0 (same _ _)) ∙ h))

    pub next_leaves : SelectsLeaves (next_state (graph_of p) q event V) p.body
    next_leaves = λ m e.
        (and_parts _ _ (sym (next_selected (is_given event) V (program_scope p.inputs (interface_count p)) p.body q v nl kernel state
        (record { each = λ i. refl }) started resumed m) ∙ e)).0

    pub next_residual : resumption K p.body ≡ remaining (next_state (graph_of p) q event V) p.body
    next_residual =
        sym (ap (λ b. left_if b (residual T p.body 0)) (holds_same T K p.body 0 (same _ _))
        ∙ ap (λ r. left_if (holds K p.body 0) r) (residual_same T K p.body 0 (same _ _)))

pub next_state_is_kept_lem : NextStateIsKept
next_state_is_kept_lem p q event V kernel nl state leaves s = (
  next_as p kernel nl q event V state s leaves,
  next_is_state p kernel nl q event V state s leaves,
  next_leaves p kernel nl q event V state s leaves,
  paused_is p kernel nl q event V state s,
)

pub codes_are_shown_lem : CodesAreShown
codes_are_shown_lem p q event V kernel nl state s = code_shown p kernel nl q event V state s
