-- The state that the next formulas of a body tell is what its walk keeps.
use Rattle.std.proofs.Common.{◌≡◌, ℕ, Bool, true, false, ◌&&◌, ◌||◌, ◌==◌, cond, List, [], ◌∷◌, ◌++◌, map, refl, sym, ap, ◌∙◌, arith}
use Rattle.std.specs.List.{list_any, flat_map}
use Rattle.std.proofs.lemmas.List.Folds.{list_any-append}
use Rattle.std.proofs.lemmas.Bool.{and_from, and_parts, eqb-true, cond_both, false≢true}
use Rattle.base_facts.proofs.Lists.{map-twice}
use Rattle.base_facts.proofs.Tests.{or-equal, or-false, same-tests}
use Rattle.est_kernel.specs.Terms.{Term}
use Rattle.est_kernel.specs.StaticCodes.{has_code, resumed_codes, NoInstantLoop}
use Rattle.grc_graph.specs.Layers.{Layer, Resumed, Started, body_layers, body_liveness}
use Rattle.grc_graph.specs.Scopes.{Scope}
use Rattle.grc_graph.specs.Wires.{Go}
use Rattle.grc_graph.specs.Formulas.{Selected, Held, Conjunction}
use Rattle.grc_graph.specs.Equations.{kept_start, next_formula}
use Rattle.grc_graph.specs.SelectionTrees.{resumes, body_leaves, selecting}
use Rattle.grc_graph.specs.Residuals.{holds}
use Rattle.grc_graph.specs.Walk.{Values, State, Initial, Selecting, ended, is_initial, started_walk, resumed_walk, body_walk}
use Rattle.grc_graph.specs.Selected.{HasExitCodes, IsSelected, IsState}
use Rattle.grc_graph.specs.Readings.{Valuation, state_holds_at, kept_at, held_at}
use Rattle.grc_graph.specs.Coherence.{statuses, StartedWalked, ResumedWalked}
use Rattle.grc_graph.proofs.Exports.{holds-false}
use Rattle.grc_solutions_laws.specs.GraphWalks.{selected_of}
use Rattle.grc_solutions_laws.proofs.Residues.{resumed_live}
use Rattle.grc_solutions_laws.proofs.Kept.{started_keeps, resumed_keeps}
use Rattle.grc_solutions_laws.proofs.EndForms.{val, any_meaning}
use Rattle.grc_solutions_laws.proofs.Meets.{Sees}
use Rattle.grc_solutions_laws.proofs.Tops.{state_reach}
use Rattle.grc_solutions_laws.proofs.Ways.{Way, goal, way_held, holds_at_goal, start_keeps, restart_keeps, layer_keeps, parted}
use Rattle.grc_solutions_laws.proofs.NextKept.{guard_total, started_kept, resumed_kept}
use Rattle.grc_solutions_laws.proofs.NextStates.{started_selected, resumed_selected, IsWay, AllWays, started_ways, resumed_ways, among, leaf_way, way_leaf}
use Rattle.grc_solutions_laws.proofs.NextStates.{live_leaf}

-- what a walk of a state keeps is a state
pub keeps_state : (Z : ℕ → Layer → Bool) (q : State) (body : Term) (v : Values) → HasExitCodes body → NoInstantLoop body → IsState q body →
    holds (body_walk Z q body v).kept body 0 ≡ true → IsSelected (body_walk Z q body v).kept body 0
keeps_state Z Initial body v kernel nl state = λ h.
    let w = started_walk Z body 0 (Started 0) v in
    started_selected Z body 0 (Started 0) v nl kernel
    (eqb-true w.code 1 (sym ((started_keeps Z body 0 (Started 0) v kernel).held w.kept (record { at = λ m l u. refl })) ∙ h))
    w.kept (record { at = λ m l u. refl })
keeps_state Z (Selecting S) body v kernel nl state =
    cond_both (holds S body 0) (resumed_walk Z S body 0 v) (ended 0) (λ w. holds w.kept body 0 ≡ true → IsSelected w.kept body 0)
    (λ e h.
    let w = resumed_walk Z S body 0 v in
    resumed_selected Z S body 0 v nl kernel e (state e)
    (eqb-true w.code 1 (sym ((resumed_keeps Z S body 0 v kernel e).held w.kept (record { at = λ m l u. refl })) ∙ h))
    w.kept (record { at = λ m l u. refl }))
    (λ e h. absurd (false≢true (sym (holds-false body 0) ∙ h)))

-- the selected pauses of a state are pauses
abbrev pub StatePauses : State → Term → Type 0
StatePauses q body = (m : ℕ) → selected_of q m ≡ true → IsWay body 0 m

pub walk_ways : (Z : ℕ → Layer → Bool) (q : State) (body : Term) (v : Values) → HasExitCodes body → StatePauses q body →
    AllWays (body_walk Z q body v).kept body 0
walk_ways Z Initial body v kernel h = started_ways Z body 0 (Started 0) v kernel
walk_ways Z (Selecting S) body v kernel h =
    cond_both (holds S body 0) (resumed_walk Z S body 0 v) (ended 0) (λ w. AllWays w.kept body 0)
    (λ e. resumed_ways Z S body 0 v kernel (record { each = λ m i l u. h m i }))
    (λ e m i. absurd (false≢true i))

move_start : (l r s x : Bool) → (((l && r) || (s || false)) || x) ≡ (((l && r) || x) || s)
move_start l r s x = go (l && r) s x
  where
    go : (a s x : Bool) → ((a || (s || false)) || x) ≡ ((a || x) || s)
    go true s x = refl
    go false true true = refl
    go false true false = refl
    go false false true = refl
    go false false false = refl

-- which numbers a list of values selects
select_one : (d : Bool) (a b c r : Bool) → (d ≡ true → a ≡ b) → r ≡ (c && b) → cond d a r ≡ ((d || c) && b)
select_one true a b c r f e = f refl
select_one false a b c r f e = e

pub selecting_is : (F : ℕ → Bool) (ms : List ℕ) (m : ℕ) → selecting ms (map F ms) m ≡ (among m ms && F m)
selecting_is F [] m = refl
selecting_is F (x ∷ ms) m =
    select_one (m == x) (F x) (F m) (among m ms) (selecting ms (map F ms) m) (λ e. ap F (sym (eqb-true m x e))) (selecting_is F ms m)

module _ (given : Values) (V : Valuation) (B : Scope) (body : Term) (q : State) (v : Values) (nl : NoInstantLoop body) (kernel : HasExitCodes body)
    (state : IsState q body) (sees : Sees given V B Resumed v) (started : StartedWalked V body 0 (Started 0) v (is_initial q))
    (resumed : has_code (resumed_codes body) ≡ true → ResumedWalked V (selected_of q) body 0 v (holds (selected_of q) body 0)) where
  abbrev S : ℕ → Bool
  S = selected_of q

  starts_any : (n : ℕ) (ls : List Layer) → list_any (val B body q given V) (flat_map (kept_start n) ls) ≡ list_any (layer_keeps V (λ l. true) body 0 n) ls
  starts_any n [] = refl
  starts_any n (Resumed ∷ ls) = starts_any n ls
  starts_any n (Started r ∷ ls) = ap (λ b. (V (Go n (Started r)) && kept_at V body 0 n (Started r)) || b) (starts_any n ls)

  next_value : (n : ℕ) (ls : List Layer) → val B body q given V (next_formula n ls) ≡
      (list_any (layer_keeps V (λ l. true) body 0 n) ls || (state_holds_at q body n && held_at given V B body 0 n Resumed))
  next_value n ls =
      let own = Conjunction (Selected n) (Held n Resumed) ∷ [] in
      any_meaning B body q given V (flat_map (kept_start n) ls ++ own)
      ∙ list_any-append (val B body q given V) (flat_map (kept_start n) ls) own
      ∙ or-equal (starts_any n ls) (or-false (state_holds_at q body n && held_at given V B body 0 n Resumed))

  state_selected : (h : Way body) → state_holds_at q body (goal body 0 h) ≡ S (goal body 0 h)
  state_selected h = go q
    where
      go : (r : State) → state_holds_at r body (goal body 0 h) ≡ selected_of r (goal body 0 h)
      go Initial = refl
      go (Selecting T) = holds_at_goal T body 0 h

  walk_kept : (m : ℕ) → ((holds S body 0 && (resumed_walk (statuses V) S body 0 v).kept m)
      || (is_initial q && (started_walk (statuses V) body 0 (Started 0) v).kept m)) ≡ (body_walk (statuses V) q body v).kept m
  walk_kept m = go q v
    where
      go : (r : State) (u : Values) → ((holds (selected_of r) body 0 && (resumed_walk (statuses V) (selected_of r) body 0 u).kept m)
          || (is_initial r && (started_walk (statuses V) body 0 (Started 0) u).kept m)) ≡ (body_walk (statuses V) r body u).kept m
      go Initial u = ap (λ b. (b && (resumed_walk (statuses V) (λ i. false) body 0 u).kept m) || (started_walk (statuses V) body 0 (Started 0) u).kept m)
          (holds-false body 0)
      go (Selecting T) u = held (holds T body 0)
        where
          held : (h : Bool) → ((h && (resumed_walk (statuses V) T body 0 u).kept m) || false) ≡ (cond h (resumed_walk (statuses V) T body 0 u) (ended 0)).kept m
          held true = or-false _
          held false = refl

  -- the next formula of a pause
  pub next_way : (h : Way body) → val B body q given V (next_formula (goal body 0 h) (body_layers body (goal body 0 h))) ≡
      (body_walk (statuses V) q body v).kept (goal body 0 h)
  next_way h =
      let m = goal body 0 h in
      let X = S m && held_at given V B body 0 m Resumed in
      let R = restart_keeps V body 0 h in
      let L = has_code (resumed_codes body) in
      let s = start_keeps V body 0 h 0 in
      let selected : holds S body 0 ≡ true → IsSelected S body 0 = (state_reach q body state).selected in
      next_value m (body_layers body m)
      ∙ or-equal
      (parted V (λ l. true) (body_liveness body) body 0 h (record { same = λ r u. refl }))
      (ap (λ b. b && held_at given V B body 0 m Resumed) (state_selected h))
      ∙ move_start L R s X
      ∙ or-equal
      (guard_total L R (S m) (held_at given V B body 0 m Resumed) (holds S body 0) ((resumed_walk (statuses V) S body 0 v).kept m)
      (λ live. resumed_kept V S given body B 0 v (holds S body 0) h nl kernel selected (λ e. e) sees (resumed live))
      (λ e. resumed_live S body 0 nl kernel e (selected e))
      (λ e. let y = way_held S body 0 h e in resumed_live S body 0 nl kernel y (selected y)))
      (started_kept V body 0 0 v (is_initial q) h (omega arith) nl kernel started)
      ∙ walk_kept m

  abbrev next_bit : ℕ → Bool
  next_bit n = val B body q given V (next_formula n (body_layers body n))

  pub next_selected : (m : ℕ) → selecting (body_leaves body) (map (λ a. val B body q given V a)
      (map (λ n. next_formula n (body_layers body n)) (body_leaves body))) m ≡ (among m (body_leaves body) && next_bit m)
  next_selected m =
      ap (λ bits. selecting (body_leaves body) bits m) (map-twice (λ a. val B body q given V a) (λ n. next_formula n (body_layers body n)) (body_leaves body))
      ∙ selecting_is next_bit (body_leaves body) m

  -- the state that the next formulas tell
  pub next_kept : StatePauses q body → (m : ℕ) → selecting (body_leaves body)
      (map (λ a. val B body q given V a) (map (λ n. next_formula n (body_layers body n)) (body_leaves body))) m ≡ (body_walk (statuses V) q body v).kept m
  next_kept pauses m =
      let K = (body_walk (statuses V) q body v).kept in
      next_selected m
      ∙ same-tests (among m (body_leaves body) && next_bit m) (K m)
      (λ e.
      let a = and_parts (among m (body_leaves body)) (next_bit m) e in
      let w = leaf_way (resumes body) body 0 m a.0 in
      ap K (sym w.1) ∙ sym (next_way w.0) ∙ ap next_bit w.1 ∙ a.1)
      (λ e.
      let w = walk_ways (statuses V) q body v kernel pauses m e in
      let f : K (goal body 0 w.0) ≡ true = ap K w.1 ∙ e in
      let held = way_held K body 0 w.0 f in
      let selected = keeps_state (statuses V) q body v kernel nl state held in
      and_from _ _
      (ap (λ i. among i (body_leaves body)) (sym w.1)
      ∙ live_leaf (resumes body) body 0 (goal body 0 w.0) (resumed_live K body 0 nl kernel held selected) (way_leaf K body 0 w.0 nl kernel selected f))
      (ap next_bit (sym w.1) ∙ next_way w.0 ∙ f))
