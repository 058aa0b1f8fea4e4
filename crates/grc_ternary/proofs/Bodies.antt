-- The wires of a whole body and its outgoing signals, met by new statuses under old ones.
use Rattle.std.proofs.Common.{◌≡◌, ℕ, ◌+◌, ◌<◌, ◌≤◌, Bool, true, false, ◌&&◌, ◌||◌, cond, ltb, List, [], ◌∷◌, length, refl, sym, ap}
use Rattle.std.proofs.Common.{◌∙◌, inl, ⊎_elim, arith}
use Rattle.std.specs.List.{range_with_len}
use Rattle.std.specs.Prelude.{Contains}
use Rattle.std.proofs.lemmas.List.{get_or_past}
use Rattle.std.proofs.lemmas.Bool.{cond_both, false≢true, lt-ltb, cases_lt, both_ways, false_from_ne_true}
use Rattle.base_facts.proofs.Lists.{Every}
use Rattle.est_kernel.specs.Terms.{Term}
use Rattle.est_kernel.specs.Statuses.{Status, Unknown, Environment, known, disjunction}
use Rattle.est_kernel.specs.Preorder.{statement_count}
use Rattle.est_kernel.specs.StaticCodes.{has_code, resumed_codes, NoInstantLoop}
use Rattle.est_kernel.specs.Reactions.{is_given}
use Rattle.est_kernel.proofs.Exports.{statement_count-some}
use Rattle.grc_graph.specs.Layers.{Layer, Resumed, Started, body_layers, body_liveness}
use Rattle.grc_graph.specs.Scopes.{Binding, Entering, Outgoing, BoundAt, Unbound, Scope}
use Rattle.grc_graph.specs.Wires.{Out, Go}
use Rattle.grc_graph.specs.Formulas.{Input}
use Rattle.grc_graph.specs.Spots.{Spot, body_entry}
use Rattle.grc_graph.specs.Equations.{output_equation, emissions}
use Rattle.grc_graph.specs.Residuals.{holds}
use Rattle.grc_graph.specs.Walk.{State, is_initial}
use Rattle.grc_graph.specs.Readings.{state_holds_at}
use Rattle.grc_graph.specs.Selected.{HasExitCodes, IsState}
use Rattle.grc_graph.proofs.Exports.{body_agrees}
use Rattle.grc_solutions_laws.specs.GraphWalks.{selected_of}
use Rattle.grc_solutions.proofs.Exports.{every_at, every_map, Root}
use Rattle.grc_ternary.proofs.Scoped.{has_value, InScope}
use Rattle.grc_solutions_laws.proofs.Exports.{emission, started_any, resumed_any, split, head_started, head_resumed, finds_self, state_finds, state_reach}
use Rattle.grc_solutions_laws.proofs.Exports.{no_bound}
use Rattle.grc_solutions_laws.proofs.Exports.{above_top, out_shows, out_fresh}
use Rattle.est_ternary.specs.TriWalks.{where_met}
use Rattle.est_ternary.specs.Laws.{sure, possible}
use Rattle.est_ternary.proofs.Exports.{IsRail, sure_rail, possible_rail, same_rails}
use Rattle.grc_ternary.specs.LeastSolutions.{Statuses}
use Rattle.grc_ternary.proofs.Formulas.{val, or_all, if_meaning, two_meaning, SeesStatuses, seen_status, rail_emissions}
use Rattle.grc_ternary.proofs.StartedPlaces.{emits, Follows}
use Rattle.grc_ternary.proofs.ResumedPlaces.{resumed_emits, FollowsResumed}
use Rattle.grc_ternary.proofs.Quiet.{OffLayers, DeepQuiet, deep_quiet}
use Rattle.grc_ternary.proofs.Emitted.{started_emitted, resumed_emitted, deep_emits}
use Rattle.grc_ternary.proofs.StartedEquations.{Next, follows_started}
use Rattle.grc_ternary.proofs.QuietEquations.{deep_follows}
use Rattle.grc_ternary.proofs.ResumedEquations.{follows_resumed, low_roots}
use Rattle.grc_ternary.proofs.Rows.{Off, off_layers, RowMet, each_next, output_rows}
use Rattle.grc_ternary.proofs.Rows as programs

module _ (inputs outs given_count : ℕ) (body : Term) (q : State) (event : List Bool) where
  abbrev pub B0 : Scope
  B0 = programs.B0 inputs outs given_count body

  abbrev pub all : List Spot
  all = programs.all inputs outs given_count body

  abbrev pub S : ℕ → Bool
  S = selected_of q

  -- ---- what the body sees

  -- the statuses of its signals: of the inputs from the event, of the outgoing ones from their wires; of no other anything
  abbrev pub shown_as : Statuses → Binding → ℕ → Status
  shown_as U Entering s = known (is_given event s)
  shown_as U Outgoing s = U (Out s)
  shown_as U _ s = Unknown

  abbrev pub shown_env : Statuses → Environment
  shown_env U = λ s. shown_as U (B0 s) s

  pub sees_shown : (U : Statuses) (l : Layer) → SeesStatuses body q (is_given event) U B0 l (shown_env U)
  sees_shown U l = record { each = λ s. at s (B0 s) refl }
    where
      at : (s : ℕ) (b : Binding) → B0 s ≡ b → has_value b ≡ true → shown_as U b s ≡ seen_status body q (is_given event) U b s l
      at s (BoundAt n) e h = absurd (no_bound inputs outs body s n e)
      at s Unbound e h = absurd (false≢true h)
      at s _ e h = refl

  -- ---- its wires

  module _ (W U : Statuses) (nl : NoInstantLoop body) (kernel : HasExitCodes body) (scope : InScope B0 body) (state : IsState q body)
      (width : length event ≡ given_count)
      (met : Every (RowMet inputs outs given_count body q (is_given event) W U) (programs.rows inputs outs given_count body))
      (offW : Off inputs outs given_count body W) (offU : Off inputs outs given_count body U) where
    abbrev N : Spot → Type 0
    N = Next body q (is_given event) W U all

    layersW : OffLayers (body_layers body) W
    layersW = off_layers inputs outs given_count body W offW

    layersU : OffLayers (body_layers body) U
    layersU = off_layers inputs outs given_count body U offU

    low : (r : ℕ) → Root r (0 ∷ []) → r ≤ 0
    low r i = ⊎_elim (λ e. omega arith) (λ e. absurd e) i

    deep : (T : Statuses) → OffLayers (body_layers body) T → has_code (resumed_codes body) ≡ false → DeepQuiet T 0 (statement_count body)
    deep T o z = deep_quiet (body_layers body) T o (body_liveness body) body 0 (body_agrees body) z (low_roots (0 ∷ []) 0 low)

    pub body_follows : Follows W U body 0 (Started 0) (shown_env U)
    body_follows =
        follows_started body q (is_given event) W U all (body_layers body) layersW layersU (body_liveness body) body B0 body_entry 0 0 (shown_env U)
        (body_agrees body) (inl refl) (omega arith) nl kernel scope (above_top inputs outs body)
        (λ f. record { own = λ j i l u. refl }) (each_next inputs outs given_count body q (is_given event) W U kernel met offW offU).1
        (sees_shown U (Started 0))

    by_live : {X : Type 0} → (has_code (resumed_codes body) ≡ true → X) → (has_code (resumed_codes body) ≡ false → X) → X
    by_live f g = by (has_code (resumed_codes body)) f g
      where
        by : {X : Type 0} (b : Bool) → (b ≡ true → X) → (b ≡ false → X) → X
        by true f g = f refl
        by false f g = g refl

    pub body_resumes : FollowsResumed W U S body 0 (shown_env U)
    body_resumes =
        by_live
        (λ live. follows_resumed body q (is_given event) W U all (body_layers body) layersW layersU S (body_liveness body) body B0 body_entry 0 (shown_env U)
        (body_agrees body) live low live nl kernel scope (above_top inputs outs body) (λ f. record { own = λ j i l u. refl })
        ((each_next inputs outs given_count body q (is_given event) W U kernel met offW offU).0 live) (sees_shown U Resumed)
        (λ h. (state_reach q body state).selected h) (state_finds q body))
        (λ z. deep_follows W U S body 0 (shown_env U) kernel (deep W layersW z) (deep U layersU z))

    -- the body starts in the first instant
    pub body_starts : W (Go 0 (Started 0)) ≡ known (is_initial q)
    body_starts = (head_started N B0 body_entry body 0 (Started 0) kernel
        (each_next inputs outs given_count body q (is_given event) W U kernel met offW offU).1).go

    -- and is resumed where it holds a selected pause
    pub body_is_resumed : (holds S body 0 ≡ true → has_code (resumed_codes body) ≡ true) → W (Go 0 Resumed) ≡ known (holds S body 0)
    body_is_resumed lives =
        by_live
        (λ live. (head_resumed N B0 body_entry body 0 kernel ((each_next inputs outs given_count body q (is_given event) W U kernel met offW offU).0 live)).go
        ∙ ap known (finds_self (λ m. state_holds_at q body m) S body 0 (state_finds q body)))
        (λ z. ((deep W layersW z).resumed.at 0 (omega arith) (omega (arith, statement_count-some body))).0
        ∙ ap known (sym (false_from_ne_true (holds S body 0) (λ h. both_ways (has_code (resumed_codes body)) z (lives h)))))

    -- ---- its outgoing signals

    -- what the body emits
    abbrev pub body_emits : Statuses → ℕ → Status
    body_emits T o = disjunction (resumed_emits T body 0 o) (emits T body 0 (Started 0) o)

    or_none : (b : Bool) → (b || false) ≡ b
    or_none true = refl
    or_none false = refl

    emissions_rail : (f : Status → Bool) → IsRail f → (o : ℕ) → inputs ≤ o → o < inputs + outs →
        f (or_all body q (is_given event) U (emissions (Out o) all)) ≡ f (body_emits U o)
    emissions_rail f r o i j =
        let F = emission (λ u. f (U u)) (Out o) in
        rail_emissions body q (is_given event) U f r (Out o) all
        ∙ split F (body_layers body) (body_liveness body) B0 body_entry body 0 kernel (body_agrees body)
        ∙ ap (λ b. b || (started_any F B0 body_entry body 0 (Started 0) || false))
        (guard (has_code (resumed_codes body)) refl
        (λ live. resumed_emitted f r (body_layers body) U layersU (Out o) o true body B0 body_entry 0 (body_liveness body) (body_agrees body) live
        (low_roots (0 ∷ []) 0 low) live kernel (out_fresh inputs outs body o) (above_top inputs outs body) (out_shows inputs outs body o Resumed i j))
        (λ z. ap f (deep_emits U body 0 o (deep U layersU z)) ∙ r.minus))
        ∙ ap (λ b. f (resumed_emits U body 0 o) || b)
        (or_none (started_any F B0 body_entry body 0 (Started 0))
        ∙ started_emitted f r (body_layers body) U layersU (Out o) o true body B0 body_entry 0 0 (body_liveness body) (body_agrees body) (omega arith) kernel
        (out_fresh inputs outs body o) (out_shows inputs outs body o (Started 0) i j))
        ∙ sym (r.some (resumed_emits U body 0 o) (emits U body 0 (Started 0) o))
      where
        guard : (b : Bool) → has_code (resumed_codes body) ≡ b →
            (has_code (resumed_codes body) ≡ true →
            resumed_any (emission (λ u. f (U u)) (Out o)) B0 body_entry body 0 ≡ (true && f (resumed_emits U body 0 o))) →
            (has_code (resumed_codes body) ≡ false → f (resumed_emits U body 0 o) ≡ false) →
            (b && resumed_any (emission (λ u. f (U u)) (Out o)) B0 body_entry body 0) ≡ f (resumed_emits U body 0 o)
        guard true e x y = x e
        guard false e x y = sym (y e)

    emissions_are : (o : ℕ) → inputs ≤ o → o < inputs + outs → or_all body q (is_given event) U (emissions (Out o) all) ≡ body_emits U o
    emissions_are o i j = same_rails _ _ (emissions_rail sure sure_rail o i j) (emissions_rail possible possible_rail o i j)

    given_value : (o : ℕ) → or_all body q (is_given event) U (cond (ltb o given_count) (Input o ∷ []) []) ≡ known (is_given event o)
    given_value o =
        if_meaning body q (is_given event) U (ltb o given_count) (Input o)
        ∙ cond_both (ltb o given_count) true false (λ c. where_met (ltb o given_count) (known (is_given event o)) ≡ known (is_given event o))
        (λ e. ap (λ c. where_met c (known (is_given event o))) e)
        (λ e. ap (λ c. where_met c (known (is_given event o))) e
        ∙ ap known (sym (get_or_past event o false
        (⊎_elim (λ l. absurd (false≢true (sym e ∙ lt-ltb o given_count l))) (λ l. omega arith) (cases_lt o given_count)))))

    -- an outgoing signal is present where it is given or emitted
    pub output_next : (o : ℕ) → Contains (range_with_len inputs outs) o → inputs ≤ o → o < inputs + outs →
        W (Out o) ≡ disjunction (known (is_given event o)) (body_emits U o)
    output_next o c i j =
        every_at (λ s. W (Out s) ≡ val body q (is_given event) U (output_equation given_count all s).formula) (range_with_len inputs outs)
        (every_map (RowMet inputs outs given_count body q (is_given event) W U) (output_equation given_count all) (range_with_len inputs outs)
        (output_rows inputs outs given_count body q (is_given event) W U met)) o c
        ∙ two_meaning body q (is_given event) U (cond (ltb o given_count) (Input o ∷ []) []) (emissions (Out o) all)
        ∙ ap (λ v. disjunction v (or_all body q (is_given event) U (emissions (Out o) all))) (given_value o)
        ∙ ap (λ v. disjunction (known (is_given event o)) v) (emissions_are o i j)
