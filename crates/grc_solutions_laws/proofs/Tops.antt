-- What the body of a program sees, selects and emits, and what the equation of an outgoing signal means.
use Rattle.std.proofs.Common.{◌≡◌, ℕ, ◌+◌, ◌<◌, ◌≤◌, Bool, true, false, ◌&&◌, ◌||◌, ◌==◌, cond, ltb, List, [], ◌∷◌, ◌++◌, length, refl, sym, ap, ◌∙◌, ⊎_elim}
use Rattle.std.proofs.Common.{arith}
use Rattle.std.specs.List.{list_any}
use Rattle.std.proofs.lemmas.List.{get_or_past}
use Rattle.std.proofs.lemmas.List.Folds.{list_any-append}
use Rattle.std.proofs.lemmas.Bool.{ne_eqb, cond_both, false≢true, lt-ltb, cases_lt, cond-true, cond-false}
use Rattle.base_facts.proofs.Tests.{ltb-not, or-false}
use Rattle.est_kernel.specs.Terms.{Term, Present, Suspend, Seq, Loop, Par, Trap, Local}
use Rattle.est_kernel.specs.Preorder.{statement_count}
use Rattle.est_kernel.specs.StaticCodes.{has_code, resumed_codes, NoInstantLoop}
use Rattle.est_kernel.specs.Reactions.{is_given}
use Rattle.grc_graph.specs.Layers.{Layer, Resumed, Started, body_layers, body_liveness}
use Rattle.grc_graph.specs.Scopes.{Binding, Entering, Outgoing, BoundAt, Unbound, Scope, program_scope}
use Rattle.grc_graph.specs.Wires.{Out, status_wire}
use Rattle.grc_graph.specs.Formulas.{Input}
use Rattle.grc_graph.specs.Spots.{Spot, body_spots, body_entry}
use Rattle.grc_graph.specs.Equations.{output_equation, emissions, is_wire}
use Rattle.grc_graph.specs.Residuals.{holds}
use Rattle.grc_graph.specs.Walk.{Values, State, Initial, Selecting, started_walk, resumed_walk, body_walk, ended, is_initial}
use Rattle.grc_graph.specs.Selected.{HasExitCodes, IsState}
use Rattle.grc_graph.specs.Readings.{Valuation, seen_value, seen_values, holds_at, state_holds_at}
use Rattle.grc_graph.specs.Coherence.{statuses, StartedWalked, ResumedWalked}
use Rattle.grc_solutions_laws.specs.GraphWalks.{selected_of}
use Rattle.grc_solutions_laws.proofs.Residues.{resumed_live}
use Rattle.grc_solutions.proofs.Exports.{Above}
use Rattle.grc_graph.proofs.Exports.{body_agrees, holds-false}
use Rattle.grc_solutions_laws.proofs.Emissions.{emission, emitted}
use Rattle.grc_solutions_laws.proofs.Bridge.{started_any, resumed_any, split}
use Rattle.grc_solutions_laws.proofs.WalkEmits.{Fresh, Shows, Reach, started_emits, resumed_emits, guard_bits}
use Rattle.grc_solutions_laws.proofs.EndForms.{val, any_meaning}
use Rattle.grc_solutions_laws.proofs.Meets.{Finds}
use Rattle.grc_solutions_laws.proofs.Standing.{Stands}
use Rattle.grc_solutions_laws.proofs.Joint.{emissions_any}

-- the place of a number in a program's scope
pub data InPart (inputs interface s : ℕ) (b : Binding) : Type 0 where
  enters : s < inputs → b ≡ Entering → InPart inputs interface s b
  goes_out : inputs ≤ s → s < interface → b ≡ Outgoing → InPart inputs interface s b
  unbound : interface ≤ s → b ≡ Unbound → InPart inputs interface s b

pub scope_part : (inputs interface s : ℕ) → inputs ≤ interface → InPart inputs interface s (program_scope inputs interface s)
scope_part inputs interface s l =
    ⊎_elim
    (λ h. enters h (cond-true _ Entering _ (lt-ltb s inputs h)))
    (λ h.
    ⊎_elim
    (λ k. goes_out h k (cond-false _ Entering _ (ltb-not s inputs h) ∙ cond-true _ Outgoing Unbound (lt-ltb s interface k)))
    (λ k. unbound k (cond-false _ Entering _ (ltb-not s inputs h) ∙ cond-false _ Outgoing Unbound (ltb-not s interface k)))
    (cases_lt s interface))
    (cases_lt s inputs)

cond_none : (c : Bool) {x y : Bool} → x ≡ false → y ≡ false → cond c x y ≡ false
cond_none true e f = e
cond_none false e f = f

nothing_at : (t : Term) (n m : ℕ) → holds_at (λ i. false) t n m ≡ false
nothing_at (Present e p q) n m =
    cond_none (m == n) (holds-false (Present e p q) n) (cond_none (ltb m (n + 1 + statement_count p)) (nothing_at p (n + 1) m)
    (nothing_at q (n + 1 + statement_count p) m))
nothing_at (Suspend e p) n m = cond_none (m == n) (holds-false (Suspend e p) n) (nothing_at p (n + 1) m)
nothing_at (Seq p q) n m =
    cond_none (m == n) (holds-false (Seq p q) n) (cond_none (ltb m (n + 1 + statement_count p)) (nothing_at p (n + 1) m)
    (nothing_at q (n + 1 + statement_count p) m))
nothing_at (Loop at p) n m = cond_none (m == n) (holds-false (Loop at p) n) (nothing_at p (n + 1) m)
nothing_at (Par p q) n m =
    cond_none (m == n) (holds-false (Par p q) n) (cond_none (ltb m (n + 1 + statement_count p)) (nothing_at p (n + 1) m)
    (nothing_at q (n + 1 + statement_count p) m))
nothing_at (Trap p) n m = cond_none (m == n) (holds-false (Trap p) n) (nothing_at p (n + 1) m)
nothing_at (Local x p) n m = cond_none (m == n) (holds-false (Local x p) n) (nothing_at p (n + 1) m)
nothing_at _ n m = refl

pub state_finds : (q : State) (body : Term) → Finds (λ m. state_holds_at q body m) (selected_of q) body 0
state_finds Initial body = record { each = λ m l u. sym (nothing_at body 0 m) }
state_finds (Selecting S) body = record { each = λ m l u. refl }

pub state_reach : (q : State) (body : Term) → IsState q body → Reach (selected_of q) body 0 (holds (selected_of q) body 0)
state_reach Initial body s =
    record {
      held = λ e. e;
      selected = λ e. absurd (false≢true (sym (holds-false body 0) ∙ e));
    }
state_reach (Selecting S) body s = record { held = λ e. e; selected = s }

module _ (inputs outs : ℕ) (body : Term) where
  abbrev pub B0 : Scope
  B0 = program_scope inputs (inputs + outs)

  abbrev pub body_all : List Spot
  body_all = body_spots (body_layers body) B0 body

  pub no_bound : (s b : ℕ) → B0 s ≡ BoundAt b → ⊥
  no_bound s b e = go (scope_part inputs (inputs + outs) s (omega arith))
    where
      go : InPart inputs (inputs + outs) s (B0 s) → ⊥
      go (enters l h) = let f : Entering ≡ BoundAt b = sym h ∙ e in cc
      go (goes_out l k h) = let f : Outgoing ≡ BoundAt b = sym h ∙ e in cc
      go (unbound l h) = let f : Unbound ≡ BoundAt b = sym h ∙ e in cc

  pub seen_free : (given : Values) (V : Valuation) (b : Binding) (s : ℕ) → ((c : ℕ) → b ≡ BoundAt c → ⊥) →
      seen_value given V b s Resumed ≡ seen_value given V b s (Started 0)
  seen_free given V (BoundAt c) s h = absurd (h c refl)
  seen_free given V _ s h = refl

  pub above_top : Above B0 0
  above_top = record { each = λ s b e. absurd (no_bound s b e) }

  -- the body stands in the list of its own instances
  pub body_stands : (V : Valuation) → NoInstantLoop body → HasExitCodes body → Stands V (body_layers body) body_all (body_liveness body) B0 body_entry body 0
  body_stands V nl kernel = record {
    agrees = body_agrees body;
    low = λ r i. ⊎_elim (λ e. omega arith) (λ e. absurd e) i;
    loops = nl;
    kernel = kernel;
    above = above_top;
    whole = record { own = λ j i l u. refl };
  }

  pub out_shows : (o : ℕ) (l : Layer) → inputs ≤ o → o < inputs + outs → Shows B0 l (Out o) o true
  out_shows o l i j = record { each = λ t. go t (B0 t) (scope_part inputs (inputs + outs) t (omega arith)) }
    where
      go : (t : ℕ) (b : Binding) → InPart inputs (inputs + outs) t b → is_wire (status_wire b t l) (Out o) ≡ (true && t == o)
      go t b (enters k h) = ap (λ c. is_wire (status_wire c t l) (Out o)) h ∙ sym (ne_eqb t o (λ e. omega arith))
      go t b (goes_out k m h) = ap (λ c. is_wire (status_wire c t l) (Out o)) h
      go t b (unbound k h) = ap (λ c. is_wire (status_wire c t l) (Out o)) h ∙ sym (ne_eqb t o (λ e. omega arith))

  pub out_fresh : (o : ℕ) → Fresh (Out o) 0
  out_fresh o = record { other = λ m l k. refl }

  -- what the program emits, where its wires are those of the walk
  module _ (q : State) (event : List Bool) (V : Valuation) (nl : NoInstantLoop body) (kernel : HasExitCodes body) (state : IsState q body)
      (started : StartedWalked V body 0 (Started 0) (seen_values (is_given event) V B0 Resumed) (is_initial q))
      (resumed : has_code (resumed_codes body) ≡ true → ResumedWalked V (selected_of q) body 0 (seen_values (is_given event) V B0 Resumed)
      (holds (selected_of q) body 0)) where
    abbrev v : Values
    v = seen_values (is_given event) V B0 Resumed

    abbrev S : ℕ → Bool
    S = selected_of q

    emitted_is : (o : ℕ) → inputs ≤ o → o < inputs + outs → emitted V (Out o) body_all ≡
        ((holds S body 0 && (resumed_walk (statuses V) S body 0 v).signals o) || (is_initial q && (started_walk (statuses V) body 0 (Started 0) v).signals o))
    emitted_is o i j =
        let F = emission V (Out o) in
        split F (body_layers body) (body_liveness body) B0 body_entry body 0 kernel (body_agrees body)
        ∙ ap (λ b. b || (started_any F B0 body_entry body 0 (Started 0) || false))
        (guard_bits (has_code (resumed_codes body)) true (holds S body 0) ((resumed_walk (statuses V) S body 0 v).signals o)
        (resumed_any F B0 body_entry body 0)
        (λ live. resumed_emits V S (Out o) o true body B0 body_entry 0 v (holds S body 0) nl kernel (state_reach q body state) (resumed live)
        (out_fresh o) above_top (out_shows o Resumed i j))
        (λ h. resumed_live S body 0 nl kernel h ((state_reach q body state).selected h)))
        ∙ ap (λ b. (holds S body 0 && (resumed_walk (statuses V) S body 0 v).signals o) || b)
        (or-false (started_any F B0 body_entry body 0 (Started 0))
        ∙ started_emits V (Out o) o true body B0 body_entry 0 (Started 0) v (is_initial q) nl kernel started (out_fresh o) (out_shows o (Started 0) i j))

    walk_signals : (o : ℕ) → ((holds S body 0 && (resumed_walk (statuses V) S body 0 v).signals o)
        || (is_initial q && (started_walk (statuses V) body 0 (Started 0) v).signals o)) ≡ (body_walk (statuses V) q body v).signals o
    walk_signals o = go q v
      where
        go : (r : State) (u : Values) → ((holds (selected_of r) body 0 && (resumed_walk (statuses V) (selected_of r) body 0 u).signals o)
            || (is_initial r && (started_walk (statuses V) body 0 (Started 0) u).signals o)) ≡ (body_walk (statuses V) r body u).signals o
        go Initial u = ap (λ b. (b && (resumed_walk (statuses V) (λ m. false) body 0 u).signals o)
            || (started_walk (statuses V) body 0 (Started 0) u).signals o) (holds-false body 0)
        go (Selecting T) u = held (holds T body 0)
          where
            held : (h : Bool) → ((h && (resumed_walk (statuses V) T body 0 u).signals o) || false) ≡
                (cond h (resumed_walk (statuses V) T body 0 u) (ended 0)).signals o
            held true = or-false _
            held false = refl

    pub body_emits : (o : ℕ) → inputs ≤ o → o < inputs + outs → emitted V (Out o) body_all ≡ (body_walk (statuses V) q body v).signals o
    body_emits o i j = emitted_is o i j ∙ walk_signals o

  -- an outgoing signal is present where it is given or emitted
  module _ (given_count : ℕ) (q : State) (event : List Bool) (V : Valuation) where
    given_only : (o : ℕ) → length event ≡ given_count → list_any (val B0 body q (is_given event) V) (cond (ltb o given_count) (Input o ∷ []) []) ≡
        is_given event o
    given_only o w =
        cond_both (ltb o given_count) (Input o ∷ []) [] (λ l. list_any (val B0 body q (is_given event) V) l ≡ is_given event o)
        (λ e. or-false (is_given event o))
        (λ e. sym (get_or_past event o false (⊎_elim (λ l. absurd (false≢true (sym e ∙ lt-ltb o given_count l))) (λ l. omega arith) (cases_lt o given_count))))

    pub output_means : length event ≡ given_count → (o : ℕ) → val B0 body q (is_given event) V (output_equation given_count body_all o).formula ≡
        (is_given event o || emitted V (Out o) body_all)
    output_means w o =
        let own = cond (ltb o given_count) (Input o ∷ []) [] in
        any_meaning B0 body q (is_given event) V (own ++ emissions (Out o) body_all)
        ∙ list_any-append (val B0 body q (is_given event) V) own (emissions (Out o) body_all)
        ∙ ap (λ b. b || list_any (val B0 body q (is_given event) V) (emissions (Out o) body_all)) (given_only o w)
        ∙ ap (λ b. is_given event o || b) (emissions_any B0 body q (is_given event) V (Out o) body_all)
