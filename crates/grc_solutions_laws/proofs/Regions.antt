-- In each solution, and in each instant of a run, a region whose head does not run is at rest.
use Rattle.std.proofs.Common.{◌≡◌, ℕ, ◌+◌, ◌<◌, ◌≤◌, Bool, false, ◌&&◌, ◌==◌, cond, ltb, List, [], ◌∷◌, map, Some, None, refl, sym, ap, ◌∙◌}
use Rattle.std.proofs.Common.{subst, ⊎_elim, arith}
use Rattle.std.specs.List.{All, Contains, flat_map}
use Rattle.std.proofs.lemmas.Bool.{eq-eqb, ne_eqb, cond_both, cond-true, cond-false, lt-ltb}
use Rattle.std.proofs.lemmas.List.Elements.{All-nil, All-cons}
use Rattle.std.proofs.lemmas.Option.{none-some, same_Some}
use Rattle.base_facts.proofs.Lists.{Every, every-append}
use Rattle.base_facts.proofs.Tests.{ltb-not}
use Rattle.base_types.specs.Items.{Item, Event, Reset}
use Rattle.est_kernel.specs.Terms.{Term, Nothing, Pause, Emit, Exit, Present, Suspend, Seq, Loop, Par, Trap, Local, Awake}
use Rattle.est_kernel.specs.Plain.{interface_of, interface_count}
use Rattle.est_kernel.specs.Preorder.{statement_count}
use Rattle.grc_graph.specs.Layers.{Layer, Resumed, Started, body_layers, body_liveness}
use Rattle.grc_graph.specs.Scopes.{Scope, program_scope}
use Rattle.grc_graph.specs.Wires.{Wire, Out, Go, End, own_status, instance_wires, instance_codes, listed, same_wire}
use Rattle.grc_graph.specs.Formulas.{Formula}
use Rattle.grc_graph.specs.Spots.{Spot, body_entry}
use Rattle.grc_solutions_laws.specs.Heads.{head_in, head_go, RegionRests}
use Rattle.grc_graph.specs.Selected.{HasExitCodes, IsState}
use Rattle.grc_graph.specs.Walk.{State, Initial, Values, Walk, is_initial}
use Rattle.grc_graph.specs.Readings.{Valuation}
use Rattle.grc_graph.specs.Coherence.{InstanceWalked, StartedWalked, ResumedWalked}
use Rattle.grc_graph.specs.GraphRuns.{graph_of, program_spots, program_wires, next_state, IsGraphRun}
use Rattle.grc_graph.proofs.Exports.{body_agrees}
use Rattle.grc_solutions.proofs.Exports.{EachStarted, EachResumed, gathered, every_at, Root}
use Rattle.grc_solutions_laws.specs.GraphWalks.{SelectsLeaves, selected_of, program_values}
use Rattle.grc_solutions_laws.specs.Laws.{RegionsRest, RegionsRestInRuns}
use Rattle.grc_solutions_laws.proofs.GraphLaws.{solutions_are_walks_lem}
use Rattle.grc_solutions_laws.proofs.Instants.{next_state_is_kept_lem}
use Rattle.grc_solutions_laws.proofs.Meets.{started_at, resumed_at}

-- where a head does not run, neither does what b reaches
abbrev Under : Bool → Bool → Type 0
Under g b = g ≡ false → b ≡ false

under_and : (g b d : Bool) → Under g b → Under g (b && d)
under_and g b d u e = ap (λ x. x && d) (u e)

-- the wires of an instance are false where its head's wire is
record Rests (V : Valuation) (head : Wire) (n : ℕ) (l : Layer) : Type 0 where
  go : V head ≡ false → V (Go n l) ≡ false
  ends : (k : ℕ) → V head ≡ false → V (End n l k) ≡ false

rests : (V : Valuation) (head : Wire) (n : ℕ) (l : Layer) (b : Bool) (w : Walk) → Under (V head) b → InstanceWalked V n l b w → Rests V head n l
rests V head n l b w u h = record {
  go = λ e. h.go ∙ u e;
  ends = λ k e. h.ends k ∙ ap (λ x. x && (k == w.code)) (u e);
}

-- H has the resumed head of each statement of t, which is at n under the head h
record Heads (H : ℕ → ℕ) (h : ℕ) (t : Term) (n : ℕ) : Type 0 where
  each : (m : ℕ) → n ≤ m → m < n + statement_count t → H m ≡ head_in h t n m

heads_here : (H : ℕ → ℕ) (h : ℕ) (t : Term) (n : ℕ) → Heads H h t n → H n ≡ h
heads_here H h Nothing n g = g.each n (omega arith) (omega arith)
heads_here H h Pause n g = g.each n (omega arith) (omega arith)
heads_here H h (Emit s) n g = g.each n (omega arith) (omega arith)
heads_here H h (Exit k) n g = g.each n (omega arith) (omega arith)
heads_here H h (Awake e p) n g = g.each n (omega arith) (omega arith)
heads_here H h _ n g = g.each n (omega arith) (omega arith) ∙ cond-true (n == n) h _ (eq-eqb n n refl)

heads_only : (H : ℕ → ℕ) (h : ℕ) (t p : Term) (n : ℕ) → statement_count t ≡ 1 + statement_count p →
    ((m : ℕ) → head_in h t n m ≡ cond (m == n) h (head_in h p (n + 1) m)) → Heads H h t n → Heads H h p (n + 1)
heads_only H h t p n c f g =
    record { each = λ m l u. g.each m (omega arith) (omega arith) ∙ f m ∙ cond-false (m == n) h _ (ne_eqb m n (λ e. omega arith)) }

heads_first : (H : ℕ → ℕ) (h i j : ℕ) (t p q : Term) (n : ℕ) → statement_count t ≡ 1 + statement_count p + statement_count q →
    ((m : ℕ) → head_in h t n m ≡ cond (m == n) h (cond (ltb m (n + 1 + statement_count p)) (head_in i p (n + 1) m)
    (head_in j q (n + 1 + statement_count p) m))) → Heads H h t n → Heads H i p (n + 1)
heads_first H h i j t p q n c f g =
    record {
      each = λ m l u.
          g.each m (omega arith) (omega arith) ∙ f m ∙ cond-false (m == n) h _ (ne_eqb m n (λ e. omega arith))
          ∙ cond-true _ (head_in i p (n + 1) m) _ (lt-ltb m (n + 1 + statement_count p) u);
    }

heads_second : (H : ℕ → ℕ) (h i j : ℕ) (t p q : Term) (n : ℕ) → statement_count t ≡ 1 + statement_count p + statement_count q →
    ((m : ℕ) → head_in h t n m ≡ cond (m == n) h (cond (ltb m (n + 1 + statement_count p)) (head_in i p (n + 1) m)
    (head_in j q (n + 1 + statement_count p) m))) → Heads H h t n → Heads H j q (n + 1 + statement_count p)
heads_second H h i j t p q n c f g =
    record {
      each = λ m l u.
          g.each m (omega arith) (omega arith) ∙ f m ∙ cond-false (m == n) h _ (ne_eqb m n (λ e. omega arith))
          ∙ cond-false _ (head_in i p (n + 1) m) _ (ltb-not m (n + 1 + statement_count p) l);
    }

module _ (V : Valuation) (body : Term) where
  -- an instance is at rest where its head does not run
  abbrev P : Spot → Type 0
  P x = Rests V (head_go body x.path x.layer) x.path x.layer

  started_rests : (t : Term) (B : Scope) (f : Layer → Formula) (n r : ℕ) (v : Values) (b : Bool) → Under (V (Go r (Started r))) b →
      StartedWalked V t n (Started r) v b → EachStarted P B f t n (Started r)
  started_rests (Present e p q) B f n r v b u w = (
    rests V (Go r (Started r)) n (Started r) b _ u w.0,
    started_rests p B _ (n + 1) r v _ (under_and (V (Go r (Started r))) b _ u) w.1,
    started_rests q B _ (n + 1 + statement_count p) r v _ (under_and (V (Go r (Started r))) b _ u) w.2,
  )
  started_rests (Suspend e p) B f n r v b u w = (rests V (Go r (Started r)) n (Started r) b _ u w.0, started_rests p B _ (n + 1) r v b u w.1)
  started_rests (Seq p q) B f n r v b u w = (
    rests V (Go r (Started r)) n (Started r) b _ u w.0,
    started_rests p B _ (n + 1) r v b u w.1,
    (λ e. started_rests q B _ (n + 1 + statement_count p) r v _ (under_and (V (Go r (Started r))) b _ u) (w.2 e)),
  )
  started_rests (Loop at p) B f n r v b u w = (rests V (Go r (Started r)) n (Started r) b _ u w.0, started_rests p B _ (n + 1) r v b u w.1)
  started_rests (Par p q) B f n r v b u w = (
    rests V (Go r (Started r)) n (Started r) b _ u w.0,
    started_rests p B _ (n + 1) r v b u w.1,
    started_rests q B _ (n + 1 + statement_count p) r v b u w.2,
  )
  started_rests (Trap p) B f n r v b u w = (rests V (Go r (Started r)) n (Started r) b _ u w.0, started_rests p B _ (n + 1) r v b u w.1)
  started_rests (Local s p) B f n r v b u w = (rests V (Go r (Started r)) n (Started r) b _ u w.0, started_rests p _ _ (n + 1) r _ b u w.2)
  started_rests (Awake e p) B f n r v b u w = tt
  started_rests _ B f n r v b u w = rests V (Go r (Started r)) n (Started r) b _ u w

  -- a start is its own head
  own_started : (t : Term) (B : Scope) (f : Layer → Formula) (n : ℕ) (v : Values) (b : Bool) → HasExitCodes t → StartedWalked V t n (Started n) v b →
      EachStarted P B f t n (Started n)
  own_started t B f n v b k w = started_rests t B f n n v b (λ e. sym (started_at V t n (Started n) v b k w).go ∙ e) w

  abbrev H : ℕ → ℕ
  H = head_in 0 body 0

  here_rests : (h : ℕ) (t : Term) (n : ℕ) (b : Bool) (w : Walk) → Heads H h t n → Under (V (Go h Resumed)) b → InstanceWalked V n Resumed b w →
      Rests V (Go (H n) Resumed) n Resumed
  here_rests h t n b w g u i = rests V (Go (H n) Resumed) n Resumed b w (subst (λ m. Under (V (Go m Resumed)) b) (sym (heads_here H h t n g)) u) i

  module _ (S : ℕ → Bool) where
    resumed_rests : (h : ℕ) (t : Term) (B : Scope) (f : Layer → Formula) (n : ℕ) (v : Values) (b : Bool) → HasExitCodes t → Heads H h t n →
        Under (V (Go h Resumed)) b → ResumedWalked V S t n v b → EachResumed P B f t n
    resumed_rests h (Present e p q) B f n v b k g u w =
        let m = n + 1 + statement_count p in
        let t = Present e p q in (
          here_rests h t n b _ g u w.0,
          (λ i. resumed_rests h p B _ (n + 1) v _ k.0 (heads_first H h h h t p q n refl (λ j. refl) g) (under_and (V (Go h Resumed)) b _ u) (w.1 i)),
          (λ i. resumed_rests h q B _ m v _ k.1 (heads_second H h h h t p q n refl (λ j. refl) g) (under_and (V (Go h Resumed)) b _ u) (w.2 i)),
        )
    resumed_rests h (Suspend e p) B f n v b k g u w = (
      here_rests h (Suspend e p) n b _ g u w.0,
      (λ i. resumed_rests h p B _ (n + 1) v _ k (heads_only H h (Suspend e p) p n refl (λ j. refl) g) (under_and (V (Go h Resumed)) b _ u) (w.1 i)),
    )
    resumed_rests h (Seq p q) B f n v b k g u w =
        let m = n + 1 + statement_count p in
        let t = Seq p q in (
          here_rests h t n b _ g u w.0,
          (λ i. resumed_rests h p B _ (n + 1) v _ k.0 (heads_first H h h h t p q n refl (λ j. refl) g) (under_and (V (Go h Resumed)) b _ u) (w.1 i)),
          (λ i. resumed_rests h q B _ m v _ k.1 (heads_second H h h h t p q n refl (λ j. refl) g) (under_and (V (Go h Resumed)) b _ u) (w.2 i)),
          (λ i. own_started q B _ m v _ k.1 (w.3 i)),
        )
    resumed_rests h (Loop at p) B f n v b k g u w = (
      here_rests h (Loop at p) n b _ g u w.0,
      (λ i. resumed_rests h p B _ (n + 1) v b k (heads_only H h (Loop at p) p n refl (λ j. refl) g) u (w.1 i)),
      (λ i. own_started p B _ (n + 1) v _ k (w.2 i)),
    )
    resumed_rests h (Par p q) B f n v b k g u w =
        let m = n + 1 + statement_count p in
        let t = Par p q in (
          here_rests h t n b _ g u w.0,
          (λ i. resumed_rests (n + 1) p B _ (n + 1) v _ k.0 (heads_first H h (n + 1) m t p q n refl (λ j. refl) g)
              (λ e. sym (resumed_at V S p (n + 1) v _ k.0 (w.1 i)).go ∙ e) (w.1 i)),
          (λ i. resumed_rests m q B _ m v _ k.1 (heads_second H h (n + 1) m t p q n refl (λ j. refl) g)
              (λ e. sym (resumed_at V S q m v _ k.1 (w.2 i)).go ∙ e) (w.2 i)),
        )
    resumed_rests h (Trap p) B f n v b k g u w = (
      here_rests h (Trap p) n b _ g u w.0,
      (λ i. resumed_rests h p B _ (n + 1) v b k (heads_only H h (Trap p) p n refl (λ j. refl) g) u (w.1 i)),
    )
    resumed_rests h (Local s p) B f n v b k g u w = (
      here_rests h (Local s p) n b _ g u w.0,
      (λ i. resumed_rests h p _ _ (n + 1) _ b k (heads_only H h (Local s p) p n refl (λ j. refl) g) u (w.2 i)),
    )
    resumed_rests h (Awake e p) B f n v b k g u w = absurd k
    resumed_rests h t B f n v b k g u w = here_rests h t n b _ g u w

    -- the body is its own head
    own_resumed : (t : Term) (B : Scope) (f : Layer → Formula) (n : ℕ) (v : Values) (b : Bool) → HasExitCodes t → Heads H n t n → ResumedWalked V S t n v b →
        EachResumed P B f t n
    own_resumed t B f n v b k g w = resumed_rests n t B f n v b k g (λ e. sym (resumed_at V S t n v b k w).go ∙ e) w

  -- the wires of an instance that is at rest
  go_rests : (n : ℕ) (l : Layer) → Rests V (head_go body n l) n l → RegionRests body V (Go n l)
  go_rests n l r head =
      cond_both (same_wire (Go n l) (head_go body n l)) None (Some (head_go body n l)) (λ o. o ≡ Some head → V head ≡ false → V (Go n l) ≡ false)
      (λ e z. absurd (none-some head z))
      (λ e z. subst (λ x. V x ≡ false → V (Go n l) ≡ false) (same_Some (head_go body n l) head z) r.go)

  end_rests : (n : ℕ) (l : Layer) (k : ℕ) → Rests V (head_go body n l) n l → RegionRests body V (End n l k)
  end_rests n l k r head z = subst (λ x. V x ≡ false → V (End n l k) ≡ false) (same_Some (head_go body n l) head z) (r.ends k)

  status_rests : (t : Term) (n : ℕ) (l : Layer) → Every (RegionRests body V) (own_status t n l)
  status_rests (Local s p) n l = ((λ head z. absurd (none-some head z)), tt)
  status_rests _ n l = tt

  ends_rest : (n : ℕ) (l : Layer) (ks : List ℕ) → Rests V (head_go body n l) n l → Every (RegionRests body V) (map (λ k. End n l k) ks)
  ends_rest n l [] r = tt
  ends_rest n l (k ∷ ks) r = (end_rests n l k r, ends_rest n l ks r)

  instances_rest : (xs : List Spot) → Every P xs → Every (RegionRests body V) (flat_map (λ x. instance_wires x.statement x.path x.layer) xs)
  instances_rest [] h = tt
  instances_rest (x ∷ xs) h =
      every-append (RegionRests body V) (instance_wires x.statement x.path x.layer) _ (
        go_rests x.path x.layer h.0,
        every-append (RegionRests body V) (own_status x.statement x.path x.layer) _ (status_rests x.statement x.path x.layer)
            (ends_rest x.path x.layer (listed (instance_codes x.statement x.layer)) h.0),
      )
      (instances_rest xs h.1)

  outputs_rest : (ss : List ℕ) → Every (RegionRests body V) (map Out ss)
  outputs_rest [] = tt
  outputs_rest (s ∷ ss) = ((λ head z. absurd (none-some head z)), outputs_rest ss)

pub regions_rest_lem : RegionsRest
regions_rest_lem p q event V codes no_loop state solves =
    let walked = solutions_are_walks_lem p q event V codes no_loop state solves in
    let body = p.body in
    let B = program_scope p.inputs (interface_count p) in
    let spots_rest : Every (P V body) (program_spots p)
    = gathered (body_layers body) (P V body) (body_liveness body) B body_entry body 0 codes (body_agrees body)
    (λ live. own_resumed V body (selected_of q) body B body_entry 0 _ _ codes (record { each = λ m l u. refl }) (walked.1 live))
    (λ r i. started r i B codes walked.0) in
    every_at (RegionRests body V) (program_wires p)
    (every-append (RegionRests body V) (map Out (interface_of p).outgoing) _ (outputs_rest V body (interface_of p).outgoing)
    (instances_rest V body (program_spots p) spots_rest))
  where
    started : (r : ℕ) → Root r (0 ∷ []) → (B : Scope) → HasExitCodes p.body
        → StartedWalked V p.body 0 (Started 0) (program_values p event V) (is_initial q) → EachStarted (P V p.body) B body_entry p.body 0 (Started r)
    started r i B k w =
        ⊎_elim (λ e. subst (λ m. EachStarted (P V p.body) B body_entry p.body 0 (Started m)) (sym e) (own_started V p.body p.body B body_entry 0 _ _ k w))
        (λ e. absurd e) i

pub regions_rest_in_runs_lem : RegionsRestInRuns
regions_rest_in_runs_lem p items Vs codes no_loop run = from items Initial Vs tt tt run
  where
    At : Valuation → Type 0
    At V = (w : Wire) → Contains (program_wires p) w → RegionRests p.body V w

    from : (items : List Item) (q : State) (Vs : List Valuation) → IsState q p.body → SelectsLeaves q p.body → IsGraphRun (graph_of p) q items Vs → All At Vs
    from [] q [] state leaves r = All-nil At
    from [] q (V ∷ Vs) state leaves r = absurd r
    from (Event event ∷ items) q [] state leaves r = absurd r
    from (Event event ∷ items) q (V ∷ Vs) state leaves r =
        let next = next_state_is_kept_lem p q event V codes no_loop state leaves r.0 in
        All-cons At V Vs (regions_rest_lem p q event V codes no_loop state r.0)
        (from items (next_state (graph_of p) q event V) Vs next.1 next.2 r.1)
    from (Reset ∷ items) q Vs state leaves r = from items Initial Vs tt tt r
