-- The walk meets the equations: where the wires of each instance are those of the walk, they meet their equations.
use Rattle.std.proofs.Common.{◌≡◌, ℕ, ◌+◌, ◌≤◌, Bool, true, not, ◌&&◌, ◌==◌, cond, List, [], refl, ap, ◌∙◌, arith, sym}
use Rattle.std.proofs.lemmas.Bool.{and_from, and_parts, eq-eqb, ne_eqb, cond-true, cond-false}
use Rattle.base_facts.proofs.Tests.{eqb-turned}
use Rattle.est_kernel.specs.Terms.{Term, Present, Suspend, Seq, Loop, Par, Trap, Local, Awake}
use Rattle.est_kernel.specs.Preorder.{statement_count}
use Rattle.est_kernel.specs.StaticCodes.{started_codes, resumed_codes}
use Rattle.grc_graph.specs.Layers.{Layer, Resumed, Started, Liveness}
use Rattle.grc_graph.specs.Scopes.{Scope}
use Rattle.grc_graph.specs.Wires.{Go, StatusOf, End}
use Rattle.grc_graph.specs.Formulas.{Formula}
use Rattle.grc_graph.specs.Spots.{Spot, test_formula}
use Rattle.grc_graph.specs.Residuals.{holds}
use Rattle.grc_graph.specs.Walk.{Values, State, with_value, truth, started_walk, resumed_walk}
use Rattle.grc_graph.specs.Readings.{Valuation}
use Rattle.grc_graph.specs.Coherence.{InstanceWalked, statuses, StartedWalked, ResumedWalked}
use Rattle.grc_solutions.proofs.Exports.{spot, EachStarted, EachResumed, Root}
use Rattle.grc_graph.proofs.Exports.{above_within}
use Rattle.grc_solutions_laws.proofs.WalkEmits.{Reach, reach_part}
use Rattle.grc_solutions_laws.proofs.EndForms.{val, test_meaning}
use Rattle.grc_solutions_laws.proofs.Meets.{Met, sees_more, sees_root, root_left, code_lives, started_at, resumed_at, finds_only, finds_first, finds_second}
use Rattle.grc_solutions_laws.proofs.Meets.{finds_self, root_own, Sees, Finds, StatusMet}
use Rattle.grc_solutions_laws.proofs.Standing.{Stands, present_parts, suspended_part, seq_parts, loop_part, par_parts, trap_part, local_part}
use Rattle.grc_solutions_laws.proofs.WalkEnds.{StartedParts, ResumedParts, started_mean, resumed_mean, selects}
use Rattle.grc_solutions_laws.proofs.OwnStatus.{local_started, local_resumed}

module _ (B0 : Scope) (body : Term) (q : State) (given : Values) (V : Valuation) (all : List Spot) (L : ℕ → List Layer) where
  abbrev M : Spot → Type 0
  M = Met B0 body q given V all

  abbrev value : Formula → Bool
  value a = val B0 body q given V a

  abbrev picks : ℕ → Bool
  picks = selects B0 body q given V

  started_met : {a : Liveness} {B : Scope} {f : Layer → Formula} (t : Term) (n r : ℕ) (v : Values) (b : Bool) → Stands V L all a B f t n →
      Sees given V B (Started r) v → value (f (Started r)) ≡ b → InstanceWalked V n (Started r) b (started_walk (statuses V) t n (Started r) v) →
      StartedParts V t n (Started r) v b → StatusMet V all t n (Started r) → M (spot B f t n (Started r))
  started_met {a} {B} {f} t n r v b c s h i parts st = record {
    go = i.go ∙ sym h;
    ends = λ j. i.ends j ∙ sym (started_mean B0 body q given V t B n r v b c.loops c.kernel s i.go parts j);
    status = st;
  }

  resumed_met : {a : Liveness} {B : Scope} {f : Layer → Formula} (S : ℕ → Bool) (t : Term) (n : ℕ) (v : Values) (b : Bool) → Stands V L all a B f t n →
      Sees given V B Resumed v → Finds picks S t n → Reach S t n b → value (f Resumed) ≡ b → InstanceWalked V n Resumed b (resumed_walk (statuses V) S t n v) →
      ResumedParts V S t n v b → StatusMet V all t n Resumed → M (spot B f t n Resumed)
  resumed_met {a} {B} {f} S t n v b c s o u h i parts st = record {
    go = i.go ∙ sym h;
    ends = λ j. i.ends j ∙ sym (resumed_mean B0 body q given V S t B n v b c.loops c.kernel s o u i.go parts j);
    status = st;
  }

  pub meets_started : (t : Term) {a : Liveness} {B : Scope} {f : Layer → Formula} (n r : ℕ) (v : Values) (b : Bool) → Stands V L all a B f t n →
      Root r a.roots → Sees given V B (Started r) v → value (f (Started r)) ≡ b → StartedWalked V t n (Started r) v b → EachStarted M B f t n (Started r)
  meets_started (Present x p p2) {a} {B} {f} n r v b c i s h e =
      let m = n + 1 + statement_count p in
      let y = Started r in
      let parts = present_parts V L all c in
      let test = test_meaning B0 body q given V B x y v s.each in (
        started_met (Present x p p2) n r v b c s h e.0 (e.1, e.2) tt,
        meets_started p (n + 1) r v (b && truth x v) parts.0 i s (ap (λ z. z && value (test_formula B x y)) e.0.go ∙ ap (λ z. b && z) test) e.1,
        meets_started p2 m r v (b && not (truth x v)) parts.1 i s
            (ap (λ z. z && not (value (test_formula B x y))) e.0.go ∙ ap (λ z. b && not z) test) e.2,
      )
  meets_started (Suspend x p) n r v b c i s h e =
      (started_met (Suspend x p) n r v b c s h e.0 e.1 tt, meets_started p (n + 1) r v b (suspended_part V L all c) i s e.0.go e.1)
  meets_started (Seq p p2) {a} n r v b c i s h e =
      let m = n + 1 + statement_count p in
      let y = Started r in
      let parts = seq_parts V L all c in
      let low : r ≤ n = c.low r i in
      let wp = started_walk (statuses V) p (n + 1) y v in (
        started_met (Seq p p2) n r v b c s h e.0 (e.1, e.2) tt,
        meets_started p (n + 1) r v b parts.0 i s e.0.go e.1,
        λ z.
            meets_started p2 m r v (b && wp.code == 0) parts.1 (root_left r (started_codes p 0) a.roots _ z i) s
            (ap (λ u. V (End (n + 1) u 0)) (cond-false (r == m) Resumed (Started r) (ne_eqb r m (λ u. omega arith)))
            ∙ (started_at V p (n + 1) y v b c.kernel.0 e.1).ends 0 ∙ ap (λ u. b && u) (eqb-turned 0 wp.code)) (e.2 z),
      )
  meets_started (Loop at p) {a} n r v b c i s h e =
      let low : r ≤ n = c.low r i in (
        started_met (Loop at p) n r v b c s h e.0 e.1 tt,
        meets_started p (n + 1) r v b (loop_part V L all c) (root_left r true a.roots _ refl i) s
            (ap V (cond-false (r == n + 1) (End (n + 1) Resumed 0) (Go n (Started r)) (ne_eqb r (n + 1) (λ u. omega arith))) ∙ e.0.go) e.1,
      )
  meets_started (Par p p2) n r v b c i s h e =
      let parts = par_parts V L all c in (
        started_met (Par p p2) n r v b c s h e.0 (e.1, e.2) tt,
        meets_started p (n + 1) r v b parts.0 i s e.0.go e.1,
        meets_started p2 (n + 1 + statement_count p) r v b parts.1 i s e.0.go e.2,
      )
  meets_started (Trap p) n r v b c i s h e =
      (started_met (Trap p) n r v b c s h e.0 e.1 tt, meets_started p (n + 1) r v b (trap_part V L all c) i s e.0.go e.1)
  meets_started (Local x p) {a} {B} {f} n r v b c i s h e = (
    started_met (Local x p) n r v b c s h e.0 e.2 (e.1 ∙ sym (local_started V all L a x p B f n r v b c i e.2)),
    meets_started p (n + 1) r (with_value v x (V (StatusOf n (Started r)))) b (local_part V L all c) i
        (sees_more given V B n x (Started r) v (above_within n r (c.low r i)) s) e.0.go e.2,
  )
  meets_started (Awake x p) n r v b c i s h e = absurd c.kernel
  meets_started t n r v b c i s h e = started_met t n r v b c s h e tt tt

  -- what lets a part run that holds a selected pause
  picked : (S : ℕ → Bool) (p : Term) (n m : ℕ) (b : Bool) → Finds picks S p m → V (Go n Resumed) ≡ b → (V (Go n Resumed) && picks m) ≡ (b && holds S p m)
  picked S p n m b o h = ap (λ y. y && picks m) h ∙ ap (λ y. b && y) (finds_self picks S p m o)

  pub meets_resumed : (S : ℕ → Bool) (t : Term) {a : Liveness} {B : Scope} {f : Layer → Formula} (n : ℕ) (v : Values) (b : Bool) → Stands V L all a B f t n →
      a.resumed ≡ true → Sees given V B Resumed v → Finds picks S t n → Reach S t n b → value (f Resumed) ≡ b → ResumedWalked V S t n v b →
      EachResumed M B f t n
  meets_resumed S (Present x p p2) n v b c i s o u h e =
      let m = n + 1 + statement_count p in
      let t = Present x p p2 in
      let parts = present_parts V L all c in
      let op = finds_first picks S t p p2 n refl (λ j. refl) o in
      let oq = finds_second picks S t p p2 n refl (λ j. refl) o in
      let up : Reach S p (n + 1) (b && holds S p (n + 1)) = reach_part {p = p} {m = n + 1} b u (λ y z. y.1 z) in
      let uq : Reach S p2 m (b && holds S p2 m) = reach_part {p = p2} {m = m} b u (λ y z. y.2 z) in (
        resumed_met S t n v b c s o u h e.0 (e.1, e.2) tt,
        (λ z. meets_resumed S p (n + 1) v _ parts.0 (and_from _ _ i z) s op up (picked S p n (n + 1) b op e.0.go) (e.1 z)),
        (λ z. meets_resumed S p2 m v _ parts.1 (and_from _ _ i z) s oq uq (picked S p2 n m b oq e.0.go) (e.2 z)),
      )
  meets_resumed S (Suspend x p) {a} {B} n v b c i s o u h e =
      let d = truth x v in
      let test = test_meaning B0 body q given V B x Resumed v s.each in
      let op = finds_only picks S (Suspend x p) p n refl (λ j. refl) o in
      let up : Reach S p (n + 1) (b && not d) = record { held = λ z. u.held (and_parts b _ z).0; selected = λ z. u.selected (and_parts b _ z).0 } in (
        resumed_met S (Suspend x p) n v b c s o u h e.0 e.1 tt,
        λ z.
            meets_resumed S p (n + 1) v (b && not d) (suspended_part V L all c) (and_from _ _ i z) s op up
            (ap (λ y. y && not (value (test_formula B x Resumed))) e.0.go ∙ ap (λ y. b && not y) test) (e.1 z),
      )
  meets_resumed S (Seq p p2) {a} {B} n v b c i s o u h e =
      let m = n + 1 + statement_count p in
      let t = Seq p p2 in
      let parts = seq_parts V L all c in
      let op = finds_first picks S t p p2 n refl (λ j. refl) o in
      let oq = finds_second picks S t p p2 n refl (λ j. refl) o in
      let up : Reach S p (n + 1) (b && holds S p (n + 1)) = reach_part {p = p} {m = n + 1} b u (λ y z. y.1 z) in
      let uq : Reach S p2 m (b && holds S p2 m) = reach_part {p = p2} {m = m} b u (λ y z. (y.2 z).1) in
      let wp = resumed_walk (statuses V) S p (n + 1) v in (
        resumed_met S t n v b c s o u h e.0 (e.1, e.2, e.3) tt,
        (λ z. meets_resumed S p (n + 1) v _ parts.0 (and_from _ _ i z) s op up (picked S p n (n + 1) b op e.0.go) (e.1 z)),
        (λ z. meets_resumed S p2 m v _ parts.1 (and_from _ _ i z) s oq uq (picked S p2 n m b oq e.0.go) (e.2 z)),
        (λ z.
            meets_started p2 m m v ((b && holds S p (n + 1)) && wp.code == 0) parts.1
            (root_own m (a.resumed && resumed_codes p 0) (cond (started_codes p 0) a.roots []) (and_from _ _ i z))
            (sees_root given V B m v parts.1.above s)
            (ap (λ y. V (End (n + 1) y 0)) (cond-true (m == m) Resumed (Started m) (eq-eqb m m refl))
            ∙ (resumed_at V S p (n + 1) v _ c.kernel.0 (e.1 (code_lives p c.kernel.0 0 z))).ends 0
            ∙ ap (λ y. (b && holds S p (n + 1)) && y) (eqb-turned 0 wp.code)) (e.3 z)),
      )
  meets_resumed S (Loop at p) {a} {B} n v b c i s o u h e =
      let part = loop_part V L all c in
      let wp = resumed_walk (statuses V) S p (n + 1) v in (
        resumed_met S (Loop at p) n v b c s o u h e.0 (e.1, e.2) tt,
        (λ z. meets_resumed S p (n + 1) v b part (and_from _ _ i z) s (finds_only picks S (Loop at p) p n refl (λ j. refl) o)
            (record { held = u.held; selected = u.selected }) e.0.go (e.1 z)),
        (λ z.
            meets_started p (n + 1) (n + 1) v (b && wp.code == 0) part (root_own (n + 1) (a.resumed && resumed_codes p 0) a.roots (and_from _ _ i z))
            (sees_root given V B (n + 1) v part.above s)
            (ap V (cond-true (n + 1 == n + 1) (End (n + 1) Resumed 0) (Go n (Started (n + 1))) (eq-eqb (n + 1) (n + 1) refl))
            ∙ (resumed_at V S p (n + 1) v _ c.kernel (e.1 (code_lives p c.kernel 0 z))).ends 0 ∙ ap (λ y. b && y) (eqb-turned 0 wp.code)) (e.2 z)),
      )
  meets_resumed S (Par p p2) n v b c i s o u h e =
      let m = n + 1 + statement_count p in
      let t = Par p p2 in
      let parts = par_parts V L all c in
      let op = finds_first picks S t p p2 n refl (λ j. refl) o in
      let oq = finds_second picks S t p p2 n refl (λ j. refl) o in
      let up : Reach S p (n + 1) (b && holds S p (n + 1)) = reach_part {p = p} {m = n + 1} b u (λ y z. y.2 z) in
      let uq : Reach S p2 m (b && holds S p2 m) = reach_part {p = p2} {m = m} b u (λ y z. y.3 z) in (
        resumed_met S t n v b c s o u h e.0 (e.1, e.2) tt,
        (λ z. meets_resumed S p (n + 1) v _ parts.0 (and_from _ _ i z) s op up (picked S p n (n + 1) b op e.0.go) (e.1 z)),
        (λ z. meets_resumed S p2 m v _ parts.1 (and_from _ _ i z) s oq uq (picked S p2 n m b oq e.0.go) (e.2 z)),
      )
  meets_resumed S (Trap p) n v b c i s o u h e = (
    resumed_met S (Trap p) n v b c s o u h e.0 e.1 tt,
    λ z. meets_resumed S p (n + 1) v b (trap_part V L all c) (and_from _ _ i z) s (finds_only picks S (Trap p) p n refl (λ j. refl) o)
        (record { held = u.held; selected = u.selected }) e.0.go (e.1 z),
  )
  meets_resumed S (Local x p) {a} {B} {f} n v b c i s o u h e =
      let up : Reach S p (n + 1) b = record { held = u.held; selected = u.selected } in (
        resumed_met S (Local x p) n v b c s o u h e.0 e.2 (e.1 ∙ sym (local_resumed V all L S a x p B f n v b c i up e.2)),
        λ z. meets_resumed S p (n + 1) (with_value v x (V (StatusOf n Resumed))) b (local_part V L all c) (and_from _ _ i z)
            (sees_more given V B n x Resumed v refl s) (finds_only picks S (Local x p) p n refl (λ j. refl) o) up e.0.go (e.2 z),
      )
  meets_resumed S (Awake x p) n v b c i s o u h e = absurd c.kernel
  meets_resumed S t n v b c i s o u h e = resumed_met S t n v b c s o u h e tt tt
