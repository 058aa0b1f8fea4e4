-- Equations met are the walk: where the wires of each instance meet their equations, they are those of the walk.
use Rattle.std.proofs.Common.{◌≡◌, ℕ, ◌+◌, ◌≤◌, Bool, true, not, ◌&&◌, ◌==◌, cond, List, [], refl, ap, ◌∙◌, arith}
use Rattle.std.proofs.lemmas.Bool.{and_from, and_parts, eq-eqb, ne_eqb, cond-true, cond-false}
use Rattle.base_facts.proofs.Tests.{eqb-turned}
use Rattle.est_kernel.specs.Terms.{Term, Present, Suspend, Seq, Loop, Par, Trap, Local, Awake}
use Rattle.est_kernel.specs.Preorder.{statement_count}
use Rattle.est_kernel.specs.StaticCodes.{has_code, started_codes, resumed_codes}
use Rattle.grc_graph.specs.Layers.{Layer, Resumed, Started, Liveness, can_pass}
use Rattle.grc_graph.specs.Scopes.{Scope, bind}
use Rattle.grc_graph.specs.Wires.{Go, StatusOf, End}
use Rattle.grc_graph.specs.Formulas.{Formula}
use Rattle.grc_graph.specs.Spots.{Spot, test_formula}
use Rattle.grc_graph.specs.Residuals.{holds}
use Rattle.grc_graph.specs.Walk.{Values, State, with_value, truth, started_walk, resumed_walk}
use Rattle.grc_graph.specs.Readings.{Valuation}
use Rattle.grc_graph.specs.Coherence.{InstanceWalked, statuses, StartedWalked, ResumedWalked}
use Rattle.grc_solutions.proofs.Exports.{spot, EachStarted, EachResumed, Root}
use Rattle.grc_graph.proofs.Exports.{above_within}
use Rattle.grc_solutions_laws.proofs.WalkEmits.{Reach, reach_part}
use Rattle.grc_solutions_laws.proofs.EndForms.{val, test_meaning}
use Rattle.grc_solutions_laws.proofs.Meets.{Met, head_started, head_resumed, sees_more, sees_root, root_left, code_lives, started_at, resumed_at, finds_only}
use Rattle.grc_solutions_laws.proofs.Meets.{finds_first, finds_second, finds_self, root_own, Sees, Finds}
use Rattle.grc_solutions_laws.proofs.Standing.{Stands, present_parts, suspended_part, seq_parts, loop_part, par_parts, trap_part, local_part}
use Rattle.grc_solutions_laws.proofs.WalkEnds.{StartedParts, ResumedParts, started_mean, resumed_mean, selects}
use Rattle.grc_solutions_laws.proofs.OwnStatus.{local_started, local_resumed}

module _ (B0 : Scope) (body : Term) (q : State) (given : Values) (V : Valuation) (all : List Spot) (L : ℕ → List Layer) where
  abbrev M : Spot → Type 0
  M = Met B0 body q given V all

  -- the instance of the statement itself
  own_started : {a : Liveness} {B : Scope} {f : Layer → Formula} (t : Term) (n r : ℕ) (v : Values) (b : Bool) → Stands V L all a B f t n →
      M (spot B f t n (Started r)) → Sees given V B (Started r) v → V (Go n (Started r)) ≡ b → StartedParts V t n (Started r) v b →
      InstanceWalked V n (Started r) b (started_walk (statuses V) t n (Started r) v)
  own_started {a} {B} {f} t n r v b c e s h parts = record {
    go = h;
    ends = λ j. e.ends j ∙ started_mean B0 body q given V t B n r v b c.loops c.kernel s h parts j;
  }

  pub told_started : (t : Term) {a : Liveness} {B : Scope} {f : Layer → Formula} (n r : ℕ) (v : Values) (b : Bool) → Stands V L all a B f t n →
      Root r a.roots → EachStarted M B f t n (Started r) → Sees given V B (Started r) v → V (Go n (Started r)) ≡ b → StartedWalked V t n (Started r) v b
  told_started (Present x p p2) {a} {B} {f} n r v b c i e s h =
      let m = n + 1 + statement_count p in
      let y = Started r in
      let parts = present_parts V L all c in
      let d = truth x v in
      let test = test_meaning B0 body q given V B x y v s.each in
      let gp : V (Go (n + 1) y) ≡ (b && d) = (head_started M B _ p (n + 1) y c.kernel.0 e.1).go
      ∙ ap (λ z. z && val B0 body q given V (test_formula B x y)) h ∙ ap (λ z. b && z) test in
      let gq : V (Go m y) ≡ (b && not d) = (head_started M B _ p2 m y c.kernel.1 e.2).go
      ∙ ap (λ z. z && not (val B0 body q given V (test_formula B x y))) h ∙ ap (λ z. b && not z) test in
      let one = told_started p (n + 1) r v (b && d) parts.0 i e.1 s gp in
      let two = told_started p2 m r v (b && not d) parts.1 i e.2 s gq in
      (own_started (Present x p p2) n r v b c e.0 s h (one, two), one, two)
  told_started (Suspend x p) {a} {B} {f} n r v b c i e s h =
      let one = told_started p (n + 1) r v b (suspended_part V L all c) i e.1 s ((head_started M B _ p (n + 1) (Started r) c.kernel e.1).go ∙ h) in
      (own_started (Suspend x p) n r v b c e.0 s h one, one)
  told_started (Seq p p2) {a} {B} {f} n r v b c i e s h =
      let m = n + 1 + statement_count p in
      let y = Started r in
      let parts = seq_parts V L all c in
      let low : r ≤ n = c.low r i in
      let wp = started_walk (statuses V) p (n + 1) y v in
      let one = told_started p (n + 1) r v b parts.0 i e.1 s ((head_started M B _ p (n + 1) y c.kernel.0 e.1).go ∙ h) in
      let i1 = started_at V p (n + 1) y v b c.kernel.0 one in
      let two : started_codes p 0 ≡ true → StartedWalked V p2 m y v (b && wp.code == 0) = λ z.
      told_started p2 m r v (b && wp.code == 0) parts.1 (root_left r (started_codes p 0) a.roots _ z i) (e.2 z) s
      ((head_started M B _ p2 m y c.kernel.1 (e.2 z)).go
      ∙ ap (λ u. V (End (n + 1) u 0)) (cond-false (r == m) Resumed (Started r) (ne_eqb r m (λ u. omega arith)))
      ∙ i1.ends 0 ∙ ap (λ u. b && u) (eqb-turned 0 wp.code)) in
      (own_started (Seq p p2) n r v b c e.0 s h (one, two), one, two)
  told_started (Loop at p) {a} {B} {f} n r v b c i e s h =
      let y = Started r in
      let low : r ≤ n = c.low r i in
      let gp : V (Go (n + 1) y) ≡ b = (head_started M B _ p (n + 1) y c.kernel e.1).go
      ∙ ap V (cond-false (r == n + 1) (End (n + 1) Resumed 0) (Go n y) (ne_eqb r (n + 1) (λ u. omega arith))) ∙ h in
      let one = told_started p (n + 1) r v b (loop_part V L all c) (root_left r true a.roots _ refl i) e.1 s gp in
      (own_started (Loop at p) n r v b c e.0 s h one, one)
  told_started (Par p p2) {a} {B} {f} n r v b c i e s h =
      let m = n + 1 + statement_count p in
      let parts = par_parts V L all c in
      let one = told_started p (n + 1) r v b parts.0 i e.1 s ((head_started M B _ p (n + 1) (Started r) c.kernel.0 e.1).go ∙ h) in
      let two = told_started p2 m r v b parts.1 i e.2 s ((head_started M B _ p2 m (Started r) c.kernel.1 e.2).go ∙ h) in
      (own_started (Par p p2) n r v b c e.0 s h (one, two), one, two)
  told_started (Trap p) {a} {B} {f} n r v b c i e s h =
      let one = told_started p (n + 1) r v b (trap_part V L all c) i e.1 s ((head_started M B _ p (n + 1) (Started r) c.kernel e.1).go ∙ h) in
      (own_started (Trap p) n r v b c e.0 s h one, one)
  told_started (Local x p) {a} {B} {f} n r v b c i e s h =
      let y = Started r in
      let one = told_started p (n + 1) r (with_value v x (V (StatusOf n y))) b (local_part V L all c) i e.1
      (sees_more given V B n x y v (above_within n r (c.low r i)) s) ((head_started M (bind B x n) _ p (n + 1) y c.kernel e.1).go ∙ h) in
      (own_started (Local x p) n r v b c e.0 s h one, e.0.status ∙ local_started V all L a x p B f n r v b c i one, one)
  told_started (Awake x p) n r v b c i e s h = absurd c.kernel
  told_started t n r v b c i e s h = own_started t n r v b c e s h tt

  abbrev picks : ℕ → Bool
  picks = selects B0 body q given V

  own_resumed : {a : Liveness} {B : Scope} {f : Layer → Formula} (S : ℕ → Bool) (t : Term) (n : ℕ) (v : Values) (b : Bool) → Stands V L all a B f t n →
      M (spot B f t n Resumed) → Sees given V B Resumed v → Finds picks S t n → Reach S t n b → V (Go n Resumed) ≡ b → ResumedParts V S t n v b →
      InstanceWalked V n Resumed b (resumed_walk (statuses V) S t n v)
  own_resumed {a} {B} {f} S t n v b c e s o u h parts = record {
    go = h;
    ends = λ j. e.ends j ∙ resumed_mean B0 body q given V S t B n v b c.loops c.kernel s o u h parts j;
  }

  -- a part that runs where it holds a selected pause
  picked_go : (S : ℕ → Bool) (p : Term) (n m : ℕ) (b : Bool) → Finds picks S p m → V (Go m Resumed) ≡ (V (Go n Resumed) && picks m) →
      V (Go n Resumed) ≡ b → V (Go m Resumed) ≡ (b && holds S p m)
  picked_go S p n m b o go h = go ∙ ap (λ y. y && picks m) h ∙ ap (λ y. b && y) (finds_self picks S p m o)

  pub told_resumed : (S : ℕ → Bool) (t : Term) {a : Liveness} {B : Scope} {f : Layer → Formula} (n : ℕ) (v : Values) (b : Bool) → Stands V L all a B f t n →
      a.resumed ≡ true → EachResumed M B f t n → Sees given V B Resumed v → Finds picks S t n → Reach S t n b → V (Go n Resumed) ≡ b →
      ResumedWalked V S t n v b
  told_resumed S (Present x p p2) {a} {B} {f} n v b c i e s o u h =
      let m = n + 1 + statement_count p in
      let t = Present x p p2 in
      let parts = present_parts V L all c in
      let op = finds_first picks S t p p2 n refl (λ j. refl) o in
      let oq = finds_second picks S t p p2 n refl (λ j. refl) o in
      let up : Reach S p (n + 1) (b && holds S p (n + 1)) = reach_part {p = p} {m = n + 1} b u (λ y z. y.1 z) in
      let uq : Reach S p2 m (b && holds S p2 m) = reach_part {p = p2} {m = m} b u (λ y z. y.2 z) in
      let one : has_code (resumed_codes p) ≡ true → ResumedWalked V S p (n + 1) v (b && holds S p (n + 1)) = λ z.
      told_resumed S p (n + 1) v _ parts.0 (and_from _ _ i z) (e.1 z) s op up
      (picked_go S p n (n + 1) b op (head_resumed M B _ p (n + 1) c.kernel.0 (e.1 z)).go h) in
      let two : has_code (resumed_codes p2) ≡ true → ResumedWalked V S p2 m v (b && holds S p2 m) = λ z.
      told_resumed S p2 m v _ parts.1 (and_from _ _ i z) (e.2 z) s oq uq (picked_go S p2 n m b oq (head_resumed M B _ p2 m c.kernel.1 (e.2 z)).go h) in
      (own_resumed S t n v b c e.0 s o u h (one, two), one, two)
  told_resumed S (Suspend x p) {a} {B} {f} n v b c i e s o u h =
      let d = truth x v in
      let test = test_meaning B0 body q given V B x Resumed v s.each in
      let up : Reach S p (n + 1) (b && not d) = record { held = λ z. u.held (and_parts b _ z).0; selected = λ z. u.selected (and_parts b _ z).0 } in
      let one : has_code (resumed_codes p) ≡ true → ResumedWalked V S p (n + 1) v (b && not d) = λ z.
      told_resumed S p (n + 1) v (b && not d) (suspended_part V L all c) (and_from _ _ i z) (e.1 z) s
      (finds_only picks S (Suspend x p) p n refl (λ j. refl) o) up
      ((head_resumed M B _ p (n + 1) c.kernel (e.1 z)).go ∙ ap (λ y. y && not (val B0 body q given V (test_formula B x Resumed))) h
      ∙ ap (λ y. b && not y) test) in
      (own_resumed S (Suspend x p) n v b c e.0 s o u h one, one)
  told_resumed S (Seq p p2) {a} {B} {f} n v b c i e s o u h =
      let m = n + 1 + statement_count p in
      let t = Seq p p2 in
      let parts = seq_parts V L all c in
      let op = finds_first picks S t p p2 n refl (λ j. refl) o in
      let oq = finds_second picks S t p p2 n refl (λ j. refl) o in
      let up : Reach S p (n + 1) (b && holds S p (n + 1)) = reach_part {p = p} {m = n + 1} b u (λ y z. y.1 z) in
      let uq : Reach S p2 m (b && holds S p2 m) = reach_part {p = p2} {m = m} b u (λ y z. (y.2 z).1) in
      let wp = resumed_walk (statuses V) S p (n + 1) v in
      let one : has_code (resumed_codes p) ≡ true → ResumedWalked V S p (n + 1) v (b && holds S p (n + 1)) = λ z.
      told_resumed S p (n + 1) v _ parts.0 (and_from _ _ i z) (e.1 z) s op up
      (picked_go S p n (n + 1) b op (head_resumed M B _ p (n + 1) c.kernel.0 (e.1 z)).go h) in
      let two : (can_pass p && has_code (resumed_codes p2)) ≡ true → ResumedWalked V S p2 m v (b && holds S p2 m) = λ z.
      told_resumed S p2 m v _ parts.1 (and_from _ _ i z) (e.2 z) s oq uq (picked_go S p2 n m b oq (head_resumed M B _ p2 m c.kernel.1 (e.2 z)).go h) in
      let three : resumed_codes p 0 ≡ true → StartedWalked V p2 m (Started m) v ((b && holds S p (n + 1)) && wp.code == 0) = λ z.
      told_started p2 m m v ((b && holds S p (n + 1)) && wp.code == 0) parts.1
      (root_own m (a.resumed && resumed_codes p 0) (cond (started_codes p 0) a.roots []) (and_from _ _ i z)) (e.3 z) (sees_root given V B m v parts.1.above s)
      ((head_started M B _ p2 m (Started m) c.kernel.1 (e.3 z)).go
      ∙ ap (λ y. V (End (n + 1) y 0)) (cond-true (m == m) Resumed (Started m) (eq-eqb m m refl))
      ∙ (resumed_at V S p (n + 1) v _ c.kernel.0 (one (code_lives p c.kernel.0 0 z))).ends 0
      ∙ ap (λ y. (b && holds S p (n + 1)) && y) (eqb-turned 0 wp.code)) in
      (own_resumed S t n v b c e.0 s o u h (one, two, three), one, two, three)
  told_resumed S (Loop at p) {a} {B} {f} n v b c i e s o u h =
      let part = loop_part V L all c in
      let wp = resumed_walk (statuses V) S p (n + 1) v in
      let one : has_code (resumed_codes p) ≡ true → ResumedWalked V S p (n + 1) v b = λ z.
      told_resumed S p (n + 1) v b part (and_from _ _ i z) (e.1 z) s (finds_only picks S (Loop at p) p n refl (λ j. refl) o)
      (record { held = u.held; selected = u.selected }) ((head_resumed M B _ p (n + 1) c.kernel (e.1 z)).go ∙ h) in
      let two : resumed_codes p 0 ≡ true → StartedWalked V p (n + 1) (Started (n + 1)) v (b && wp.code == 0) = λ z.
      told_started p (n + 1) (n + 1) v (b && wp.code == 0) part (root_own (n + 1) (a.resumed && resumed_codes p 0) a.roots (and_from _ _ i z)) (e.2 z)
      (sees_root given V B (n + 1) v part.above s)
      ((head_started M B _ p (n + 1) (Started (n + 1)) c.kernel (e.2 z)).go
      ∙ ap V (cond-true (n + 1 == n + 1) (End (n + 1) Resumed 0) (Go n (Started (n + 1))) (eq-eqb (n + 1) (n + 1) refl))
      ∙ (resumed_at V S p (n + 1) v _ c.kernel (one (code_lives p c.kernel 0 z))).ends 0 ∙ ap (λ y. b && y) (eqb-turned 0 wp.code)) in
      (own_resumed S (Loop at p) n v b c e.0 s o u h (one, two), one, two)
  told_resumed S (Par p p2) {a} {B} {f} n v b c i e s o u h =
      let m = n + 1 + statement_count p in
      let t = Par p p2 in
      let parts = par_parts V L all c in
      let op = finds_first picks S t p p2 n refl (λ j. refl) o in
      let oq = finds_second picks S t p p2 n refl (λ j. refl) o in
      let up : Reach S p (n + 1) (b && holds S p (n + 1)) = reach_part {p = p} {m = n + 1} b u (λ y z. y.2 z) in
      let uq : Reach S p2 m (b && holds S p2 m) = reach_part {p = p2} {m = m} b u (λ y z. y.3 z) in
      let one : has_code (resumed_codes p) ≡ true → ResumedWalked V S p (n + 1) v (b && holds S p (n + 1)) = λ z.
      told_resumed S p (n + 1) v _ parts.0 (and_from _ _ i z) (e.1 z) s op up
      (picked_go S p n (n + 1) b op (head_resumed M B _ p (n + 1) c.kernel.0 (e.1 z)).go h) in
      let two : has_code (resumed_codes p2) ≡ true → ResumedWalked V S p2 m v (b && holds S p2 m) = λ z.
      told_resumed S p2 m v _ parts.1 (and_from _ _ i z) (e.2 z) s oq uq (picked_go S p2 n m b oq (head_resumed M B _ p2 m c.kernel.1 (e.2 z)).go h) in
      (own_resumed S t n v b c e.0 s o u h (one, two), one, two)
  told_resumed S (Trap p) {a} {B} {f} n v b c i e s o u h =
      let one : has_code (resumed_codes p) ≡ true → ResumedWalked V S p (n + 1) v b = λ z.
      told_resumed S p (n + 1) v b (trap_part V L all c) (and_from _ _ i z) (e.1 z) s (finds_only picks S (Trap p) p n refl (λ j. refl) o)
      (record { held = u.held; selected = u.selected }) ((head_resumed M B _ p (n + 1) c.kernel (e.1 z)).go ∙ h) in
      (own_resumed S (Trap p) n v b c e.0 s o u h one, one)
  told_resumed S (Local x p) {a} {B} {f} n v b c i e s o u h =
      let up : Reach S p (n + 1) b = record { held = u.held; selected = u.selected } in
      let one : has_code (resumed_codes p) ≡ true → ResumedWalked V S p (n + 1) (with_value v x (V (StatusOf n Resumed))) b = λ z.
      told_resumed S p (n + 1) (with_value v x (V (StatusOf n Resumed))) b (local_part V L all c) (and_from _ _ i z) (e.1 z)
      (sees_more given V B n x Resumed v refl s) (finds_only picks S (Local x p) p n refl (λ j. refl) o) up
      ((head_resumed M (bind B x n) _ p (n + 1) c.kernel (e.1 z)).go ∙ h) in
      (own_resumed S (Local x p) n v b c e.0 s o u h one, e.0.status ∙ local_resumed V all L S a x p B f n v b c i up one, one)
  told_resumed S (Awake x p) n v b c i e s o u h = absurd c.kernel
  told_resumed S t n v b c i e s o u h = own_resumed S t n v b c e s o u h tt
