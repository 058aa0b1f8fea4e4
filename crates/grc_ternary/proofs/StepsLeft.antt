-- A step of what is left, where there is one, does what the walk does under the values of a solution of which nothing is
-- unknown: it completes with the walk's code, and leaves what the kept pauses leave. This asks for no rank.
use Rattle.std.proofs.Common.{◌≡◌, ℕ, ◌+◌, Bool, true, false, ◌==◌, cond, Option, Some, None, refl, sym, ap, ◌∙◌}
use Rattle.std.proofs.Common.{subst}
use Rattle.std.proofs.lemmas.Bool.{eq-eqb, cond_both, cond-false, false≢true, true≢false}
use Rattle.base_facts.proofs.Tests.{or-other}
use Rattle.est_kernel.specs.Terms.{Expression, Tick, Sig, Not, And, Or, Term, Nothing, Pause, Emit, Exit, Present, Suspend, Seq, Loop, Par, Trap, Local, Awake}
use Rattle.est_kernel.specs.Statuses.{Status, Plus, Minus, Unknown, Environment, with_status, known, value, opposite, conjunction, disjunction}
use Rattle.est_kernel.specs.Potentials.{decided}
use Rattle.est_kernel.specs.Preorder.{statement_count}
use Rattle.est_kernel.specs.Steps.{Step, step, leaving, leaves, chosen_step, loop_step, local_step}
use Rattle.est_kernel.specs.Laws.{IsBelow, KnowsMore}
use Rattle.est_kernel.proofs.Exports.{conjunction-known, disjunction-known, opposite-known, value_below, with_status-more, same_step}
use Rattle.grc_graph.specs.Layers.{Layer, Resumed, Started}
use Rattle.grc_graph.specs.Wires.{Wire, Go, StatusOf}
use Rattle.grc_graph.specs.Residuals.{holds, left_if, residual}
use Rattle.grc_graph.specs.Walk.{Values, with_value, truth, started_walk, resumed_walk}
use Rattle.grc_graph.specs.Selected.{HasExitCodes, IsSelected}
use Rattle.grc_graph.specs.Readings.{Valuation}
use Rattle.grc_graph.specs.Coherence.{statuses}
use Rattle.grc_solutions_laws.proofs.Exports.{only_same, started_keeps, resumed_keeps, keeps_branch, Stepped, Two, lifted, stepped_only, first_left}
use Rattle.grc_solutions_laws.proofs.Exports.{second_left}
use Rattle.grc_solutions_laws.proofs.Exports.{present_step, par_step, trap_left, local_left, awake_step, seq_step, held_step, branch_step, held_first}
use Rattle.grc_solutions_laws.proofs.Exports.{held_second}
use Rattle.est_ternary.specs.TriWalks.{tri, tri_decided}
use Rattle.est_ternary.specs.KnownPlaces.{IsKnown}
use Rattle.est_ternary.proofs.Exports.{walk_decides, below_equal, known_where, HasStep, leaves_part, sequence_parts, loop_part, parallel_parts, trap_part}
use Rattle.est_ternary.proofs.Exports.{local_part, step_walk_codes}
use Rattle.grc_ternary.specs.LeastSolutions.{Statuses}
use Rattle.grc_ternary.proofs.ResumedWalks.{part_on, resumed_tri, resumed_decided, left_walk}
use Rattle.grc_ternary.proofs.StartedPlaces.{ends, Follows, above, above_decided}
use Rattle.grc_ternary.proofs.ResumedPlaces.{FollowsResumed, above_resumed, above_resumed_decided}

-- ---- statuses and values

-- a status that is known and below a value is that value
pub is_value : (v : Status) (b : Bool) → IsKnown v → IsBelow v (known b) → v ≡ known b
is_value Unknown b k h = absurd k
is_value _ b k h = sym h

-- the statuses of an environment are below values
pub record Valued (E : Environment) (v : Values) : Type 0 where
  pub each : (s : ℕ) → IsBelow (E s) (known (v s))

-- in the environment of the values a test has its truth
truth_known : (e : Expression) (v : Values) → value e (λ s. known (v s)) ≡ known (truth e v)
truth_known (Not a) v = ap opposite (truth_known a v) ∙ opposite-known (truth a v)
truth_known (And a b) v =
    ap (λ x. conjunction x (value b (λ s. known (v s)))) (truth_known a v) ∙ ap (λ x. conjunction (known (truth a v)) x) (truth_known b v)
    ∙ conjunction-known (truth a v) (truth b v)
truth_known (Or a b) v =
    ap (λ x. disjunction x (value b (λ s. known (v s)))) (truth_known a v) ∙ ap (λ x. disjunction (known (truth a v)) x) (truth_known b v)
    ∙ disjunction-known (truth a v) (truth b v)
truth_known _ v = refl

-- a test whose value is known has its truth
test_is : (e : Expression) (E : Environment) (v : Values) → Valued E v → IsKnown (value e E) → value e E ≡ known (truth e v)
test_is e E v h k =
    is_value (value e E) (truth e v) k
    (subst (λ x. IsBelow (value e E) x) (truth_known e v) (value_below e E (λ s. known (v s)) (record { statuses = h.each })))

valued_more : {E : Environment} {v : Values} (s : ℕ) (b : Bool) → Valued E v → Valued (with_status E s (known b)) (with_value v s b)
valued_more {E} {v} s b h = record { each = λ t. at t (t == s) }
  where
    self : (b : Bool) → IsBelow (known b) (known b)
    self true = refl
    self false = refl

    at : (t : ℕ) (c : Bool) → IsBelow (cond c (known b) (E t)) (known (cond c b (v t)))
    at t true = self b
    at t false = h.each t

-- where a choice has a step its test is known
chosen_known : (v : Status) (a b : Option Step) → HasStep (chosen_step v a b) → IsKnown v
chosen_known Unknown a b h = let e = h.1 in cc
chosen_known _ a b h = tt

chosen_first : (v : Status) (a b : Option Step) (c : Bool) → v ≡ known c → HasStep (chosen_step v a b) → c ≡ true → HasStep a
chosen_first v a b c e h z = subst (λ x. HasStep (chosen_step x a b)) (e ∙ ap known z) h

chosen_second : (v : Status) (a b : Option Step) (c : Bool) → v ≡ known c → HasStep (chosen_step v a b) → c ≡ false → HasStep b
chosen_second v a b c e h z = subst (λ x. HasStep (chosen_step x a b)) (e ∙ ap known z) h

known_meets : (x y : Status) → IsKnown x → IsBelow x y → x ≡ y
known_meets Unknown y k h = absurd k
known_meets _ y k h = sym h

-- the term that is left of the part that holds a selected pause
cond_first : (c : Bool) (a b : Term) (E : Environment) → c ≡ true → HasStep (step (cond c a b) E) → HasStep (step a E)
cond_first c a b E e h = subst (λ x. HasStep (step (cond x a b) E)) e h

cond_second : (c : Bool) (a b : Term) (E : Environment) → c ≡ false → HasStep (step (cond c a b) E) → HasStep (step b E)
cond_second c a b E e h = subst (λ x. HasStep (step (cond x a b) E)) e h

-- a loop that has a step does not terminate with its body
loop_nonzero : (whole : Term) (a : Step) → HasStep (loop_step whole (Some a)) → (a.code == 0) ≡ false
loop_nonzero whole a h = by (a.code == 0) refl h
  where
    by : (c : Bool) → (a.code == 0) ≡ c → HasStep (cond c None (Some (leaving (λ r. Seq r whole) a))) → (a.code == 0) ≡ false
    by true e h = let z = h.1 in cc
    by false e h = e

-- ---- the step

module _ (T : Statuses) (V : Valuation) (known_all : (w : Wire) → T w ≡ known (V w)) where
  abbrev Z : ℕ → Layer → Bool
  Z = statuses V

  -- the code 0 of a part with a step that terminates
  code_zero : (p : Term) (E : Environment) (a : Step) → step p E ≡ Some a → a.code ≡ 0 → (tri p Plus E).codes 0 ≡ Plus
  code_zero p E a e z = step_walk_codes p E a e 0 ∙ ap known (eq-eqb 0 a.code (sym z))

  -- the status of a Local that the step decides
  decided_is : (s : ℕ) (p : Term) (E : Environment) (b : Bool) → IsKnown (decided p E s) → IsBelow (tri_decided p Plus E s) (known b) → decided p E s ≡ known b
  decided_is s p E b k h = is_value (decided p E s) b k (subst (λ v. IsBelow v (known b)) (sym (walk_decides p E s)) h)

  pub started_left : (t : Term) (n : ℕ) (l : Layer) (v : Values) (E F : Environment) → HasExitCodes t → Follows T T t n l E → T (Go n l) ≡ Plus →
      KnowsMore F E → Valued E v → HasStep (step t F) → Stepped t F (started_walk Z t n l v) t n
  started_left Pause n l v E F k f go m val h =
      record { done = _; is = refl; code = refl; left = λ S s. cond_both (S n) Nothing Nothing (λ z. Nothing ≡ z) (λ c. refl) (λ c. refl) }
  started_left (Present e p q) n l v E F k f go m val h =
      let r = n + 1 + statement_count p in
      let more = value_below e F E m in
      let kn = chosen_known (value e F) (step p F) (step q F) h in
      let same : value e F ≡ value e E = known_meets (value e F) (value e E) kn more in
      let is = test_is e E v val (subst IsKnown same kn) in
      let here : value e F ≡ known (truth e v) = same ∙ is in
      present_step (truth e v) e p q n here (started_keeps Z p (n + 1) l v k.0) (started_keeps Z q r l v k.1)
      (λ c. started_left p (n + 1) l v E F k.0 f.3
      (f.0 ∙ ap (λ x. conjunction x (value e E)) go ∙ is ∙ ap known c) m val (chosen_first (value e F) (step p F) (step q F) (truth e v) here h c))
      (λ c. started_left q r l v E F k.1 f.4
      (f.1 ∙ ap (λ x. conjunction x (opposite (value e E))) go ∙ ap opposite (is ∙ ap known c)) m val
      (chosen_second (value e F) (step p F) (step q F) (truth e v) here h c))
  started_left (Suspend e p) n l v E F k f go m val h =
      let s = started_left p (n + 1) l v E F k f.2 (f.0 ∙ go) m val (leaves_part (λ z. Awake e z) (step p F) h.0 h.1) in
      stepped_only {p = p} (λ z. Awake e z) (Suspend e p) (Suspend e p) n s.done refl (λ S. refl) (λ S. refl)
      (ap (leaves (λ z. Awake e z)) s.is) s.code s.left (started_keeps Z p (n + 1) l v k)
  started_left (Seq p q) n l v E F k f go m val h =
      let r = n + 1 + statement_count p in
      let parts = sequence_parts q (step p F) (step q F) h.0 h.1 in
      let s = started_left p (n + 1) l v E F k.0 f.3 (f.0 ∙ go) m val (parts.0, parts.1) in
      let same : s.done ≡ parts.0 = same_step s.done parts.0 (sym s.is ∙ parts.1) in
      let x = above T p (n + 1) l Plus E F f.3 (f.0 ∙ go) m in
      let two : Two p q (Seq p q) n (λ z. Seq z q) = record { count = refl; holding = λ S. refl; leaving_is = λ S. refl } in
      seq_step p q (Seq p q) p n (n + 1) (started_walk Z q r l v) s
      (λ z. first_left p q (Seq p q) n (λ y. Seq y q) s.done two s.code s.left (started_keeps Z p (n + 1) l v k.0))
      (λ z.
      let zero_code : s.done.code ≡ 0 = s.code ∙ z in
      let started : T (Go r l) ≡ Plus = f.1 ∙ subst (λ y. IsBelow y (ends T (n + 1) l 0)) (code_zero p F s.done s.is zero_code) (x.codes 0) in
      let u = started_left q r l v E F k.1 f.4 started m val (parts.2 (ap (λ y. y.code) (sym same) ∙ zero_code)) in (
        u.done,
        u.is,
        u.code,
        second_left p q (Seq p q) n (λ y. Seq y q) u.done.residual two u.left (started_keeps Z q r l v k.1),
      ))
  started_left (Loop at p) n l v E F k f go m val h =
      let part = loop_part (Loop at p) (step p F) h.0 h.1 in
      let s = started_left p (n + 1) l v E F k f.2 (f.0 ∙ go) m val part in
      let never = loop_nonzero (Loop at p) s.done (subst (λ o. HasStep (loop_step (Loop at p) o)) s.is h) in
      stepped_only {p = p} (λ z. Seq z (Loop at p)) (Loop at p) (Loop at p) n s.done refl (λ S. refl) (λ S. refl)
      (ap (loop_step (Loop at p)) s.is ∙ cond-false (s.done.code == 0) None (Some (leaving (λ z. Seq z (Loop at p)) s.done)) never)
      s.code s.left (started_keeps Z p (n + 1) l v k)
  started_left (Par p q) n l v E F k f go m val h =
      let r = n + 1 + statement_count p in
      let parts = parallel_parts (step p F) (step q F) h.0 h.1 in
      par_step p q p q n (started_keeps Z p (n + 1) l v k.0) (started_keeps Z q r l v k.1) (started_keeps Z (Par p q) n l v k)
      (started_left p (n + 1) l v E F k.0 f.3 (f.0 ∙ go) m val parts.0) (started_left q r l v E F k.1 f.4 (f.1 ∙ go) m val parts.1)
  started_left (Trap p) n l v E F k f go m val h =
      trap_left p p n (started_keeps Z p (n + 1) l v k) (started_keeps Z (Trap p) n l v k)
      (started_left p (n + 1) l v E F k f.2 (f.0 ∙ go) m val (trap_part (step p F) h.0 h.1))
  started_left (Local s p) n l v E F k f go m val h =
      let d = decided p F s in
      let c = V (StatusOf n l) in
      let w = known_where d (local_step s (step p (with_status F s d))) h.0 h.1 in
      let b = subst (λ x. IsBelow (tri_decided p Plus F s) x) (known_all (StatusOf n l)) (above_decided T s p n l Plus E F f go m) in
      let is = decided_is s p F c w.0 b in
      local_left s p p n c is (started_keeps Z p (n + 1) l (with_value v s c) k)
      (started_left p (n + 1) l (with_value v s c) (with_status E s (T (StatusOf n l))) (with_status F s (known c)) k f.3 (f.0 ∙ go)
      (with_status-more s (known c) (T (StatusOf n l)) m (below_equal (sym (known_all (StatusOf n l)))))
      (subst (λ x. Valued (with_status E s x) (with_value v s c)) (sym (known_all (StatusOf n l))) (valued_more s c val))
      (subst (λ x. HasStep (step p (with_status F s x))) is (local_part s (step p (with_status F s d)) h.0 w.1)))
  started_left (Awake e p) n l v E F k f go m val h = absurd k
  started_left _ n l v E F k f go m val h = record { done = _; is = refl; code = refl; left = λ S s. refl }

  pub resumed_left : (S : ℕ → Bool) (t : Term) (n : ℕ) (v : Values) (E F : Environment) → HasExitCodes t → FollowsResumed T T S t n E →
      holds S t n ≡ true → IsSelected S t n → T (Go n Resumed) ≡ Plus → KnowsMore F E → Valued E v → HasStep (step (residual S t n) F) →
      Stepped (residual S t n) F (resumed_walk Z S t n v) t n
  resumed_left S Pause n v E F k f ho sel go m val h =
      record { done = _; is = refl; code = refl; left = λ X z. cond_both (X n) Nothing Nothing (λ u. Nothing ≡ u) (λ c. refl) (λ c. refl) }
  resumed_left S (Present e p q) n v E F k f ho sel go m val h =
      let r = n + 1 + statement_count p in
      let hp = holds S p (n + 1) in
      let two : Two p q (Present e p q) n (λ z. z) = record { count = refl; holding = λ X. refl; leaving_is = λ X. refl } in
      held_step S hp (residual S p (n + 1)) (residual S q r) (Present e p q) n
      (λ c. held_first p q (Present e p q) n (residual S p (n + 1)) two (resumed_keeps Z S p (n + 1) v k.0 c)
      (resumed_left S p (n + 1) v E F k.0 f.3 c (sel.1 c) (f.0 ∙ part_on (T (Go n Resumed)) S p (n + 1) c ∙ go) m val
      (cond_first hp (residual S p (n + 1)) (residual S q r) F c h)))
      (λ c. let d = or-other _ _ c ho in
      held_second p q (Present e p q) n (λ z. z) (residual S q r) two (resumed_keeps Z S q r v k.1 d)
      (resumed_left S q r v E F k.1 f.4 d (sel.2 d) (f.1 ∙ part_on (T (Go n Resumed)) S q r d ∙ go) m val
      (cond_second hp (residual S p (n + 1)) (residual S q r) F c h)))
  resumed_left S (Suspend e p) n v E F k f ho sel go m val h =
      let t = residual S p (n + 1) in
      let more = value_below e F E m in
      let kn = chosen_known (value e F) _ (leaves (λ z. Awake e z) (step t F)) h in
      let same : value e F ≡ value e E = known_meets (value e F) (value e E) kn more in
      let is = test_is e E v val (subst IsKnown same kn) in
      awake_step (truth e v) e t p S n (same ∙ is) ho refl (resumed_keeps Z S p (n + 1) v k ho)
      (λ c.
      let o = chosen_second (value e F) _ (leaves (λ z. Awake e z) (step t F)) (truth e v) (same ∙ is) h c in
      resumed_left S p (n + 1) v E F k f.2 ho sel (f.0 ∙ ap (λ x. conjunction x (opposite (value e E))) go ∙ ap opposite (is ∙ ap known c)) m val
      (leaves_part (λ z. Awake e z) (step t F) o.0 o.1))
  resumed_left S (Seq p q) n v E F k f ho sel go m val h =
      let r = n + 1 + statement_count p in
      let hp = holds S p (n + 1) in
      let t = residual S p (n + 1) in
      let two : Two p q (Seq p q) n (λ z. Seq z q) = record { count = refl; holding = λ X. refl; leaving_is = λ X. refl } in
      held_step S hp (Seq t q) (residual S q r) (Seq p q) n
      (λ c.
      let w = cond_first hp (Seq t q) (residual S q r) F c h in
      let parts = sequence_parts q (step t F) (step q F) w.0 w.1 in
      let on : T (Go (n + 1) Resumed) ≡ Plus = f.0 ∙ part_on (T (Go n Resumed)) S p (n + 1) c ∙ go in
      let s = resumed_left S p (n + 1) v E F k.0 f.4 c (sel.1 c) on m val (parts.0, parts.1) in
      let same : s.done ≡ parts.0 = same_step s.done parts.0 (sym s.is ∙ parts.1) in
      let x = above_resumed T S p (n + 1) Plus E F f.4 (λ z. absurd (true≢false (sym c ∙ z))) on m in
      seq_step t q (Seq p q) p n (n + 1) (started_walk Z q r (Started r) v) s
      (λ z. first_left p q (Seq p q) n (λ u. Seq u q) s.done two s.code s.left (resumed_keeps Z S p (n + 1) v k.0 c))
      (λ z.
      let zero_code : s.done.code ≡ 0 = s.code ∙ z in
      let at_zero : (resumed_tri S p (n + 1) Plus F).codes 0 ≡ Plus = ap (λ a. a.codes 0) (left_walk S p (n + 1) Plus F (sel.1 c) c)
      ∙ code_zero t F s.done s.is zero_code in
      let started : T (Go r (Started r)) ≡ Plus = f.2 ∙ subst (λ y. IsBelow y (ends T (n + 1) Resumed 0)) at_zero (x.codes 0) in
      let u = started_left q r (Started r) v E F k.1 f.6 started m val (parts.2 (ap (λ y. y.code) (sym same) ∙ zero_code)) in (
        u.done,
        u.is,
        u.code,
        second_left p q (Seq p q) n (λ j. Seq j q) u.done.residual two u.left (started_keeps Z q r (Started r) v k.1),
      )))
      (λ c.
      let d = or-other _ _ c ho in
      let u = sel.2 d in
      held_second p q (Seq p q) n (λ z. Seq z q) (residual S q r) two (resumed_keeps Z S q r v k.1 d)
      (resumed_left S q r v E F k.1 f.5 d u.1 (f.1 ∙ part_on (T (Go n Resumed)) S q r d ∙ go) m val
      (cond_second hp (Seq t q) (residual S q r) F c h)))
  resumed_left S (Loop at p) n v E F k f ho sel go m val h =
      let t = residual S p (n + 1) in
      let parts = sequence_parts (Loop at p) (step t F) (step (Loop at p) F) h.0 h.1 in
      let on : T (Go (n + 1) Resumed) ≡ Plus = f.0 ∙ go in
      let s = resumed_left S p (n + 1) v E F k f.3 ho sel on m val (parts.0, parts.1) in
      let same : s.done ≡ parts.0 = same_step s.done parts.0 (sym s.is ∙ parts.1) in
      let x = above_resumed T S p (n + 1) Plus E F f.3 (λ z. absurd (true≢false (sym ho ∙ z))) on m in
      seq_step t (Loop at p) (Loop at p) p n (n + 1) (started_walk Z p (n + 1) (Started (n + 1)) v) s
      (λ z X u.
      let j = only_same n (statement_count p) u in
      lifted s.done.code (holds X p (n + 1)) (λ y. Seq y (Loop at p)) s.done.residual (residual X p (n + 1))
      ((resumed_keeps Z S p (n + 1) v k ho).held X j ∙ ap (λ c. c == 1) (sym s.code)) (s.left X j))
      (λ z.
      let zero_code : s.done.code ≡ 0 = s.code ∙ z in
      let at_zero : (resumed_tri S p (n + 1) Plus F).codes 0 ≡ Plus = ap (λ a. a.codes 0) (left_walk S p (n + 1) Plus F sel ho)
      ∙ code_zero t F s.done s.is zero_code in
      let started : T (Go (n + 1) (Started (n + 1))) ≡ Plus = f.1 ∙ subst (λ y. IsBelow y (ends T (n + 1) Resumed 0)) at_zero (x.codes 0) in
      let again = parts.2 (ap (λ y. y.code) (sym same) ∙ zero_code) in
      let part = loop_part (Loop at p) (step p F) again.0 again.1 in
      let u = started_left p (n + 1) (Started (n + 1)) v E F k f.4 started m val part in
      let never = loop_nonzero (Loop at p) u.done (subst (λ o. HasStep (loop_step (Loop at p) o)) u.is again) in
      let whole = stepped_only {p = p} (λ j. Seq j (Loop at p)) (Loop at p) (Loop at p) n u.done refl (λ X. refl) (λ X. refl)
      (ap (loop_step (Loop at p)) u.is ∙ cond-false (u.done.code == 0) None (Some (leaving (λ j. Seq j (Loop at p)) u.done)) never)
      u.code u.left (started_keeps Z p (n + 1) (Started (n + 1)) v k) in
      (whole.done, whole.is, whole.code, whole.left))
  resumed_left S (Par p q) n v E F k f ho sel go m val h =
      let r = n + 1 + statement_count p in
      let hp = holds S p (n + 1) in
      let hq = holds S q r in
      let parts = parallel_parts (step (left_if hp (residual S p (n + 1))) F) (step (left_if hq (residual S q r)) F) h.0 h.1 in
      par_step (left_if hp (residual S p (n + 1))) (left_if hq (residual S q r)) p q n
      (keeps_branch hp (λ c. resumed_keeps Z S p (n + 1) v k.0 c)) (keeps_branch hq (λ c. resumed_keeps Z S q r v k.1 c))
      (resumed_keeps Z S (Par p q) n v k ho)
      (branch_step hp (residual S p (n + 1)) p (n + 1)
      (λ c. resumed_left S p (n + 1) v E F k.0 f.3 c (sel.2 c) (f.0 ∙ part_on (T (Go n Resumed)) S p (n + 1) c ∙ go) m val
      (cond_first hp (residual S p (n + 1)) Nothing F c parts.0)))
      (branch_step hq (residual S q r) q r
      (λ c. resumed_left S q r v E F k.1 f.4 c (sel.3 c) (f.1 ∙ part_on (T (Go n Resumed)) S q r c ∙ go) m val
      (cond_first hq (residual S q r) Nothing F c parts.1)))
  resumed_left S (Trap p) n v E F k f ho sel go m val h =
      trap_left (residual S p (n + 1)) p n (resumed_keeps Z S p (n + 1) v k ho) (resumed_keeps Z S (Trap p) n v k ho)
      (resumed_left S p (n + 1) v E F k f.2 ho sel (f.0 ∙ go) m val (trap_part (step (residual S p (n + 1)) F) h.0 h.1))
  resumed_left S (Local s p) n v E F k f ho sel go m val h =
      let t = residual S p (n + 1) in
      let d = decided t F s in
      let c = V (StatusOf n Resumed) in
      let w = known_where d (local_step s (step t (with_status F s d))) h.0 h.1 in
      let told = ap (λ a. a.signals s) (left_walk S p (n + 1) Plus (with_status F s Unknown) sel ho) in
      let b = subst (λ x. IsBelow x (known c)) told
      (subst (λ x. IsBelow (resumed_decided S p (n + 1) Plus F s) x) (known_all (StatusOf n Resumed))
      (above_resumed_decided T S s p n Plus E F f (λ z. absurd (true≢false (sym ho ∙ z))) go m)) in
      let is = decided_is s t F c w.0 b in
      local_left s t p n c is (resumed_keeps Z S p (n + 1) (with_value v s c) k ho)
      (resumed_left S p (n + 1) (with_value v s c) (with_status E s (T (StatusOf n Resumed))) (with_status F s (known c)) k f.3 ho sel (f.0 ∙ go)
      (with_status-more s (known c) (T (StatusOf n Resumed)) m (below_equal (sym (known_all (StatusOf n Resumed)))))
      (subst (λ x. Valued (with_status E s x) (with_value v s c)) (sym (known_all (StatusOf n Resumed))) (valued_more s c val))
      (subst (λ x. HasStep (step t (with_status F s x))) is (local_part s (step t (with_status F s d)) h.0 w.1)))
  resumed_left S _ n v E F k f ho sel go m val h = absurd (false≢true ho)
