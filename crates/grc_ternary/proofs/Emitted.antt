-- The emissions on a status wire, among all instances, are those of the body that sees it: through each rail, by the
-- lists of live instances, so as statuses.
use Rattle.std.proofs.Common.{◌≡◌, ℕ, ◌+◌, ◌≤◌, Bool, true, false, not, ◌&&◌, ◌||◌, ◌==◌, List, refl, sym, ap, ◌∙◌, arith}
use Rattle.std.proofs.lemmas.Bool.{and_parts, false≢true}
use Rattle.base_facts.proofs.Tests.{and-false, and-moved, eqb-turned, or-equal}
use Rattle.est_kernel.specs.Terms.{Term, Nothing, Pause, Emit, Exit, Present, Suspend, Seq, Loop, Par, Trap, Local, Awake}
use Rattle.est_kernel.specs.Statuses.{Status, Minus, disjunction}
use Rattle.est_kernel.specs.Preorder.{statement_count}
use Rattle.est_kernel.specs.StaticCodes.{has_code, started_codes, resumed_codes}
use Rattle.grc_graph.specs.Layers.{Layer, Resumed, Started, Liveness, part_liveness, second_liveness, loop_liveness, can_pass}
use Rattle.grc_graph.specs.Scopes.{Scope, bind}
use Rattle.grc_graph.specs.Wires.{Wire, Go}
use Rattle.grc_graph.specs.Formulas.{Formula}
use Rattle.grc_graph.specs.Selected.{HasExitCodes}
use Rattle.grc_graph.proofs.Exports.{Agrees, only_agrees, first_agrees, second_agrees}
use Rattle.grc_solutions.proofs.Exports.{Above, above_more, above_bind}
use Rattle.grc_solutions_laws.proofs.Exports.{emission, started_any, resumed_any, Fresh, fresh_more, Shows, shows_root, shows_bind}
use Rattle.est_ternary.specs.TriWalks.{where_met}
use Rattle.est_ternary.proofs.Exports.{IsRail, rail_met}
use Rattle.grc_ternary.specs.LeastSolutions.{Statuses}
use Rattle.grc_ternary.proofs.Formulas.{met_absent}
use Rattle.grc_ternary.proofs.StartedPlaces.{emits}
use Rattle.grc_ternary.proofs.ResumedPlaces.{resumed_emits}
use Rattle.grc_ternary.proofs.Quiet.{Quiet, OffLayers, DeepQuiet, LowRoots, quiet_only, quiet_first, quiet_second, deep_only, deep_first, deep_second}
use Rattle.grc_ternary.proofs.Quiet.{start_quiet}
use Rattle.grc_ternary.proofs.Quiet.{second_root_off, own_root_off, own_loop_off, deep_quiet, low_second, low_loop, low_more}

-- ---- nothing is emitted where nothing is live

pub quiet_emits : (U : Statuses) (t : Term) (n : ℕ) (l : Layer) (s : ℕ) → Quiet U l n (statement_count t) → emits U t n l s ≡ Minus
quiet_emits U (Emit x) n l s q = ap (λ v. where_met (s == x) v) (q.at n (omega arith) (omega arith)).0 ∙ met_absent (s == x)
quiet_emits U (Present e p p2) n l s q =
    ap (λ v. disjunction v (emits U p2 (n + 1 + statement_count p) l s)) (quiet_emits U p (n + 1) l s (quiet_first n _ _ q))
    ∙ quiet_emits U p2 (n + 1 + statement_count p) l s (quiet_second n _ _ q)
quiet_emits U (Suspend e p) n l s q = quiet_emits U p (n + 1) l s (quiet_only n _ q)
quiet_emits U (Seq p p2) n l s q =
    ap (λ v. disjunction v (emits U p2 (n + 1 + statement_count p) l s)) (quiet_emits U p (n + 1) l s (quiet_first n _ _ q))
    ∙ quiet_emits U p2 (n + 1 + statement_count p) l s (quiet_second n _ _ q)
quiet_emits U (Loop at p) n l s q = quiet_emits U p (n + 1) l s (quiet_only n _ q)
quiet_emits U (Par p p2) n l s q =
    ap (λ v. disjunction v (emits U p2 (n + 1 + statement_count p) l s)) (quiet_emits U p (n + 1) l s (quiet_first n _ _ q))
    ∙ quiet_emits U p2 (n + 1 + statement_count p) l s (quiet_second n _ _ q)
quiet_emits U (Trap p) n l s q = quiet_emits U p (n + 1) l s (quiet_only n _ q)
quiet_emits U (Local x p) n l s q = ap (λ v. where_met (not (s == x)) v) (quiet_emits U p (n + 1) l s (quiet_only n _ q)) ∙ met_absent (not (s == x))
quiet_emits U _ n l s q = refl

pub deep_emits : (U : Statuses) (t : Term) (n s : ℕ) → DeepQuiet U n (statement_count t) → resumed_emits U t n s ≡ Minus
deep_emits U (Present e p q) n s d =
    ap (λ v. disjunction v (resumed_emits U q (n + 1 + statement_count p) s)) (deep_emits U p (n + 1) s (deep_first n _ _ d))
    ∙ deep_emits U q (n + 1 + statement_count p) s (deep_second n _ _ d)
deep_emits U (Suspend e p) n s d = deep_emits U p (n + 1) s (deep_only n _ d)
deep_emits U (Seq p q) n s d =
    let m = n + 1 + statement_count p in
    ap (λ v. disjunction (disjunction v (emits U q m (Started m) s)) (resumed_emits U q m s)) (deep_emits U p (n + 1) s (deep_first n _ _ d))
    ∙ ap (λ v. disjunction v (resumed_emits U q m s)) (quiet_emits U q m (Started m) s (quiet_second n _ _ (d.own m (omega arith))))
    ∙ deep_emits U q m s (deep_second n _ _ d)
deep_emits U (Loop at p) n s d =
    ap (λ v. disjunction v (emits U p (n + 1) (Started (n + 1)) s)) (deep_emits U p (n + 1) s (deep_only n _ d))
    ∙ quiet_emits U p (n + 1) (Started (n + 1)) s (quiet_only n _ (d.own (n + 1) (omega arith)))
deep_emits U (Par p q) n s d =
    ap (λ v. disjunction v (resumed_emits U q (n + 1 + statement_count p) s)) (deep_emits U p (n + 1) s (deep_first n _ _ d))
    ∙ deep_emits U q (n + 1 + statement_count p) s (deep_second n _ _ d)
deep_emits U (Trap p) n s d = deep_emits U p (n + 1) s (deep_only n _ d)
deep_emits U (Local x p) n s d = ap (λ v. where_met (not (s == x)) v) (deep_emits U p (n + 1) s (deep_only n _ d)) ∙ met_absent (not (s == x))
deep_emits U _ n s d = refl

-- ---- Booleans

both_bits : (c x y : Bool) → ((c && x) || (c && y)) ≡ (c && (x || y))
both_bits true x y = refl
both_bits false x y = refl

three_bits : (c x y z : Bool) → ((c && x) || ((c && y) || (c && z))) ≡ (c && ((x || z) || y))
three_bits true true y z = refl
three_bits true false true true = refl
three_bits true false true false = refl
three_bits true false false true = refl
three_bits true false false false = refl
three_bits false x y z = refl

hide_bits : (c a b : Bool) → ((c && not a) && b) ≡ (c && (b && not a))
hide_bits true true true = refl
hide_bits true true false = refl
hide_bits true false true = refl
hide_bits true false false = refl
hide_bits false a b = refl

guarded : (g P X : Bool) → (g ≡ true → P ≡ X) → (g ≡ false → X ≡ false) → (g && P) ≡ X
guarded true P X f h = f refl
guarded false P X f h = sym (h refl)

-- ---- through a rail

module _ (f : Status → Bool) (r : IsRail f) (L : ℕ → List Layer) (U : Statuses) (o : OffLayers L U) where
  none : (c : Bool) → false ≡ (c && f Minus)
  none c = sym (ap (λ b. c && b) r.minus ∙ and-false c)

  dead : (c : Bool) {v : Status} → v ≡ Minus → (c && f v) ≡ false
  dead c e = ap (λ v. c && f v) e ∙ ap (λ b. c && b) r.minus ∙ and-false c

  two : (c : Bool) (v w : Status) → ((c && f v) || (c && f w)) ≡ (c && f (disjunction v w))
  two c v w = both_bits c (f v) (f w) ∙ ap (λ b. c && b) (sym (r.some v w))

  three : (c : Bool) (v w x : Status) → ((c && f v) || ((c && f w) || (c && f x))) ≡ (c && f (disjunction (disjunction v x) w))
  three c v w x =
      three_bits c (f v) (f w) (f x)
      ∙ ap (λ b. c && (b || f w)) (sym (r.some v x))
      ∙ ap (λ b. c && b) (sym (r.some (disjunction v x) w))

  hide : (c : Bool) (x s : ℕ) (v : Status) → ((c && not (x == s)) && f v) ≡ (c && f (where_met (not (s == x)) v))
  hide c x s v =
      hide_bits c (x == s) (f v)
      ∙ ap (λ b. c && (f v && not b)) (eqb-turned x s)
      ∙ ap (λ b. c && b) (sym (rail_met f r (not (s == x)) v))

  pub started_emitted : (w : Wire) (s : ℕ) (c : Bool) (t : Term) (B : Scope) (g : Layer → Formula) (n x : ℕ) (a : Liveness) → Agrees L a t n → x ≤ n →
      HasExitCodes t → Fresh w n → Shows B (Started x) w s c →
      started_any (emission (λ u. f (U u)) w) B g t n (Started x) ≡ (c && f (emits U t n (Started x) s))
  started_emitted w s c (Emit y) B g n x a ag i k h e =
      let v = U (Go n (Started x)) in
      ap (λ b. b && f v) (e.each y) ∙ and-moved c (y == s) (f v) ∙ ap (λ b. c && (f v && b)) (eqb-turned y s)
      ∙ ap (λ b. c && b) (sym (rail_met f r (s == y) v))
  started_emitted w s c (Present y p q) B g n x a ag i k h e =
      let m = n + 1 + statement_count p in
      let t = Present y p q in
      let b = part_liveness a p in
      let d = part_liveness a q in
      or-equal
      (started_emitted w s c p B _ (n + 1) x b (first_agrees L a b d t p q n refl (λ j. refl) ag) (omega arith) k.0 (fresh_more n (n + 1) (omega arith) h) e)
      (started_emitted w s c q B _ m x d (second_agrees L a b d t p q n refl (λ j. refl) ag) (omega arith) k.1 (fresh_more n m (omega arith) h) e)
      ∙ two c (emits U p (n + 1) (Started x) s) (emits U q m (Started x) s)
  started_emitted w s c (Suspend y p) B g n x a ag i k h e =
      let b = part_liveness a p in
      started_emitted w s c p B _ (n + 1) x b (only_agrees L a b (Suspend y p) p n refl (λ j. refl) ag) (omega arith) k (fresh_more n (n + 1) (omega arith) h) e
  started_emitted w s c (Seq p q) B g n x a ag i k h e =
      let m = n + 1 + statement_count p in
      let t = Seq p q in
      let b = part_liveness a p in
      let d = second_liveness a p q m in
      let agq = second_agrees L a b d t p q n refl (λ j. refl) ag in
      or-equal
      (started_emitted w s c p B _ (n + 1) x b (first_agrees L a b d t p q n refl (λ j. refl) ag) (omega arith) k.0 (fresh_more n (n + 1) (omega arith) h) e)
      (guarded (started_codes p 0) _ (c && f (emits U q m (Started x) s))
      (λ z. started_emitted w s c q B _ m x d agq (omega arith) k.1 (fresh_more n m (omega arith) h) e)
      (λ z. dead c (quiet_emits U q m (Started x) s
      (start_quiet L U o x d q m agq (second_root_off x n m a p q (omega arith) i z) (λ y. omega arith)))))
      ∙ two c (emits U p (n + 1) (Started x) s) (emits U q m (Started x) s)
  started_emitted w s c (Loop at p) B g n x a ag i k h e =
      let b = loop_liveness a p (n + 1) in
      started_emitted w s c p B _ (n + 1) x b (only_agrees L a b (Loop at p) p n refl (λ j. refl) ag) (omega arith) k (fresh_more n (n + 1) (omega arith) h) e
  started_emitted w s c (Par p q) B g n x a ag i k h e =
      let m = n + 1 + statement_count p in
      let t = Par p q in
      let b = part_liveness a p in
      let d = part_liveness a q in
      or-equal
      (started_emitted w s c p B _ (n + 1) x b (first_agrees L a b d t p q n refl (λ j. refl) ag) (omega arith) k.0 (fresh_more n (n + 1) (omega arith) h) e)
      (started_emitted w s c q B _ m x d (second_agrees L a b d t p q n refl (λ j. refl) ag) (omega arith) k.1 (fresh_more n m (omega arith) h) e)
      ∙ two c (emits U p (n + 1) (Started x) s) (emits U q m (Started x) s)
  started_emitted w s c (Trap p) B g n x a ag i k h e =
      let b = part_liveness a p in
      started_emitted w s c p B _ (n + 1) x b (only_agrees L a b (Trap p) p n refl (λ j. refl) ag) (omega arith) k (fresh_more n (n + 1) (omega arith) h) e
  started_emitted w s c (Local y p) B g n x a ag i k h e =
      let b = part_liveness a p in
      started_emitted w s (c && not (y == s)) p (bind B y n) _ (n + 1) x b (only_agrees L a b (Local y p) p n refl (λ j. refl) ag) (omega arith) k
      (fresh_more n (n + 1) (omega arith) h) (shows_bind B n y s (Started x) w c h e)
      ∙ hide c y s (emits U p (n + 1) (Started x) s)
  started_emitted w s c (Awake y p) B g n x a ag i k h e = absurd k
  started_emitted w s c _ B g n x a ag i k h e = none c

  -- a part that may be resumed with the whole, which may
  live_part : (a : Liveness) (x : Bool) → a.resumed ≡ true → x ≡ true → (a.resumed && x) ≡ true
  live_part a x i e = ap (λ b. b && x) i ∙ e

  dead_part : (a : Liveness) (x : Bool) → x ≡ false → (a.resumed && x) ≡ false
  dead_part a x e = ap (λ b. a.resumed && b) e ∙ and-false a.resumed

  -- the two parts of a statement, in which nothing is entered
  two_emitted : (w : Wire) (s : ℕ) (c : Bool) (p q : Term) (B : Scope) (g j : Layer → Formula) (n : ℕ) (a : Liveness) →
      Agrees L (part_liveness a p) p (n + 1) → Agrees L (part_liveness a q) q (n + 1 + statement_count p) → a.resumed ≡ true → LowRoots a.roots n →
      (has_code (resumed_codes p) ≡ true → resumed_any (emission (λ u. f (U u)) w) B g p (n + 1) ≡ (c && f (resumed_emits U p (n + 1) s))) →
      (has_code (resumed_codes q) ≡ true →
      resumed_any (emission (λ u. f (U u)) w) B j q (n + 1 + statement_count p) ≡ (c && f (resumed_emits U q (n + 1 + statement_count p) s))) →
      ((has_code (resumed_codes p) && resumed_any (emission (λ u. f (U u)) w) B g p (n + 1))
      || (has_code (resumed_codes q) && resumed_any (emission (λ u. f (U u)) w) B j q (n + 1 + statement_count p)))
      ≡ (c && f (disjunction (resumed_emits U p (n + 1) s) (resumed_emits U q (n + 1 + statement_count p) s)))
  two_emitted w s c p q B g j n a ap1 aq i low u v =
      let m = n + 1 + statement_count p in
      or-equal
      (guarded (has_code (resumed_codes p)) _ (c && f (resumed_emits U p (n + 1) s)) u
      (λ z. dead c (deep_emits U p (n + 1) s
      (deep_quiet L U o (part_liveness a p) p (n + 1) ap1 (dead_part a _ z) (low_more a.roots n (n + 1) (omega arith) low)))))
      (guarded (has_code (resumed_codes q)) _ (c && f (resumed_emits U q m s)) v
      (λ z. dead c (deep_emits U q m s (deep_quiet L U o (part_liveness a q) q m aq (dead_part a _ z) (low_more a.roots n m (omega arith) low)))))
      ∙ two c (resumed_emits U p (n + 1) s) (resumed_emits U q m s)

  only_emitted : (w : Wire) (s : ℕ) (c : Bool) (p : Term) (B : Scope) (g : Layer → Formula) (n : ℕ) (a : Liveness) → Agrees L (part_liveness a p) p (n + 1) →
      LowRoots a.roots n →
      (has_code (resumed_codes p) ≡ true → resumed_any (emission (λ u. f (U u)) w) B g p (n + 1) ≡ (c && f (resumed_emits U p (n + 1) s))) →
      (has_code (resumed_codes p) && resumed_any (emission (λ u. f (U u)) w) B g p (n + 1)) ≡ (c && f (resumed_emits U p (n + 1) s))
  only_emitted w s c p B g n a ap1 low u =
      guarded (has_code (resumed_codes p)) _ (c && f (resumed_emits U p (n + 1) s)) u
      (λ z. dead c (deep_emits U p (n + 1) s
      (deep_quiet L U o (part_liveness a p) p (n + 1) ap1 (dead_part a _ z) (low_more a.roots n (n + 1) (omega arith) low))))

  pub resumed_emitted : (w : Wire) (s : ℕ) (c : Bool) (t : Term) (B : Scope) (g : Layer → Formula) (n : ℕ) (a : Liveness) → Agrees L a t n → a.resumed ≡ true →
      LowRoots a.roots n → has_code (resumed_codes t) ≡ true → HasExitCodes t → Fresh w n → Above B n → Shows B Resumed w s c →
      resumed_any (emission (λ u. f (U u)) w) B g t n ≡ (c && f (resumed_emits U t n s))
  resumed_emitted w s c (Emit y) B g n a ag i low on k h ab e = absurd (false≢true on)
  resumed_emitted w s c (Present y p q) B g n a ag i low on k h ab e =
      let m = n + 1 + statement_count p in
      let t = Present y p q in
      let b = part_liveness a p in
      let d = part_liveness a q in
      let agp = first_agrees L a b d t p q n refl (λ j. refl) ag in
      let agq = second_agrees L a b d t p q n refl (λ j. refl) ag in
      two_emitted w s c p q B _ _ n a agp agq i low
      (λ z. resumed_emitted w s c p B _ (n + 1) b agp (live_part a _ i z) (low_more a.roots n (n + 1) (omega arith) low) z k.0
      (fresh_more n (n + 1) (omega arith) h) (above_more B n (n + 1) (omega arith) ab) e)
      (λ z. resumed_emitted w s c q B _ m d agq (live_part a _ i z) (low_more a.roots n m (omega arith) low) z k.1
      (fresh_more n m (omega arith) h) (above_more B n m (omega arith) ab) e)
  resumed_emitted w s c (Suspend y p) B g n a ag i low on k h ab e =
      let b = part_liveness a p in
      let agp = only_agrees L a b (Suspend y p) p n refl (λ j. refl) ag in
      only_emitted w s c p B _ n a agp low
      (λ z. resumed_emitted w s c p B _ (n + 1) b agp (live_part a _ i z) (low_more a.roots n (n + 1) (omega arith) low) z k
      (fresh_more n (n + 1) (omega arith) h) (above_more B n (n + 1) (omega arith) ab) e)
  resumed_emitted w s c (Seq p q) B g n a ag i low on k h ab e =
      let m = n + 1 + statement_count p in
      let t = Seq p q in
      let b = part_liveness a p in
      let d = second_liveness a p q m in
      let agp = first_agrees L a b d t p q n refl (λ j. refl) ag in
      let agq = second_agrees L a b d t p q n refl (λ j. refl) ag in
      let lowq = low_second a p q n m (omega arith) low in
      let am = above_more B n m (omega arith) ab in
      or-equal
      (only_emitted w s c p B _ n a agp low
      (λ z. resumed_emitted w s c p B _ (n + 1) b agp (live_part a _ i z) (low_more a.roots n (n + 1) (omega arith) low) z k.0
      (fresh_more n (n + 1) (omega arith) h) (above_more B n (n + 1) (omega arith) ab) e))
      (or-equal
      (guarded (can_pass p && has_code (resumed_codes q)) _ (c && f (resumed_emits U q m s))
      (λ z. resumed_emitted w s c q B _ m d agq (live_part a _ i z) lowq (and_parts (can_pass p) _ z).1 k.1 (fresh_more n m (omega arith) h) am e)
      (λ z. dead c (deep_emits U q m s (deep_quiet L U o d q m agq (dead_part a _ z) lowq))))
      (guarded (resumed_codes p 0) _ (c && f (emits U q m (Started m) s))
      (λ z. started_emitted w s c q B _ m m d agq (omega arith) k.1 (fresh_more n m (omega arith) h) (shows_root B m s w c am e))
      (λ z. dead c (quiet_emits U q m (Started m) s
      (start_quiet L U o m d q m agq (own_root_off n m a p q (low m (omega arith)) (dead_part a _ z)) (λ y. omega arith))))))
      ∙ three c (resumed_emits U p (n + 1) s) (resumed_emits U q m s) (emits U q m (Started m) s)
  resumed_emitted w s c (Loop at p) B g n a ag i low on k h ab e =
      let b = loop_liveness a p (n + 1) in
      let agp = only_agrees L a b (Loop at p) p n refl (λ j. refl) ag in
      let lowp = low_loop a p n low in
      let am = above_more B n (n + 1) (omega arith) ab in
      or-equal
      (guarded (has_code (resumed_codes p)) _ (c && f (resumed_emits U p (n + 1) s))
      (λ z. resumed_emitted w s c p B _ (n + 1) b agp (live_part a _ i z) lowp z k (fresh_more n (n + 1) (omega arith) h) am e)
      (λ z. dead c (deep_emits U p (n + 1) s (deep_quiet L U o b p (n + 1) agp (dead_part a _ z) lowp))))
      (guarded (resumed_codes p 0) _ (c && f (emits U p (n + 1) (Started (n + 1)) s))
      (λ z. started_emitted w s c p B _ (n + 1) (n + 1) b agp (omega arith) k (fresh_more n (n + 1) (omega arith) h) (shows_root B (n + 1) s w c am e))
      (λ z. dead c (quiet_emits U p (n + 1) (Started (n + 1)) s
      (start_quiet L U o (n + 1) b p (n + 1) agp (own_loop_off n a p (low (n + 1) (omega arith)) (dead_part a _ z)) (λ y. omega arith)))))
      ∙ two c (resumed_emits U p (n + 1) s) (emits U p (n + 1) (Started (n + 1)) s)
  resumed_emitted w s c (Par p q) B g n a ag i low on k h ab e =
      let m = n + 1 + statement_count p in
      let t = Par p q in
      let b = part_liveness a p in
      let d = part_liveness a q in
      let agp = first_agrees L a b d t p q n refl (λ j. refl) ag in
      let agq = second_agrees L a b d t p q n refl (λ j. refl) ag in
      two_emitted w s c p q B _ _ n a agp agq i low
      (λ z. resumed_emitted w s c p B _ (n + 1) b agp (live_part a _ i z) (low_more a.roots n (n + 1) (omega arith) low) z k.0
      (fresh_more n (n + 1) (omega arith) h) (above_more B n (n + 1) (omega arith) ab) e)
      (λ z. resumed_emitted w s c q B _ m d agq (live_part a _ i z) (low_more a.roots n m (omega arith) low) z k.1
      (fresh_more n m (omega arith) h) (above_more B n m (omega arith) ab) e)
  resumed_emitted w s c (Trap p) B g n a ag i low on k h ab e =
      let b = part_liveness a p in
      let agp = only_agrees L a b (Trap p) p n refl (λ j. refl) ag in
      only_emitted w s c p B _ n a agp low
      (λ z. resumed_emitted w s c p B _ (n + 1) b agp (live_part a _ i z) (low_more a.roots n (n + 1) (omega arith) low) z k
      (fresh_more n (n + 1) (omega arith) h) (above_more B n (n + 1) (omega arith) ab) e)
  resumed_emitted w s c (Local y p) B g n a ag i low on k h ab e =
      let b = part_liveness a p in
      let agp = only_agrees L a b (Local y p) p n refl (λ j. refl) ag in
      only_emitted w s (c && not (y == s)) p (bind B y n) _ n a agp low
      (λ z. resumed_emitted w s (c && not (y == s)) p (bind B y n) _ (n + 1) b agp (live_part a _ i z) (low_more a.roots n (n + 1) (omega arith) low) z k
      (fresh_more n (n + 1) (omega arith) h) (above_bind B n y ab) (shows_bind B n y s Resumed w c h e))
      ∙ hide c y s (resumed_emits U p (n + 1) s)
  resumed_emitted w s c (Awake y p) B g n a ag i low on k h ab e = absurd k
  resumed_emitted w s c _ B g n a ag i low on k h ab e = none c
