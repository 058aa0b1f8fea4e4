-- The emissions on a status wire that a place sees are those of its walk.
use Rattle.std.proofs.Common.{◌≡◌, ℕ, ◌+◌, ◌<◌, ◌≤◌, Bool, true, false, not, ◌&&◌, ◌||◌, ◌==◌, cond, Some, refl, sym, ap, ◌∙◌, subst, arith}
use Rattle.std.proofs.lemmas.Bool.{and_from, and_parts, eqb-true, eqb-false, ne_eqb, false≢true}
use Rattle.base_facts.proofs.Tests.{and-moved, eqb-turned, or-equal, or-false, and-false}
use Rattle.est_kernel.specs.Terms.{Term, Nothing, Pause, Emit, Exit, Present, Suspend, Seq, Loop, Par, Trap, Local, Awake}
use Rattle.est_kernel.specs.Preorder.{statement_count}
use Rattle.est_kernel.specs.StaticCodes.{has_code, started_codes, resumed_codes, instant_loops, NoInstantLoop}
use Rattle.grc_graph.specs.Layers.{Layer, Resumed, Started, layer_above, can_pass}
use Rattle.grc_graph.specs.Scopes.{Binding, BoundAt, Scope, bind}
use Rattle.grc_graph.specs.Wires.{Wire, Go, StatusOf, same_wire, status_wire}
use Rattle.grc_graph.specs.Formulas.{Formula}
use Rattle.grc_graph.specs.Equations.{is_wire}
use Rattle.grc_graph.specs.Residuals.{holds}
use Rattle.grc_graph.specs.Walk.{Walk, Values, with_value, truth, ended, then_walk, started_walk, resumed_walk, selected_in}
use Rattle.grc_graph.specs.Selected.{HasExitCodes, IsSelected}
use Rattle.grc_graph.specs.Readings.{Valuation}
use Rattle.grc_graph.specs.Coherence.{statuses, StartedWalked, ResumedWalked}
use Rattle.grc_graph.proofs.Exports.{above_behind}
use Rattle.grc_solutions_laws.proofs.Residues.{no_loops-left, no_loops-right, loop_body, resumed_live}
use Rattle.grc_solutions.proofs.Exports.{Above, above_more, above_bind}
use Rattle.grc_solutions_laws.proofs.Emissions.{emission}
use Rattle.grc_solutions_laws.proofs.Bridge.{started_any, resumed_any}
use Rattle.grc_solutions_laws.proofs.WalkCodes.{started_code, resumed_code}

-- the wire is no status wire of a Local from n on
pub record Fresh (w : Wire) (n : ℕ) : Type 0 where
  pub other : (m : ℕ) (l : Layer) → n ≤ m → same_wire (StatusOf m l) w ≡ false

pub fresh_more : {w : Wire} (n m : ℕ) → n ≤ m → Fresh w n → Fresh w m
fresh_more n m l f = record { other = λ i j k. f.other i j (omega arith) }

-- where c holds, the wire is that of the signal s alone, as seen in this layer; else of none
pub record Shows (B : Scope) (l : Layer) (w : Wire) (s : ℕ) (c : Bool) : Type 0 where
  pub each : (t : ℕ) → is_wire (status_wire (B t) t l) w ≡ (c && t == s)

bind_shows : (d : Bool) (n x s t : ℕ) (b : Binding) (l : Layer) (w : Wire) (c : Bool) → (t == x) ≡ d → same_wire (StatusOf n (layer_above n l)) w ≡ false →
    is_wire (status_wire b t l) w ≡ (c && t == s) → is_wire (status_wire (cond d (BoundAt n) b) t l) w ≡ ((c && not (x == s)) && t == s)
bind_shows true n x s t b l w c d f e =
    f ∙ sym (gone c (x == s) (t == s) (ap (λ i. i == s) (sym (eqb-true t x d))))
  where
    gone : (c a b : Bool) → a ≡ b → ((c && not a) && b) ≡ false
    gone true true b e = refl
    gone true false b e = sym e
    gone false a b e = refl
bind_shows false n x s t b l w c d f e =
    e ∙ same c (x == s) (t == s) (λ h. ne_eqb x s (λ z. eqb-false t x d (eqb-true t s h ∙ sym z)))
  where
    same : (c a b : Bool) → (b ≡ true → a ≡ false) → (c && b) ≡ ((c && not a) && b)
    same true true true h = h refl
    same true true false h = refl
    same true false b h = refl
    same false a b h = refl

pub shows_bind : (B : Scope) (n x s : ℕ) (l : Layer) (w : Wire) (c : Bool) → Fresh w n → Shows B l w s c → Shows (bind B x n) l w s (c && not (x == s))
shows_bind B n x s l w c f h =
    record { each = λ t. bind_shows (t == x) n x s t (B t) l w c refl (f.other n (layer_above n l) (omega arith)) (h.each t) }

root_wire : (b : Binding) (s m : ℕ) → ((c : ℕ) → b ≡ BoundAt c → c < m) → status_wire b s (Started m) ≡ status_wire b s Resumed
root_wire (BoundAt b) s m h = ap (λ l. Some (StatusOf b l)) (above_behind b m (h b refl))
root_wire _ s m h = refl

pub shows_root : (B : Scope) (m s : ℕ) (w : Wire) (c : Bool) → Above B m → Shows B Resumed w s c → Shows B (Started m) w s c
shows_root B m s w c a h =
    record { each = λ t. ap (λ o. is_wire o w) (root_wire (B t) t m (a.each t)) ∙ h.each t }

choice_bits : (c b d x y : Bool) → ((c && ((b && d) && x)) || (c && ((b && not d) && y))) ≡ (c && (b && cond d x y))
choice_bits true true true x y = or-false x
choice_bits true true false x y = refl
choice_bits true false true x y = refl
choice_bits true false false x y = refl
choice_bits false b d x y = refl

cond_signals : (d : Bool) (x y : Walk) (s : ℕ) → cond d (x.signals s) (y.signals s) ≡ (cond d x y).signals s
cond_signals true x y s = refl
cond_signals false x y s = refl

then_signals : (x y : Walk) (s : ℕ) → cond (x.code == 0) (x.signals s || y.signals s) (x.signals s) ≡ (then_walk x y).signals s
then_signals x y s = go (x.code == 0)
  where
    go : (d : Bool) → cond d (x.signals s || y.signals s) (x.signals s) ≡
        (cond d (record { signals = λ t. x.signals t || y.signals t; code = y.code; kept = y.kept }) x).signals s
    go true = refl
    go false = refl

turn_bits : (c b z x y : Bool) → ((c && (b && x)) || (c && ((b && z) && y))) ≡ (c && (b && cond z (x || y) x))
turn_bits true true true x y = refl
turn_bits true true false x y = or-false x
turn_bits true false z x y = refl
turn_bits false b z x y = refl

both_bits : (c b x y : Bool) → ((c && (b && x)) || (c && (b && y))) ≡ (c && (b && (x || y)))
both_bits true true x y = refl
both_bits true false x y = refl
both_bits false b x y = refl

hide_bits : (c a b x : Bool) → ((c && not a) && (b && x)) ≡ (c && (b && (x && not a)))
hide_bits true true true true = refl
hide_bits true true true false = refl
hide_bits true true false x = refl
hide_bits true false true true = refl
hide_bits true false true false = refl
hide_bits true false false x = refl
hide_bits false a b x = refl

-- a part that is not live is not reached
pub guard_bits : (g c b x P : Bool) → (g ≡ true → P ≡ (c && (b && x))) → (b ≡ true → g ≡ true) → (g && P) ≡ (c && (b && x))
guard_bits true c b x P f h = f refl
guard_bits false c true x P f h = absurd (false≢true (h refl))
guard_bits false true false x P f h = refl
guard_bits false false false x P f h = refl

module _ (V : Valuation) where
  -- a statement none of whose signals has the wire
  pub started_silent : (w : Wire) (s : ℕ) (t : Term) (B : Scope) (f : Layer → Formula) (n : ℕ) (l : Layer) → HasExitCodes t → Fresh w n → Shows B l w s false →
      started_any (emission V w) B f t n l ≡ false
  started_silent w s (Emit x) B f n l k r h = ap (λ b. b && V (Go n l)) (h.each x)
  started_silent w s (Present e p q) B f n l k r h =
      or-equal (started_silent w s p B _ (n + 1) l k.0 (fresh_more n (n + 1) (omega arith) r) h)
      (started_silent w s q B _ (n + 1 + statement_count p) l k.1 (fresh_more n (n + 1 + statement_count p) (omega arith) r) h)
  started_silent w s (Suspend e p) B f n l k r h = started_silent w s p B _ (n + 1) l k (fresh_more n (n + 1) (omega arith) r) h
  started_silent w s (Seq p q) B f n l k r h =
      or-equal (started_silent w s p B _ (n + 1) l k.0 (fresh_more n (n + 1) (omega arith) r) h)
      (ap (λ b. started_codes p 0 && b) (started_silent w s q B _ (n + 1 + statement_count p) l k.1
      (fresh_more n (n + 1 + statement_count p) (omega arith) r) h)
      ∙ and-false (started_codes p 0))
  started_silent w s (Loop at p) B f n l k r h = started_silent w s p B _ (n + 1) l k (fresh_more n (n + 1) (omega arith) r) h
  started_silent w s (Par p q) B f n l k r h =
      or-equal (started_silent w s p B _ (n + 1) l k.0 (fresh_more n (n + 1) (omega arith) r) h)
      (started_silent w s q B _ (n + 1 + statement_count p) l k.1 (fresh_more n (n + 1 + statement_count p) (omega arith) r) h)
  started_silent w s (Trap p) B f n l k r h = started_silent w s p B _ (n + 1) l k (fresh_more n (n + 1) (omega arith) r) h
  started_silent w s (Local x p) B f n l k r h =
      started_silent w s p (bind B x n) _ (n + 1) l k (fresh_more n (n + 1) (omega arith) r) (shows_bind B n x s l w false r h)
  started_silent w s (Awake e p) B f n l k r h = absurd k
  started_silent w s _ B f n l k r h = refl

  and_none : (a : Bool) {b : Bool} → b ≡ false → (a && b) ≡ false
  and_none true e = e
  and_none false e = refl

  pub resumed_silent : (w : Wire) (s : ℕ) (t : Term) (B : Scope) (f : Layer → Formula) (n : ℕ) → HasExitCodes t → Fresh w n → Above B n →
      Shows B Resumed w s false → resumed_any (emission V w) B f t n ≡ false
  resumed_silent w s (Emit x) B f n k r a h = ap (λ b. b && V (Go n Resumed)) (h.each x)
  resumed_silent w s (Present e p q) B f n k r a h =
      let m = n + 1 + statement_count p in
      or-equal (and_none (has_code (resumed_codes p)) (resumed_silent w s p B _ (n + 1) k.0 (fresh_more n (n + 1) (omega arith) r)
      (above_more B n (n + 1) (omega arith) a) h))
      (and_none (has_code (resumed_codes q)) (resumed_silent w s q B _ m k.1 (fresh_more n m (omega arith) r) (above_more B n m (omega arith) a) h))
  resumed_silent w s (Suspend e p) B f n k r a h =
      and_none (has_code (resumed_codes p)) (resumed_silent w s p B _ (n + 1) k (fresh_more n (n + 1) (omega arith) r)
      (above_more B n (n + 1) (omega arith) a) h)
  resumed_silent w s (Seq p q) B f n k r a h =
      let m = n + 1 + statement_count p in
      let am = above_more B n m (omega arith) a in
      or-equal (and_none (has_code (resumed_codes p)) (resumed_silent w s p B _ (n + 1) k.0 (fresh_more n (n + 1) (omega arith) r)
      (above_more B n (n + 1) (omega arith) a) h))
      (or-equal (and_none (can_pass p && has_code (resumed_codes q)) (resumed_silent w s q B _ m k.1 (fresh_more n m (omega arith) r) am h))
      (and_none (resumed_codes p 0) (started_silent w s q B _ m (Started m) k.1 (fresh_more n m (omega arith) r) (shows_root B m s w false am h))))
  resumed_silent w s (Loop at p) B f n k r a h =
      let am = above_more B n (n + 1) (omega arith) a in
      or-equal (and_none (has_code (resumed_codes p)) (resumed_silent w s p B _ (n + 1) k (fresh_more n (n + 1) (omega arith) r) am h))
      (and_none (resumed_codes p 0) (started_silent w s p B _ (n + 1) (Started (n + 1)) k (fresh_more n (n + 1) (omega arith) r)
      (shows_root B (n + 1) s w false am h)))
  resumed_silent w s (Par p q) B f n k r a h =
      let m = n + 1 + statement_count p in
      or-equal (and_none (has_code (resumed_codes p)) (resumed_silent w s p B _ (n + 1) k.0 (fresh_more n (n + 1) (omega arith) r)
      (above_more B n (n + 1) (omega arith) a) h))
      (and_none (has_code (resumed_codes q)) (resumed_silent w s q B _ m k.1 (fresh_more n m (omega arith) r) (above_more B n m (omega arith) a) h))
  resumed_silent w s (Trap p) B f n k r a h =
      and_none (has_code (resumed_codes p)) (resumed_silent w s p B _ (n + 1) k (fresh_more n (n + 1) (omega arith) r)
      (above_more B n (n + 1) (omega arith) a) h)
  resumed_silent w s (Local x p) B f n k r a h =
      and_none (has_code (resumed_codes p))
      (resumed_silent w s p (bind B x n) _ (n + 1) k (fresh_more n (n + 1) (omega arith) r) (above_bind B n x a) (shows_bind B n x s Resumed w false r h))
  resumed_silent w s (Awake e p) B f n k r a h = absurd k
  resumed_silent w s _ B f n k r a h = refl

  pub started_emits : (w : Wire) (s : ℕ) (c : Bool) (t : Term) (B : Scope) (f : Layer → Formula) (n : ℕ) (l : Layer) (v : Values) (b : Bool) → NoInstantLoop t →
      HasExitCodes t → StartedWalked V t n l v b → Fresh w n → Shows B l w s c →
      started_any (emission V w) B f t n l ≡ (c && (b && (started_walk (statuses V) t n l v).signals s))
  started_emits w s c Nothing B f n l v b nl k h r e = sym (none c b)
    where
      none : (c b : Bool) → (c && (b && false)) ≡ false
      none true true = refl
      none true false = refl
      none false b = refl
  started_emits w s c Pause B f n l v b nl k h r e = sym (none c b)
    where
      none : (c b : Bool) → (c && (b && false)) ≡ false
      none true true = refl
      none true false = refl
      none false b = refl
  started_emits w s c (Emit x) B f n l v b nl k h r e =
      ap (λ i. i && V (Go n l)) (e.each x) ∙ ap (λ i. (c && x == s) && i) h.go ∙ and-moved c (x == s) b
      ∙ ap (λ i. c && (b && i)) (eqb-turned x s)
  started_emits w s c (Exit j) B f n l v b nl k h r e = sym (none c b)
    where
      none : (c b : Bool) → (c && (b && false)) ≡ false
      none true true = refl
      none true false = refl
      none false b = refl
  started_emits w s c (Present x p q) B f n l v b nl k h r e =
      let m = n + 1 + statement_count p in
      or-equal
      (started_emits w s c p B _ (n + 1) l v _ (no_loops-left (instant_loops p) (instant_loops q) nl) k.0 h.1 (fresh_more n (n + 1) (omega arith) r) e)
      (started_emits w s c q B _ m l v _ (no_loops-right (instant_loops p) (instant_loops q) nl) k.1 h.2 (fresh_more n m (omega arith) r) e)
      ∙ choice_bits c b (truth x v) _ _ ∙ ap (λ i. c && (b && i)) (cond_signals (truth x v) _ _ s)
  started_emits w s c (Suspend x p) B f n l v b nl k h r e =
      started_emits w s c p B _ (n + 1) l v b nl k h.1 (fresh_more n (n + 1) (omega arith) r) e
  started_emits w s c (Seq p q) B f n l v b nl k h r e =
      let m = n + 1 + statement_count p in
      let np = no_loops-left (instant_loops p) (instant_loops q) nl in
      let nq = no_loops-right (instant_loops p) (instant_loops q) nl in
      let wp = started_walk (statuses V) p (n + 1) l v in
      let wq = started_walk (statuses V) q m l v in
      or-equal
      (started_emits w s c p B _ (n + 1) l v b np k.0 h.1 (fresh_more n (n + 1) (omega arith) r) e)
      (guard_bits (started_codes p 0) c (b && wp.code == 0) (wq.signals s) _
      (λ z. started_emits w s c q B _ m l v _ nq k.1 (h.2 z) (fresh_more n m (omega arith) r) e)
      (λ z. subst (λ j. started_codes p j ≡ true) (eqb-true wp.code 0 (and_parts b _ z).1) (started_code (statuses V) p (n + 1) l v np k.0)))
      ∙ turn_bits c b (wp.code == 0) (wp.signals s) (wq.signals s) ∙ ap (λ i. c && (b && i)) (then_signals wp wq s)
  started_emits w s c (Loop at p) B f n l v b nl k h r e =
      started_emits w s c p B _ (n + 1) l v b (loop_body at p nl).1 k h.1 (fresh_more n (n + 1) (omega arith) r) e
  started_emits w s c (Par p q) B f n l v b nl k h r e =
      let m = n + 1 + statement_count p in
      or-equal
      (started_emits w s c p B _ (n + 1) l v b (no_loops-left (instant_loops p) (instant_loops q) nl) k.0 h.1 (fresh_more n (n + 1) (omega arith) r) e)
      (started_emits w s c q B _ m l v b (no_loops-right (instant_loops p) (instant_loops q) nl) k.1 h.2 (fresh_more n m (omega arith) r) e)
      ∙ both_bits c b _ _
  started_emits w s c (Trap p) B f n l v b nl k h r e =
      started_emits w s c p B _ (n + 1) l v b nl k h.1 (fresh_more n (n + 1) (omega arith) r) e
  started_emits w s c (Local x p) B f n l v b nl k h r e =
      started_emits w s (c && not (x == s)) p (bind B x n) _ (n + 1) l _ b nl k h.2 (fresh_more n (n + 1) (omega arith) r) (shows_bind B n x s l w c r e)
      ∙ hide_bits c (x == s) b _
      ∙ ap (λ i. c && (b && ((started_walk (statuses V) p (n + 1) l (with_value v x (V (StatusOf n l)))).signals s && not i))) (eqb-turned x s)
  started_emits w s c (Awake x p) B f n l v b nl k h r e = absurd k

-- where a resumed place is reached, its statement holds a selected pause, well formed
pub record Reach (S : ℕ → Bool) (t : Term) (n : ℕ) (b : Bool) : Type 0 where
  pub held : b ≡ true → holds S t n ≡ true
  pub selected : b ≡ true → IsSelected S t n

held_bits : (c b h k x y : Bool) → (b ≡ true → (h && k) ≡ false) → (b ≡ true → (h || k) ≡ true) →
    ((c && ((b && h) && x)) || (c && ((b && k) && y))) ≡ (c && (b && cond h x y))
held_bits true true true true x y f g = absurd (false≢true (sym (f refl)))
held_bits true true true false x y f g = or-false x
held_bits true true false true x y f g = refl
held_bits true true false false x y f g = absurd (false≢true (g refl))
held_bits true false h k x y f g = refl
held_bits false b h k x y f g = refl

awake_bits : (c b d x : Bool) → (c && ((b && not d) && x)) ≡ (c && (b && cond d false x))
awake_bits true true true x = refl
awake_bits true true false x = refl
awake_bits true false d x = refl
awake_bits false b d x = refl

seq_bits : (c b h k z x y u : Bool) → (b ≡ true → (h && k) ≡ false) → (b ≡ true → (h || k) ≡ true) →
    ((c && ((b && h) && x)) || ((c && ((b && k) && y)) || (c && (((b && h) && z) && u)))) ≡ (c && (b && cond h (cond z (x || u) x) y))
seq_bits true true true true z x y u f g = absurd (false≢true (sym (f refl)))
seq_bits true true true false true x y u f g = refl
seq_bits true true true false false x y u f g = or-false x
seq_bits true true false true z x y u f g = or-false y
seq_bits true true false false z x y u f g = absurd (false≢true (g refl))
seq_bits true false h k z x y u f g = refl
seq_bits false b h k z x y u f g = refl

loop_bits : (c b z x u : Bool) → ((c && (b && x)) || (c && ((b && z) && u))) ≡ (c && (b && cond z (x || u) x))
loop_bits c b z x u = turn_bits c b z x u

branch_bits : (c b h k x y : Bool) → ((c && ((b && h) && x)) || (c && ((b && k) && y))) ≡ (c && (b && (cond h x false || cond k y false)))
branch_bits true true true true x y = refl
branch_bits true true true false x y = refl
branch_bits true true false true x y = refl
branch_bits true true false false x y = refl
branch_bits true false h k x y = refl
branch_bits false b h k x y = refl

none_bits : (c b : Bool) → (c && (b && false)) ≡ false
none_bits true true = refl
none_bits true false = refl
none_bits false b = refl

branch_signals : (h : Bool) (x : Walk) (s : ℕ) → cond h (x.signals s) false ≡ (cond h x (ended 0)).signals s
branch_signals true x s = refl
branch_signals false x s = refl

awake_signals : (d : Bool) (x : Walk) (K : ℕ → Bool) (s : ℕ) → cond d false (x.signals s) ≡
    (cond d (record { signals = λ t. false; code = 1; kept = K }) x).signals s
awake_signals true x K s = refl
awake_signals false x K s = refl

held_turn : (h z : Bool) (x u y : Walk) (s : ℕ) → (x.code == 0) ≡ z →
    cond h (cond z (x.signals s || u.signals s) (x.signals s)) (y.signals s) ≡ (cond h (then_walk x u) y).signals s
held_turn true z x u y s e = ap (λ d. cond d (x.signals s || u.signals s) (x.signals s)) (sym e) ∙ then_signals x u s
held_turn false z x u y s e = refl

-- the facts of a part that a reached statement holds
pub reach_part : {S : ℕ → Bool} {t p : Term} {n m : ℕ} (b : Bool) → Reach S t n b → (IsSelected S t n → holds S p m ≡ true → IsSelected S p m) →
    Reach S p m (b && holds S p m)
reach_part {S} {t} {p} {n} {m} b r f =
    record {
      held = λ e. (and_parts b (holds S p m) e).1;
      selected = λ e. let i = and_parts b (holds S p m) e in f (r.selected i.0) i.1;
    }

module _ (V : Valuation) (S : ℕ → Bool) where
  live_of : (p : Term) (m : ℕ) (b : Bool) → NoInstantLoop p → HasExitCodes p → Reach S p m b → b ≡ true → has_code (resumed_codes p) ≡ true
  live_of p m b nl k r e = resumed_live S p m nl k (r.held e) (r.selected e)

  pub resumed_emits : (w : Wire) (s : ℕ) (c : Bool) (t : Term) (B : Scope) (f : Layer → Formula) (n : ℕ) (v : Values) (b : Bool) → NoInstantLoop t →
      HasExitCodes t → Reach S t n b → ResumedWalked V S t n v b → Fresh w n → Above B n → Shows B Resumed w s c →
      resumed_any (emission V w) B f t n ≡ (c && (b && (resumed_walk (statuses V) S t n v).signals s))
  resumed_emits w s c (Emit x) B f n v b nl k q h r a e =
      ap (λ i. i && V (Go n Resumed)) (e.each x) ∙ ap (λ i. (c && x == s) && i) h.go ∙ unreached c (x == s) b (λ i. q.held i) ∙ sym (none_bits c b)
    where
      unreached : (c a b : Bool) → (b ≡ true → false ≡ true) → ((c && a) && b) ≡ false
      unreached c a true f = absurd (false≢true (f refl))
      unreached true true false f = refl
      unreached true false false f = refl
      unreached false a false f = refl
  resumed_emits w s c (Present x p p2) B f n v b nl k q h r a e =
      let m = n + 1 + statement_count p in
      let np = no_loops-left (instant_loops p) (instant_loops p2) nl in
      let nq = no_loops-right (instant_loops p) (instant_loops p2) nl in
      let hp = holds S p (n + 1) in
      let hq = holds S p2 m in
      let one = reach_part {p = p} {m = n + 1} b q (λ i j. i.1 j) in
      let two = reach_part {p = p2} {m = m} b q (λ i j. i.2 j) in
      let wp = resumed_walk (statuses V) S p (n + 1) v in
      let wq = resumed_walk (statuses V) S p2 m v in
      or-equal
      (guard_bits (has_code (resumed_codes p)) c (b && hp) (wp.signals s) _
      (λ z. resumed_emits w s c p B _ (n + 1) v _ np k.0 one (h.1 z) (fresh_more n (n + 1) (omega arith) r) (above_more B n (n + 1) (omega arith) a) e)
      (live_of p (n + 1) (b && hp) np k.0 one))
      (guard_bits (has_code (resumed_codes p2)) c (b && hq) (wq.signals s) _
      (λ z. resumed_emits w s c p2 B _ m v _ nq k.1 two (h.2 z) (fresh_more n m (omega arith) r) (above_more B n m (omega arith) a) e)
      (live_of p2 m (b && hq) nq k.1 two))
      ∙ held_bits c b hp hq _ _ (λ i. (q.selected i).0) (λ i. q.held i) ∙ ap (λ i. c && (b && i)) (cond_signals hp wp wq s)
  resumed_emits w s c (Suspend x p) B f n v b nl k q h r a e =
      let wp = resumed_walk (statuses V) S p (n + 1) v in
      let one : Reach S p (n + 1) (b && not (truth x v)) =
      record { held = λ i. q.held (and_parts b _ i).0; selected = λ i. q.selected (and_parts b _ i).0 } in
      guard_bits (has_code (resumed_codes p)) c (b && not (truth x v)) (wp.signals s) _
      (λ z. resumed_emits w s c p B _ (n + 1) v _ nl k one (h.1 z) (fresh_more n (n + 1) (omega arith) r) (above_more B n (n + 1) (omega arith) a) e)
      (live_of p (n + 1) (b && not (truth x v)) nl k one)
      ∙ awake_bits c b (truth x v) _ ∙ ap (λ i. c && (b && i)) (awake_signals (truth x v) wp (selected_in S p (n + 1)) s)
  resumed_emits w s c (Seq p p2) B f n v b nl k q h r a e =
      let m = n + 1 + statement_count p in
      let np = no_loops-left (instant_loops p) (instant_loops p2) nl in
      let nq = no_loops-right (instant_loops p) (instant_loops p2) nl in
      let hp = holds S p (n + 1) in
      let hq = holds S p2 m in
      let one = reach_part {p = p} {m = n + 1} b q (λ i j. i.1 j) in
      let two = reach_part {p = p2} {m = m} b q (λ i j. (i.2 j).1) in
      let wp = resumed_walk (statuses V) S p (n + 1) v in
      let wq = resumed_walk (statuses V) S p2 m v in
      let wr = started_walk (statuses V) p2 m (Started m) v in
      let am = above_more B n m (omega arith) a in
      or-equal
      (guard_bits (has_code (resumed_codes p)) c (b && hp) (wp.signals s) _
      (λ z. resumed_emits w s c p B _ (n + 1) v _ np k.0 one (h.1 z) (fresh_more n (n + 1) (omega arith) r) (above_more B n (n + 1) (omega arith) a) e)
      (live_of p (n + 1) (b && hp) np k.0 one))
      (or-equal
      (guard_bits (can_pass p && has_code (resumed_codes p2)) c (b && hq) (wq.signals s) _
      (λ z. resumed_emits w s c p2 B _ m v _ nq k.1 two (h.2 z) (fresh_more n m (omega arith) r) am e)
      (λ i.
      let g = and_parts b hq i in
      and_from _ _ ((q.selected g.0).2 g.1).0 (live_of p2 m (b && hq) nq k.1 two i)))
      (guard_bits (resumed_codes p 0) c ((b && hp) && wp.code == 0) (wr.signals s) _
      (λ z. started_emits V w s c p2 B _ m (Started m) v _ nq k.1 (h.3 z) (fresh_more n m (omega arith) r) (shows_root B m s w c am e))
      (λ i.
      let g = and_parts (b && hp) _ i in
      subst (λ j. resumed_codes p j ≡ true) (eqb-true wp.code 0 g.1)
      (resumed_code (statuses V) S p (n + 1) v np k.0 (one.held g.0) (one.selected g.0)))))
      ∙ seq_bits c b hp hq (wp.code == 0) _ _ _ (λ i. (q.selected i).0) (λ i. q.held i)
      ∙ ap (λ i. c && (b && i)) (held_turn hp (wp.code == 0) wp wr wq s refl)
  resumed_emits w s c (Loop at p) B f n v b nl k q h r a e =
      let np = (loop_body at p nl).1 in
      let one : Reach S p (n + 1) b = record { held = q.held; selected = q.selected } in
      let wp = resumed_walk (statuses V) S p (n + 1) v in
      let wr = started_walk (statuses V) p (n + 1) (Started (n + 1)) v in
      let am = above_more B n (n + 1) (omega arith) a in
      or-equal
      (guard_bits (has_code (resumed_codes p)) c b (wp.signals s) _
      (λ z. resumed_emits w s c p B _ (n + 1) v b np k one (h.1 z) (fresh_more n (n + 1) (omega arith) r) am e)
      (live_of p (n + 1) b np k one))
      (guard_bits (resumed_codes p 0) c (b && wp.code == 0) (wr.signals s) _
      (λ z. started_emits V w s c p B _ (n + 1) (Started (n + 1)) v _ np k (h.2 z) (fresh_more n (n + 1) (omega arith) r) (shows_root B (n + 1) s w c am e))
      (λ i.
      let g = and_parts b _ i in
      subst (λ j. resumed_codes p j ≡ true) (eqb-true wp.code 0 g.1)
      (resumed_code (statuses V) S p (n + 1) v np k (one.held g.0) (one.selected g.0))))
      ∙ loop_bits c b (wp.code == 0) _ _ ∙ ap (λ i. c && (b && i)) (then_signals wp wr s)
  resumed_emits w s c (Par p p2) B f n v b nl k q h r a e =
      let m = n + 1 + statement_count p in
      let np = no_loops-left (instant_loops p) (instant_loops p2) nl in
      let nq = no_loops-right (instant_loops p) (instant_loops p2) nl in
      let hp = holds S p (n + 1) in
      let hq = holds S p2 m in
      let one = reach_part {p = p} {m = n + 1} b q (λ i j. i.2 j) in
      let two = reach_part {p = p2} {m = m} b q (λ i j. i.3 j) in
      let wp = resumed_walk (statuses V) S p (n + 1) v in
      let wq = resumed_walk (statuses V) S p2 m v in
      or-equal
      (guard_bits (has_code (resumed_codes p)) c (b && hp) (wp.signals s) _
      (λ z. resumed_emits w s c p B _ (n + 1) v _ np k.0 one (h.1 z) (fresh_more n (n + 1) (omega arith) r) (above_more B n (n + 1) (omega arith) a) e)
      (live_of p (n + 1) (b && hp) np k.0 one))
      (guard_bits (has_code (resumed_codes p2)) c (b && hq) (wq.signals s) _
      (λ z. resumed_emits w s c p2 B _ m v _ nq k.1 two (h.2 z) (fresh_more n m (omega arith) r) (above_more B n m (omega arith) a) e)
      (live_of p2 m (b && hq) nq k.1 two))
      ∙ branch_bits c b hp hq _ _ ∙ ap (λ i. c && (b && i)) (or-equal (branch_signals hp wp s) (branch_signals hq wq s))
  resumed_emits w s c (Trap p) B f n v b nl k q h r a e =
      let one : Reach S p (n + 1) b = record { held = q.held; selected = q.selected } in
      guard_bits (has_code (resumed_codes p)) c b _ _
      (λ z. resumed_emits w s c p B _ (n + 1) v b nl k one (h.1 z) (fresh_more n (n + 1) (omega arith) r) (above_more B n (n + 1) (omega arith) a) e)
      (live_of p (n + 1) b nl k one)
  resumed_emits w s c (Local x p) B f n v b nl k q h r a e =
      let one : Reach S p (n + 1) b = record { held = q.held; selected = q.selected } in
      guard_bits (has_code (resumed_codes p)) (c && not (x == s)) b _ _
      (λ z. resumed_emits w s (c && not (x == s)) p (bind B x n) _ (n + 1) _ b nl k one (h.2 z) (fresh_more n (n + 1) (omega arith) r) (above_bind B n x a)
      (shows_bind B n x s Resumed w c r e))
      (live_of p (n + 1) b nl k one)
      ∙ hide_bits c (x == s) b _
      ∙ ap (λ i. c && (b && ((resumed_walk (statuses V) S p (n + 1) (with_value v x (V (StatusOf n Resumed)))).signals s && not i))) (eqb-turned x s)
  resumed_emits w s c (Awake x p) B f n v b nl k q h r a e = absurd k
  resumed_emits w s c _ B f n v b nl k q h r a e = sym (none_bits c b)
