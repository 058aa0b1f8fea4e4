-- The next formula of a pause is true exactly where the walk keeps the pause.
use Rattle.std.proofs.Common.{◌≡◌, ℕ, ◌+◌, ◌≤◌, Bool, true, false, not, ◌&&◌, ◌||◌, ◌==◌, cond, ltb, max, refl, sym, ap, ◌∙◌, subst, inl, inr, ⊎_elim, arith}
use Rattle.std.proofs.lemmas.Bool.{or_left, or_right, and_parts, eqb-true, eqb-false, eq-eqb, ne_eqb, cond_both, false≢true, cases_Bool, cond-true, cond-false}
use Rattle.std.proofs.lemmas.Bool.{and_from, lt-ltb, le-leb}
use Rattle.base_facts.proofs.Tests.{ltb-not, or-equal, or-left-none, or-other, or-false, and-true, and-false}
use Rattle.std.proofs.Math.Bool.{or_comm, and_assoc}
use Rattle.est_kernel.specs.Terms.{Expression, Tick, Sig, Not, And, Or, Term, Nothing, Pause, Emit, Exit, Present, Suspend, Seq, Loop, Par, Trap, Local, Awake}
use Rattle.est_kernel.specs.Preorder.{statement_count}
use Rattle.est_kernel.specs.Steps.{trap_code}
use Rattle.est_kernel.specs.StaticCodes.{has_code, started_codes, resumed_codes, instant_loops, NoInstantLoop}
use Rattle.grc_graph.specs.Layers.{Resumed, Started, can_pass}
use Rattle.grc_graph.specs.Scopes.{Scope, bind}
use Rattle.grc_graph.specs.Wires.{Go, StatusOf, End}
use Rattle.grc_graph.specs.Residuals.{holds}
use Rattle.grc_graph.specs.Walk.{Walk, Values, truth, with_value, ended, then_walk, started_walk, resumed_walk, selected_in}
use Rattle.grc_graph.specs.Selected.{HasExitCodes, IsSelected}
use Rattle.grc_graph.specs.Readings.{Valuation, seen_values, kept_at, held_at}
use Rattle.grc_graph.specs.Coherence.{statuses, StartedWalked, ResumedWalked}
use Rattle.grc_graph.proofs.Exports.{above_within}
use Rattle.grc_solutions_laws.proofs.Residues.{no_loops-left, no_loops-right, loop_body, resumed_live}
use Rattle.grc_solutions_laws.proofs.Kept.{Keeps, kept_outside, trap_one, started_keeps, resumed_keeps, keeps_branch}
use Rattle.grc_solutions_laws.proofs.WalkCodes.{started_code, resumed_code}
use Rattle.grc_solutions_laws.proofs.Meets.{Sees, sees_more}
use Rattle.grc_solutions_laws.proofs.Ways.{Way, goal, inside, way_held, look_only, look_first, look_second, way_starts, start_keeps, restart_keeps}

-- a walk whose code is not 1 keeps no pause
pub kept_code : {w : Walk} {t : Term} {n : ℕ} → Keeps w t n → (h : Way t) → (w.code == 1) ≡ false → w.kept (goal t n h) ≡ false
kept_code {w} {t} {n} k h e =
    cond_both (w.kept (goal t n h)) true false (λ x. w.kept (goal t n h) ≡ false)
    (λ z. absurd (false≢true (sym (k.held w.kept (record { at = λ m l u. refl }) ∙ e) ∙ way_held w.kept t n h z))) (λ z. z)

not_first : {w : Walk} (p : Term) {q : Term} (n : ℕ) (x : Way p) → Keeps w q (n + 1 + statement_count p) → w.kept (goal p (n + 1) x) ≡ false
not_first {w} p {q} n x k = let i = inside p (n + 1) x in kept_outside k (goal p (n + 1) x) (λ j. omega (arith, i.1, j.0))

not_second : {w : Walk} {p : Term} (q : Term) (n : ℕ) (y : Way q) → Keeps w p (n + 1) → w.kept (goal q (n + 1 + statement_count p) y) ≡ false
not_second {w} {p} q n y k = let i = inside q (n + 1 + statement_count p) y in
    kept_outside k (goal q (n + 1 + statement_count p) y) (λ j. omega (arith, i.0, j.1))

and_same : {a b c d : Bool} → a ≡ c → b ≡ d → (a && b) ≡ (c && d)
and_same {a} {b} {c} {d} e f = ap (λ x. x && b) e ∙ ap (λ x. c && x) f

cond_kept : (d : Bool) (x y : Walk) (m : ℕ) → cond d (x.kept m) (y.kept m) ≡ (cond d x y).kept m
cond_kept true x y m = refl
cond_kept false x y m = refl

then_kept : (x y : Walk) (m : ℕ) → cond (x.code == 0) (y.kept m) (x.kept m) ≡ (then_walk x y).kept m
then_kept x y m = go (x.code == 0)
  where
    go : (d : Bool) → cond d (y.kept m) (x.kept m) ≡ (cond d (record { signals = λ t. x.signals t || y.signals t; code = y.code; kept = y.kept }) x).kept m
    go true = refl
    go false = refl

zero_one : (c : ℕ) → (c == 0) ≡ true → (c == 1) ≡ false
zero_one c e = let z = eqb-true c 0 e in ne_eqb c 1 (λ f. omega arith)

-- Booleans
first_bits : (b d x y : Bool) → y ≡ false → ((b && d) && x) ≡ (b && cond d x y)
first_bits true true x y e = refl
first_bits true false x y e = sym e
first_bits false d x y e = refl

second_bits : (b d x y : Bool) → x ≡ false → ((b && not d) && y) ≡ (b && cond d x y)
second_bits true true x y e = sym e
second_bits true false x y e = refl
second_bits false d x y e = refl

-- the first part of a sequence, whose code is z = 0 or not
turn_first : (b z x y : Bool) → y ≡ false → (z ≡ true → x ≡ false) → (b && x) ≡ (b && cond z y x)
turn_first true true x y e f = f refl ∙ sym e
turn_first true false x y e f = refl
turn_first false z x y e f = refl

turn_second : (b z x y : Bool) → x ≡ false → ((b && z) && y) ≡ (b && cond z y x)
turn_second true true x y e = refl
turn_second true false x y e = sym e
turn_second false z x y e = refl

-- a guard that holds wherever the rest can be true
guarded : (g b x P : Bool) → (g ≡ true → P ≡ (b && x)) → (b ≡ true → g ≡ true) → (g && P) ≡ (b && x)
guarded true b x P f h = f refl
guarded false true x P f h = absurd (false≢true (h refl))
guarded false false x P f h = refl

par_bits : (v b o x y : Bool) → v ≡ (b && o) → y ≡ false → (v && (b && x)) ≡ (b && (o && (x || y)))
par_bits v true true x y e f = ap (λ i. i && x) e ∙ sym (ap (λ i. x || i) f ∙ or-false x)
par_bits v true false x y e f = ap (λ i. i && x) e
par_bits v false o x y e f = ap (λ i. i && false) e

pub one_flip : (c : ℕ) → (1 == c) ≡ (c == 1)
one_flip c =
    ⊎_elim (λ e. e ∙ sym (eq-eqb c 1 (sym (eqb-true 1 c e)))) (λ e. e ∙ sym (ne_eqb c 1 (λ z. eqb-false 1 c e (sym z)))) (cases_Bool (1 == c))

trap_bits : (b o p x : Bool) → o ≡ p → (p ≡ false → x ≡ false) → (b && x) ≡ (b && (o && x))
trap_bits b o true x e f = ap (λ i. b && (i && x)) (sym e)
trap_bits b o false x e f = ap (λ i. b && i) (f refl ∙ sym (ap (λ i. i && x) e))

module _ (V : Valuation) where
  par_keep : (w g v k : Bool) → (w && (g && (v && k))) ≡ (v && (w && (g && k)))
  par_keep true true v k = refl
  par_keep true false true k = refl
  par_keep true false false k = refl
  par_keep false g true k = refl
  par_keep false g false k = refl

  pub started_kept : (t : Term) (n r : ℕ) (v : Values) (b : Bool) (h : Way t) → r ≤ n → NoInstantLoop t → HasExitCodes t → StartedWalked V t n (Started r) v b →
      start_keeps V t n h r ≡ (b && (started_walk (statuses V) t n (Started r) v).kept (goal t n h))
  started_kept Nothing n r v b h l nl k w = absurd h
  started_kept Pause n r v b h l nl k w = ap (λ x. x && true) w.go ∙ ap (λ x. b && x) (sym (eq-eqb n n refl))
  started_kept (Emit s) n r v b h l nl k w = absurd h
  started_kept (Exit c) n r v b h l nl k w = absurd h
  started_kept (Present e p q) n r v b (inl x) l nl k w =
      let m = n + 1 + statement_count p in
      let g = goal p (n + 1) x in
      let i = inside p (n + 1) x in
      let wp = started_walk (statuses V) p (n + 1) (Started r) v in
      let wq = started_walk (statuses V) q m (Started r) v in
      ap (λ z. way_starts p x && (V (Go g (Started r)) && z)) (look_first g n (statement_count p) true (kept_at V p (n + 1) g (Started r)) _ i.0 i.1)
      ∙ started_kept p (n + 1) r v (b && truth e v) x (omega arith) (no_loops-left (instant_loops p) (instant_loops q) nl) k.0 w.1
      ∙ first_bits b (truth e v) (wp.kept g) (wq.kept g) (not_first p n x (started_keeps (statuses V) q m (Started r) v k.1))
      ∙ ap (λ z. b && z) (cond_kept (truth e v) wp wq g)
  started_kept (Present e p q) n r v b (inr y) l nl k w =
      let m = n + 1 + statement_count p in
      let g = goal q m y in
      let i = inside q m y in
      let wp = started_walk (statuses V) p (n + 1) (Started r) v in
      let wq = started_walk (statuses V) q m (Started r) v in
      ap (λ z. way_starts q y && (V (Go g (Started r)) && z)) (look_second g n (statement_count p) true (kept_at V p (n + 1) g (Started r))
      (kept_at V q m g (Started r)) i.0)
      ∙ started_kept q m r v (b && not (truth e v)) y (omega arith) (no_loops-right (instant_loops p) (instant_loops q) nl) k.1 w.2
      ∙ second_bits b (truth e v) (wp.kept g) (wq.kept g) (not_second q n y (started_keeps (statuses V) p (n + 1) (Started r) v k.0))
      ∙ ap (λ z. b && z) (cond_kept (truth e v) wp wq g)
  started_kept (Suspend e p) n r v b h l nl k w =
      let i = inside p (n + 1) h in
      ap (λ z. way_starts p h && (V (Go (goal p (n + 1) h) (Started r)) && z))
      (look_only (goal p (n + 1) h) n true (kept_at V p (n + 1) (goal p (n + 1) h) (Started r)) i.0)
      ∙ started_kept p (n + 1) r v b h (omega arith) nl k w.1
  started_kept (Seq p q) n r v b (inl x) l nl k w =
      let m = n + 1 + statement_count p in
      let g = goal p (n + 1) x in
      let i = inside p (n + 1) x in
      let wp = started_walk (statuses V) p (n + 1) (Started r) v in
      let wq = started_walk (statuses V) q m (Started r) v in
      ap (λ z. way_starts p x && (V (Go g (Started r)) && z)) (look_first g n (statement_count p) true (kept_at V p (n + 1) g (Started r)) _ i.0 i.1)
      ∙ started_kept p (n + 1) r v b x (omega arith) (no_loops-left (instant_loops p) (instant_loops q) nl) k.0 w.1
      ∙ turn_first b (wp.code == 0) (wp.kept g) (wq.kept g) (not_first p n x (started_keeps (statuses V) q m (Started r) v k.1))
      (λ z. kept_code (started_keeps (statuses V) p (n + 1) (Started r) v k.0) x (zero_one wp.code z))
      ∙ ap (λ z. b && z) (then_kept wp wq g)
  started_kept (Seq p q) n r v b (inr y) l nl k w =
      let m = n + 1 + statement_count p in
      let g = goal q m y in
      let i = inside q m y in
      let np = no_loops-left (instant_loops p) (instant_loops q) nl in
      let wp = started_walk (statuses V) p (n + 1) (Started r) v in
      let wq = started_walk (statuses V) q m (Started r) v in
      ap (λ z. (started_codes p 0 && way_starts q y) && (V (Go g (Started r)) && z))
      (look_second g n (statement_count p) true (kept_at V p (n + 1) g (Started r)) (kept_at V q m g (Started r)) i.0)
      ∙ and_assoc (started_codes p 0) (way_starts q y) (V (Go g (Started r)) && kept_at V q m g (Started r))
      ∙ guarded (started_codes p 0) (b && wp.code == 0) (wq.kept g) (start_keeps V q m y r)
      (λ z. started_kept q m r v (b && wp.code == 0) y (omega arith) (no_loops-right (instant_loops p) (instant_loops q) nl) k.1 (w.2 z))
      (λ z. subst (λ j. started_codes p j ≡ true) (eqb-true wp.code 0 (and_parts b _ z).1) (started_code (statuses V) p (n + 1) (Started r) v np k.0))
      ∙ turn_second b (wp.code == 0) (wp.kept g) (wq.kept g) (not_second q n y (started_keeps (statuses V) p (n + 1) (Started r) v k.0))
      ∙ ap (λ z. b && z) (then_kept wp wq g)
  started_kept (Loop at p) n r v b h l nl k w =
      let i = inside p (n + 1) h in
      ap (λ z. way_starts p h && (V (Go (goal p (n + 1) h) (Started r)) && z))
      (look_only (goal p (n + 1) h) n true (kept_at V p (n + 1) (goal p (n + 1) h) (Started r)) i.0)
      ∙ started_kept p (n + 1) r v b h (omega arith) (loop_body at p nl).1 k w.1
  started_kept (Par p q) n r v b (inl x) l nl k w =
      let m = n + 1 + statement_count p in
      let g = goal p (n + 1) x in
      let i = inside p (n + 1) x in
      let y = Started r in
      let wp = started_walk (statuses V) p (n + 1) y v in
      let wq = started_walk (statuses V) q m y v in
      ap (λ z. way_starts p x && (V (Go g y) && z))
      (look_only g n true _ i.0 ∙ and_same (ap (λ j. V (End n j 1)) (above_within n r l))
      (cond-true (ltb g m) (kept_at V p (n + 1) g y) _ (lt-ltb g m i.1)))
      ∙ par_keep (way_starts p x) (V (Go g y)) (V (End n y 1)) (kept_at V p (n + 1) g y)
      ∙ ap (λ z. V (End n y 1) && z) (started_kept p (n + 1) r v b x (omega arith) (no_loops-left (instant_loops p) (instant_loops q) nl) k.0 w.1)
      ∙ par_bits (V (End n y 1)) b (max wp.code wq.code == 1) (wp.kept g) (wq.kept g) (w.0.ends 1 ∙ ap (λ z. b && z) (one_flip (max wp.code wq.code)))
      (not_first p n x (started_keeps (statuses V) q m y v k.1))
  started_kept (Par p q) n r v b (inr x) l nl k w =
      let m = n + 1 + statement_count p in
      let g = goal q m x in
      let i = inside q m x in
      let y = Started r in
      let wp = started_walk (statuses V) p (n + 1) y v in
      let wq = started_walk (statuses V) q m y v in
      let j : n + 1 ≤ g = omega (arith, i.0) in
      ap (λ z. way_starts q x && (V (Go g y) && z))
      (look_only g n true _ j ∙ and_same (ap (λ z. V (End n z 1)) (above_within n r l))
      (cond-false (ltb g m) (kept_at V p (n + 1) g y) (kept_at V q m g y) (ltb-not g m i.0)))
      ∙ par_keep (way_starts q x) (V (Go g y)) (V (End n y 1)) (kept_at V q m g y)
      ∙ ap (λ z. V (End n y 1) && z) (started_kept q m r v b x (omega arith) (no_loops-right (instant_loops p) (instant_loops q) nl) k.1 w.2)
      ∙ par_bits (V (End n y 1)) b (max wp.code wq.code == 1) (wq.kept g) (wp.kept g) (w.0.ends 1 ∙ ap (λ z. b && z) (one_flip (max wp.code wq.code)))
      (not_second q n x (started_keeps (statuses V) p (n + 1) y v k.0))
      ∙ ap (λ z. b && ((max wp.code wq.code == 1) && z)) (or_comm (wq.kept g) (wp.kept g))
  started_kept (Trap p) n r v b h l nl k w =
      let i = inside p (n + 1) h in
      let wp = started_walk (statuses V) p (n + 1) (Started r) v in
      ap (λ z. way_starts p h && (V (Go (goal p (n + 1) h) (Started r)) && z))
      (look_only (goal p (n + 1) h) n true (kept_at V p (n + 1) (goal p (n + 1) h) (Started r)) i.0)
      ∙ started_kept p (n + 1) r v b h (omega arith) nl k w.1
      ∙ trap_bits b (trap_code wp.code == 1) (wp.code == 1) (wp.kept (goal p (n + 1) h)) (trap_one wp.code)
      (λ z. kept_code (started_keeps (statuses V) p (n + 1) (Started r) v k) h z)
  started_kept (Local s p) n r v b h l nl k w =
      let i = inside p (n + 1) h in
      ap (λ z. way_starts p h && (V (Go (goal p (n + 1) h) (Started r)) && z))
      (look_only (goal p (n + 1) h) n true (kept_at V p (n + 1) (goal p (n + 1) h) (Started r)) i.0)
      ∙ started_kept p (n + 1) r _ b h (omega arith) nl k w.2
  started_kept (Awake e p) n r v b h l nl k w = absurd h

pub guard_total : (l R s H b x : Bool) → (l ≡ true → (R || (s && H)) ≡ (b && x)) → (b ≡ true → l ≡ true) → (s ≡ true → l ≡ true) →
    ((l && R) || (s && H)) ≡ (b && x)
guard_total true R s H b x f g h = f refl
guard_total false R true H b x f g h = absurd (false≢true (h refl))
guard_total false R false H true x f g h = absurd (false≢true (g refl))
guard_total false R false H false x f g h = refl

suspend_bits : (a s H b d x : Bool) → (a || (s && H)) ≡ ((b && not d) && x) → (a || (s && ((b && d) || H))) ≡ (b && cond d s x)
suspend_bits a s H true true x e = ap (λ i. i || (s && true)) (or-left-none a (s && H) e) ∙ and-true s
suspend_bits a s H true false x e = e
suspend_bits a s H false d x e = e

held_first : (b h x y : Bool) → (b ≡ true → h ≡ false → y ≡ false) → ((b && h) && x) ≡ (b && cond h x y)
held_first true true x y f = refl
held_first true false x y f = sym (f refl refl)
held_first false h x y f = refl

held_second : (b h k x y : Bool) → (b ≡ true → (h && k) ≡ false) → (b ≡ true → (h || k) ≡ true) → (h ≡ true → x ≡ false) → ((b && k) && y) ≡ (b && cond h x y)
held_second true true true x y f g e = absurd (false≢true (sym (f refl)))
held_second true true false x y f g e = sym (e refl)
held_second true false true x y f g e = refl
held_second true false false x y f g e = absurd (false≢true (g refl))
held_second false h k x y f g e = refl

seq_first_bits : (b h z x u y : Bool) → (b ≡ true → h ≡ false → y ≡ false) → u ≡ false → (h ≡ true → z ≡ true → x ≡ false) →
    ((b && h) && x) ≡ (b && cond h (cond z u x) y)
seq_first_bits true true true x u y f e g = g refl refl ∙ sym e
seq_first_bits true true false x u y f e g = refl
seq_first_bits true false z x u y f e g = sym (f refl refl)
seq_first_bits false h z x u y f e g = refl

seq_second_bits : (b h k z x u y : Bool) → (b ≡ true → (h && k) ≡ false) → (b ≡ true → (h || k) ≡ true) → (h ≡ true → x ≡ false) →
    (((b && k) && y) || (((b && h) && z) && u)) ≡ (b && cond h (cond z u x) y)
seq_second_bits true true true z x u y f g e = absurd (false≢true (sym (f refl)))
seq_second_bits true true false true x u y f g e = refl
seq_second_bits true true false false x u y f g e = sym (e refl)
seq_second_bits true false true z x u y f g e = or-false y
seq_second_bits true false false z x u y f g e = absurd (false≢true (g refl))
seq_second_bits false h k z x u y f g e = refl

loop_kept_bits : (b z x u : Bool) → (b ≡ true → z ≡ true → x ≡ false) → ((b && x) || ((b && z) && u)) ≡ (b && cond z u x)
loop_kept_bits true true x u f = ap (λ i. i || u) (f refl refl)
loop_kept_bits true false x u f = or-false x
loop_kept_bits false z x u f = refl

move : (a k c : Bool) → ((a || k) || c) ≡ ((a || c) || k)
move true k c = refl
move false true true = refl
move false true false = refl
move false false true = refl
move false false false = refl

branch_bits : (v a s H : Bool) → ((v && a) || (s && (v && H))) ≡ (v && (a || (s && H)))
branch_bits true a s H = refl
branch_bits false a true H = refl
branch_bits false a false H = refl

branch_kept : (h : Bool) (x : Walk) (b : Bool) (m : ℕ) → ((b && h) && x.kept m) ≡ (b && (cond h x (ended 0)).kept m)
branch_kept true x true m = refl
branch_kept false x true m = refl
branch_kept h x false m = refl

truth_same : (e : Expression) (u v : Values) → ((s : ℕ) → u s ≡ v s) → truth e u ≡ truth e v
truth_same Tick u v h = refl
truth_same (Sig s) u v h = h s
truth_same (Not a) u v h = ap not (truth_same a u v h)
truth_same (And a b) u v h = and_same (truth_same a u v h) (truth_same b u v h)
truth_same (Or a b) u v h = or-equal (truth_same a u v h) (truth_same b u v h)

module _ (V : Valuation) (S : ℕ → Bool) (given : Values) where
  abbrev Total : Scope → (t : Term) (n : ℕ) → Way t → Bool
  Total B t n h = restart_keeps V t n h || (S (goal t n h) && held_at given V B t n (goal t n h) Resumed)

  pub resumed_kept : (t : Term) (B : Scope) (n : ℕ) (v : Values) (b : Bool) (h : Way t) → NoInstantLoop t → HasExitCodes t →
      (holds S t n ≡ true → IsSelected S t n) → (b ≡ true → holds S t n ≡ true) → Sees given V B Resumed v → ResumedWalked V S t n v b →
      Total B t n h ≡ (b && (resumed_walk (statuses V) S t n v).kept (goal t n h))
  resumed_kept Nothing B n v b h nl k s r e w = absurd h
  resumed_kept Pause B n v b h nl k s r e w = and-false (S n) ∙ sym (and-false b)
  resumed_kept (Emit x) B n v b h nl k s r e w = absurd h
  resumed_kept (Exit c) B n v b h nl k s r e w = absurd h
  resumed_kept (Present c p q) B n v b (inl x) nl k s r e w =
      let m = n + 1 + statement_count p in
      let g = goal p (n + 1) x in
      let i = inside p (n + 1) x in
      let np = no_loops-left (instant_loops p) (instant_loops q) nl in
      let hp = holds S p (n + 1) in
      let wp = resumed_walk (statuses V) S p (n + 1) v in
      let wq = resumed_walk (statuses V) S q m v in
      let sp : hp ≡ true → IsSelected S p (n + 1) = λ z. (s (or_left hp _ z)).1 z in
      ap (λ z. (has_code (resumed_codes p) && restart_keeps V p (n + 1) x) || (S g && z))
      (look_first g n (statement_count p) false (held_at given V B p (n + 1) g Resumed) _ i.0 i.1)
      ∙ guard_total (has_code (resumed_codes p)) (restart_keeps V p (n + 1) x) (S g) (held_at given V B p (n + 1) g Resumed) (b && hp) (wp.kept g)
      (λ z. resumed_kept p B (n + 1) v (b && hp) x np k.0 sp (λ y. (and_parts b hp y).1) e (w.1 z))
      (λ z. let y = (and_parts b hp z).1 in resumed_live S p (n + 1) np k.0 y (sp y))
      (λ z. let y = way_held S p (n + 1) x z in resumed_live S p (n + 1) np k.0 y (sp y))
      ∙ held_first b hp (wp.kept g) (wq.kept g) (λ z y. not_first p n x (resumed_keeps (statuses V) S q m v k.1 (or-other hp _ y (r z))))
      ∙ ap (λ z. b && z) (cond_kept hp wp wq g)
  resumed_kept (Present c p q) B n v b (inr x) nl k s r e w =
      let m = n + 1 + statement_count p in
      let g = goal q m x in
      let i = inside q m x in
      let nq = no_loops-right (instant_loops p) (instant_loops q) nl in
      let hp = holds S p (n + 1) in
      let hq = holds S q m in
      let wp = resumed_walk (statuses V) S p (n + 1) v in
      let wq = resumed_walk (statuses V) S q m v in
      let sq : hq ≡ true → IsSelected S q m = λ z. (s (or_right hp hq z)).2 z in
      ap (λ z. (has_code (resumed_codes q) && restart_keeps V q m x) || (S g && z))
      (look_second g n (statement_count p) false (held_at given V B p (n + 1) g Resumed) (held_at given V B q m g Resumed) i.0)
      ∙ guard_total (has_code (resumed_codes q)) (restart_keeps V q m x) (S g) (held_at given V B q m g Resumed) (b && hq) (wq.kept g)
      (λ z. resumed_kept q B m v (b && hq) x nq k.1 sq (λ y. (and_parts b hq y).1) e (w.2 z))
      (λ z. let y = (and_parts b hq z).1 in resumed_live S q m nq k.1 y (sq y))
      (λ z. let y = way_held S q m x z in resumed_live S q m nq k.1 y (sq y))
      ∙ held_second b hp hq (wp.kept g) (wq.kept g) (λ z. (s (r z)).0) r (λ z. not_second q n x (resumed_keeps (statuses V) S p (n + 1) v k.0 z))
      ∙ ap (λ z. b && z) (cond_kept hp wp wq g)
  resumed_kept (Suspend c p) B n v b h nl k s r e w =
      let g = goal p (n + 1) h in
      let i = inside p (n + 1) h in
      let d = truth c v in
      let wp = resumed_walk (statuses V) S p (n + 1) v in
      let paused : Walk = record { signals = λ z. false; code = 1; kept = selected_in S p (n + 1) } in
      let own : (V (Go n Resumed) && truth c (seen_values given V B Resumed)) ≡ (b && d) =
      and_same w.0.go (truth_same c (seen_values given V B Resumed) v (λ z. sym (e.each z))) in
      let kept : selected_in S p (n + 1) g ≡ S g =
      ap (λ z. S g && z) (and_from _ _ (le-leb (n + 1) g i.0) (lt-ltb g (n + 1 + statement_count p) i.1)) ∙ and-true (S g) in
      ap (λ z. (has_code (resumed_codes p) && restart_keeps V p (n + 1) h) || (S g && z))
      (or-equal own (look_only g n false (held_at given V B p (n + 1) g Resumed) i.0))
      ∙ suspend_bits (has_code (resumed_codes p) && restart_keeps V p (n + 1) h) (S g) (held_at given V B p (n + 1) g Resumed) b d (wp.kept g)
      (guard_total (has_code (resumed_codes p)) (restart_keeps V p (n + 1) h) (S g) (held_at given V B p (n + 1) g Resumed) (b && not d) (wp.kept g)
      (λ z. resumed_kept p B (n + 1) v (b && not d) h nl k s (λ y. r (and_parts b _ y).0) e (w.1 z))
      (λ z. let y = r (and_parts b _ z).0 in resumed_live S p (n + 1) nl k y (s y))
      (λ z. let y = way_held S p (n + 1) h z in resumed_live S p (n + 1) nl k y (s y)))
      ∙ ap (λ z. b && cond d z (wp.kept g)) (sym kept) ∙ ap (λ z. b && z) (cond_kept d paused wp g)
  resumed_kept (Seq p q) B n v b (inl x) nl k s r e w =
      let m = n + 1 + statement_count p in
      let g = goal p (n + 1) x in
      let i = inside p (n + 1) x in
      let np = no_loops-left (instant_loops p) (instant_loops q) nl in
      let hp = holds S p (n + 1) in
      let wp = resumed_walk (statuses V) S p (n + 1) v in
      let wq = resumed_walk (statuses V) S q m v in
      let wr = started_walk (statuses V) q m (Started m) v in
      let sp : hp ≡ true → IsSelected S p (n + 1) = λ z. (s (or_left hp _ z)).1 z in
      ap (λ z. (has_code (resumed_codes p) && restart_keeps V p (n + 1) x) || (S g && z))
      (look_first g n (statement_count p) false (held_at given V B p (n + 1) g Resumed) _ i.0 i.1)
      ∙ guard_total (has_code (resumed_codes p)) (restart_keeps V p (n + 1) x) (S g) (held_at given V B p (n + 1) g Resumed) (b && hp) (wp.kept g)
      (λ z. resumed_kept p B (n + 1) v (b && hp) x np k.0 sp (λ y. (and_parts b hp y).1) e (w.1 z))
      (λ z. let y = (and_parts b hp z).1 in resumed_live S p (n + 1) np k.0 y (sp y))
      (λ z. let y = way_held S p (n + 1) x z in resumed_live S p (n + 1) np k.0 y (sp y))
      ∙ seq_first_bits b hp (wp.code == 0) (wp.kept g) (wr.kept g) (wq.kept g)
      (λ z y. not_first p n x (resumed_keeps (statuses V) S q m v k.1 (or-other hp _ y (r z))))
      (not_first p n x (started_keeps (statuses V) q m (Started m) v k.1))
      (λ z y. kept_code (resumed_keeps (statuses V) S p (n + 1) v k.0 z) x (zero_one wp.code y))
      ∙ ap (λ z. b && cond hp z (wq.kept g)) (then_kept wp wr g) ∙ ap (λ z. b && z) (cond_kept hp (then_walk wp wr) wq g)
  resumed_kept (Seq p q) B n v b (inr x) nl k s r e w =
      let m = n + 1 + statement_count p in
      let g = goal q m x in
      let i = inside q m x in
      let np = no_loops-left (instant_loops p) (instant_loops q) nl in
      let nq = no_loops-right (instant_loops p) (instant_loops q) nl in
      let hp = holds S p (n + 1) in
      let hq = holds S q m in
      let wp = resumed_walk (statuses V) S p (n + 1) v in
      let wq = resumed_walk (statuses V) S q m v in
      let wr = started_walk (statuses V) q m (Started m) v in
      let cpl = can_pass p && has_code (resumed_codes q) in
      let H = held_at given V B q m g Resumed in
      let A = cpl && restart_keeps V q m x in
      let K = resumed_codes p 0 && start_keeps V q m x m in
      let sq : hq ≡ true → (can_pass p ≡ true) × IsSelected S q m = λ z. (s (or_right hp hq z)).2 z in
      let live : hq ≡ true → cpl ≡ true = λ z. let y = sq z in and_from _ _ y.0 (resumed_live S q m nq k.1 z y.1) in
      ap (λ z. (A || K) || (S g && z)) (look_second g n (statement_count p) false (held_at given V B p (n + 1) g Resumed) H i.0)
      ∙ move A K (S g && H)
      ∙ or-equal
      (guard_total cpl (restart_keeps V q m x) (S g) H (b && hq) (wq.kept g)
      (λ z. resumed_kept q B m v (b && hq) x nq k.1 (λ y. (sq y).1) (λ y. (and_parts b hq y).1) e (w.2 z))
      (λ z. live (and_parts b hq z).1) (λ z. live (way_held S q m x z)))
      (guarded (resumed_codes p 0) ((b && hp) && wp.code == 0) (wr.kept g) (start_keeps V q m x m)
      (λ z. started_kept V q m m v ((b && hp) && wp.code == 0) x (omega arith) nq k.1 (w.3 z))
      (λ z.
      let y = and_parts (b && hp) _ z in
      let y2 = and_parts b hp y.0 in
      subst (λ j. resumed_codes p j ≡ true) (eqb-true wp.code 0 y.1) (resumed_code (statuses V) S p (n + 1) v np k.0 y2.1 ((s (or_left hp _ y2.1)).1 y2.1))))
      ∙ seq_second_bits b hp hq (wp.code == 0) (wp.kept g) (wr.kept g) (wq.kept g) (λ z. (s (r z)).0) r
      (λ z. not_second q n x (resumed_keeps (statuses V) S p (n + 1) v k.0 z))
      ∙ ap (λ z. b && cond hp z (wq.kept g)) (then_kept wp wr g) ∙ ap (λ z. b && z) (cond_kept hp (then_walk wp wr) wq g)
  resumed_kept (Loop at p) B n v b h nl k s r e w =
      let m = n + 1 in
      let g = goal p m h in
      let i = inside p m h in
      let np = (loop_body at p nl).1 in
      let wp = resumed_walk (statuses V) S p m v in
      let wr = started_walk (statuses V) p m (Started m) v in
      let H = held_at given V B p m g Resumed in
      let A = has_code (resumed_codes p) && restart_keeps V p m h in
      let K = resumed_codes p 0 && start_keeps V p m h m in
      ap (λ z. (A || K) || (S g && z)) (look_only g n false H i.0)
      ∙ move A K (S g && H)
      ∙ or-equal
      (guard_total (has_code (resumed_codes p)) (restart_keeps V p m h) (S g) H b (wp.kept g)
      (λ z. resumed_kept p B m v b h np k s r e (w.1 z))
      (λ z. resumed_live S p m np k (r z) (s (r z)))
      (λ z. let y = way_held S p m h z in resumed_live S p m np k y (s y)))
      (guarded (resumed_codes p 0) (b && wp.code == 0) (wr.kept g) (start_keeps V p m h m)
      (λ z. started_kept V p m m v (b && wp.code == 0) h (omega arith) np k (w.2 z))
      (λ z.
      let y = and_parts b _ z in
      subst (λ j. resumed_codes p j ≡ true) (eqb-true wp.code 0 y.1) (resumed_code (statuses V) S p m v np k (r y.0) (s (r y.0)))))
      ∙ loop_kept_bits b (wp.code == 0) (wp.kept g) (wr.kept g) (λ z y. kept_code (resumed_keeps (statuses V) S p m v k (r z)) h (zero_one wp.code y))
      ∙ ap (λ z. b && z) (then_kept wp wr g)
  resumed_kept (Par p q) B n v b (inl x) nl k s r e w =
      let m = n + 1 + statement_count p in
      let g = goal p (n + 1) x in
      let i = inside p (n + 1) x in
      let np = no_loops-left (instant_loops p) (instant_loops q) nl in
      let hp = holds S p (n + 1) in
      let hq = holds S q m in
      let wp = resumed_walk (statuses V) S p (n + 1) v in
      let wq = resumed_walk (statuses V) S q m v in
      let X = cond hp wp (ended 0) in
      let Y = cond hq wq (ended 0) in
      let H = held_at given V B p (n + 1) g Resumed in
      let sp : hp ≡ true → IsSelected S p (n + 1) = λ z. (s (or_left hp _ z)).2 z in
      ap (λ z. (V (End n Resumed 1) && (has_code (resumed_codes p) && restart_keeps V p (n + 1) x)) || (S g && z))
      (look_only g n false _ i.0 ∙ ap (λ z. V (End n Resumed 1) && z) (cond-true (ltb g m) H _ (lt-ltb g m i.1)))
      ∙ branch_bits (V (End n Resumed 1)) (has_code (resumed_codes p) && restart_keeps V p (n + 1) x) (S g) H
      ∙ ap (λ z. V (End n Resumed 1) && z)
      (guard_total (has_code (resumed_codes p)) (restart_keeps V p (n + 1) x) (S g) H (b && hp) (wp.kept g)
      (λ z. resumed_kept p B (n + 1) v (b && hp) x np k.0 sp (λ y. (and_parts b hp y).1) e (w.1 z))
      (λ z. let y = (and_parts b hp z).1 in resumed_live S p (n + 1) np k.0 y (sp y))
      (λ z. let y = way_held S p (n + 1) x z in resumed_live S p (n + 1) np k.0 y (sp y))
      ∙ branch_kept hp wp b g)
      ∙ par_bits (V (End n Resumed 1)) b (max X.code Y.code == 1) (X.kept g) (Y.kept g) (w.0.ends 1 ∙ ap (λ z. b && z) (one_flip (max X.code Y.code)))
      (not_first p n x (keeps_branch hq (λ c. resumed_keeps (statuses V) S q m v k.1 c)))
  resumed_kept (Par p q) B n v b (inr x) nl k s r e w =
      let m = n + 1 + statement_count p in
      let g = goal q m x in
      let i = inside q m x in
      let nq = no_loops-right (instant_loops p) (instant_loops q) nl in
      let hp = holds S p (n + 1) in
      let hq = holds S q m in
      let wp = resumed_walk (statuses V) S p (n + 1) v in
      let wq = resumed_walk (statuses V) S q m v in
      let X = cond hp wp (ended 0) in
      let Y = cond hq wq (ended 0) in
      let H = held_at given V B q m g Resumed in
      let j : n + 1 ≤ g = omega (arith, i.0) in
      let sq : hq ≡ true → IsSelected S q m = λ z. (s (or_right hp hq z)).3 z in
      ap (λ z. (V (End n Resumed 1) && (has_code (resumed_codes q) && restart_keeps V q m x)) || (S g && z))
      (look_only g n false _ j ∙ ap (λ z. V (End n Resumed 1) && z) (cond-false (ltb g m) (held_at given V B p (n + 1) g Resumed) H (ltb-not g m i.0)))
      ∙ branch_bits (V (End n Resumed 1)) (has_code (resumed_codes q) && restart_keeps V q m x) (S g) H
      ∙ ap (λ z. V (End n Resumed 1) && z)
      (guard_total (has_code (resumed_codes q)) (restart_keeps V q m x) (S g) H (b && hq) (wq.kept g)
      (λ z. resumed_kept q B m v (b && hq) x nq k.1 sq (λ y. (and_parts b hq y).1) e (w.2 z))
      (λ z. let y = (and_parts b hq z).1 in resumed_live S q m nq k.1 y (sq y))
      (λ z. let y = way_held S q m x z in resumed_live S q m nq k.1 y (sq y))
      ∙ branch_kept hq wq b g)
      ∙ par_bits (V (End n Resumed 1)) b (max X.code Y.code == 1) (Y.kept g) (X.kept g) (w.0.ends 1 ∙ ap (λ z. b && z) (one_flip (max X.code Y.code)))
      (not_second q n x (keeps_branch hp (λ c. resumed_keeps (statuses V) S p (n + 1) v k.0 c)))
      ∙ ap (λ z. b && ((max X.code Y.code == 1) && z)) (or_comm (Y.kept g) (X.kept g))
  resumed_kept (Trap p) B n v b h nl k s r e w =
      let g = goal p (n + 1) h in
      let i = inside p (n + 1) h in
      let wp = resumed_walk (statuses V) S p (n + 1) v in
      ap (λ z. (has_code (resumed_codes p) && restart_keeps V p (n + 1) h) || (S g && z)) (look_only g n false (held_at given V B p (n + 1) g Resumed) i.0)
      ∙ guard_total (has_code (resumed_codes p)) (restart_keeps V p (n + 1) h) (S g) (held_at given V B p (n + 1) g Resumed) b (wp.kept g)
      (λ z. resumed_kept p B (n + 1) v b h nl k s r e (w.1 z))
      (λ z. resumed_live S p (n + 1) nl k (r z) (s (r z)))
      (λ z. let y = way_held S p (n + 1) h z in resumed_live S p (n + 1) nl k y (s y))
      ∙ trap_when b (trap_code wp.code == 1) (wp.code == 1) (wp.kept g) (trap_one wp.code)
      (λ z y. kept_code (resumed_keeps (statuses V) S p (n + 1) v k (r z)) h y)
    where
      trap_when : (b o p x : Bool) → o ≡ p → (b ≡ true → p ≡ false → x ≡ false) → (b && x) ≡ (b && (o && x))
      trap_when true o p x e f = trap_bits true o p x e (f refl)
      trap_when false o p x e f = refl
  resumed_kept (Local c p) B n v b h nl k s r e w =
      let g = goal p (n + 1) h in
      let i = inside p (n + 1) h in
      let v2 = with_value v c (V (StatusOf n Resumed)) in
      let wp = resumed_walk (statuses V) S p (n + 1) v2 in
      ap (λ z. (has_code (resumed_codes p) && restart_keeps V p (n + 1) h) || (S g && z))
      (look_only g n false (held_at given V (bind B c n) p (n + 1) g Resumed) i.0)
      ∙ guard_total (has_code (resumed_codes p)) (restart_keeps V p (n + 1) h) (S g) (held_at given V (bind B c n) p (n + 1) g Resumed) b (wp.kept g)
      (λ z. resumed_kept p (bind B c n) (n + 1) v2 b h nl k s r (sees_more given V B n c Resumed v refl e) (w.2 z))
      (λ z. resumed_live S p (n + 1) nl k (r z) (s (r z)))
      (λ z. let y = way_held S p (n + 1) h z in resumed_live S p (n + 1) nl k y (s y))
  resumed_kept (Awake c p) B n v b h nl k s r e w = absurd h
