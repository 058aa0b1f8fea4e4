-- What a walk keeps lies in its statement, and is something exactly where the code is 1; what is held and left depends
-- on the pauses of the statement alone.
use Rattle.std.proofs.Common.{◌≡◌, ℕ, zero, suc, ◌+◌, ◌<◌, ◌≤◌, Bool, true, false, ◌&&◌, ◌||◌, ◌==◌, cond, max, refl, sym, ap, ◌∙◌, subst, ⊎_elim, arith}
use Rattle.std.proofs.lemmas.Bool.{or_cases, or_left, or_right, and_parts, and_from, eqb-true, eqb-false, eq-eqb, ne_eqb, cond_both, false≢true, cases_Bool}
use Rattle.std.proofs.lemmas.Bool.{le-leb, lt-ltb, leb-true, ltb-true}
use Rattle.base_facts.proofs.Tests.{or-equal, or-nothing, or-other}
use Rattle.est_kernel.specs.Terms.{Term, Nothing, Pause, Emit, Exit, Present, Suspend, Seq, Loop, Par, Trap, Local, Awake}
use Rattle.est_kernel.specs.Preorder.{statement_count}
use Rattle.est_kernel.specs.Steps.{trap_code}
use Rattle.grc_graph.specs.Layers.{Layer, Resumed, Started}
use Rattle.grc_graph.specs.Residuals.{holds, left_if, residual}
use Rattle.grc_graph.specs.Walk.{Walk, Values, with_value, truth, ended, kept_by, then_walk, both_walks, trapped_walk, started_walk, resumed_walk, selected_in}
use Rattle.grc_graph.specs.Selected.{HasExitCodes}
use Rattle.grc_graph.proofs.Exports.{holds-false}

-- two sets of pauses agree from a on below b
pub record Same (S T : ℕ → Bool) (a b : ℕ) : Type 0 where
  pub at : (m : ℕ) → a ≤ m → m < b → S m ≡ T m

pub same_within : {S T : ℕ → Bool} (a b c d : ℕ) → a ≤ c → d ≤ b → Same S T a b → Same S T c d
same_within a b c d l m s = record { at = λ i x y. s.at i (omega arith) (omega arith) }

-- the bounds of a first and of a second part
pub first_same : {S T : ℕ → Bool} (n a b : ℕ) → Same S T n (n + (1 + a + b)) → Same S T (n + 1) (n + 1 + a)
first_same n a b s = same_within n (n + (1 + a + b)) (n + 1) (n + 1 + a) (omega arith) (omega arith) s

pub second_same : {S T : ℕ → Bool} (n a b : ℕ) → Same S T n (n + (1 + a + b)) → Same S T (n + 1 + a) (n + 1 + a + b)
second_same n a b s = same_within n (n + (1 + a + b)) (n + 1 + a) (n + 1 + a + b) (omega arith) (omega arith) s

pub only_same : {S T : ℕ → Bool} (n a : ℕ) → Same S T n (n + (1 + a)) → Same S T (n + 1) (n + 1 + a)
only_same n a s = same_within n (n + (1 + a)) (n + 1) (n + 1 + a) (omega arith) (omega arith) s

pub holds_same : (S T : ℕ → Bool) (t : Term) (n : ℕ) → Same S T n (n + statement_count t) → holds S t n ≡ holds T t n
holds_same S T Pause n s = s.at n (omega arith) (omega arith)
holds_same S T (Present e p q) n s =
    or-equal (holds_same S T p (n + 1) (first_same n (statement_count p) (statement_count q) s))
    (holds_same S T q (n + 1 + statement_count p) (second_same n (statement_count p) (statement_count q) s))
holds_same S T (Suspend e p) n s = holds_same S T p (n + 1) (only_same n (statement_count p) s)
holds_same S T (Seq p q) n s =
    or-equal (holds_same S T p (n + 1) (first_same n (statement_count p) (statement_count q) s))
    (holds_same S T q (n + 1 + statement_count p) (second_same n (statement_count p) (statement_count q) s))
holds_same S T (Loop at p) n s = holds_same S T p (n + 1) (only_same n (statement_count p) s)
holds_same S T (Par p q) n s =
    or-equal (holds_same S T p (n + 1) (first_same n (statement_count p) (statement_count q) s))
    (holds_same S T q (n + 1 + statement_count p) (second_same n (statement_count p) (statement_count q) s))
holds_same S T (Trap p) n s = holds_same S T p (n + 1) (only_same n (statement_count p) s)
holds_same S T (Local x p) n s = holds_same S T p (n + 1) (only_same n (statement_count p) s)
holds_same S T _ n s = refl

left_same : {b c : Bool} {r u : Term} → b ≡ c → r ≡ u → left_if b r ≡ left_if c u
left_same {b} {c} {r} {u} e f = ap (λ x. left_if x r) e ∙ ap (λ x. left_if c x) f

cond_same : {b c : Bool} {r s u v : Term} → b ≡ c → r ≡ u → s ≡ v → cond b r s ≡ cond c u v
cond_same {b} {c} {r} {s} {u} {v} e f g = ap (λ x. cond x r s) e ∙ ap (λ x. cond c x s) f ∙ ap (λ x. cond c u x) g

pub residual_same : (S T : ℕ → Bool) (t : Term) (n : ℕ) → Same S T n (n + statement_count t) → residual S t n ≡ residual T t n
residual_same S T (Present e p q) n s =
    let a = first_same n (statement_count p) (statement_count q) s in
    let b = second_same n (statement_count p) (statement_count q) s in
    cond_same (holds_same S T p (n + 1) a) (residual_same S T p (n + 1) a) (residual_same S T q (n + 1 + statement_count p) b)
residual_same S T (Suspend e p) n s = ap (λ r. Awake e r) (residual_same S T p (n + 1) (only_same n (statement_count p) s))
residual_same S T (Seq p q) n s =
    let a = first_same n (statement_count p) (statement_count q) s in
    let b = second_same n (statement_count p) (statement_count q) s in
    cond_same (holds_same S T p (n + 1) a) (ap (λ r. Seq r q) (residual_same S T p (n + 1) a))
    (residual_same S T q (n + 1 + statement_count p) b)
residual_same S T (Loop at p) n s =
    ap (λ r. Seq r (Loop at p)) (residual_same S T p (n + 1) (only_same n (statement_count p) s))
residual_same S T (Par p q) n s =
    let a = first_same n (statement_count p) (statement_count q) s in
    let b = second_same n (statement_count p) (statement_count q) s in
    let x = left_same (holds_same S T p (n + 1) a) (residual_same S T p (n + 1) a) in
    let y = left_same (holds_same S T q (n + 1 + statement_count p) b) (residual_same S T q (n + 1 + statement_count p) b) in
    ap (λ r. Par r (left_if (holds S q (n + 1 + statement_count p)) (residual S q (n + 1 + statement_count p)))) x
    ∙ ap (λ r. Par (left_if (holds T p (n + 1)) (residual T p (n + 1))) r) y
residual_same S T (Trap p) n s = ap Trap (residual_same S T p (n + 1) (only_same n (statement_count p) s))
residual_same S T (Local x p) n s = ap (λ r. Local x r) (residual_same S T p (n + 1) (only_same n (statement_count p) s))
residual_same S T _ n s = refl

pub holds_none : (T : ℕ → Bool) (t : Term) (n : ℕ) → ((m : ℕ) → n ≤ m → m < n + statement_count t → T m ≡ false) → holds T t n ≡ false
holds_none T t n f = holds_same T (λ m. false) t n (record { at = f }) ∙ holds-false t n

-- what a walk of a statement at n keeps
pub record Keeps (w : Walk) (t : Term) (n : ℕ) : Type 0 where
  pub inside : (m : ℕ) → w.kept m ≡ true → (n ≤ m) × (m < n + statement_count t)
  pub held : (T : ℕ → Bool) → Same T w.kept n (n + statement_count t) → holds T t n ≡ (w.code == 1)

-- outside of its statement a walk keeps nothing
pub kept_outside : {w : Walk} {t : Term} {n : ℕ} → Keeps w t n → (m : ℕ) → ((n ≤ m) × (m < n + statement_count t) → ⊥) → w.kept m ≡ false
kept_outside {w} {t} {n} k m f = cond_both (w.kept m) true false (λ x. w.kept m ≡ false) (λ e. absurd (f (k.inside m e))) (λ e. e)

keeps_none : (c : ℕ) (t : Term) (n : ℕ) → (c == 1) ≡ false → Keeps (ended c) t n
keeps_none c t n e =
    record {
      inside = λ m h. absurd (false≢true h);
      held = λ T s. holds_none T t n (λ m l u. s.at m l u) ∙ sym e;
    }

keeps_only : {w : Walk} {p : Term} (t : Term) (n : ℕ) → statement_count t ≡ 1 + statement_count p → ((T : ℕ → Bool) → holds T t n ≡ holds T p (n + 1)) →
    Keeps w p (n + 1) → Keeps w t n
keeps_only {w} {p} t n c h k =
    record {
      inside = λ m x. let i = k.inside m x in (omega (arith, i.0), omega (arith, i.1));
      held = λ T s.
          h T ∙ k.held T (same_within n (n + statement_count t) (n + 1) (n + 1 + statement_count p) (omega arith) (omega arith) s);
    }

-- where a walk of the first part is that of the whole, the second part holds nothing
pub second_none : {w : Walk} {p : Term} (q : Term) (n : ℕ) (T : ℕ → Bool) → Keeps w p (n + 1) →
    Same T w.kept n (n + (1 + statement_count p + statement_count q)) → holds T q (n + 1 + statement_count p) ≡ false
second_none {w} {p} q n T k s =
    holds_none T q (n + 1 + statement_count p)
    (λ m l u. s.at m (omega arith) (omega arith) ∙ kept_outside k m (λ i. omega (arith, i.0, i.1)))

pub first_none : {w : Walk} (p : Term) {q : Term} (n : ℕ) (T : ℕ → Bool) → Keeps w q (n + 1 + statement_count p) →
    Same T w.kept n (n + (1 + statement_count p + statement_count q)) → holds T p (n + 1) ≡ false
first_none {w} p {q} n T k s =
    holds_none T p (n + 1)
    (λ m l u. s.at m (omega arith) (omega arith) ∙ kept_outside k m (λ i. omega (arith, i.0, i.1)))

-- the whole holds what the first part holds
keeps_first : {w : Walk} {p : Term} (q t : Term) (n : ℕ) → statement_count t ≡ 1 + statement_count p + statement_count q →
    ((T : ℕ → Bool) → holds T t n ≡ (holds T p (n + 1) || holds T q (n + 1 + statement_count p))) → Keeps w p (n + 1) → Keeps w t n
keeps_first {w} {p} q t n c h k =
    record {
      inside = λ m x. let i = k.inside m x in (omega (arith, i.0), omega (arith, i.1));
      held = λ T s.
          let u = subst (λ j. Same T w.kept n (n + j)) c s in
          h T ∙ or-nothing _ _ (second_none q n T k u) ∙ k.held T (first_same n (statement_count p) (statement_count q) u);
    }

keeps_second : {w : Walk} (p : Term) {q : Term} (t : Term) (n : ℕ) → statement_count t ≡ 1 + statement_count p + statement_count q →
    ((T : ℕ → Bool) → holds T t n ≡ (holds T p (n + 1) || holds T q (n + 1 + statement_count p))) → Keeps w q (n + 1 + statement_count p) → Keeps w t n
keeps_second {w} p {q} t n c h k =
    record {
      inside = λ m x. let i = k.inside m x in (omega (arith, i.0), omega (arith, i.1));
      held = λ T s.
          let u = subst (λ j. Same T w.kept n (n + j)) c s in
          h T ∙ ap (λ b. b || holds T q (n + 1 + statement_count p)) (first_none p n T k u)
          ∙ k.held T (second_same n (statement_count p) (statement_count q) u);
    }

-- a sequence of two walks
keeps_turn : {x : Walk} (y : Walk) {t : Term} {n : ℕ} → Keeps x t n →
    Keeps (record { signals = λ s. x.signals s || y.signals s; code = y.code; kept = y.kept }) t n → Keeps (then_walk x y) t n
keeps_turn {x} y {t} {n} k j =
    cond_both (x.code == 0) (record { signals = λ s. x.signals s || y.signals s; code = y.code; kept = y.kept }) x
    (λ w. Keeps w t n) (λ e. j) (λ e. k)

keeps_signals : {x : Walk} {t : Term} {n : ℕ} (f : ℕ → Bool) → Keeps x t n → Keeps (record { signals = f; code = x.code; kept = x.kept }) t n
keeps_signals f k = record { inside = k.inside; held = k.held }

-- codes below 2 of a maximum
max_one : (a b : ℕ) → (max a b == 1) ≡ true → ((a == 1) || (b == 1)) ≡ true
max_one a b e =
    ⊎_elim
    (λ h. or_left _ _ h)
    (λ h. or_right (a == 1) (b == 1) (eq-eqb b 1 (let i = eqb-true (max a b) 1 e in let j = eqb-false a 1 h in omega arith)))
    (cases_Bool (a == 1))

pub kept_both : (c : ℕ) (A B : ℕ → Bool) (m : ℕ) → (c == 1) ≡ true → B m ≡ false → kept_by c (λ i. A i || B i) m ≡ A m
kept_both c A B m e f = ap (λ b. b && (A m || B m)) e ∙ or-nothing (A m) (B m) f

pub kept_other : (c : ℕ) (A B : ℕ → Bool) (m : ℕ) → (c == 1) ≡ true → A m ≡ false → kept_by c (λ i. A i || B i) m ≡ B m
kept_other c A B m e f = ap (λ b. b && (A m || B m)) e ∙ ap (λ b. b || B m) f

-- the pauses of the branches of a parallel that ends with code 1
pub both_first : (x : Walk) {y : Walk} (p : Term) {q : Term} (n : ℕ) (T : ℕ → Bool) → Keeps y q (n + 1 + statement_count p) → (max x.code y.code == 1) ≡ true →
    Same T (both_walks x y).kept n (n + (1 + statement_count p + statement_count q)) → Same T x.kept (n + 1) (n + 1 + statement_count p)
both_first x {y} p {q} n T k e s =
    record {
      at = λ m l u.
          s.at m (omega arith) (omega arith)
          ∙ kept_both (max x.code y.code) x.kept y.kept m e (kept_outside k m (λ i. omega (arith, i.0, i.1)));
    }

pub both_second : {x : Walk} (y : Walk) {p : Term} (q : Term) (n : ℕ) (T : ℕ → Bool) → Keeps x p (n + 1) → (max x.code y.code == 1) ≡ true →
    Same T (both_walks x y).kept n (n + (1 + statement_count p + statement_count q)) →
    Same T y.kept (n + 1 + statement_count p) (n + 1 + statement_count p + statement_count q)
both_second {x} y {p} q n T k e s =
    record {
      at = λ m l u.
          s.at m (omega arith) (omega arith)
          ∙ kept_other (max x.code y.code) x.kept y.kept m e (kept_outside k m (λ i. omega (arith, i.0, i.1)));
    }

keeps_both : {x y : Walk} {p q : Term} (n : ℕ) → Keeps x p (n + 1) → Keeps y q (n + 1 + statement_count p) → Keeps (both_walks x y) (Par p q) n
keeps_both {x} {y} {p} {q} n j k =
    record {
      inside = λ m h.
          let a = and_parts (max x.code y.code == 1) (x.kept m || y.kept m) h in
          ⊎_elim
          (λ u. let i = j.inside m u in (omega (arith, i.0), omega (arith, i.1)))
          (λ u. let i = k.inside m u in (omega (arith, i.0), omega (arith, i.1)))
          (or_cases (x.kept m) (y.kept m) a.1);
      held = λ T s.
          ⊎_elim
          (λ e.
          or-equal (j.held T (both_first x p n T k e s)) (k.held T (both_second y q n T j e s))
          ∙ max_one x.code y.code e ∙ sym e)
          (λ e. holds_none T (Par p q) n (λ m l u. s.at m l u ∙ ap (λ b. b && (x.kept m || y.kept m)) e) ∙ sym e)
          (cases_Bool (max x.code y.code == 1));
    }

pub trap_one : (c : ℕ) → (trap_code c == 1) ≡ (c == 1)
trap_one zero = refl
trap_one (suc zero) = refl
trap_one (suc (suc zero)) = sym (ne_eqb 2 1 (λ e. omega arith))
trap_one (suc (suc (suc c))) = ne_eqb _ 1 (λ e. omega arith) ∙ sym (ne_eqb _ 1 (λ e. omega arith))

keeps_trap : {x : Walk} {p : Term} (n : ℕ) → Keeps x p (n + 1) → Keeps (trapped_walk x) (Trap p) n
keeps_trap {x} {p} n k =
    record {
      inside = λ m h.
          let a = and_parts (trap_code x.code == 1) (x.kept m) h in
          let i = k.inside m a.1 in (omega (arith, i.0), omega (arith, i.1));
      held = λ T s.
          ⊎_elim
          (λ e.
          k.held T (record { at = λ m l u. s.at m (omega arith) (omega arith) ∙ ap (λ b. b && x.kept m) e })
          ∙ sym (trap_one x.code))
          (λ e. holds_none T (Trap p) n (λ m l u. s.at m l u ∙ ap (λ b. b && x.kept m) e) ∙ sym e)
          (cases_Bool (trap_code x.code == 1));
    }

keeps_choice : (c : Bool) {x y : Walk} {t : Term} {n : ℕ} → Keeps x t n → Keeps y t n → Keeps (cond c x y) t n
keeps_choice true k j = k
keeps_choice false k j = j

pub started_keeps : (Z : ℕ → Layer → Bool) (t : Term) (n : ℕ) (l : Layer) (v : Values) → HasExitCodes t → Keeps (started_walk Z t n l v) t n
started_keeps Z Nothing n l v b = keeps_none 0 Nothing n refl
started_keeps Z Pause n l v b =
    record {
      inside = λ m h. let i = eqb-true m n h in (omega arith, omega arith);
      held = λ T s. s.at n (omega arith) (omega arith) ∙ eq-eqb n n refl;
    }
started_keeps Z (Emit s) n l v b = keeps_signals (λ t. t == s) (keeps_none 0 (Emit s) n refl)
started_keeps Z (Exit k) n l v b = keeps_none k (Exit k) n (ne_eqb k 1 (λ e. omega (arith, b.0)))
started_keeps Z (Present e p q) n l v b =
    keeps_choice (truth e v)
    (keeps_first q (Present e p q) n refl (λ T. refl) (started_keeps Z p (n + 1) l v b.0))
    (keeps_second p (Present e p q) n refl (λ T. refl) (started_keeps Z q (n + 1 + statement_count p) l v b.1))
started_keeps Z (Suspend e p) n l v b = keeps_only (Suspend e p) n refl (λ T. refl) (started_keeps Z p (n + 1) l v b)
started_keeps Z (Seq p q) n l v b =
    keeps_turn (started_walk Z q (n + 1 + statement_count p) l v)
    (keeps_first q (Seq p q) n refl (λ T. refl) (started_keeps Z p (n + 1) l v b.0))
    (keeps_signals _ (keeps_second p (Seq p q) n refl (λ T. refl) (started_keeps Z q (n + 1 + statement_count p) l v b.1)))
started_keeps Z (Loop at p) n l v b = keeps_only (Loop at p) n refl (λ T. refl) (started_keeps Z p (n + 1) l v b)
started_keeps Z (Par p q) n l v b =
    keeps_both n (started_keeps Z p (n + 1) l v b.0) (started_keeps Z q (n + 1 + statement_count p) l v b.1)
started_keeps Z (Trap p) n l v b = keeps_trap n (started_keeps Z p (n + 1) l v b)
started_keeps Z (Local s p) n l v b =
    keeps_signals _ (keeps_only (Local s p) n refl (λ T. refl) (started_keeps Z p (n + 1) l (with_value v s (Z n l)) b))
started_keeps Z (Awake e p) n l v b = absurd b

-- the selected pauses of a statement
pub selected_same : (S T : ℕ → Bool) (p : Term) (n : ℕ) → Same T (selected_in S p n) n (n + statement_count p) → Same T S n (n + statement_count p)
selected_same S T p n s =
    record {
      at = λ m l u.
          s.at m l u ∙ and_all (S m) _ (and_from _ _ (le-leb n m l) (lt-ltb m (n + statement_count p) u));
    }
  where
    and_all : (a b : Bool) → b ≡ true → (a && b) ≡ a
    and_all true b e = e
    and_all false b e = refl

pub keeps_branch : (c : Bool) {x : Walk} {t : Term} {n : ℕ} → (c ≡ true → Keeps x t n) → Keeps (cond c x (ended 0)) t n
keeps_branch true {x} {t} {n} k = k refl
keeps_branch false {x} {t} {n} k = keeps_none 0 t n refl

keeps_held : (c : Bool) {x y : Walk} {t : Term} {n : ℕ} → (c ≡ true → Keeps x t n) → (c ≡ false → Keeps y t n) → Keeps (cond c x y) t n
keeps_held true k j = k refl
keeps_held false k j = j refl

pub resumed_keeps : (Z : ℕ → Layer → Bool) (S : ℕ → Bool) (t : Term) (n : ℕ) (v : Values) → HasExitCodes t → holds S t n ≡ true →
    Keeps (resumed_walk Z S t n v) t n
resumed_keeps Z S Pause n v b h = keeps_none 0 Pause n refl
resumed_keeps Z S (Present e p q) n v b h =
    keeps_held (holds S p (n + 1))
    (λ c. keeps_first q (Present e p q) n refl (λ T. refl) (resumed_keeps Z S p (n + 1) v b.0 c))
    (λ c. keeps_second p (Present e p q) n refl (λ T. refl) (resumed_keeps Z S q (n + 1 + statement_count p) v b.1 (or-other _ _ c h)))
resumed_keeps Z S (Suspend e p) n v b h =
    keeps_choice (truth e v)
    (record {
      inside = λ m x.
          let a = and_parts (S m) _ x in
          let c = and_parts _ _ a.1 in
          let i = leb-true (n + 1) m c.0 in
          let j = ltb-true m (n + 1 + statement_count p) c.1 in
          (omega arith, omega arith);
      held = λ T s.
          holds_same T S p (n + 1) (selected_same S T p (n + 1) (only_same n (statement_count p) s)) ∙ h;
    })
    (keeps_only (Suspend e p) n refl (λ T. refl) (resumed_keeps Z S p (n + 1) v b h))
resumed_keeps Z S (Seq p q) n v b h =
    keeps_held (holds S p (n + 1))
    (λ c. keeps_turn (started_walk Z q (n + 1 + statement_count p) (Started (n + 1 + statement_count p)) v)
    (keeps_first q (Seq p q) n refl (λ T. refl) (resumed_keeps Z S p (n + 1) v b.0 c))
    (keeps_signals _ (keeps_second p (Seq p q) n refl (λ T. refl) (started_keeps Z q (n + 1 + statement_count p) _ v b.1))))
    (λ c. keeps_second p (Seq p q) n refl (λ T. refl) (resumed_keeps Z S q (n + 1 + statement_count p) v b.1 (or-other _ _ c h)))
resumed_keeps Z S (Loop at p) n v b h =
    keeps_turn (started_walk Z p (n + 1) (Started (n + 1)) v)
    (keeps_only (Loop at p) n refl (λ T. refl) (resumed_keeps Z S p (n + 1) v b h))
    (keeps_signals _ (keeps_only (Loop at p) n refl (λ T. refl) (started_keeps Z p (n + 1) _ v b)))
resumed_keeps Z S (Par p q) n v b h =
    keeps_both n
    (keeps_branch (holds S p (n + 1)) (λ c. resumed_keeps Z S p (n + 1) v b.0 c))
    (keeps_branch (holds S q (n + 1 + statement_count p)) (λ c. resumed_keeps Z S q (n + 1 + statement_count p) v b.1 c))
resumed_keeps Z S (Trap p) n v b h = keeps_trap n (resumed_keeps Z S p (n + 1) v b h)
resumed_keeps Z S (Local s p) n v b h =
    keeps_signals _ (keeps_only (Local s p) n refl (λ T. refl) (resumed_keeps Z S p (n + 1) (with_value v s (Z n Resumed)) b h))
resumed_keeps Z S (Awake e p) n v b h = absurd b
resumed_keeps Z S _ n v b h = absurd (false≢true h)
