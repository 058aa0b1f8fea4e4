-- A step that does what a walk does: it completes with the walk's code, and leaves what the pauses leave that the walk
-- keeps. One lemma for each form, from the steps of its parts.
use Rattle.std.proofs.Common.{◌≡◌, ℕ, ◌+◌, Bool, true, false, not, ◌&&◌, ◌||◌, ◌==◌, cond, max, Option, Some, refl, sym, ap, ◌∙◌, subst, ⊎_elim}
use Rattle.std.proofs.Common.{arith}
use Rattle.std.proofs.lemmas.Bool.{eqb-true, eqb-false, cases_Bool}
use Rattle.est_kernel.specs.Terms.{Expression, Term, Nothing, Present, Suspend, Seq, Par, Trap, Local, Awake}
use Rattle.est_kernel.specs.Statuses.{Environment, with_status, known, value}
use Rattle.est_kernel.specs.Potentials.{decided}
use Rattle.est_kernel.specs.Preorder.{statement_count}
use Rattle.est_kernel.specs.Steps.{Step, step, left_by, leaving, leaves, chosen_step, then_step, sequence_step, parallel_step, trap_step, local_step}
use Rattle.est_kernel.specs.Steps.{where_known, trap_code}
use Rattle.grc_graph.specs.Residuals.{holds, left_if, residual}
use Rattle.grc_graph.specs.Walk.{Walk, ended, then_walk, both_walks, trapped_walk, hidden_walk}
use Rattle.grc_graph.specs.Walk.{selected_in}
use Rattle.grc_solutions_laws.proofs.Kept.{Same, same_within, first_same, second_same, only_same, Keeps, holds_same, residual_same, second_none, first_none}
use Rattle.grc_solutions_laws.proofs.Kept.{both_first}
use Rattle.grc_solutions_laws.proofs.Kept.{both_second, selected_same, holds_none}

-- the step of the term t, which is what is left of the statement p at n, or p at its start
pub record Stepped (t : Term) (E : Environment) (w : Walk) (p : Term) (n : ℕ) : Type 0 where
  pub done : Step
  pub is : step t E ≡ Some done
  pub code : done.code ≡ w.code
  pub left : (T : ℕ → Bool) → Same T w.kept n (n + statement_count p) → done.residual ≡ left_if (holds T p n) (residual T p n)

left_first : (a b : Bool) (r s : Term) → b ≡ false → left_if a r ≡ left_if (a || b) (cond a r s)
left_first true b r s e = refl
left_first false true r s e = cc
left_first false false r s e = refl

left_second : (a b : Bool) (r s : Term) → a ≡ false → left_if b s ≡ left_if (a || b) (cond a r s)
left_second true b r s e = cc
left_second false b r s e = refl

lifted_by : (d h : Bool) (f : Term → Term) (x u : Term) → h ≡ d → x ≡ left_if h u → cond d (f x) Nothing ≡ left_if h (f u)
lifted_by true true f x u e g = ap f g
lifted_by true false f x u e g = cc
lifted_by false true f x u e g = cc
lifted_by false false f x u e g = refl

-- what a whole leaves round what its one part left
pub lifted : (c : ℕ) (h : Bool) (f : Term → Term) (x u : Term) → h ≡ (c == 1) → x ≡ left_if h u → left_by c (f x) ≡ left_if h (f u)
lifted c h f x u = lifted_by (c == 1) h f x u

known_where : (c : Bool) (a : Option Step) → where_known (known c) a ≡ a
known_where true a = refl
known_where false a = refl

-- a part alone
pub stepped_only : {E : Environment} {w : Walk} {p : Term} (F : Term → Term) (u whole : Term) (n : ℕ) (x : Step)
    → statement_count whole ≡ 1 + statement_count p →
    ((T : ℕ → Bool) → holds T whole n ≡ holds T p (n + 1)) → ((T : ℕ → Bool) → residual T whole n ≡ F (residual T p (n + 1))) → step u E ≡ Some (leaving F x) →
    x.code ≡ w.code → ((T : ℕ → Bool) → Same T w.kept (n + 1) (n + 1 + statement_count p) → x.residual ≡ left_if (holds T p (n + 1)) (residual T p (n + 1))) →
    Keeps w p (n + 1) → Stepped u E w whole n
stepped_only {E} {w} {p} F u whole n x c h r e k l keeps =
    record {
      done = leaving F x;
      is = e;
      code = k;
      left = λ T s.
          let i = same_within n (n + statement_count whole) (n + 1) (n + 1 + statement_count p) (omega arith) (omega arith) s in
          lifted x.code (holds T p (n + 1)) F x.residual (residual T p (n + 1)) (keeps.held T i ∙ ap (λ j. j == 1) (sym k)) (l T i)
          ∙ ap (λ b. left_if b (F (residual T p (n + 1)))) (sym (h T)) ∙ ap (λ y. left_if (holds T whole n) y) (sym (r T));
    }

-- a sequence whose first part, at n + 1, is left as F of what is left of it: the whole holds the parts p and q
module _ (p q whole : Term) (n : ℕ) (F : Term → Term) where
  abbrev m : ℕ
  m = n + 1 + statement_count p

  pub record Two : Type 0 where
    pub count : statement_count whole ≡ 1 + statement_count p + statement_count q
    pub holding : (T : ℕ → Bool) → holds T whole n ≡ (holds T p (n + 1) || holds T q m)
    pub leaving_is : (T : ℕ → Bool) → residual T whole n ≡ cond (holds T p (n + 1)) (F (residual T p (n + 1))) (residual T q m)

  whole_left : Two → (T : ℕ → Bool) → left_if (holds T p (n + 1) || holds T q m) (cond (holds T p (n + 1)) (F (residual T p (n + 1))) (residual T q m)) ≡
      left_if (holds T whole n) (residual T whole n)
  whole_left two T =
      ap (λ b. left_if b (cond (holds T p (n + 1)) (F (residual T p (n + 1))) (residual T q m))) (sym (two.holding T))
      ∙ ap (λ y. left_if (holds T whole n) y) (sym (two.leaving_is T))

  -- the first part alone goes on
  pub first_left : {w : Walk} (x : Step) → Two → x.code ≡ w.code → ((T : ℕ → Bool) → Same T w.kept (n + 1) (n + 1 + statement_count p) →
      x.residual ≡ left_if (holds T p (n + 1)) (residual T p (n + 1))) → Keeps w p (n + 1) → (T : ℕ → Bool) → Same T w.kept n (n + statement_count whole) →
      left_by x.code (F x.residual) ≡ left_if (holds T whole n) (residual T whole n)
  first_left {w} x two c l keeps T s =
      let u = subst (λ j. Same T w.kept n (n + j)) two.count s in
      let i = first_same n (statement_count p) (statement_count q) u in
      lifted x.code (holds T p (n + 1)) F x.residual (residual T p (n + 1)) (keeps.held T i ∙ ap (λ j. j == 1) (sym c)) (l T i)
      ∙ left_first (holds T p (n + 1)) (holds T q m) (F (residual T p (n + 1))) (residual T q m) (second_none q n T keeps u)
      ∙ whole_left two T

  -- the second part goes on
  pub second_left : {w : Walk} (x : Term) → Two → ((T : ℕ → Bool) → Same T w.kept m (m + statement_count q) → x ≡ left_if (holds T q m) (residual T q m)) →
      Keeps w q m → (T : ℕ → Bool) → Same T w.kept n (n + statement_count whole) → x ≡ left_if (holds T whole n) (residual T whole n)
  second_left {w} x two l keeps T s =
      let u = subst (λ j. Same T w.kept n (n + j)) two.count s in
      let i = second_same n (statement_count p) (statement_count q) u in
      l T i ∙ left_second (holds T p (n + 1)) (holds T q m) (F (residual T p (n + 1))) (residual T q m) (first_none p n T keeps u)
      ∙ whole_left two T

-- a sequence of two terms t and q': the parts
turn_step : (t u q' : Term) (E : Environment) (x : Walk) (y : Walk) (a : Step) → step t E ≡ Some a → a.code ≡ x.code → (P : Option Step → Walk → Type 0) →
    ((x.code ≡ 0) → P (then_step a (step u E)) (record { signals = λ s. x.signals s || y.signals s; code = y.code; kept = y.kept })) →
    ((x.code ≡ 0 → ⊥) → P (Some (leaving (λ r. Seq r q') a)) x) → P (sequence_step q' (step t E) (step u E)) (then_walk x y)
turn_step t u q' E x y a e c P f g =
    subst (λ o. P (sequence_step q' o (step u E)) (then_walk x y)) (sym e)
    (⊎_elim
    (λ z.
    let i : (a.code == 0) ≡ true = ap (λ j. j == 0) c ∙ z in
    subst (λ b. P (cond b (then_step a (step u E)) (Some (leaving (λ r. Seq r q') a))) (then_walk x y)) (sym i)
    (subst (λ b. P (then_step a (step u E)) (cond b (record { signals = λ s. x.signals s || y.signals s; code = y.code; kept = y.kept }) x)) (sym z)
    (f (eqb-true x.code 0 z))))
    (λ z.
    let i : (a.code == 0) ≡ false = ap (λ j. j == 0) c ∙ z in
    subst (λ b. P (cond b (then_step a (step u E)) (Some (leaving (λ r. Seq r q') a))) (then_walk x y)) (sym i)
    (subst (λ b. P (Some (leaving (λ r. Seq r q') a)) (cond b (record { signals = λ s. x.signals s || y.signals s; code = y.code; kept = y.kept }) x)) (sym z)
    (g (eqb-false x.code 0 z))))
    (cases_Bool (x.code == 0)))

-- a step that is there, with this code, and leaves what a walk keeps
abbrev pub Leaves : Option Step → Walk → Term → ℕ → Type 0
Leaves o w p n =
    (x : Step) × (o ≡ Some x) × (x.code ≡ w.code)
    × ((T : ℕ → Bool) → Same T w.kept n (n + statement_count p) → x.residual ≡ left_if (holds T p n) (residual T p n))

pub from_leaves : {t : Term} {E : Environment} {w : Walk} {p : Term} {n : ℕ} → Leaves (step t E) w p n → Stepped t E w p n
from_leaves l = record { done = l.0; is = l.1; code = l.2; left = l.3 }

-- a test
pub present_step : (c : Bool) (e : Expression) (p q : Term) (n : ℕ) {E : Environment} {x y : Walk} → value e E ≡ known c → Keeps x p (n + 1) →
    Keeps y q (n + 1 + statement_count p) → (c ≡ true → Stepped p E x p (n + 1)) → (c ≡ false → Stepped q E y q (n + 1 + statement_count p)) →
    Stepped (Present e p q) E (cond c x y) (Present e p q) n
present_step true e p q n {E} {x} {y} v kx ky f g =
    let s = f refl in
    record {
      done = s.done;
      is = ap (λ z. chosen_step z (step p E) (step q E)) v ∙ s.is;
      code = s.code;
      left = λ T h.
          let i = first_same n (statement_count p) (statement_count q) h in
          s.left T i ∙ left_first (holds T p (n + 1)) _ (residual T p (n + 1)) _ (second_none q n T kx h);
    }
present_step false e p q n {E} {x} {y} v kx ky f g =
    let s = g refl in
    record {
      done = s.done;
      is = ap (λ z. chosen_step z (step p E) (step q E)) v ∙ s.is;
      code = s.code;
      left = λ T h.
          let i = second_same n (statement_count p) (statement_count q) h in
          s.left T i ∙ left_second (holds T p (n + 1)) _ (residual T p (n + 1)) _ (first_none p n T ky h);
    }

-- a parallel
both_left : (c : ℕ) (d h k : Bool) (x y u v : Term) → (c == 1) ≡ d → (d ≡ true → (x ≡ left_if h u) × (y ≡ left_if k v) × ((h || k) ≡ true)) →
    (d ≡ false → (h || k) ≡ false) → left_by c (Par x y) ≡ left_if (h || k) (Par (left_if h u) (left_if k v))
both_left c true h k x y u v e f g =
    let i = f refl in
    ap (λ b. cond b (Par x y) Nothing) e ∙ ap (λ z. Par z y) i.0 ∙ ap (λ z. Par (left_if h u) z) i.1
    ∙ ap (λ b. left_if b (Par (left_if h u) (left_if k v))) (sym i.2)
both_left c false h k x y u v e f g =
    ap (λ b. cond b (Par x y) Nothing) e ∙ ap (λ b. left_if b (Par (left_if h u) (left_if k v))) (sym (g refl))

pub par_step : (t u p q : Term) (n : ℕ) {E : Environment} {x y : Walk} → Keeps x p (n + 1) → Keeps y q (n + 1 + statement_count p) →
    Keeps (both_walks x y) (Par p q) n → Stepped t E x p (n + 1) → Stepped u E y q (n + 1 + statement_count p) →
    Stepped (Par t u) E (both_walks x y) (Par p q) n
par_step t u p q n {E} {x} {y} kx ky kb s r =
    let a = s.done in
    let b = r.done in
    record {
      done = record { emitted = λ i. a.emitted i || b.emitted i; code = max a.code b.code; residual = left_by (max a.code b.code) (Par a.residual b.residual) };
      is = ap (λ o. parallel_step o (step u E)) s.is ∙ ap (λ o. parallel_step (Some a) o) r.is;
      code = ap (λ i. max i b.code) s.code ∙ ap (λ i. max x.code i) r.code;
      left = λ T h.
          let c : max a.code b.code ≡ max x.code y.code = ap (λ i. max i b.code) s.code ∙ ap (λ i. max x.code i) r.code in
          both_left (max a.code b.code) (max x.code y.code == 1) (holds T p (n + 1)) (holds T q (n + 1 + statement_count p))
          a.residual b.residual (residual T p (n + 1)) (residual T q (n + 1 + statement_count p))
          (ap (λ i. i == 1) c)
          (λ d. (
            s.left T (both_first x p n T ky d h),
            r.left T (both_second y q n T kx d h),
            kb.held T h ∙ d,
          ))
          (λ d. kb.held T h ∙ d);
    }

pub trap_left : (t p : Term) (n : ℕ) {E : Environment} {x : Walk} → Keeps x p (n + 1) → Keeps (trapped_walk x) (Trap p) n → Stepped t E x p (n + 1) →
    Stepped (Trap t) E (trapped_walk x) (Trap p) n
trap_left t p n {E} {x} k kt s =
    let a = s.done in
    record {
      done = record { emitted = a.emitted; code = trap_code a.code; residual = left_by (trap_code a.code) (Trap a.residual) };
      is = ap trap_step s.is;
      code = ap trap_code s.code;
      left = λ T h.
          ⊎_elim
          (λ d.
          let e : (trap_code a.code == 1) ≡ true = ap (λ i. trap_code i == 1) s.code ∙ d in
          let i : Same T x.kept (n + 1) (n + 1 + statement_count p) =
          record { at = λ m l u. h.at m (omega arith) (omega arith) ∙ ap (λ b. b && x.kept m) d } in
          lifted (trap_code a.code) (holds T p (n + 1)) Trap a.residual (residual T p (n + 1)) (kt.held T h ∙ d ∙ sym e) (s.left T i))
          (λ d.
          let e : (trap_code a.code == 1) ≡ false = ap (λ i. trap_code i == 1) s.code ∙ d in
          ap (λ b. cond b (Trap a.residual) Nothing) e
          ∙ ap (λ b. left_if b (Trap (residual T p (n + 1)))) (sym (kt.held T h ∙ d)))
          (cases_Bool (trap_code x.code == 1));
    }

pub local_left : (s : ℕ) (t p : Term) (n : ℕ) (b : Bool) {E : Environment} {x : Walk} → decided t E s ≡ known b → Keeps x p (n + 1) →
    Stepped t (with_status E s (known b)) x p (n + 1) → Stepped (Local s t) E (hidden_walk s x) (Local s p) n
local_left s t p n b {E} {x} d k h =
    let a = h.done in
    record {
      done = record { emitted = λ i. a.emitted i && not (i == s); code = a.code; residual = left_by a.code (Local s a.residual) };
      is =
          ap (λ z. where_known z (local_step s (step t (with_status E s z)))) d
          ∙ known_where b _ ∙ ap (local_step s) h.is;
      code = h.code;
      left = λ T i.
          let j = only_same n (statement_count p) i in
          lifted a.code (holds T p (n + 1)) (λ r. Local s r) a.residual (residual T p (n + 1))
          (k.held T j ∙ ap (λ c. c == 1) (sym h.code)) (h.left T j);
    }

pub awake_step : (c : Bool) (e : Expression) (t p : Term) (S : ℕ → Bool) (n : ℕ) {E : Environment} {x : Walk} → value e E ≡ known c → holds S p (n + 1) ≡ true →
    t ≡ residual S p (n + 1) → Keeps x p (n + 1) → (c ≡ false → Stepped t E x p (n + 1)) →
    Stepped (Awake e t) E (cond c (record { signals = λ i. false; code = 1; kept = selected_in S p (n + 1) }) x) (Suspend e p) n
awake_step true e t p S n {E} {x} v h i k f =
    record {
      done = record { emitted = λ j. false; code = 1; residual = Awake e t };
      is = ap (λ z. chosen_step z (Some (record { emitted = λ j. false; code = 1; residual = Awake e t })) (leaves (λ r. Awake e r) (step t E))) v;
      code = refl;
      left = λ T s.
          let same = selected_same S T p (n + 1) (only_same n (statement_count p) s) in
          ap (λ r. Awake e r) (i ∙ sym (residual_same T S p (n + 1) same))
          ∙ ap (λ b. left_if b (Awake e (residual T p (n + 1)))) (sym (holds_same T S p (n + 1) same ∙ h));
    }
awake_step false e t p S n {E} {x} v h i k f =
    let s = f refl in
    stepped_only {p = p} (λ r. Awake e r) (Awake e t) (Suspend e p) n s.done refl (λ T. refl) (λ T. refl)
    (ap (λ z. chosen_step z (Some (record { emitted = λ j. false; code = 1; residual = Awake e t })) (leaves (λ r. Awake e r) (step t E))) v
    ∙ ap (leaves (λ r. Awake e r)) s.is)
    s.code s.left k

-- a sequence whose second term is u; the whole is the statement that is left or started
pub seq_step : (t u whole p : Term) (n c : ℕ) {E : Environment} {x : Walk} (y : Walk) → (s : Stepped t E x p c) →
    ((x.code ≡ 0 → ⊥) → (T : ℕ → Bool) → Same T x.kept n (n + statement_count whole) →
    left_by s.done.code (Seq s.done.residual u) ≡ left_if (holds T whole n) (residual T whole n)) → (x.code ≡ 0 → Leaves (step u E) y whole n) →
    Stepped (Seq t u) E (then_walk x y) whole n
seq_step t u whole p n c {E} {x} y s f g =
    from_leaves {t = Seq t u} {E = E}
    (turn_step t u u E x y s.done s.is s.code (λ o w. Leaves o w whole n)
    (λ z.
    let h = g z in
    let b = h.0 in (
      record { emitted = λ i. s.done.emitted i || b.emitted i; code = b.code; residual = b.residual },
      ap (then_step s.done) h.1,
      h.2,
      h.3,
    ))
    (λ z. (leaving (λ r. Seq r u) s.done, refl, s.code, f z)))

pub held_step : (S : ℕ → Bool) (c : Bool) (t u whole : Term) (n : ℕ) {E : Environment} {x y : Walk} → (c ≡ true → Stepped t E x whole n) →
    (c ≡ false → Stepped u E y whole n) → Stepped (cond c t u) E (cond c x y) whole n
held_step S true t u whole n f g = f refl
held_step S false t u whole n f g = g refl

pub branch_step : (c : Bool) (t p : Term) (n : ℕ) {E : Environment} {x : Walk} → (c ≡ true → Stepped t E x p n)
    → Stepped (left_if c t) E (cond c x (ended 0)) p n
branch_step true t p n f = f refl
branch_step false t p n f =
    record {
      done = _;
      is = refl;
      code = refl;
      left = λ T s. ap (λ b. left_if b (residual T p n)) (sym (holds_none T p n (λ m l u. s.at m l u)));
    }

-- the part of a statement with two parts that alone holds a selected pause
pub held_first : (p q whole : Term) (n : ℕ) (t : Term) {E : Environment} {x : Walk} → Two p q whole n (λ z. z) → Keeps x p (n + 1) → Stepped t E x p (n + 1) →
    Stepped t E x whole n
held_first p q whole n t {E} {x} two k s =
    record {
      done = s.done;
      is = s.is;
      code = s.code;
      left = λ T h.
          let u = subst (λ j. Same T x.kept n (n + j)) two.count h in
          s.left T (first_same n (statement_count p) (statement_count q) u)
          ∙ left_first (holds T p (n + 1)) _ (residual T p (n + 1)) _ (second_none q n T k u)
          ∙ whole_left p q whole n (λ z. z) two T;
    }

pub held_second : (p q whole : Term) (n : ℕ) (F : Term → Term) (t : Term) {E : Environment} {x : Walk} → Two p q whole n F →
    Keeps x q (n + 1 + statement_count p) → Stepped t E x q (n + 1 + statement_count p) → Stepped t E x whole n
held_second p q whole n F t {E} {x} two k s =
    record {
      done = s.done;
      is = s.is;
      code = s.code;
      left = second_left p q whole n F s.done.residual two s.left k;
    }
