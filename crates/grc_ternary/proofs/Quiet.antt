-- Layers in which a statement is not live: the graph has no wire of it there, so statuses that are false off the wires
-- are false on all names of such wires.
use Rattle.std.proofs.Common.{◌≡◌, ℕ, ◌+◌, ◌<◌, ◌≤◌, Bool, true, false, ◌&&◌, ◌||◌, ◌==◌, cond, ltb, List, [], ◌++◌, refl, ap, ◌∙◌}
use Rattle.std.proofs.Common.{arith}
use Rattle.std.specs.List.{list_any}
use Rattle.std.proofs.lemmas.List.Folds.{list_any-append}
use Rattle.std.proofs.lemmas.Bool.{and_left, and_right, and_parts, or_from, ne_eqb, cond_both, both_ways}
use Rattle.est_kernel.specs.Terms.{Term, Nothing, Pause, Emit, Exit, Present, Suspend, Seq, Loop, Par, Trap, Local, Awake}
use Rattle.est_kernel.specs.Statuses.{Minus}
use Rattle.est_kernel.specs.Preorder.{statement_count}
use Rattle.est_kernel.specs.StaticCodes.{started_codes, resumed_codes}
use Rattle.grc_graph.specs.Layers.{Layer, Resumed, Started, Liveness, layers_of, liveness_at, root_if, same_layer, part_liveness, second_liveness}
use Rattle.grc_graph.specs.Layers.{loop_liveness}
use Rattle.grc_graph.specs.Wires.{Go, StatusOf, End}
use Rattle.grc_graph.proofs.Exports.{Agrees}
use Rattle.grc_solutions_laws.proofs.Exports.{any_layers, any_if, any_root, any_nothing}
use Rattle.grc_ternary.specs.LeastSolutions.{Statuses}

-- whether a statement with these layers is live in a layer
abbrev pub lives : List Layer → Layer → Bool
lives ls l = list_any (λ j. same_layer l j) ls

abbrev pub has_root : ℕ → List ℕ → Bool
has_root x rs = list_any (λ y. x == y) rs

lives_started : (b : Liveness) (x : ℕ) → lives (layers_of b) (Started x) ≡ has_root x b.roots
lives_started b x = any_layers (λ j. same_layer (Started x) j) b.resumed b.roots ∙ ap (λ c. c || has_root x b.roots) (and_right b.resumed false refl)

lives_resumed : (b : Liveness) → b.resumed ≡ false → lives (layers_of b) Resumed ≡ false
lives_resumed b e =
    any_layers (λ j. same_layer Resumed j) b.resumed b.roots
    ∙ ap (λ c. (c && true) || list_any (λ r. false) b.roots) e
    ∙ any_nothing (λ r. false) b.roots (λ x i. refl)

-- ---- a part that may be resumed with the whole

pub on_part : (a : Liveness) (x : Bool) → a.resumed ≡ true → x ≡ true → (a.resumed && x) ≡ true
on_part a x i e = ap (λ b. b && x) i ∙ e

pub off_part : (a : Liveness) (x : Bool) → x ≡ false → (a.resumed && x) ≡ false
off_part a x e = ap (λ b. a.resumed && b) e ∙ and_right a.resumed false refl

-- ---- roots and resumption of the parts

second_off : (x n m : ℕ) (c d res : Bool) (rs : List ℕ) → n < m → (c ≡ true → has_root x rs ≡ false) → (res ≡ true → x ≤ n) →
    has_root x (cond c rs [] ++ root_if (res && d) m) ≡ false
second_off x n m c d res rs l h k =
    list_any-append (λ y. x == y) (cond c rs []) (root_if (res && d) m)
    ∙ or_from _ _ (any_if c (λ y. x == y) rs ∙ kept c h) (any_root (res && d) (λ y. x == y) m ∙ own res k)
  where
    kept : (c : Bool) → (c ≡ true → has_root x rs ≡ false) → (c && has_root x rs) ≡ false
    kept true h = h refl
    kept false h = refl

    own : (res : Bool) → (res ≡ true → x ≤ n) → ((res && d) && x == m) ≡ false
    own true k = let i = k refl in and_right d (x == m) (ne_eqb x m (λ e. omega arith))
    own false k = refl

loop_off : (x n : ℕ) (d res : Bool) (rs : List ℕ) → has_root x rs ≡ false → (res ≡ true → x ≤ n) → has_root x (rs ++ root_if (res && d) (n + 1)) ≡ false
loop_off x n d res rs h k = second_off x n (n + 1) true d res rs (omega arith) (λ c. h) k

first_true : (x y : Bool) → (x && y) ≡ true → x ≡ true
first_true x y e = (and_parts x y e).0

-- a root that a statement does not have, and that none of its parts can have as its own, is none of its parts' roots
roots_off : (x : ℕ) (b : Liveness) (t : Term) (n m : ℕ) → has_root x b.roots ≡ false → (b.resumed ≡ true → x ≤ n) →
    has_root x (liveness_at b t n m).roots ≡ false
roots_off x b (Present e p q) n m h k =
    let r = n + 1 + statement_count p in
    cond_both (m == n) b _ (λ (l : Liveness). has_root x l.roots ≡ false) (λ z. h)
    (λ z. cond_both (ltb m r) _ _ (λ (l : Liveness). has_root x l.roots ≡ false)
    (λ y. roots_off x (part_liveness b p) p (n + 1) m h (λ c. let i = k (first_true _ _ c) in omega arith))
    (λ y. roots_off x (part_liveness b q) q r m h (λ c. let i = k (first_true _ _ c) in omega arith)))
roots_off x b (Suspend e p) n m h k =
    cond_both (m == n) b _ (λ (l : Liveness). has_root x l.roots ≡ false) (λ z. h)
    (λ z. roots_off x (part_liveness b p) p (n + 1) m h (λ c. let i = k (first_true _ _ c) in omega arith))
roots_off x b (Seq p q) n m h k =
    let r = n + 1 + statement_count p in
    cond_both (m == n) b _ (λ (l : Liveness). has_root x l.roots ≡ false) (λ z. h)
    (λ z. cond_both (ltb m r) _ _ (λ (l : Liveness). has_root x l.roots ≡ false)
    (λ y. roots_off x (part_liveness b p) p (n + 1) m h (λ c. let i = k (first_true _ _ c) in omega arith))
    (λ y. roots_off x (second_liveness b p q r) q r m
    (second_off x n r (started_codes p 0) (resumed_codes p 0) b.resumed b.roots (omega arith) (λ c. h) k)
    (λ c. let i = k (first_true _ _ c) in omega arith)))
roots_off x b (Loop at p) n m h k =
    cond_both (m == n) b _ (λ (l : Liveness). has_root x l.roots ≡ false) (λ z. h)
    (λ z. roots_off x (loop_liveness b p (n + 1)) p (n + 1) m (loop_off x n (resumed_codes p 0) b.resumed b.roots h k)
    (λ c. let i = k (first_true _ _ c) in omega arith))
roots_off x b (Par p q) n m h k =
    let r = n + 1 + statement_count p in
    cond_both (m == n) b _ (λ (l : Liveness). has_root x l.roots ≡ false) (λ z. h)
    (λ z. cond_both (ltb m r) _ _ (λ (l : Liveness). has_root x l.roots ≡ false)
    (λ y. roots_off x (part_liveness b p) p (n + 1) m h (λ c. let i = k (first_true _ _ c) in omega arith))
    (λ y. roots_off x (part_liveness b q) q r m h (λ c. let i = k (first_true _ _ c) in omega arith)))
roots_off x b (Trap p) n m h k =
    cond_both (m == n) b _ (λ (l : Liveness). has_root x l.roots ≡ false) (λ z. h)
    (λ z. roots_off x (part_liveness b p) p (n + 1) m h (λ c. let i = k (first_true _ _ c) in omega arith))
roots_off x b (Local s p) n m h k =
    cond_both (m == n) b _ (λ (l : Liveness). has_root x l.roots ≡ false) (λ z. h)
    (λ z. roots_off x (part_liveness b p) p (n + 1) m h (λ c. let i = k (first_true _ _ c) in omega arith))
roots_off x b _ n m h k = h

-- of what cannot be resumed no part can
resumed_off : (b : Liveness) (t : Term) (n m : ℕ) → b.resumed ≡ false → (liveness_at b t n m).resumed ≡ false
resumed_off b (Present e p q) n m h =
    cond_both (m == n) b _ (λ (l : Liveness). l.resumed ≡ false) (λ z. h)
    (λ z. cond_both (ltb m (n + 1 + statement_count p)) _ _ (λ (l : Liveness). l.resumed ≡ false)
    (λ y. resumed_off (part_liveness b p) p (n + 1) m (and_left b.resumed _ h))
    (λ y. resumed_off (part_liveness b q) q (n + 1 + statement_count p) m (and_left b.resumed _ h)))
resumed_off b (Suspend e p) n m h =
    cond_both (m == n) b _ (λ (l : Liveness). l.resumed ≡ false) (λ z. h) (λ z. resumed_off (part_liveness b p) p (n + 1) m (and_left b.resumed _ h))
resumed_off b (Seq p q) n m h =
    cond_both (m == n) b _ (λ (l : Liveness). l.resumed ≡ false) (λ z. h)
    (λ z. cond_both (ltb m (n + 1 + statement_count p)) _ _ (λ (l : Liveness). l.resumed ≡ false)
    (λ y. resumed_off (part_liveness b p) p (n + 1) m (and_left b.resumed _ h))
    (λ y. resumed_off (second_liveness b p q (n + 1 + statement_count p)) q (n + 1 + statement_count p) m (and_left b.resumed _ h)))
resumed_off b (Loop at p) n m h =
    cond_both (m == n) b _ (λ (l : Liveness). l.resumed ≡ false) (λ z. h) (λ z. resumed_off (loop_liveness b p (n + 1)) p (n + 1) m (and_left b.resumed _ h))
resumed_off b (Par p q) n m h =
    cond_both (m == n) b _ (λ (l : Liveness). l.resumed ≡ false) (λ z. h)
    (λ z. cond_both (ltb m (n + 1 + statement_count p)) _ _ (λ (l : Liveness). l.resumed ≡ false)
    (λ y. resumed_off (part_liveness b p) p (n + 1) m (and_left b.resumed _ h))
    (λ y. resumed_off (part_liveness b q) q (n + 1 + statement_count p) m (and_left b.resumed _ h)))
resumed_off b (Trap p) n m h =
    cond_both (m == n) b _ (λ (l : Liveness). l.resumed ≡ false) (λ z. h) (λ z. resumed_off (part_liveness b p) p (n + 1) m (and_left b.resumed _ h))
resumed_off b (Local s p) n m h =
    cond_both (m == n) b _ (λ (l : Liveness). l.resumed ≡ false) (λ z. h) (λ z. resumed_off (part_liveness b p) p (n + 1) m (and_left b.resumed _ h))
resumed_off b _ n m h = h

-- ---- statuses that are false where nothing is live

abbrev pub AllMinus : Statuses → ℕ → Layer → Type 0
AllMinus U m l = (U (Go m l) ≡ Minus) × (U (StatusOf m l) ≡ Minus) × ((k : ℕ) → U (End m l k) ≡ Minus)

-- the statuses at the numbers from n on, so many of them, in a layer
pub record Quiet (U : Statuses) (l : Layer) (n c : ℕ) : Type 0 where
  pub at : (m : ℕ) → n ≤ m → m < n + c → AllMinus U m l

-- the statuses are false on the wires that the layers of statements rule out
pub record OffLayers (L : ℕ → List Layer) (U : Statuses) : Type 0 where
  pub off : (m : ℕ) (l : Layer) → lives (L m) l ≡ false → AllMinus U m l

pub quiet_only : {U : Statuses} {l : Layer} (n c : ℕ) → Quiet U l n (1 + c) → Quiet U l (n + 1) c
quiet_only n c q = record { at = λ m i j. q.at m (omega arith) (omega arith) }

pub quiet_first : {U : Statuses} {l : Layer} (n c d : ℕ) → Quiet U l n (1 + c + d) → Quiet U l (n + 1) c
quiet_first n c d q = record { at = λ m i j. q.at m (omega arith) (omega arith) }

pub quiet_second : {U : Statuses} {l : Layer} (n c d : ℕ) → Quiet U l n (1 + c + d) → Quiet U l (n + 1 + c) d
quiet_second n c d q = record { at = λ m i j. q.at m (omega arith) (omega arith) }

module _ (L : ℕ → List Layer) (U : Statuses) (o : OffLayers L U) where
  -- a start that a statement does not have
  pub start_quiet : (x : ℕ) (b : Liveness) (t : Term) (n : ℕ) → Agrees L b t n → has_root x b.roots ≡ false → (b.resumed ≡ true → x ≤ n) →
      Quiet U (Started x) n (statement_count t)
  start_quiet x b t n g h k = record {
    at = λ m i j.
        o.off m (Started x)
        (ap (λ ls. lives ls (Started x)) (g.each m i j) ∙ lives_started (liveness_at b t n m) x ∙ roots_off x b t n m h k);
  }

  -- a statement that cannot be resumed
  pub resumed_quiet : (b : Liveness) (t : Term) (n : ℕ) → Agrees L b t n → b.resumed ≡ false → Quiet U Resumed n (statement_count t)
  resumed_quiet b t n g h = record {
    at = λ m i j.
        o.off m Resumed
        (ap (λ ls. lives ls Resumed) (g.each m i j) ∙ lives_resumed (liveness_at b t n m) (resumed_off b t n m h));
  }

-- the roots that the second part of a sequence has
pub second_root_off : (x n m : ℕ) (a : Liveness) (p q : Term) → n < m → x ≤ n → started_codes p 0 ≡ false → has_root x (second_liveness a p q m).roots ≡ false
second_root_off x n m a p q l i e =
    second_off x n m (started_codes p 0) (resumed_codes p 0) a.resumed a.roots l (λ c. absurd (both_ways (started_codes p 0) e c)) (λ c. i)

-- its own root, where the first part cannot end when it is resumed
pub own_root_off : (n m : ℕ) (a : Liveness) (p q : Term) → has_root m a.roots ≡ false → (a.resumed && resumed_codes p 0) ≡ false →
    has_root m (second_liveness a p q m).roots ≡ false
own_root_off n m a p q h e =
    list_any-append (λ y. m == y) (cond (started_codes p 0) a.roots []) (root_if (a.resumed && resumed_codes p 0) m)
    ∙ or_from _ _ (any_if (started_codes p 0) (λ y. m == y) a.roots ∙ and_right (started_codes p 0) (has_root m a.roots) h)
    (any_root (a.resumed && resumed_codes p 0) (λ y. m == y) m ∙ and_left (a.resumed && resumed_codes p 0) _ e)

pub own_loop_off : (n : ℕ) (a : Liveness) (p : Term) → has_root (n + 1) a.roots ≡ false → (a.resumed && resumed_codes p 0) ≡ false →
    has_root (n + 1) (loop_liveness a p (n + 1)).roots ≡ false
own_loop_off n a p h e =
    list_any-append (λ y. (n + 1) == y) a.roots (root_if (a.resumed && resumed_codes p 0) (n + 1))
    ∙ or_from _ _ h (any_root (a.resumed && resumed_codes p 0) (λ y. (n + 1) == y) (n + 1) ∙ and_left (a.resumed && resumed_codes p 0) _ e)

-- a statement and its own starts are nowhere live: it cannot be resumed, and has no root below its own number
pub record DeepQuiet (U : Statuses) (n c : ℕ) : Type 0 where
  pub resumed : Quiet U Resumed n c
  pub own : (x : ℕ) → n < x → Quiet U (Started x) n c

-- no root stands behind the statement
abbrev pub LowRoots : List ℕ → ℕ → Type 0
LowRoots rs n = (x : ℕ) → n < x → has_root x rs ≡ false

pub low_second : (a : Liveness) (p q : Term) (n m : ℕ) → n < m → LowRoots a.roots n → LowRoots (second_liveness a p q m).roots m
low_second a p q n m l h x i =
    list_any-append (λ y. x == y) (cond (started_codes p 0) a.roots []) (root_if (a.resumed && resumed_codes p 0) m)
    ∙ or_from _ _ (any_if (started_codes p 0) (λ y. x == y) a.roots ∙ and_right (started_codes p 0) (has_root x a.roots) (h x (omega arith)))
    (any_root (a.resumed && resumed_codes p 0) (λ y. x == y) m ∙ and_right (a.resumed && resumed_codes p 0) (x == m) (ne_eqb x m (λ e. omega arith)))

pub low_loop : (a : Liveness) (p : Term) (n : ℕ) → LowRoots a.roots n → LowRoots (loop_liveness a p (n + 1)).roots (n + 1)
low_loop a p n h x i =
    list_any-append (λ y. x == y) a.roots (root_if (a.resumed && resumed_codes p 0) (n + 1))
    ∙ or_from _ _ (h x (omega arith))
    (any_root (a.resumed && resumed_codes p 0) (λ y. x == y) (n + 1)
    ∙ and_right (a.resumed && resumed_codes p 0) (x == (n + 1)) (ne_eqb x (n + 1) (λ e. omega arith)))

pub low_more : (rs : List ℕ) (n m : ℕ) → n ≤ m → LowRoots rs n → LowRoots rs m
low_more rs n m l h x i = h x (omega arith)

pub deep_quiet : (L : ℕ → List Layer) (U : Statuses) → OffLayers L U → (b : Liveness) (t : Term) (n : ℕ) → Agrees L b t n → b.resumed ≡ false →
    LowRoots b.roots n → DeepQuiet U n (statement_count t)
deep_quiet L U o b t n g e h = record {
  resumed = resumed_quiet L U o b t n g e;
  own = λ x i. start_quiet L U o x b t n g (h x i) (λ c. absurd (both_ways b.resumed e c));
}

pub deep_only : {U : Statuses} (n c : ℕ) → DeepQuiet U n (1 + c) → DeepQuiet U (n + 1) c
deep_only n c d = record { resumed = quiet_only n c d.resumed; own = λ x i. quiet_only n c (d.own x (omega arith)) }

pub deep_first : {U : Statuses} (n c e : ℕ) → DeepQuiet U n (1 + c + e) → DeepQuiet U (n + 1) c
deep_first n c e d = record { resumed = quiet_first n c e d.resumed; own = λ x i. quiet_first n c e (d.own x (omega arith)) }

pub deep_second : {U : Statuses} (n c e : ℕ) → DeepQuiet U n (1 + c + e) → DeepQuiet U (n + 1 + c) e
deep_second n c e d = record { resumed = quiet_second n c e d.resumed; own = λ x i. quiet_second n c e (d.own x (omega arith)) }
