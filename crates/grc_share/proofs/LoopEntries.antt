-- The loop bodies around a statement, counted from those around the statement that it stands in.
use Rattle.std.proofs.Common.{◌≡◌, ℕ, ◌+◌, ◌<◌, ◌≤◌, ◌==◌, cond, List, refl, sym, ◌∙◌, subst, ⊎_elim, arith}
use Rattle.std.specs.Prelude.{nat_lt}
use Rattle.std.proofs.lemmas.Bool.{cases_lt, cond-false, cond-true, le-ltb, lt-ltb}
use Rattle.est_kernel.specs.Plain.{Program, interface_count}
use Rattle.est_kernel.specs.Preorder.{statement_count}
use Rattle.est_kernel.specs.Terms.{Term, Nothing, Pause, Emit, Exit, Present, Suspend, Seq, Loop, Par, Trap, Local, Awake}
use Rattle.est_kernel.specs.WellFormed.{IsKernel}
use Rattle.grc_graph.specs.Layers.{Liveness, body_liveness, part_liveness, second_liveness, loop_liveness}
use Rattle.grc_graph.specs.Rows.{Row, rows, program_rows, row_at}
use Rattle.grc_graph.specs.Scopes.{Scope, bind, program_scope}
use Rattle.grc_graph.specs.Statements.{Entry, Body, Part, Branch, Then, Else, Suspended, Second, Looped}
use Rattle.grc_graph.proofs.Exports.{StandsAt, stands_whole, length-rows, row_read, stands_first, stands_one, stands_second}
use Rattle.est_kernel.proofs.Exports.{statement_count-pos}
use Rattle.grc_share.specs.SharedInstances.{loops_above, loops_at}
use Rattle.grc_share.proofs.LoopNumbers.{above-self, at-first, at-only, at-own, at-second, at-self}

-- ---- no statement has more loop bodies around it than statements before it

low-one : (m n k K : ℕ) → k ≤ m → (n < m → K ≤ m) → n ≤ m → cond (m == n) k K ≤ m
low-one m n k K h f l =
    ⊎_elim (λ g. omega (arith, at-only m n k K g, f g)) (λ g. let e : n ≡ m = omega (arith, l, g) in
    omega (arith, h, subst (λ i. cond (i == n) k K ≡ k) e (at-self n k K))) (cases_lt n m)

low-two : (m n k K L b : ℕ) → k ≤ m → (n < m → K ≤ m) → (b ≤ m → L ≤ m) → n ≤ m → cond (m == n) k (cond (nat_lt m b) K L) ≤ m
low-two m n k K L b h f g l =
    low-one m n k _ h (λ a. ⊎_elim (λ c. omega (arith, cond-true (nat_lt m b) K L (lt-ltb m b c), f a))
    (λ c. omega (arith, cond-false (nat_lt m b) K L (le-ltb m b c), g c)) (cases_lt m b)) l

pub loops-low : (k : ℕ) (t : Term) (n m : ℕ) → k ≤ n → n ≤ m → loops_at k t n m ≤ m
loops-low k Nothing n m h l = omega arith
loops-low k Pause n m h l = omega arith
loops-low k (Emit s) n m h l = omega arith
loops-low k (Exit c) n m h l = omega arith
loops-low k (Present e p q) n m h l = low-two m n k _ _ _ (omega arith) (λ g. loops-low k p (n + 1) m (omega arith) (omega (arith, g)))
    (λ g. loops-low k q (n + 1 + statement_count p) m (omega arith) g) l
loops-low k (Suspend e p) n m h l = low-one m n k _ (omega arith) (λ g. loops-low k p (n + 1) m (omega arith) (omega (arith, g))) l
loops-low k (Seq p q) n m h l = low-two m n k _ _ _ (omega arith) (λ g. loops-low k p (n + 1) m (omega arith) (omega (arith, g)))
    (λ g. loops-low k q (n + 1 + statement_count p) m (omega arith) g) l
loops-low k (Loop at p) n m h l = low-one m n k _ (omega arith) (λ g. loops-low (k + 1) p (n + 1) m (omega arith) (omega (arith, g))) l
loops-low k (Par p q) n m h l = low-two m n k _ _ _ (omega arith) (λ g. loops-low k p (n + 1) m (omega arith) (omega (arith, g)))
    (λ g. loops-low k q (n + 1 + statement_count p) m (omega arith) g) l
loops-low k (Trap p) n m h l = low-one m n k _ (omega arith) (λ g. loops-low k p (n + 1) m (omega arith) (omega (arith, g))) l
loops-low k (Local s p) n m h l = low-one m n k _ (omega arith) (λ g. loops-low k p (n + 1) m (omega arith) (omega (arith, g))) l
loops-low k (Awake e p) n m h l = omega arith

-- ---- what a statement's entry says of its counts

pub record Around (c d : ℕ → ℕ) (m n own : ℕ) : Type 0 where
  pub before : n < m
  pub above : c m ≡ d n
  pub inside : d m ≡ d n + own

abbrev pub Told : (c d : ℕ → ℕ) → ℕ → Entry → Type 0
Told c d m Body = (c m ≡ 0) × (d m ≡ 0)
Told c d m (Part n) = Around c d m n 0
Told c d m (Branch n) = Around c d m n 0
Told c d m (Then n e) = Around c d m n 0
Told c d m (Else n e) = Around c d m n 0
Told c d m (Suspended n e) = Around c d m n 0
Told c d m (Second n) = Around c d m n 0
Told c d m (Looped n) = Around c d m n 1

-- functions that count the loop bodies around the statements of one at n
pub record Count (c d : ℕ → ℕ) (j k : ℕ) (t : Term) (n : ℕ) : Type 0 where
  pub above : (m : ℕ) → n ≤ m → m < n + statement_count t → c m ≡ loops_above j k t n m
  pub inside : (m : ℕ) → n ≤ m → m < n + statement_count t → d m ≡ loops_at k t n m

-- in a part
only : (f F : ℕ → ℕ) (x n end : ℕ) → ((m : ℕ) → n ≤ m → m < end → f m ≡ cond (m == n) x (F m)) → (m : ℕ) → n + 1 ≤ m → m < end → f m ≡ F m
only f F x n end h m l u = h m (omega arith) u ∙ at-only m n x (F m) (omega arith)

first : (f F G : ℕ → ℕ) (x n b end : ℕ) → b ≤ end → ((m : ℕ) → n ≤ m → m < end → f m ≡ cond (m == n) x (cond (nat_lt m b) (F m) (G m))) → (m : ℕ)
    → n + 1 ≤ m → m < b → f m ≡ F m
first f F G x n b end g h m l u = h m (omega arith) (omega arith) ∙ at-first m n b x (F m) (G m) (omega arith) u

second : (f F G : ℕ → ℕ) (x n b end : ℕ) → n < b → ((m : ℕ) → n ≤ m → m < end → f m ≡ cond (m == n) x (cond (nat_lt m b) (F m) (G m))) → (m : ℕ)
    → b ≤ m → m < end → f m ≡ G m
second f F G x n b end g h m l u = h m (omega arith) u ∙ at-second m n b x (F m) (G m) (omega arith) l

-- a part at m of a statement at n, at or above which there are k
around : (c d : ℕ → ℕ) (k own : ℕ) (p : Term) (n m : ℕ) → n < m → d n ≡ k → Count c d k (k + own) p m → Around c d m n own
around c d k own p n m l e h = record {
  before = l;
  above = h.above m (omega arith) (omega (arith, statement_count-pos p)) ∙ above-self k (k + own) p m ∙ sym e;
  inside = let a = h.inside m (omega arith) (omega (arith, statement_count-pos p)) ∙ at-own (k + own) p m in omega (arith, a, e);
}

none : (c d : ℕ → ℕ) (j k : ℕ) (p : Term) (m : ℕ) → Count c d j k p m → Count c d j (k + 0) p m
none c d j k p m h = let e : k ≡ k + 0 = omega arith in subst (λ x. Count c d j x p m) e h

here : (c d : ℕ → ℕ) (j k : ℕ) (t : Term) (n : ℕ) → Count c d j k t n → d n ≡ k
here c d j k t n h = h.inside n (omega arith) (omega (arith, statement_count-pos t)) ∙ at-own k t n

module _ (W : List Row) (c d : ℕ → ℕ) where
  abbrev Tells : ℕ → Type 0
  Tells m = Told c d m (row_at W m).entry

  told : (a : Liveness) (B : Scope) (x : Entry) (t : Term) (n : ℕ) → StandsAt W n (rows a B x t n) → Told c d n x → Tells n
  told a B x t n s h = subst (λ r. Told c d n r.entry) (sym (row_read W a B x t n s).same) h

  leaf : (n m : ℕ) → Tells n → n ≤ m → m < n + 1 → Tells m
  leaf n m h l u = subst Tells (let e : n ≡ m = omega (arith, l, u) in e) h

  one : (n k m : ℕ) → Tells n → ((m : ℕ) → n + 1 ≤ m → m < n + 1 + k → Tells m) → n ≤ m → m < n + (1 + k) → Tells m
  one n k m h f l u =
      ⊎_elim (λ g. f m (omega (arith, g)) (omega (arith, u))) (λ g. subst Tells (let e : n ≡ m = omega (arith, l, g) in e) h) (cases_lt n m)

  two : (n i k m : ℕ) → Tells n → ((m : ℕ) → n + 1 ≤ m → m < n + 1 + i → Tells m) → ((m : ℕ) → n + 1 + i ≤ m → m < n + 1 + i + k → Tells m)
      → n ≤ m → m < n + (1 + i + k) → Tells m
  two n i k m h f g l u =
      ⊎_elim
      (λ a. ⊎_elim (λ b. f m (omega (arith, a)) b) (λ b. g m b (omega (arith, u))) (cases_lt m (n + 1 + i)))
      (λ a. subst Tells (let e : n ≡ m = omega (arith, l, a) in e) h) (cases_lt n m)

  pub entries_tell : (j k : ℕ) (a : Liveness) (B : Scope) (x : Entry) (t : Term) (n : ℕ) → IsKernel t → StandsAt W n (rows a B x t n) → Count c d j k t n
      → Told c d n x → (m : ℕ) → n ≤ m → m < n + statement_count t → Tells m
  entries_tell j k a B x Nothing n i s h g m l u = leaf n m (told a B x Nothing n s g) l u
  entries_tell j k a B x Pause n i s h g m l u = leaf n m (told a B x Pause n s g) l u
  entries_tell j k a B x (Emit v) n i s h g m l u = leaf n m (told a B x (Emit v) n s g) l u
  entries_tell j k a B x (Exit v) n i s h g m l u = leaf n m (told a B x (Exit v) n s g) l u
  entries_tell j k a B x (Present e p q) n i s h g m l u =
      let b = n + 1 + statement_count p in
      let t = Present e p q in
      let low : Count c d k k p (n + 1) = record {
        above = first c _ _ j n b _ (omega arith) h.above;
        inside = first d _ _ k n b _ (omega arith) h.inside;
      } in
      let high : Count c d k k q b = record {
        above = λ m l u. second c _ _ j n b _ (omega arith) h.above m l (omega (arith, u));
        inside = λ m l u. second d _ _ k n b _ (omega arith) h.inside m l (omega (arith, u));
      } in
      two n (statement_count p) (statement_count q) m (told a B x t n s g)
      (entries_tell k k (part_liveness a p) B (Then n e) p (n + 1) i.0 (stands_first W n _ _ _ s) low
      (around c d k 0 p n (n + 1) (omega arith) (here c d j k t n h) (none c d k k p (n + 1) low)))
      (entries_tell k k (part_liveness a q) B (Else n e) q b i.1
      (stands_second W n _ p _ _ (length-rows (part_liveness a p) B (Then n e) p (n + 1)) s) high
      (around c d k 0 q n b (omega arith) (here c d j k t n h) (none c d k k q b high))) l u
  entries_tell j k a B x (Suspend e p) n i s h g m l u =
      let t = Suspend e p in
      let part : Count c d k k p (n + 1) = record {
        above = λ m l u. only c _ j n _ h.above m l (omega (arith, u));
        inside = λ m l u. only d _ k n _ h.inside m l (omega (arith, u));
      } in
      one n (statement_count p) m (told a B x t n s g)
      (entries_tell k k (part_liveness a p) B (Suspended n e) p (n + 1) i (stands_one W n _ _ s) part
      (around c d k 0 p n (n + 1) (omega arith) (here c d j k t n h) (none c d k k p (n + 1) part))) l u
  entries_tell j k a B x (Seq p q) n i s h g m l u =
      let b = n + 1 + statement_count p in
      let t = Seq p q in
      let low : Count c d k k p (n + 1) = record {
        above = first c _ _ j n b _ (omega arith) h.above;
        inside = first d _ _ k n b _ (omega arith) h.inside;
      } in
      let high : Count c d k k q b = record {
        above = λ m l u. second c _ _ j n b _ (omega arith) h.above m l (omega (arith, u));
        inside = λ m l u. second d _ _ k n b _ (omega arith) h.inside m l (omega (arith, u));
      } in
      two n (statement_count p) (statement_count q) m (told a B x t n s g)
      (entries_tell k k (part_liveness a p) B (Branch n) p (n + 1) i.0 (stands_first W n _ _ _ s) low
      (around c d k 0 p n (n + 1) (omega arith) (here c d j k t n h) (none c d k k p (n + 1) low)))
      (entries_tell k k (second_liveness a p q b) B (Second n) q b i.1
      (stands_second W n _ p _ _ (length-rows (part_liveness a p) B (Branch n) p (n + 1)) s) high
      (around c d k 0 q n b (omega arith) (here c d j k t n h) (none c d k k q b high))) l u
  entries_tell j k a B x (Loop at p) n i s h g m l u =
      let t = Loop at p in
      let part : Count c d k (k + 1) p (n + 1) = record {
        above = λ m l u. only c _ j n _ h.above m l (omega (arith, u));
        inside = λ m l u. only d _ k n _ h.inside m l (omega (arith, u));
      } in
      one n (statement_count p) m (told a B x t n s g)
      (entries_tell k (k + 1) (loop_liveness a p (n + 1)) B (Looped n) p (n + 1) i (stands_one W n _ _ s) part
      (around c d k 1 p n (n + 1) (omega arith) (here c d j k t n h) part)) l u
  entries_tell j k a B x (Par p q) n i s h g m l u =
      let b = n + 1 + statement_count p in
      let t = Par p q in
      let low : Count c d k k p (n + 1) = record {
        above = first c _ _ j n b _ (omega arith) h.above;
        inside = first d _ _ k n b _ (omega arith) h.inside;
      } in
      let high : Count c d k k q b = record {
        above = λ m l u. second c _ _ j n b _ (omega arith) h.above m l (omega (arith, u));
        inside = λ m l u. second d _ _ k n b _ (omega arith) h.inside m l (omega (arith, u));
      } in
      two n (statement_count p) (statement_count q) m (told a B x t n s g)
      (entries_tell k k (part_liveness a p) B (Branch n) p (n + 1) i.0 (stands_first W n _ _ _ s) low
      (around c d k 0 p n (n + 1) (omega arith) (here c d j k t n h) (none c d k k p (n + 1) low)))
      (entries_tell k k (part_liveness a q) B (Branch n) q b i.1
      (stands_second W n _ p _ _ (length-rows (part_liveness a p) B (Branch n) p (n + 1)) s) high
      (around c d k 0 q n b (omega arith) (here c d j k t n h) (none c d k k q b high))) l u
  entries_tell j k a B x (Trap p) n i s h g m l u =
      let t = Trap p in
      let part : Count c d k k p (n + 1) = record {
        above = λ m l u. only c _ j n _ h.above m l (omega (arith, u));
        inside = λ m l u. only d _ k n _ h.inside m l (omega (arith, u));
      } in
      one n (statement_count p) m (told a B x t n s g)
      (entries_tell k k (part_liveness a p) B (Part n) p (n + 1) i (stands_one W n _ _ s) part
      (around c d k 0 p n (n + 1) (omega arith) (here c d j k t n h) (none c d k k p (n + 1) part))) l u
  entries_tell j k a B x (Local v p) n i s h g m l u =
      let t = Local v p in
      let part : Count c d k k p (n + 1) = record {
        above = λ m l u. only c _ j n _ h.above m l (omega (arith, u));
        inside = λ m l u. only d _ k n _ h.inside m l (omega (arith, u));
      } in
      one n (statement_count p) m (told a B x t n s g)
      (entries_tell k k (part_liveness a p) (bind B v n) (Part n) p (n + 1) i (stands_one W n _ _ s) part
      (around c d k 0 p n (n + 1) (omega arith) (here c d j k t n h) (none c d k k p (n + 1) part))) l u
  entries_tell j k a B x (Awake e p) n i s h g m l u = absurd i

-- of a program's body
pub program_tells : (p : Program) → IsKernel p.body → (m : ℕ) → m < statement_count p.body
    → Told (loops_above 0 0 p.body 0) (loops_at 0 p.body 0) m (row_at (program_rows p) m).entry
program_tells p kernel m u =
    entries_tell (program_rows p) (loops_above 0 0 p.body 0) (loops_at 0 p.body 0) 0 0 (body_liveness p.body) (program_scope p.inputs (interface_count p)) Body
    p.body 0 kernel (stands_whole (program_rows p)) (record { above = λ m l u. refl; inside = λ m l u. refl })
    (above-self 0 0 p.body 0, at-own 0 p.body 0) m (omega arith) (omega (arith, u))
