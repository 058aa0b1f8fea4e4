-- The liveness of a statement, as its row has it, is that of its place in the body.
use Rattle.std.proofs.Common.{◌≡◌, ℕ, ◌+◌, ◌<◌, ◌≤◌, ◌==◌, cond, List, refl, sym, ap, ◌∙◌, subst, ⊎_elim, arith}
use Rattle.std.specs.Prelude.{nat_lt}
use Rattle.std.proofs.lemmas.Bool.{cases_lt}
use Rattle.est_kernel.specs.Plain.{Program, interface_count}
use Rattle.est_kernel.specs.Terms.{Term, Nothing, Pause, Emit, Exit, Present, Suspend, Seq, Loop, Par, Trap, Local, Awake}
use Rattle.est_kernel.specs.Preorder.{statement_count}
use Rattle.est_kernel.specs.WellFormed.{IsKernel}
use Rattle.grc_graph.specs.Layers.{Liveness, body_liveness, part_liveness, second_liveness, loop_liveness, liveness_at}
use Rattle.grc_graph.specs.Rows.{Row, rows, program_rows, row_at}
use Rattle.grc_graph.specs.Scopes.{Scope, bind, program_scope}
use Rattle.grc_graph.specs.Statements.{Entry, Body, Branch, Then, Else, Second}
use Rattle.est_kernel.proofs.Exports.{statement_count-pos}
use Rattle.grc_graph.proofs.Exports.{StandsAt, stands_whole, length-rows, stands_one, stands_first, stands_second, row_read}
use Rattle.grc_share.proofs.LoopNumbers.{at-only, at-first, at-second, at-self}

-- a function gives the statements of one at n their liveness
abbrev pub Gives : (ℕ → Liveness) → Liveness → Term → ℕ → Type 0
Gives A a t n = (m : ℕ) → n ≤ m → m < n + statement_count t → A m ≡ liveness_at a t n m

live-self : (a : Liveness) (t : Term) (n : ℕ) → liveness_at a t n n ≡ a
live-self a Nothing n = refl
live-self a Pause n = refl
live-self a (Emit s) n = refl
live-self a (Exit c) n = refl
live-self a (Present e p q) n = at-self n a _
live-self a (Suspend e p) n = at-self n a _
live-self a (Seq p q) n = at-self n a _
live-self a (Loop at p) n = at-self n a _
live-self a (Par p q) n = at-self n a _
live-self a (Trap p) n = at-self n a _
live-self a (Local s p) n = at-self n a _
live-self a (Awake e p) n = refl

pub gives-here : (A : ℕ → Liveness) (a : Liveness) (t : Term) (n : ℕ) → Gives A a t n → A n ≡ a
gives-here A a t n g = g n (omega arith) (omega (arith, statement_count-pos t)) ∙ live-self a t n

abbrev pub live_row : List Row → ℕ → Liveness
live_row W m = (row_at W m).live

stands_live : (W : List Row) (a : Liveness) (B : Scope) (x : Entry) (t : Term) (n : ℕ) → StandsAt W n (rows a B x t n) → live_row W n ≡ a
stands_live W a B x t n s = ap (λ r. r.live) (row_read W a B x t n s).same

joined-one : (A : ℕ → Liveness) (a : Liveness) (n end : ℕ) (F : ℕ → Liveness) → A n ≡ a → ((m : ℕ) → n + 1 ≤ m → m < end → A m ≡ F m)
    → (m : ℕ) → n ≤ m → m < end → A m ≡ cond (m == n) a (F m)
joined-one A a n end F here part m l u =
    ⊎_elim
    (λ h. part m (omega (arith, h)) u ∙ sym (at-only m n a (F m) h))
    (λ h. let e : n ≡ m = omega (arith, l, h) in
    subst (λ i. A i ≡ cond (i == n) a (F i)) e (here ∙ sym (at-self n a (F n))))
    (cases_lt n m)

joined-two : (A : ℕ → Liveness) (a : Liveness) (n b end : ℕ) (F G : ℕ → Liveness) → n < b → A n ≡ a → ((m : ℕ) → n + 1 ≤ m → m < b → A m ≡ F m)
    → ((m : ℕ) → b ≤ m → m < end → A m ≡ G m) → (m : ℕ) → n ≤ m → m < end → A m ≡ cond (m == n) a (cond (nat_lt m b) (F m) (G m))
joined-two A a n b end F G low here first second m l u =
    ⊎_elim
    (λ h. ⊎_elim
    (λ k. first m (omega (arith, h)) k ∙ sym (at-first m n b a (F m) (G m) h k))
    (λ k. second m k u ∙ sym (at-second m n b a (F m) (G m) h k))
    (cases_lt m b))
    (λ h. let e : n ≡ m = omega (arith, l, h) in
    subst (λ i. A i ≡ cond (i == n) a (cond (nat_lt i b) (F i) (G i))) e (here ∙ sym (at-self n a _)))
    (cases_lt n m)

leaf : (A : ℕ → Liveness) (a : Liveness) (n : ℕ) → A n ≡ a → (m : ℕ) → n ≤ m → m < n + 1 → A m ≡ a
leaf A a n here m l u = let e : m ≡ n = omega (arith, l, u) in ap A e ∙ here

pub rows_give : (W : List Row) (a : Liveness) (B : Scope) (x : Entry) (t : Term) (n : ℕ) → IsKernel t → StandsAt W n (rows a B x t n) → Gives (live_row W) a t n
rows_give W a B x Nothing n k s = leaf (live_row W) a n (stands_live W a B x Nothing n s)
rows_give W a B x Pause n k s = leaf (live_row W) a n (stands_live W a B x Pause n s)
rows_give W a B x (Emit u) n k s = leaf (live_row W) a n (stands_live W a B x (Emit u) n s)
rows_give W a B x (Exit c) n k s = leaf (live_row W) a n (stands_live W a B x (Exit c) n s)
rows_give W a B x (Present e p q) n k s =
    let m = n + 1 + statement_count p in
    let P = rows (part_liveness a p) B (Then n e) p (n + 1) in
    λ i l h. joined-two (live_row W) a n m (m + statement_count q) _ _ (omega arith) (stands_live W a B x (Present e p q) n s)
    (rows_give W (part_liveness a p) B _ p (n + 1) k.0 (stands_first W n _ P _ s))
    (rows_give W (part_liveness a q) B (Else n e) q m k.1 (stands_second W n _ p P _ (length-rows (part_liveness a p) B (Then n e) p (n + 1)) s))
    i l (omega (arith, h))
rows_give W a B x (Suspend e p) n k s =
    λ i l h. joined-one (live_row W) a n (n + 1 + statement_count p) _ (stands_live W a B x (Suspend e p) n s)
    (rows_give W (part_liveness a p) B _ p (n + 1) k (stands_one W n _ _ s)) i l (omega (arith, h))
rows_give W a B x (Seq p q) n k s =
    let m = n + 1 + statement_count p in
    let P = rows (part_liveness a p) B (Branch n) p (n + 1) in
    λ i l h. joined-two (live_row W) a n m (m + statement_count q) _ _ (omega arith) (stands_live W a B x (Seq p q) n s)
    (rows_give W (part_liveness a p) B _ p (n + 1) k.0 (stands_first W n _ P _ s))
    (rows_give W (second_liveness a p q m) B (Second n) q m k.1 (stands_second W n _ p P _ (length-rows (part_liveness a p) B (Branch n) p (n + 1)) s))
    i l (omega (arith, h))
rows_give W a B x (Loop at p) n k s =
    λ i l h. joined-one (live_row W) a n (n + 1 + statement_count p) _ (stands_live W a B x (Loop at p) n s)
    (rows_give W (loop_liveness a p (n + 1)) B _ p (n + 1) k (stands_one W n _ _ s)) i l (omega (arith, h))
rows_give W a B x (Par p q) n k s =
    let m = n + 1 + statement_count p in
    let P = rows (part_liveness a p) B (Branch n) p (n + 1) in
    λ i l h. joined-two (live_row W) a n m (m + statement_count q) _ _ (omega arith) (stands_live W a B x (Par p q) n s)
    (rows_give W (part_liveness a p) B _ p (n + 1) k.0 (stands_first W n _ P _ s))
    (rows_give W (part_liveness a q) B (Branch n) q m k.1 (stands_second W n _ p P _ (length-rows (part_liveness a p) B (Branch n) p (n + 1)) s))
    i l (omega (arith, h))
rows_give W a B x (Trap p) n k s =
    λ i l h. joined-one (live_row W) a n (n + 1 + statement_count p) _ (stands_live W a B x (Trap p) n s)
    (rows_give W (part_liveness a p) B _ p (n + 1) k (stands_one W n _ _ s)) i l (omega (arith, h))
rows_give W a B x (Local u p) n k s =
    λ i l h. joined-one (live_row W) a n (n + 1 + statement_count p) _ (stands_live W a B x (Local u p) n s)
    (rows_give W (part_liveness a p) (bind B u n) _ p (n + 1) k (stands_one W n _ _ s)) i l (omega (arith, h))
rows_give W a B x (Awake e p) n k s = absurd k

pub program_gives : (p : Program) → IsKernel p.body → Gives (live_row (program_rows p)) (body_liveness p.body) p.body 0
program_gives p k =
    rows_give (program_rows p) (body_liveness p.body) (program_scope p.inputs (interface_count p)) Body p.body 0 k (stands_whole (program_rows p))
