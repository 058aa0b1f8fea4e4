-- The statements of leaves may be resumed.
use Rattle.std.proofs.Common.{◌≡◌, ℕ, ◌+◌, Bool, true, false, ◌&&◌, List, [], ◌∷◌, ◌++◌, refl, ap, ◌∙◌, subst}
use Rattle.std.specs.Prelude.{if◌then◌else◌, All}
use Rattle.std.proofs.lemmas.List.Elements.{All-append, All-nil, All-cons}
use Rattle.est_kernel.specs.Plain.{Program, interface_count}
use Rattle.est_kernel.specs.Preorder.{statement_count}
use Rattle.est_kernel.specs.Terms.{Term, Nothing, Pause, Emit, Exit, Present, Suspend, Seq, Loop, Par, Trap, Local, Awake}
use Rattle.grc_graph.specs.Layers.{Liveness, body_liveness, part_liveness, second_liveness, loop_liveness}
use Rattle.grc_graph.specs.Rows.{Row, row, rows, row_at, program_rows}
use Rattle.grc_graph.specs.Scopes.{Scope, bind, program_scope}
use Rattle.grc_graph.specs.SelectionTrees.{leaf_paths, body_leaves, resumes, second_resumes}
use Rattle.grc_graph.specs.Statements.{Entry, Body, Part, Branch, Then, Else, Suspended, Second, Looped}
use Rattle.grc_graph.proofs.Exports.{StandsAt, stands_whole, length-rows, stands_one, stands_first, stands_second, row_read}

abbrev AreResumed : List Row → List ℕ → Type 0
AreResumed W ms = All (λ m. (row_at W m).live.resumed ≡ true) ms

-- the leaves of a statement that may be resumed
when : (W : List Row) (b : Bool) (ms : List ℕ) → (b ≡ true → AreResumed W ms) → AreResumed W (if b then ms else [])
when W true ms h = h refl
when W false ms h = All-nil (λ m. (row_at W m).live.resumed ≡ true)

one-leaf : (W : List Row) (b r : Bool) (p : Term) (n : ℕ) → AreResumed W (leaf_paths (b && r) p n) → AreResumed W (if b then leaf_paths r p n else [])
one-leaf W b r p n h = when W b (leaf_paths r p n) (λ e. subst (λ v. AreResumed W (leaf_paths v p n)) (ap (λ v. v && r) e) h)

two-leaves : (W : List Row) (b r s : Bool) (p q : Term) (n m : ℕ) → AreResumed W (leaf_paths (b && r) p n) → AreResumed W (leaf_paths (b && s) q m)
    → AreResumed W (if b then leaf_paths r p n ++ leaf_paths s q m else [])
two-leaves W b r s p q n m h g = when W b (leaf_paths r p n ++ leaf_paths s q m) (λ e.
    All-append (λ k. (row_at W k).live.resumed ≡ true) (leaf_paths r p n) (leaf_paths s q m)
    (subst (λ v. AreResumed W (leaf_paths v p n)) (ap (λ v. v && r) e) h) (subst (λ v. AreResumed W (leaf_paths v q m)) (ap (λ v. v && s) e) g))

leaves-resumed : (W : List Row) (a : Liveness) (B : Scope) (x : Entry) (t : Term) (n : ℕ) → StandsAt W n (rows a B x t n)
    → AreResumed W (leaf_paths a.resumed t n)
leaves-resumed W a B x Nothing n h = All-nil (λ m. (row_at W m).live.resumed ≡ true)
leaves-resumed W a B x Pause n h = when W a.resumed (n ∷ []) (λ e.
    All-cons (λ m. (row_at W m).live.resumed ≡ true) n [] (ap (λ (r : Row). r.live.resumed) (row_read W a B x Pause n h).same ∙ e)
    (All-nil (λ m. (row_at W m).live.resumed ≡ true)))
leaves-resumed W a B x (Emit s) n h = All-nil (λ m. (row_at W m).live.resumed ≡ true)
leaves-resumed W a B x (Exit k) n h = All-nil (λ m. (row_at W m).live.resumed ≡ true)
leaves-resumed W a B x (Present e p q) n h =
    let c = n + 1 + statement_count p in
    let ps = rows (part_liveness a p) B (Then n e) p (n + 1) in
    let qs = rows (part_liveness a q) B (Else n e) q c in
    two-leaves W a.resumed (resumes p) (resumes q) p q (n + 1) c
    (leaves-resumed W (part_liveness a p) B (Then n e) p (n + 1) (stands_first W n (row a B x (Present e p q) c) ps qs h))
    (leaves-resumed W (part_liveness a q) B (Else n e) q c
    (stands_second W n (row a B x (Present e p q) c) p ps qs (length-rows (part_liveness a p) B (Then n e) p (n + 1)) h))
leaves-resumed W a B x (Suspend e p) n h = one-leaf W a.resumed (resumes p) p (n + 1)
    (leaves-resumed W (part_liveness a p) B (Suspended n e) p (n + 1)
    (stands_one W n (row a B x (Suspend e p) 0) (rows (part_liveness a p) B (Suspended n e) p (n + 1)) h))
leaves-resumed W a B x (Seq p q) n h =
    let c = n + 1 + statement_count p in
    let b = second_liveness a p q (n + 1 + statement_count p) in
    let ps = rows (part_liveness a p) B (Branch n) p (n + 1) in
    let qs = rows b B (Second n) q c in
    two-leaves W a.resumed (resumes p) (second_resumes p q) p q (n + 1) c
    (leaves-resumed W (part_liveness a p) B (Branch n) p (n + 1) (stands_first W n (row a B x (Seq p q) c) ps qs h))
    (leaves-resumed W b B (Second n) q c
    (stands_second W n (row a B x (Seq p q) c) p ps qs (length-rows (part_liveness a p) B (Branch n) p (n + 1)) h))
leaves-resumed W a B x (Loop at p) n h = one-leaf W a.resumed (resumes p) p (n + 1)
    (leaves-resumed W (loop_liveness a p (n + 1)) B (Looped n) p (n + 1)
    (stands_one W n (row a B x (Loop at p) 0) (rows (loop_liveness a p (n + 1)) B (Looped n) p (n + 1)) h))
leaves-resumed W a B x (Par p q) n h =
    let c = n + 1 + statement_count p in
    let ps = rows (part_liveness a p) B (Branch n) p (n + 1) in
    let qs = rows (part_liveness a q) B (Branch n) q c in
    two-leaves W a.resumed (resumes p) (resumes q) p q (n + 1) c
    (leaves-resumed W (part_liveness a p) B (Branch n) p (n + 1) (stands_first W n (row a B x (Par p q) c) ps qs h))
    (leaves-resumed W (part_liveness a q) B (Branch n) q c
    (stands_second W n (row a B x (Par p q) c) p ps qs (length-rows (part_liveness a p) B (Branch n) p (n + 1)) h))
leaves-resumed W a B x (Trap p) n h = one-leaf W a.resumed (resumes p) p (n + 1)
    (leaves-resumed W (part_liveness a p) B (Part n) p (n + 1)
    (stands_one W n (row a B x (Trap p) 0) (rows (part_liveness a p) B (Part n) p (n + 1)) h))
leaves-resumed W a B x (Local s p) n h = one-leaf W a.resumed (resumes p) p (n + 1)
    (leaves-resumed W (part_liveness a p) (bind B s n) (Part n) p (n + 1)
    (stands_one W n (row a B x (Local s p) 0) (rows (part_liveness a p) (bind B s n) (Part n) p (n + 1)) h))
leaves-resumed W a B x (Awake e p) n h = All-nil (λ m. (row_at W m).live.resumed ≡ true)

pub body-leaves-resumed : (p : Program) → All (λ m. (row_at (program_rows p) m).live.resumed ≡ true) (body_leaves p.body)
body-leaves-resumed p =
    leaves-resumed (program_rows p) (body_liveness p.body) (program_scope p.inputs (interface_count p)) Body p.body 0 (stands_whole (program_rows p))
