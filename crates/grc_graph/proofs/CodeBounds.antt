-- The codes of a kernel are below 64: its exits are, since there are at most 60 traps one in another.
use Rattle.std.proofs.Common.{◌≡◌, ℕ, ◌+◌, ◌<◌, ◌≤◌, true, ◌&&◌, ◌||◌, []}
use Rattle.std.proofs.Common.{⊎_elim, arith}
use Rattle.std.specs.Prelude.{All}
use Rattle.std.proofs.lemmas.Bool.{or_cases, and_parts, eqb-true, cond_both, false≢true}
use Rattle.std.proofs.lemmas.List.Elements.{All-cons, All-nil, All-append, All-get_or}
use Rattle.base_types.specs.Codes.{either, except, maxima}
use Rattle.est_kernel.specs.Plain.{Program, interface_count}
use Rattle.est_kernel.specs.Terms.{Term, Pause, Exit, Present, Suspend, Seq, Loop, Par, Trap, Local, Awake}
use Rattle.est_kernel.specs.Preorder.{statement_count}
use Rattle.est_kernel.specs.Sizes.{trap_depth}
use Rattle.est_kernel.specs.StaticCodes.{has_code, started_codes, resumed_codes, branch_codes}
use Rattle.est_kernel.specs.WellFormed as formed
use Rattle.est_kernel.specs.WellFormed.{ExitsStandInTraps, KeepsLimits}
use Rattle.est_kernel.proofs.Exports.{except-parts, maxima-parts, lowered-parts, trap_code-most}
use Rattle.grc_graph.specs.Layers.{Layer, Resumed, Started, Liveness, body_liveness, part_liveness, second_liveness, loop_liveness}
use Rattle.grc_graph.specs.Scopes.{Scope, bind, program_scope}
use Rattle.grc_graph.specs.Selected.{HasExitCodes}
use Rattle.grc_graph.specs.Statements.{Entry, Body, Part, Branch, Then, Else, Suspended, Second, Looped}
use Rattle.grc_graph.specs.Rows.{Row, rows, program_rows, row_at}
use Rattle.grc_graph.specs.Wires.{instance_codes}
use Rattle.grc_graph.proofs.RowReads.{length-program_rows}

-- the codes of a kernel are below 64
pub started_below : (t : Term) → HasExitCodes t → (k : ℕ) → started_codes t k ≡ true → k < 64
started_below Pause b k h = omega (arith, eqb-true k 1 h)
started_below (Exit c) b k h = omega (arith, eqb-true k c h, b.1)
started_below (Present e p q) b k h =
    ⊎_elim (started_below p b.0 k) (started_below q b.1 k) (or_cases (started_codes p k) (started_codes q k) h)
started_below (Suspend e p) b k h = started_below p b k h
started_below (Seq p q) b k h =
    seq_below p q k (started_below p b.0 k) (started_below q b.1 k) h
  where
    seq_below : (p q : Term) (k : ℕ) → (started_codes p k ≡ true → k < 64) → (started_codes q k ≡ true → k < 64) → started_codes (Seq p q) k ≡ true → k < 64
    seq_below p q k f g =
        cond_both (started_codes p 0) (either (except 0 (started_codes p)) (started_codes q)) (started_codes p)
        (λ A. A k ≡ true → k < 64)
        (λ z h. ⊎_elim (λ x. f (except-parts (started_codes p) 0 k x).0) g (or_cases (except 0 (started_codes p) k) (started_codes q k) h))
        (λ z h. f h)
started_below (Loop at p) b k h = started_below p b k (except-parts (started_codes p) 0 k h).0
started_below (Par p q) b k h =
    let s = maxima-parts (started_codes p) (started_codes q) k h in
    omega (arith, started_below p b.0 s.0 s.2, started_below q b.1 s.1 s.3, s.4)
started_below (Trap p) b k h =
    let s = lowered-parts (started_codes p) k h in omega (arith, started_below p b s.0 s.1, trap_code-most s.0, s.2)
started_below (Local s p) b k h = started_below p b k h
started_below (Awake e p) b k h = absurd b
started_below _ b k h = omega (arith, eqb-true k 0 h)

branch_below : (p : Term) (k : ℕ) → (resumed_codes p k ≡ true → k < 64) → branch_codes (started_codes p) (resumed_codes p) k ≡ true → k < 64
branch_below p k f h =
    ⊎_elim f (λ x. omega (arith, eqb-true k 0 (and_parts _ _ x).1)) (or_cases (resumed_codes p k) _ h)

pub resumed_below : (t : Term) → HasExitCodes t → (k : ℕ) → resumed_codes t k ≡ true → k < 64
resumed_below Pause b k h = omega (arith, eqb-true k 0 h)
resumed_below (Present e p q) b k h =
    ⊎_elim (resumed_below p b.0 k) (resumed_below q b.1 k) (or_cases (resumed_codes p k) (resumed_codes q k) h)
resumed_below (Suspend e p) b k h =
    ⊎_elim (resumed_below p b k) (λ x. omega (arith, eqb-true k 1 (and_parts _ _ x).1)) (or_cases (resumed_codes p k) _ h)
resumed_below (Seq p q) b k h =
    ⊎_elim (λ x. resumed_below p b.0 k (except-parts (resumed_codes p) 0 k x).0)
    (λ x.
    ⊎_elim (λ y. started_below q b.1 k (and_parts _ _ y).1) (λ y. resumed_below q b.1 k (and_parts _ _ y).1)
    (or_cases (resumed_codes p 0 && started_codes q k) _ x))
    (or_cases (except 0 (resumed_codes p) k) _ h)
resumed_below (Loop at p) b k h =
    ⊎_elim (λ x. resumed_below p b k (except-parts (resumed_codes p) 0 k x).0)
    (λ x. started_below p b k (except-parts (started_codes p) 0 k (and_parts _ _ x).1).0)
    (or_cases (except 0 (resumed_codes p) k) _ h)
resumed_below (Par p q) b k h =
    let A = branch_codes (started_codes p) (resumed_codes p) in
    let C = branch_codes (started_codes q) (resumed_codes q) in
    let s = maxima-parts A C k (and_parts (has_code (resumed_codes p) || has_code (resumed_codes q)) (maxima A C k) h).1 in
    omega (arith, branch_below p s.0 (resumed_below p b.0 s.0) s.2, branch_below q s.1 (resumed_below q b.1 s.1) s.3, s.4)
resumed_below (Trap p) b k h =
    let s = lowered-parts (resumed_codes p) k h in omega (arith, resumed_below p b s.0 s.1, trap_code-most s.0, s.2)
resumed_below (Local s p) b k h = resumed_below p b k h
resumed_below (Awake e p) b k h = absurd b
resumed_below _ b k h = absurd (false≢true h)

-- a statement of a program is a kernel
exits_below : (d : ℕ) (t : Term) → formed.IsKernel t → ExitsStandInTraps d t → d + trap_depth t ≤ 60 → HasExitCodes t
exits_below d (Exit c) k h l = (h.0, omega (arith, h.1))
exits_below d (Present e p q) k h l = (exits_below d p k.0 h.0 (omega arith), exits_below d q k.1 h.1 (omega arith))
exits_below d (Suspend e p) k h l = exits_below d p k h l
exits_below d (Seq p q) k h l = (exits_below d p k.0 h.0 (omega arith), exits_below d q k.1 h.1 (omega arith))
exits_below d (Loop at p) k h l = exits_below d p k h l
exits_below d (Par p q) k h l = (exits_below d p k.0 h.0 (omega arith), exits_below d q k.1 h.1 (omega arith))
exits_below d (Trap p) k h l = exits_below (d + 1) p k h (omega arith)
exits_below d (Local s p) k h l = exits_below d p k h l
exits_below d (Awake e p) k h l = absurd k
exits_below d _ k h l = tt

abbrev Kernels : Row → Type 0
Kernels r = HasExitCodes r.statement

kernel_rows : (a : Liveness) (B : Scope) (x : Entry) (t : Term) (n : ℕ) → HasExitCodes t → All Kernels (rows a B x t n)
kernel_rows a B x (Present e p q) n h =
    All-cons Kernels _ _ h
    (All-append Kernels _ _ (kernel_rows (part_liveness a p) B (Then n e) p (n + 1) h.0)
    (kernel_rows (part_liveness a q) B (Else n e) q (n + 1 + statement_count p) h.1))
kernel_rows a B x (Seq p q) n h =
    All-cons Kernels _ _ h
    (All-append Kernels _ _ (kernel_rows (part_liveness a p) B (Branch n) p (n + 1) h.0)
    (kernel_rows (second_liveness a p q (n + 1 + statement_count p)) B (Second n) q (n + 1 + statement_count p) h.1))
kernel_rows a B x (Par p q) n h =
    All-cons Kernels _ _ h
    (All-append Kernels _ _ (kernel_rows (part_liveness a p) B (Branch n) p (n + 1) h.0)
    (kernel_rows (part_liveness a q) B (Branch n) q (n + 1 + statement_count p) h.1))
kernel_rows a B x (Suspend e p) n h = All-cons Kernels _ _ h (kernel_rows (part_liveness a p) B (Suspended n e) p (n + 1) h)
kernel_rows a B x (Loop at p) n h = All-cons Kernels _ _ h (kernel_rows (loop_liveness a p (n + 1)) B (Looped n) p (n + 1) h)
kernel_rows a B x (Trap p) n h = All-cons Kernels _ _ h (kernel_rows (part_liveness a p) B (Part n) p (n + 1) h)
kernel_rows a B x (Local s p) n h = All-cons Kernels _ _ h (kernel_rows (part_liveness a p) (bind B s n) (Part n) p (n + 1) h)
kernel_rows a B x (Awake e p) n h = absurd h
kernel_rows a B x _ n h = All-cons Kernels _ [] h (All-nil Kernels)

pub program_kernel : (p : Program) (n : ℕ) → formed.IsKernel p.body → KeepsLimits p.body → n < statement_count p.body →
    HasExitCodes (row_at (program_rows p) n).statement
program_kernel p n k h l =
    All-get_or Kernels (program_rows p) n _ (omega (arith, length-program_rows p))
    (kernel_rows (body_liveness p.body) (program_scope p.inputs (interface_count p)) Body p.body 0
    (exits_below 0 p.body k h.exits (let z : 0 + trap_depth p.body ≤ 60 = omega (arith, h.traps) in z)))

pub codes_below-kernel : (t : Term) (l : Layer) (k : ℕ) → HasExitCodes t → instance_codes t l k ≡ true → k < 64
codes_below-kernel t Resumed k h e = resumed_below t h k e
codes_below-kernel t (Started r) k h e = started_below t h k e
