-- Inner: a kernel program put together from what was made of a flat program's parts.
use Rattle.std.proofs.Common.{◌≡◌, ℕ, ◌+◌, ◌-◌, ◌≤◌, List, [], ◌++◌, length, codes, sym, ◌∙◌, ap, subst, arith}
use Rattle.std.specs.Prelude.{replicate}
use Rattle.base_types.specs.declared.bounds.TheConstants.Limits.{KERNEL_NODES, TRAPS}
use Rattle.base_types.specs.Relations.{Relation}
use Rattle.est_kernel.specs.Terms.{Term}
use Rattle.est_kernel.specs.Plain.{Program}
use Rattle.est_ast.specs.FlatTrees.{Flat}
use Rattle.est_ast.specs.FlatViews.{flat_stmt_of}
use Rattle.est_ast.specs.declared.flat.FlatStmt.{FlatStmt}
use Rattle.est_dismantle.specs.Expansions.{Expanded, kernel_body, program_in, expansion}
use Rattle.est_dismantle.specs.FlatNodes.{stmt_kernel, stmt_new, stmt_traps}
use Rattle.est_dismantle.specs.Kernels.{Traps, kernel}
use Rattle.est_dismantle.specs.NewTraps.{traps_in}
use Rattle.est_ast.specs.NewSignals.{new_in}
use Rattle.est_dismantle.proofs.Expanded.{expansion-inside}

pub body-made : (flat : Flat) (p : FlatStmt) (traps : Traps) (first : ℕ) (k : Term) → flat_stmt_of p ≡ flat.body → k ≡ stmt_kernel traps first p → traps ≡ [] →
    first ≡ length flat.signals → k ≡ kernel_body flat
unfolding stmt_kernel
body-made flat p traps first k is made none same =
    made ∙ ap (λ m. kernel m first (flat_stmt_of p)) none ∙ ap (λ n. kernel [] n (flat_stmt_of p)) same ∙ ap (kernel [] (length flat.signals)) is

pub new-counted : (p : FlatStmt) (first next : ℕ) → next ≡ first + stmt_new p → next - first ≡ new_in (flat_stmt_of p)
unfolding stmt_new
new-counted p first next numbered = omega arith

-- the numbers of its new signals and the codes of its exits fit
pub body-fits : (flat : Flat) (p : FlatStmt) (k : Program) → flat_stmt_of p ≡ flat.body → expansion flat ≡ Expanded k →
    (stmt_new p ≤ KERNEL_NODES) × (stmt_traps p ≤ TRAPS)
unfolding stmt_new stmt_traps
body-fits flat p k is h =
    let g = expansion-inside flat k h in
    (subst (λ s. new_in s ≤ KERNEL_NODES) (sym is) g.0, subst (λ s. traps_in s ≤ TRAPS) (sym is) g.1)

pub program-made : (flat : Flat) (name : List ℕ) (signals : List (List ℕ)) (relations : List Relation) (body : Term)
    → name ≡ flat.name → signals ≡ flat.signals ++ replicate (new_in flat.body) (codes "x") → relations ≡ flat.relations → body ≡ kernel_body flat
    → record { name = name; signals = signals; inputs = flat.inputs; both = flat.both; outputs = flat.outputs; relations = relations; body = body } ≡
    program_in flat (kernel_body flat)
program-made flat name signals relations body n s r b =
    let made : List ℕ → List (List ℕ) → List Relation → Term → Program =
    λ (m : List ℕ). λ (t : List (List ℕ)). λ (q : List Relation). λ (k : Term).
    record { name = m; signals = t; inputs = flat.inputs; both = flat.both; outputs = flat.outputs; relations = q; body = k } in
    ap (λ m. made m signals relations body) n ∙ ap (λ t. made flat.name t relations body) s
    ∙ ap (λ q. made flat.name (flat.signals ++ replicate (new_in flat.body) (codes "x")) q body) r
    ∙ ap (made flat.name (flat.signals ++ replicate (new_in flat.body) (codes "x")) flat.relations) b
