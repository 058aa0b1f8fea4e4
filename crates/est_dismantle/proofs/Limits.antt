-- Inner: which fault a flat program has, by its first bad count and the measures of its body.
use Rattle.std.proofs.Common.{◌≡◌, ◌<◌, ◌≤◌, Bool, true, false, nat_lt, cond, List, [], ◌∷◌, length, Some, None, refl, sym, ◌∙◌, ap}
use Rattle.std.proofs.Common.{subst, arith}
use Rattle.std.proofs.lemmas.Bool.{lt-ltb, le-ltb}
use Rattle.base_types.specs.declared.place.Span.{Span}
use Rattle.base_types.specs.declared.bounds.TheConstants.Limits.{KERNEL_NODES, KERNEL_HEIGHT, TRAPS}
use Rattle.est_kernel.specs.Terms.{Term}
use Rattle.est_kernel.specs.Sizes.{size_of, height_of, trap_depth}
use Rattle.est_ast.specs.FlatTrees.{Flat}
use Rattle.est_ast.specs.FlatViews.{flat_stmt_of}
use Rattle.est_ast.specs.declared.flat.FlatStmt.{FlatStmt}
use Rattle.est_dismantle.specs.declared.extent.Extent.{Extent}
use Rattle.est_dismantle.specs.Counts.{bad_in}
use Rattle.est_dismantle.specs.Expansions.{Expanded, BadCount, TooLarge, TooHigh, TooManyTraps, kernel_body, program_in, limited, counted, expansion}
use Rattle.est_dismantle.specs.Extents.{IsExtent, IsCapped}
use Rattle.est_dismantle.specs.FlatNodes.{first_place, bad_of_stmt, stmt_measures}
use Rattle.est_dismantle.specs.Measures.{measures_of, kernel_measures}
use Rattle.est_dismantle.proofs.Measured.{m-kernel}

counted-first : (flat : Flat) (places : List Span) (place : Span) → first_place places ≡ Some place → counted flat places ≡ BadCount place
counted-first flat [] place h = cc
counted-first flat (p ∷ places) place h = ap BadCount (let e : p ≡ place = cc in e)

counted-none : (flat : Flat) (places : List Span) → first_place places ≡ None → counted flat places ≡ limited flat (kernel_body flat)
counted-none flat [] h = refl
counted-none flat (p ∷ places) h = cc

limited-by : (flat : Flat) (body : Term) (a b c : Bool) → nat_lt KERNEL_NODES (size_of body) ≡ a → nat_lt KERNEL_HEIGHT (height_of body) ≡ b →
    nat_lt TRAPS (trap_depth body) ≡ c
    → limited flat body ≡ cond a TooLarge (cond b TooHigh (cond c TooManyTraps (Expanded (program_in flat body))))
limited-by flat body a b c p q r =
    ap (λ t. cond t TooLarge (cond (nat_lt KERNEL_HEIGHT (height_of body)) TooHigh
    (cond (nat_lt TRAPS (trap_depth body)) TooManyTraps (Expanded (program_in flat body))))) p
    ∙ ap (λ t. cond a TooLarge (cond t TooHigh (cond (nat_lt TRAPS (trap_depth body)) TooManyTraps (Expanded (program_in flat body))))) q
    ∙ ap (λ t. cond a TooLarge (cond b TooHigh (cond t TooManyTraps (Expanded (program_in flat body))))) r

-- the statement is the program's body
module _ (flat : Flat) (p : FlatStmt) (is : flat_stmt_of p ≡ flat.body) where
  bad-body : first_place (bad_in flat.body) ≡ bad_of_stmt p
  unfolding bad_of_stmt
  bad-body = ap (λ s. first_place (bad_in s)) (sym is)

  pub bad-expansion : (place : Span) → bad_of_stmt p ≡ Some place → expansion flat ≡ BadCount place
  bad-expansion place h = counted-first flat (bad_in flat.body) place (bad-body ∙ h)

  good-expansion : bad_of_stmt p ≡ None → expansion flat ≡ limited flat (kernel_body flat)
  good-expansion h = counted-none flat (bad_in flat.body) (bad-body ∙ h)

  capped-body : (x : Extent) → IsExtent x (stmt_measures p) → IsCapped x (measures_of (kernel_body flat))
  unfolding IsExtent stmt_measures
  capped-body x h = subst (IsCapped x) (ap kernel_measures is ∙ sym (m-kernel [] (length flat.signals) flat.body)) h

  -- its extent
  module _ (x : Extent) (good : bad_of_stmt p ≡ None) (of : IsExtent x (stmt_measures p)) where
    sized : (x.size ≤ KERNEL_NODES → size_of (kernel_body flat) ≤ KERNEL_NODES) × (KERNEL_NODES < x.size → KERNEL_NODES < size_of (kernel_body flat))
    sized = let c = capped-body x of in (λ h. omega (arith, c.size, h), λ h. omega (arith, c.size, h))

    raised : (x.height ≤ KERNEL_HEIGHT → height_of (kernel_body flat) ≤ KERNEL_HEIGHT)
        × (KERNEL_HEIGHT < x.height → KERNEL_HEIGHT < height_of (kernel_body flat))
    raised = let c = capped-body x of in (λ h. omega (arith, c.height, h), λ h. omega (arith, c.height, h))

    trapped : (x.traps ≤ TRAPS → trap_depth (kernel_body flat) ≤ TRAPS) × (TRAPS < x.traps → TRAPS < trap_depth (kernel_body flat))
    trapped = let c = capped-body x of in (λ h. omega (arith, c.traps, h), λ h. omega (arith, c.traps, h))

    pub large-expansion : KERNEL_NODES < x.size → expansion flat ≡ TooLarge
    large-expansion h =
        good-expansion good ∙ limited-by flat (kernel_body flat) true _ _ (lt-ltb KERNEL_NODES (size_of (kernel_body flat)) (sized.1 h)) refl refl

    pub high-expansion : x.size ≤ KERNEL_NODES → KERNEL_HEIGHT < x.height → expansion flat ≡ TooHigh
    high-expansion size h =
        good-expansion good ∙ limited-by flat (kernel_body flat) false true _ (le-ltb KERNEL_NODES (size_of (kernel_body flat)) (sized.0 size))
        (lt-ltb KERNEL_HEIGHT (height_of (kernel_body flat)) (raised.1 h)) refl

    pub trapped-expansion : x.size ≤ KERNEL_NODES → x.height ≤ KERNEL_HEIGHT → TRAPS < x.traps → expansion flat ≡ TooManyTraps
    trapped-expansion size height h =
        good-expansion good ∙ limited-by flat (kernel_body flat) false false true (le-ltb KERNEL_NODES (size_of (kernel_body flat)) (sized.0 size))
        (le-ltb KERNEL_HEIGHT (height_of (kernel_body flat)) (raised.0 height)) (lt-ltb TRAPS (trap_depth (kernel_body flat)) (trapped.1 h))

    pub whole-expansion : x.size ≤ KERNEL_NODES → x.height ≤ KERNEL_HEIGHT → x.traps ≤ TRAPS → expansion flat ≡ Expanded (program_in flat (kernel_body flat))
    whole-expansion size height traps =
        good-expansion good ∙ limited-by flat (kernel_body flat) false false false (le-ltb KERNEL_NODES (size_of (kernel_body flat)) (sized.0 size))
        (le-ltb KERNEL_HEIGHT (height_of (kernel_body flat)) (raised.0 height)) (le-ltb TRAPS (trap_depth (kernel_body flat)) (trapped.0 traps))
