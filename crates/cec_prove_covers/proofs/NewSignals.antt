-- How many signals the program of a flat one has.
use Rattle.std.proofs.Common.{◌≡◌, ◌+◌, Bool, true, false, List, [], ◌∷◌, length, sym, ap, ◌∙◌, cond, nat_lt}
use Rattle.std.specs.Prelude.{codes, replicate}
use Rattle.std.proofs.lemmas.List.{length-append, length-replicate}
use Rattle.base_types.specs.declared.bounds.TheConstants.Limits.{KERNEL_NODES, KERNEL_HEIGHT, TRAPS}
use Rattle.base_types.specs.declared.place.Span.{Span}
use Rattle.est_ast.specs.FlatTrees.{Flat}
use Rattle.est_ast.specs.NewSignals.{new_in}
use Rattle.est_dismantle.specs.Counts.{bad_in}
use Rattle.est_dismantle.specs.Expansions.{Expanded, TooHigh, TooLarge, TooManyTraps, counted, expansion, kernel_body, program_in}
use Rattle.est_kernel.specs.Plain.{Program}
use Rattle.est_kernel.specs.Sizes.{height_of, size_of, trap_depth}

passed : (a b c : Bool) (q p : Program) → cond a TooLarge (cond b TooHigh (cond c TooManyTraps (Expanded q))) ≡ Expanded p → q ≡ p
passed true b c q p h = cc
passed false true c q p h = cc
passed false false true q p h = cc
passed false false false q p h = cc

program-counted : (flat : Flat) (bad : List Span) (p : Program) → counted flat bad ≡ Expanded p → program_in flat (kernel_body flat) ≡ p
program-counted flat [] p h =
    let body = kernel_body flat in
    passed (nat_lt KERNEL_NODES (size_of body)) (nat_lt KERNEL_HEIGHT (height_of body)) (nat_lt TRAPS (trap_depth body)) (program_in flat body) p h
program-counted flat (place ∷ places) p h = cc

pub expansion-signals : (flat : Flat) (p : Program) → expansion flat ≡ Expanded p → length p.signals ≡ length flat.signals + new_in flat.body
expansion-signals flat p is =
    ap (λ (q : Program). length q.signals) (sym (program-counted flat (bad_in flat.body) p is))
    ∙ length-append flat.signals (replicate (new_in flat.body) (codes "x"))
    ∙ ap (λ k. length flat.signals + k) (length-replicate (new_in flat.body) (codes "x"))
