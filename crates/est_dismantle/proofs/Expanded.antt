-- Inner: the kernel program of a flat program is well formed.
use Rattle.std.proofs.Common.{◌≡◌, ℕ, ◌+◌, ◌≤◌, Bool, true, false, nat_lt, cond, All, IsTrue, List, [], ◌∷◌, ◌++◌, length, refl, sym, ◌∙◌, ap, subst, arith}
use Rattle.std.specs.Prelude.{codes, replicate}
use Rattle.std.proofs.lemmas.List.Elements.{All-weaker}
use Rattle.std.proofs.lemmas.List.{length-append, length-replicate, take-append-le}
use Rattle.std.proofs.lemmas.Bool.{ltb-false}
use Rattle.base_types.specs.declared.place.Span.{Span}
use Rattle.base_types.specs.declared.bounds.TheConstants.Limits.{KERNEL_NODES, KERNEL_HEIGHT, TRAPS}
use Rattle.base_types.specs.Names.{is_name, is_same_name}
use Rattle.base_types.specs.Distinct.{all_differ}
use Rattle.base_types.specs.Relations.{Relation, Implies, Excludes}
use Rattle.est_kernel.specs.Terms.{Term}
use Rattle.est_kernel.specs.Plain.{Program}
use Rattle.est_kernel.specs.Sizes.{size_of, height_of, trap_depth}
use Rattle.est_kernel.specs.WellFormed.{SignalsFit, RelatesGiven, IsWellFormed, HasNames}
use Rattle.est_ast.specs.FlatTrees.{Flat}
use Rattle.est_ast.specs.FlatPrograms as flats
use Rattle.est_ast.specs.FlatPrograms.{seen_count, whole_scope, IsFlat, IsNamed}
use Rattle.est_ast.specs.NewSignals.{new_in}
use Rattle.est_dismantle.specs.Counts.{bad_in}
use Rattle.est_dismantle.specs.Expansions.{Expanded, TooLarge, TooHigh, TooManyTraps, kernel_body, program_in, limited, counted, expansion}
use Rattle.est_dismantle.specs.Measures.{kernel_measures}
use Rattle.est_dismantle.specs.NewTraps.{traps_in}
use Rattle.est_dismantle.proofs.Fitting.{Placed, placed}
use Rattle.est_dismantle.proofs.Measured.{m-kernel}
use Rattle.est_dismantle.proofs.NewTraps.{new-within, traps-within}

-- a body within the limits, and its program
record Limited (flat : Flat) (body : Term) (p : Program) : Type 0 where
  size : size_of body ≤ KERNEL_NODES
  height : height_of body ≤ KERNEL_HEIGHT
  traps : trap_depth body ≤ TRAPS
  program : program_in flat body ≡ p

within : (a b c : Bool) (q p : Program) → cond a TooLarge (cond b TooHigh (cond c TooManyTraps (Expanded q))) ≡ Expanded p →
    (a ≡ false) × (b ≡ false) × (c ≡ false) × (q ≡ p)
within true b c q p h = cc
within false true c q p h = cc
within false false true q p h = cc
within false false false q p h = (refl, refl, refl, cc)

limited-inside : (flat : Flat) (body : Term) (p : Program) → limited flat body ≡ Expanded p → Limited flat body p
limited-inside flat body p h =
    let w = within (nat_lt KERNEL_NODES (size_of body)) (nat_lt KERNEL_HEIGHT (height_of body)) (nat_lt TRAPS (trap_depth body)) (program_in flat body) p h in
    record {
      size = ltb-false KERNEL_NODES (size_of body) w.0;
      height = ltb-false KERNEL_HEIGHT (height_of body) w.1;
      traps = ltb-false TRAPS (trap_depth body) w.2;
      program = w.3;
    }

counted-inside : (flat : Flat) (bad : List Span) (p : Program) → counted flat bad ≡ Expanded p → Limited flat (kernel_body flat) p
counted-inside flat [] p h = limited-inside flat (kernel_body flat) p h
counted-inside flat (place ∷ places) p h = cc

counted-good : (flat : Flat) (bad : List Span) (p : Program) → counted flat bad ≡ Expanded p → bad ≡ []
counted-good flat [] p h = refl
counted-good flat (place ∷ places) p h = cc

-- where a flat program stands for a kernel program, its new signals and the traps around its exits keep the limits
pub expansion-inside : (flat : Flat) (p : Program) → expansion flat ≡ Expanded p → (new_in flat.body ≤ KERNEL_NODES) × (traps_in flat.body ≤ TRAPS)
expansion-inside flat p is =
    let good = counted-good flat (bad_in flat.body) p is in
    let l = counted-inside flat (bad_in flat.body) p is in
    let m = m-kernel [] (length flat.signals) flat.body in
    let size : size_of (kernel_body flat) ≡ (kernel_measures flat.body).size = ap (λ x. x.size) m in
    let traps : trap_depth (kernel_body flat) ≡ (kernel_measures flat.body).traps = ap (λ x. x.traps) m in
    (omega (arith, new-within flat.body good, l.size, size), omega (arith, traps-within flat.body good, l.traps, traps))

-- ---- the program

signal_count : (flat : Flat) → length (flat.signals ++ replicate (new_in flat.body) (codes "x")) ≡ length flat.signals + new_in flat.body
signal_count flat =
    length-append flat.signals (replicate (new_in flat.body) (codes "x")) ∙ ap (λ k. length flat.signals + k) (length-replicate (new_in flat.body) (codes "x"))

whole : (flat : Flat) → IsFlat flat → Placed flat.inputs (seen_count flat) (length flat.signals) (length flat.signals + new_in flat.body) 0
    (λ s. nat_lt s (seen_count flat)) (kernel_body flat)
whole flat h =
    placed flat.inputs (seen_count flat) (length flat.signals) (length flat.signals + new_in flat.body) (whole_scope flat) [] (length flat.signals) flat.body
    (record { traps = refl; given = omega (arith, h.interface); local = h.interface; room = omega arith; wide = omega arith }) h.body

relates-given : (given : ℕ) (r : Relation) → flats.RelatesGiven given r → RelatesGiven given r
relates-given given (Implies a b) h = h
relates-given given (Excludes list) h = h

made : (flat : Flat) (p : Program) → IsFlat flat → Limited flat (kernel_body flat) p → IsWellFormed (program_in flat (kernel_body flat))
made flat p h l =
    let w = whole flat h in let n = signal_count flat in
    record {
      body = record { size = l.size; height = l.height; traps = l.traps; exits = w.exits };
      at_most = omega (arith, n, h.room);
      interface = omega (arith, n, h.interface);
      signals = subst (λ k. SignalsFit flat.inputs (seen_count flat) k (λ s. nat_lt s (seen_count flat)) (kernel_body flat)) (sym n) w.signals;
      relations = All-weaker (flats.RelatesGiven (flat.inputs + flat.both)) (RelatesGiven (flat.inputs + flat.both)) (relates-given (flat.inputs + flat.both))
          flat.relations h.relations;
    }

-- the program that a flat program stands for is well formed
pub expansion-well_formed : (flat : Flat) (p : Program) → IsFlat flat → expansion flat ≡ Expanded p → IsWellFormed p
expansion-well_formed flat p h is =
    let l = counted-inside flat (bad_in flat.body) p is in subst IsWellFormed l.program (made flat p h l)

named : (flat : Flat) → IsFlat flat → IsNamed flat → HasNames (program_in flat (kernel_body flat))
named flat h written =
    let same = take-append-le (seen_count flat) flat.signals (replicate (new_in flat.body) (codes "x")) h.interface in
    record {
      name = written.name;
      interface = subst (λ l. All (λ n. IsTrue (is_name n)) l) (sym same) written.names;
      differ = subst (λ l. IsTrue (all_differ is_same_name l)) (sym same) h.differ;
    }

-- and its names differ, and can be written where those of the flat program can
pub expansion-names : (flat : Flat) (p : Program) → IsFlat flat → IsNamed flat → expansion flat ≡ Expanded p → HasNames p
expansion-names flat p h names is =
    let l = counted-inside flat (bad_in flat.body) p is in subst HasNames l.program (named flat h names)
