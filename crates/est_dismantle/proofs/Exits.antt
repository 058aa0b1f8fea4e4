-- Inner: the traps around a statement as a list, and the code of an exit past a trap of the source.
use Rattle.std.proofs.Common.{◌≡◌, ℕ, zero, suc, ◌+◌, ◌-◌, ◌<◌, true, false, [], ◌∷◌, Bool, List, length, sym, ◌∙◌, ap, arith, Bor}
use Rattle.est_dismantle.specs.declared.traps.Traps.{Traps as CodeTraps, fold-roll-Traps}
use Rattle.est_dismantle.specs.declared.traps.Traps.TheOpen.{Traps-F}
use Rattle.est_dismantle.specs.declared.traps.Traps.TheVariants as traps
use Rattle.est_dismantle.specs.Kernels.{Traps, exit_code}
use Rattle.est_dismantle.specs.TrapLists.{traps_step, traps_of}

pub traps-Whole : traps_of traps.Whole ≡ []
traps-Whole = ap traps_of (sym traps.rolls-Whole) ∙ fold-roll-Traps (List Bool) traps_step Traps-F.Whole

pub traps-Source : (around : Bor CodeTraps) → traps_of (traps.Source around) ≡ true ∷ traps_of around.now
traps-Source around = ap traps_of (sym (traps.rolls-Source around)) ∙ fold-roll-Traps (List Bool) traps_step (Traps-F.Source around)

pub traps-New : (around : Bor CodeTraps) → traps_of (traps.New around) ≡ false ∷ traps_of around.now
traps-New around = ap traps_of (sym (traps.rolls-New around)) ∙ fold-roll-Traps (List Bool) traps_step (Traps-F.New around)

pub length-Source : (around : Bor CodeTraps) → length (traps_of (traps.Source around)) ≡ 1 + length (traps_of around.now)
length-Source around = omega (arith, ap length (traps-Source around))

pub length-New : (around : Bor CodeTraps) → length (traps_of (traps.New around)) ≡ 1 + length (traps_of around.now)
length-New around = omega (arith, ap length (traps-New around))

pub exit-past : (list : Traps) (k : ℕ) → 0 < k → exit_code (true ∷ list) k ≡ exit_code list (k - 1) + 1
exit-past list zero h = absurd (omega (arith, h))
exit-past list (suc k) h =
    let e : k ≡ suc k - 1 = omega arith in let g : exit_code list k ≡ exit_code list (suc k - 1) = ap (exit_code list) e in omega (arith, g)

pub ruleset exit_rows = (traps-Whole, traps-Source, traps-New, exit-past)
