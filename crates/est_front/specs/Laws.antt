-- Contract: laws of what sources stand for.
use Rattle.std.specs.Prelude.{◌≡◌, ℕ, List, Option}
use Rattle.est_kernel.specs.Plain.{Program}
use Rattle.est_kernel.specs.WellFormed.{IsWellFormed, HasNames}
use Rattle.est_front.specs.declared.refusal.SourceRefusal.{SourceRefusal}
use Rattle.est_front.specs.declared.refusal.SourceRefusal.TheVariants.{NoMemory}
use Rattle.est_front.specs.Refusals.{IsSourceRefused}
use Rattle.est_front.specs.Sources.{Expands, StandsFor}

-- A text stands for at most one kernel program, for each main module.
abbrev pub TextsStandForOneProgram : Type 0
TextsStandForOneProgram =
    (text : List ℕ) (main : Option (List ℕ)) (one other : Program) →
    StandsFor text main one → StandsFor text main other → one ≡ other

-- The expansion of a text keeps what a kernel program keeps: the limits, each exit in its trap, each signal in its
-- scope, no input emitted.
abbrev pub ExpandedTextsAreWellFormed : Type 0
ExpandedTextsAreWellFormed =
    (text : List ℕ) (main : Option (List ℕ)) (p : Program) → Expands text main p → IsWellFormed p

-- Its name and the names of its interface can be written, and no two signals of the interface have one name.
abbrev pub ExpandedTextsHaveNames : Type 0
ExpandedTextsHaveNames =
    (text : List ℕ) (main : Option (List ℕ)) (p : Program) → Expands text main p → HasNames p

-- A text that stands for a program has no cause of a refusal; out of memory needs none.
abbrev pub StandingTextsAreNotRefused : Type 0
StandingTextsAreNotRefused =
    (text : List ℕ) (main : Option (List ℕ)) (p : Program) (refusal : SourceRefusal) →
    StandsFor text main p → IsSourceRefused text main refusal → refusal ≡ NoMemory
