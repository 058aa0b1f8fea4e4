-- To believe: what a covering says of the points of a source.
use Rattle.std.specs.Prelude.{◌≡◌, ◌≤◌, ◌+◌, ◌-◌, ℕ, Bool, true, false, List, [], ◌∷◌, length, Option, ⊤}
use Rattle.std.specs.List.{list_all}
use Rattle.est_kernel.specs.Plain.{Program}
use Rattle.est_kernel.specs.WellFormed.{HasNames}
use Rattle.est_ast.specs.FlatTrees.{Flat}
use Rattle.est_cover.specs.Covered.{covered}
use Rattle.est_cover.specs.Points.{points_of}
use Rattle.est_dismantle.specs.Expansions.{Expanded, expansion}
use Rattle.est_front.specs.Sources.{Flattens, StandsFor}
use Rattle.cec_compile.specs.Refusals.{KeepsGraphLimits}
use Rattle.cec_prove_sources.specs.Surveys.{about}
use Rattle.cec_prove_sources.specs.Verdicts.{AnswersBroken, AnswersHolds, HasPlace, IsNone}
use Rattle.cec_prove_sources.specs.declared.questions.Claim.TheVariants as claims
use Rattle.cec_prove_sources.specs.declared.questions.Layout.TheVariants.{OneLine}
use Rattle.cec_prove_covers.specs.declared.coverings.Covering.{Covering}
use Rattle.cec_prove_covers.specs.declared.coverings.Covering.TheVariants.{Whole, Partly, NoAssumed}
use Rattle.cec_prove_covers.specs.Lines.{Reach, Never, Reached, Unknown, covering_text, is_decided}

-- A program is that of a covered program, in which the signal of the point with this number has this name. No two
-- signals that the environment sees have one name.
pub record ShowsPoint (flat : Flat) (number : ℕ) (p : Program) (signal : List ℕ) : Type 0 where
  pub first : ℕ
  pub names : List (List ℕ)
  pub expands : expansion (covered flat first names) ≡ Expanded p
  pub from : first ≤ number
  pub named : HasPlace names signal (number - first)
  pub differ : HasNames p

-- No reaction starts what is at the point: in no run over events that meet the relations is the point's signal present,
-- where the signal that is assumed is present in each reaction.
pub record NeverStarts (flat : Flat) (assumed : Option (List ℕ)) (number : ℕ) : Type 0 where
  pub program : Program
  pub signal : List ℕ
  pub shows : ShowsPoint flat number program signal
  pub never : AnswersHolds program (about claims.Never signal assumed)

-- The last reaction to these events starts what is at the point: its signal is present. The signal that is assumed is
-- present in each reaction.
pub record Starts (flat : Flat) (assumed : Option (List ℕ)) (number : ℕ) (trace : List ℕ) : Type 0 where
  pub program : Program
  pub signal : List ℕ
  pub shows : ShowsPoint flat number program signal
  pub starts : AnswersBroken OneLine program (about claims.Never signal assumed) trace

abbrev pub IsReach : Flat → Option (List ℕ) → (number : ℕ) → Reach → Type 0
IsReach flat assumed number Never = NeverStarts flat assumed number
IsReach flat assumed number (Reached trace) = Starts flat assumed number trace
IsReach flat assumed number Unknown = ⊤

-- the same of several points, the first of which has this number
abbrev pub AreReaches : Flat → Option (List ℕ) → (number : ℕ) → List Reach → Type 0
AreReaches flat assumed number [] = ⊤
AreReaches flat assumed number (r ∷ others) =
    IsReach flat assumed number r × AreReaches flat assumed (number + 1) others

-- A text has the lines of all points of a program, in order. It is whole where each of them is decided.
pub record IsCoveringText (source : List ℕ) (flat : Flat) (assumed : Option (List ℕ)) (text : List ℕ) (whole : Bool) :
    Type 0 where
  pub reaches : List Reach
  pub count : length reaches ≡ length (points_of flat)
  pub known : AreReaches flat assumed 0 reaches
  pub written : text ≡ covering_text source (points_of flat) reaches
  pub each_decided : whole ≡ list_all is_decided reaches

-- the same of the program that a source is flattened to
pub record IsCovering (source : List ℕ) (main assumed : Option (List ℕ)) (text : List ℕ) (whole : Bool) : Type 0 where
  pub flat : Flat
  pub flattens : Flattens source main flat
  pub lines : IsCoveringText source flat assumed text whole

abbrev pub SaysCovering : (source : List ℕ) → (main assumed : Option (List ℕ)) → Program → Covering → Type 0
SaysCovering source main assumed p (Whole text) = IsCovering source main assumed text.items true
SaysCovering source main assumed p (Partly text) = IsCovering source main assumed text.items false
SaysCovering source main assumed p NoAssumed = IsNone p assumed

-- The bytes stand for a program whose graph keeps the limits, and the covering is one of its source. The dependencies
-- of the program may have a cycle.
pub record HasCovering (source : List ℕ) (main assumed : Option (List ℕ)) (covering : Covering) : Type 0 where
  pub program : Program
  pub stands : StandsFor source main program
  pub limits : KeepsGraphLimits program
  pub says : SaysCovering source main assumed program covering
