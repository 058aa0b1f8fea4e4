-- Contract: what the answers say of sources whose dependencies may have a cycle. What is said of a program is
-- what the answers of cec_prove_sources say of it.
use Rattle.std.specs.Prelude.{ℕ, List, Option}
use Rattle.est_kernel.specs.Plain.{Program}
use Rattle.net_ir.specs.Netlists.{Netlist}
use Rattle.est_front.specs.Sources.{StandsFor}
use Rattle.cec_compile.specs.Refusals.{KeepsGraphLimits}
use Rattle.cec_cycles.specs.Constructive.{IsRefusedConstructive, StandsForConstructiveMade}
use Rattle.cec_prove_sources.specs.Sameness.{IsComparison}
use Rattle.cec_prove_sources.specs.Surveys.{IsSurvey}
use Rattle.cec_prove_sources.specs.Verdicts.{PlainQuestion, IsVerdict}
use Rattle.cec_prove_sources.specs.declared.questions.Comparison.{Comparison}
use Rattle.cec_prove_sources.specs.declared.questions.Survey.{Survey}
use Rattle.cec_prove_sources.specs.declared.questions.Verdict.{Verdict}
use Rattle.cec_prove_cycles.specs.declared.refusal.CyclePairRefusal.{CyclePairRefusal}
use Rattle.cec_prove_cycles.specs.declared.refusal.CyclePairRefusal.TheVariants.{First, Second}

-- The bytes stand for a program whose graph keeps the limits, and the answer is one of that program.
pub record HasConstructiveVerdict (text : List ℕ) (main : Option (List ℕ)) (q : PlainQuestion) (verdict : Verdict) :
    Type 0 where
  pub program : Program
  pub source : StandsFor text main program
  pub limits : KeepsGraphLimits program
  pub says : IsVerdict program q verdict

-- the same of a survey, where the signal of this name, if one is named, is assumed
pub record HasConstructiveSurvey (text : List ℕ) (main : Option (List ℕ)) (assumed : Option (List ℕ))
    (survey : Survey) : Type 0 where
  pub program : Program
  pub source : StandsFor text main program
  pub limits : KeepsGraphLimits program
  pub says : IsSurvey program assumed survey

-- The bytes of each source stand for such a program, and the comparison is one of the two programs.
pub record HasConstructiveComparison (first second : List ℕ) (main : Option (List ℕ)) (comparison : Comparison) :
    Type 0 where
  pub left : Program
  pub left_source : StandsFor first main left
  pub left_limits : KeepsGraphLimits left
  pub right : Program
  pub right_source : StandsFor second main right
  pub right_limits : KeepsGraphLimits right
  pub says : IsComparison left right comparison

-- the bytes of the second source stand for such a program, and the comparison is one of the two programs
pub record ComparesWithConstructive (left : Program) (second : List ℕ) (main : Option (List ℕ))
    (comparison : Comparison) : Type 0 where
  pub right : Program
  pub right_source : StandsFor second main right
  pub right_limits : KeepsGraphLimits right
  pub says : IsComparison left right comparison

-- The bytes stand for a program whose graph keeps the limits, and a netlist keeps what it means. So over every list of
-- items that fit, its reactions are constructive.
abbrev pub HasConstructiveNet : List ℕ → Option (List ℕ) → Type 0
HasConstructiveNet text main = (program : Program) × (net : Netlist) × StandsForConstructiveMade text main program net

-- one of the two sources has no constructive netlist; where it is the second one, the first one has
abbrev pub IsPairRefusedConstructive : (first second : List ℕ) → (main : Option (List ℕ)) → CyclePairRefusal → Type 0
IsPairRefusedConstructive first second main (First refusal) = IsRefusedConstructive first main refusal
IsPairRefusedConstructive first second main (Second refusal) =
    HasConstructiveNet first main × IsRefusedConstructive second main refusal
