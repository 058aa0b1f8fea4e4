-- To believe: what a survey says of the outgoing signals of a source.
use Rattle.std.specs.Prelude.{◌≡◌, ℕ, Bool, true, false, List, [], ◌∷◌, ◌++◌, Option, Some, None, IfSome, codes}
use Rattle.std.specs.List.{AllZip, list_all}
use Rattle.est_kernel.specs.Plain.{Program, outgoing_names}
use Rattle.est_front.specs.Sources.{StandsFor}
use Rattle.cec_compile.specs.Refusals.{Compiles}
use Rattle.cec_prove_sources.specs.Verdicts.{AnswersBroken, AnswersHolds, IsNone, PlainQuestion}
use Rattle.cec_prove_sources.specs.declared.questions.Claim.{Claim}
use Rattle.cec_prove_sources.specs.declared.questions.Claim.TheVariants as claims
use Rattle.cec_prove_sources.specs.declared.questions.Layout.TheVariants.{OneLine}
use Rattle.cec_prove_sources.specs.declared.questions.Survey.{Survey}
use Rattle.cec_prove_sources.specs.declared.questions.Survey.TheVariants.{Whole, Partly, NoAssumed}

-- what is known of an outgoing signal
pub data Presence : Type 0 where
  -- it is present in no reaction
  Never : Presence
  -- it is present in each reaction
  Always : Presence
  -- traces to a reaction in which it is present, and to one in which it is absent, where they were found
  Found : (present absent : Option (List ℕ)) → Presence

abbrev pub about : Claim → (name : List ℕ) → (assumed : Option (List ℕ)) → PlainQuestion
about claim name assumed = record { claim = claim; signal = name; assumed = assumed }

-- a trace to a reaction that breaks the claim about a signal, if there is one
abbrev pub BreaksIfAny : Program → Claim → (name : List ℕ) → (assumed : Option (List ℕ)) → Option (List ℕ) → Type 0
BreaksIfAny p claim name assumed trace = IfSome trace (AnswersBroken OneLine p (about claim name assumed))

-- what is known of the signal of this name, where another one, if one is named, is present in each reaction
abbrev pub IsPresence : Program → (assumed : Option (List ℕ)) → (name : List ℕ) → Presence → Type 0
IsPresence p assumed name Never = AnswersHolds p (about claims.Never name assumed)
IsPresence p assumed name Always = AnswersHolds p (about claims.Always name assumed)
IsPresence p assumed name (Found present absent) =
    BreaksIfAny p claims.Never name assumed present × BreaksIfAny p claims.Always name assumed absent

-- ---- lines

-- a line with a trace, if there is one
abbrev pub trace_line : (name said : List ℕ) → Option (List ℕ) → List ℕ
trace_line name said None = []
trace_line name said (Some trace) = name ++ (said ++ (trace ++ codes "\n"))

-- two traces show that a signal is present in some reactions and absent in others
abbrev pub found_word : Option (List ℕ) → Option (List ℕ) → List ℕ
found_word (Some present) (Some absent) = codes " sometimes\n"
found_word present None = codes " undecided\n"
found_word None absent = codes " undecided\n"

abbrev pub presence_text : List ℕ → Presence → List ℕ
presence_text name Never = name ++ codes " never\n"
presence_text name Always = name ++ codes " always\n"
presence_text name (Found present absent) = name ++ (found_word present absent
    ++ (trace_line name (codes " present:") present ++ trace_line name (codes " absent:") absent))

abbrev pub survey_text : List (List ℕ) → List Presence → List ℕ
survey_text (name ∷ names) (known ∷ others) = presence_text name known ++ survey_text names others
survey_text [] others = []
survey_text (name ∷ names) [] = []

-- whether it is known when a signal is present
abbrev pub is_known : Presence → Bool
is_known Never = true
is_known Always = true
is_known (Found (Some present) (Some absent)) = true
is_known (Found present None) = false
is_known (Found None absent) = false

-- ---- surveys

-- A text is the survey of these signals, and whether it is whole: each of them is known.
pub record IsSurveyText (p : Program) (assumed : Option (List ℕ)) (names : List (List ℕ)) (text : List ℕ)
    (whole : Bool) : Type 0 where
  pub presences : List Presence
  pub known : AllZip (IsPresence p assumed) names presences
  pub written : text ≡ survey_text names presences
  pub each_known : whole ≡ list_all is_known presences

abbrev pub IsSurvey : Program → Option (List ℕ) → Survey → Type 0
IsSurvey p assumed (Whole text) = IsSurveyText p assumed (outgoing_names p) text.items true
IsSurvey p assumed (Partly text) = IsSurveyText p assumed (outgoing_names p) text.items false
IsSurvey p assumed NoAssumed = IsNone p assumed

-- The bytes stand for a program that compiles, and the survey is one of that program.
pub record HasSurvey (text : List ℕ) (main : Option (List ℕ)) (assumed : Option (List ℕ)) (survey : Survey) :
    Type 0 where
  pub program : Program
  pub source : StandsFor text main program
  pub compiles : Compiles program
  pub says : IsSurvey program assumed survey
