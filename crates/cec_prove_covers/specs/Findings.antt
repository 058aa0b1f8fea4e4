-- Contract: what was found about the signal of a point.
use Rattle.std.specs.Prelude.{ℕ, List, Option, ⊤}
use Rattle.est_kernel.specs.Plain.{Program}
use Rattle.cec_prove_sources.specs.Surveys.{about}
use Rattle.cec_prove_sources.specs.Verdicts.{AnswersBroken, AnswersHolds}
use Rattle.cec_prove_sources.specs.declared.questions.Claim.TheVariants as claims
use Rattle.cec_prove_sources.specs.declared.questions.Finding.{Finding}
use Rattle.cec_prove_sources.specs.declared.questions.Finding.TheVariants.{Holds, Broken, Open}
use Rattle.cec_prove_sources.specs.declared.questions.Layout.TheVariants.{OneLine}
use Rattle.cec_prove_covers.specs.Lines.{Reach, Never, Reached, Unknown}

abbrev pub reach_of : Finding → Reach
reach_of Holds = Never
reach_of (Broken trace) = Reached trace.items
reach_of (Open depth) = Unknown

abbrev pub IsSignalReach : Program → (signal : List ℕ) → (assumed : Option (List ℕ)) → Reach → Type 0
IsSignalReach p signal assumed Never = AnswersHolds p (about claims.Never signal assumed)
IsSignalReach p signal assumed (Reached trace) = AnswersBroken OneLine p (about claims.Never signal assumed) trace
IsSignalReach p signal assumed Unknown = ⊤
