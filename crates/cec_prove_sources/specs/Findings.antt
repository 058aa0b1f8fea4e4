-- Contract: what the search for a proof or a trace finds.
use Rattle.est_kernel.specs.Plain.{Program}
use Rattle.cec_prove_sources.specs.Verdicts.{AnswersBroken, AnswersHolds, HasSignals, PlainQuestion}
use Rattle.cec_prove_sources.specs.declared.questions.Finding.{Finding}
use Rattle.cec_prove_sources.specs.declared.questions.Finding.TheVariants.{Holds, Broken, Open}
use Rattle.cec_prove_sources.specs.declared.questions.Layout.{Layout}

abbrev pub IsFinding : Layout → Program → PlainQuestion → Finding → Type 0
IsFinding layout p q Holds = AnswersHolds p q
IsFinding layout p q (Broken trace) = AnswersBroken layout p q trace.items
IsFinding layout p q (Open depth) = HasSignals p q
