-- Inner: the plain form of questions and answers.
use Rattle.std.specs.Prelude.{ℕ, List, Vec, Option, option_map}
use Rattle.std.specs.declared.alloc.Global.{Global}
use Rattle.cec_prove_sources.specs.declared.questions.Presence as presences
use Rattle.cec_prove_sources.specs.declared.questions.Presence.TheVariants as known
use Rattle.cec_prove_sources.specs.declared.questions.Question.{Question}
use Rattle.cec_prove_sources.specs.Surveys.{Presence, Never, Always, Found}
use Rattle.cec_prove_sources.specs.Verdicts.{PlainQuestion}

abbrev pub plain_question : Question → PlainQuestion
plain_question q = record {
  claim = q.claim;
  signal = q.signal.now;
  assumed = option_map (λ name. name.now) q.assumed;
}

abbrev pub plain_trace : Option (Vec ℕ Global) → Option (List ℕ)
plain_trace trace = option_map (λ t. t.items) trace

abbrev pub plain_presence : presences.Presence → Presence
plain_presence known.Never = Never
plain_presence known.Always = Always
plain_presence (known.Found present absent) = Found (plain_trace present) (plain_trace absent)
