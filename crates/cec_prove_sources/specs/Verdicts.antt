-- To believe: what the answer to a question says of a source. `Open` says only that the program has the signals.
use Rattle.std.specs.Prelude.{◌≡◌, ◌<◌, ℕ, Bool, false, List, [], length, Option, Some, None, slice_index_or, ⊤}
use Rattle.est_kernel.specs.Plain.{Program, given_names, outgoing_names}
use Rattle.est_front.specs.Sources.{StandsFor}
use Rattle.net_ir.specs.NameLists.{is_among}
use Rattle.cec_compile.specs.Refusals.{Compiles}
use Rattle.cec_prove_sources.specs.Claims.{ClaimHolds, IsBroken}
use Rattle.cec_prove_sources.specs.TextClaims.{TextsShow}
use Rattle.cec_prove_sources.specs.TraceTexts.{IsTraceOver}
use Rattle.cec_prove_sources.specs.declared.questions.Claim.{Claim}
use Rattle.cec_prove_sources.specs.declared.questions.Layout.{Layout}
use Rattle.cec_prove_sources.specs.declared.questions.Layout.TheVariants.{LinePerInstant}
use Rattle.cec_prove_sources.specs.declared.questions.Verdict.{Verdict}
use Rattle.cec_prove_sources.specs.declared.questions.Verdict.TheVariants.{Holds, Broken, Open, NoSignal, NoAssumed}

-- a question without where it lies in memory
pub record PlainQuestion : Type 0 where
  pub claim : Claim
  pub signal : List ℕ
  pub assumed : Option (List ℕ)

-- among these names the one with this place is this one
pub record HasPlace (names : List (List ℕ)) (name : List ℕ) (place : ℕ) : Type 0 where
  pub low : place < length names
  pub is : slice_index_or names place [] ≡ name

-- the same of a name, if one is given
abbrev pub HasPlaceIfAny : List (List ℕ) → Option (List ℕ) → Option ℕ → Type 0
HasPlaceIfAny names None None = ⊤
HasPlaceIfAny names (Some name) (Some place) = HasPlace names name place
HasPlaceIfAny names None (Some place) = ⊥
HasPlaceIfAny names (Some name) None = ⊥

-- the places of the signals of a question among the outgoing ones
pub record AsksOf (p : Program) (q : PlainQuestion) (place : ℕ) (assumed : Option ℕ) : Type 0 where
  pub signal : HasPlace (outgoing_names p) q.signal place
  pub assumes : HasPlaceIfAny (outgoing_names p) q.assumed assumed

-- the program has the signals of a question
pub record HasSignals (p : Program) (q : PlainQuestion) : Type 0 where
  pub place : ℕ
  pub assumed : Option ℕ
  pub asks : AsksOf p q place assumed

-- A text is the trace of these events, over the given signals and relations of the program, and `cec run` reads it.
abbrev pub IsTraceOf : Layout → Program → (events : List (List Bool)) → (trace : List ℕ) → Type 0
IsTraceOf layout p events trace = IsTraceOver layout (given_names p) p.relations events trace

-- the claim holds of the program, and of the texts that are made of it
pub record AnswersHolds (p : Program) (q : PlainQuestion) : Type 0 where
  pub place : ℕ
  pub assumed : Option ℕ
  pub asks : AsksOf p q place assumed
  pub holds : ClaimHolds p q.claim place assumed
  pub texts : TextsShow p q.claim place assumed

pub record AnswersBroken (layout : Layout) (p : Program) (q : PlainQuestion) (trace : List ℕ) : Type 0 where
  pub place : ℕ
  pub assumed : Option ℕ
  pub asks : AsksOf p q place assumed
  pub events : List (List Bool)
  pub broken : IsBroken p q.claim place assumed events
  pub is_trace : IsTraceOf layout p events trace

-- a name is given, and no outgoing signal has it
abbrev pub IsNone : Program → Option (List ℕ) → Type 0
IsNone p None = ⊥
IsNone p (Some name) = is_among name (outgoing_names p) ≡ false

abbrev pub IsVerdict : Program → PlainQuestion → Verdict → Type 0
IsVerdict p q Holds = AnswersHolds p q
IsVerdict p q (Broken trace) = AnswersBroken LinePerInstant p q trace.items
IsVerdict p q (Open depth) = HasSignals p q
IsVerdict p q NoSignal = is_among q.signal (outgoing_names p) ≡ false
IsVerdict p q NoAssumed = IsNone p q.assumed

-- The bytes stand for a program that compiles, and the answer is one of that program.
pub record HasVerdict (text : List ℕ) (main : Option (List ℕ)) (q : PlainQuestion) (verdict : Verdict) : Type 0 where
  pub program : Program
  pub source : StandsFor text main program
  pub compiles : Compiles program
  pub says : IsVerdict program q verdict
