-- To believe: what it means that two programs answer the same, and what a comparison of two says.
use Rattle.std.specs.Prelude.{◌≡◌, ◌≢◌, ℕ, Bool, List, [], ◌∷◌, ◌++◌, map, Some}
use Rattle.base_types.specs.Items.{Item}
use Rattle.est_kernel.specs.Plain.{Program, given_names, outgoing_names}
use Rattle.est_kernel.specs.Reactions.{Answer, run_of}
use Rattle.net_never.specs.Reached.{items_of}
use Rattle.cec_compile.specs.Meaning.{AreItems, seen_of}
use Rattle.cec_prove_sources.specs.Verdicts.{IsTraceOf}
use Rattle.cec_prove_sources.specs.declared.questions.Layout.TheVariants.{LinePerInstant}
use Rattle.cec_prove_sources.specs.declared.questions.Comparison.{Comparison}
use Rattle.cec_prove_sources.specs.declared.questions.Comparison.TheVariants.{Same, Different, Open, OtherGiven}
use Rattle.cec_prove_sources.specs.declared.questions.Comparison.TheVariants.{OtherOutgoing, OtherRelations}

-- the given signals, the outgoing signals and the relations are the same, each in order
pub record SharesInterface (p q : Program) : Type 0 where
  pub given : given_names p ≡ given_names q
  pub outgoing : outgoing_names p ≡ outgoing_names q
  pub relations : p.relations ≡ q.relations

-- Over every list of items, events that meet the relations and resets, the reactions of both programs are constructive,
-- and in each one the same outgoing signals are present and both programs pause or neither does.
abbrev pub SameAnswers : Program → Program → Type 0
SameAnswers p q = (items : List Item) → AreItems p items
    → (left : List Answer) × (right : List Answer) × (run_of p items ≡ Some left) × (run_of q items ≡ Some right)
    × (map seen_of left ≡ map seen_of right)

-- These events meet the relations, and the last reaction of both programs to them is not the same.
pub record IsDifference (p q : Program) (events : List (List Bool)) : Type 0 where
  pub items_fit : AreItems p (items_of events)
  pub left : List Answer
  pub left_last : Answer
  pub left_runs : run_of p (items_of events) ≡ Some (left ++ left_last ∷ [])
  pub right : List Answer
  pub right_last : Answer
  pub right_runs : run_of q (items_of events) ≡ Some (right ++ right_last ∷ [])
  pub differ : seen_of left_last ≢ seen_of right_last

pub record AreSame (p q : Program) : Type 0 where
  pub interface : SharesInterface p q
  pub answers : SameAnswers p q

pub record AreDifferent (p q : Program) (trace : List ℕ) : Type 0 where
  pub interface : SharesInterface p q
  pub events : List (List Bool)
  pub difference : IsDifference p q events
  pub is_trace : IsTraceOf LinePerInstant p events trace

abbrev pub IsComparison : Program → Program → Comparison → Type 0
IsComparison p q Same = AreSame p q
IsComparison p q (Different trace) = AreDifferent p q trace.items
IsComparison p q (Open depth) = SharesInterface p q
IsComparison p q OtherGiven = given_names p ≢ given_names q
IsComparison p q OtherOutgoing = outgoing_names p ≢ outgoing_names q
IsComparison p q OtherRelations = p.relations ≢ q.relations
