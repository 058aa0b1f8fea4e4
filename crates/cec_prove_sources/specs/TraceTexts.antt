-- To believe: the trace of events, in the form that `cec run` reads.
use Rattle.std.specs.Prelude.{◌≡◌, ◌≤◌, ℕ, ◌+◌, Bool, false, List, [], ◌∷◌, ◌++◌, None, codes, length, slice_index_or}
use Rattle.std.specs.Prelude.{if◌then◌else◌}
use Rattle.std.specs.List.{flat_map}
use Rattle.base_types.specs.Relations.{Relation}
use Rattle.base_types.specs.declared.bounds.TheConstants.Limits.{TRACE_BYTES}
use Rattle.net_never.specs.Reached.{items_of}
use Rattle.run_trace_io.specs.Answers.{IsTrace, beginning}
use Rattle.cec_prove_sources.specs.declared.questions.Layout.{Layout}
use Rattle.cec_prove_sources.specs.declared.questions.Layout.TheVariants.{LinePerInstant, OneLine}

-- the name of the given signal with this place and a space, where it is present in the event
abbrev pub present_word : List Bool → ℕ → List ℕ → List ℕ
present_word event place name = if slice_index_or event place false then name ++ codes " " else []

-- the same of several names, the first of which has this place
abbrev pub present_text : List Bool → ℕ → List (List ℕ) → List ℕ
present_text event place [] = []
present_text event place (name ∷ names) = present_word event place name ++ present_text event (place + 1) names

-- what comes before and after the names of an instant
abbrev pub before_instant : Layout → List ℕ
before_instant LinePerInstant = []
before_instant OneLine = codes " "

abbrev pub after_instant : Layout → List ℕ
after_instant LinePerInstant = codes ";\n"
after_instant OneLine = codes ";"

abbrev pub instant_text : Layout → List (List ℕ) → List Bool → List ℕ
instant_text layout names event = before_instant layout ++ (present_text event 0 names ++ after_instant layout)

abbrev pub trace_text : Layout → List (List ℕ) → List (List Bool) → List ℕ
trace_text layout names events = flat_map (instant_text layout names) events

-- A text is the trace of these events over inputs of these names, in one of the two layouts. `cec run` reads it: it is
-- not too long, its items are these events, and each of them meets the relations.
pub record IsTraceOver (layout : Layout) (inputs : List (List ℕ)) (relations : List Relation)
    (events : List (List Bool)) (trace : List ℕ) : Type 0 where
  pub spelled : trace ≡ trace_text layout inputs events
  pub short : length trace ≤ TRACE_BYTES
  pub reads : IsTrace (beginning trace inputs relations) (items_of events) None
