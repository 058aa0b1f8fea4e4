-- To believe: the groups of a trace. A group is any number of names, ended by `;`. A group whose only name is `!reset`
-- is a reset; every other group is an instant, and its names are names of inputs. Where an input itself has the name
-- `!reset`, there are no resets. The first fault in the order of the text is the fault of the trace.
use Rattle.std.specs.Prelude.{ℕ, Bool, true, false, not, ◌&&◌, List, [], ◌∷◌, length, drop, slice_index_or}
use Rattle.std.specs.Prelude.{slice_set, replicate, codes, position, if◌then◌else◌, Option, Some, None}
use Rattle.std.specs.List.{list_any}
use Rattle.base_types.specs.Names.{is_same_name}
use Rattle.base_types.specs.Relations.{Relation}
use Rattle.run_trace_io.specs.declared.faults.TraceFault.{TraceFault}
use Rattle.run_trace_io.specs.declared.faults.TraceFault.TheVariants as faults
use Rattle.run_trace_io.specs.Tokens.{TraceToken, Semicolon, BadByte, Name, tokens}

-- the name of a reset
abbrev pub reset_name : List ℕ
reset_name = codes "!reset"

abbrev pub has_resets : List (List ℕ) → Bool
has_resets inputs = not (list_any (is_same_name reset_name) inputs)

-- what was in a group so far: nothing, names of inputs, or the name of a reset
pub data Stage : Type 0 where
  Fresh : Stage
  Named : Stage
  Resetting : Stage

-- what a name does: it is a fault, or the group goes on at this stage with these inputs present
pub data NameEffect : Type 0 where
  Faulty : (fault : TraceFault) → NameEffect
  Goes : (stage : Stage) (event : List Bool) → NameEffect

-- a name after a reset in its group, or a reset after a name
abbrev pub is_misplaced : Stage → List ℕ → Bool
is_misplaced Fresh name = false
is_misplaced Named name = is_same_name reset_name name
is_misplaced Resetting name = true

-- the name of the input at a place, if it is one
abbrev pub met_input : ℕ → List Bool → List ℕ → Option ℕ → NameEffect
met_input instant event name None = Faulty (faults.UnknownInput instant name)
met_input instant event name (Some place) =
    if slice_index_or event place false then Faulty (faults.Repeated instant name)
    else Goes Named (slice_set event place true)

abbrev pub met_name : List (List ℕ) → ℕ → Stage → List Bool → List ℕ → NameEffect
met_name inputs instant stage event name =
    if has_resets inputs && is_misplaced stage name then Faulty (faults.BadReset instant)
    else if has_resets inputs && is_same_name reset_name name then Goes Resetting event
    else met_input instant event name (position (is_same_name name) inputs)

-- what the next group is: the end of the text, a reset or an instant with the place after it, or a fault
pub data TraceGroup : Type 0 where
  End : TraceGroup
  Reset : (behind : ℕ) → TraceGroup
  Instant : (event : List Bool) (behind : ℕ) → TraceGroup
  Refused : (fault : TraceFault) → TraceGroup

-- a group that ends
abbrev pub closed_group : Stage → List Bool → ℕ → TraceGroup
closed_group Fresh event behind = Instant event behind
closed_group Named event behind = Instant event behind
closed_group Resetting event behind = Reset behind

-- a text that ends: only between groups
abbrev pub ended : ℕ → Stage → TraceGroup
ended instant Fresh = End
ended instant Named = Refused (faults.OpenInstant instant)
ended instant Resetting = Refused (faults.OpenInstant instant)

-- after a name
abbrev pub behind_name : (Stage → List Bool → TraceGroup) → NameEffect → TraceGroup
behind_name rest (Faulty fault) = Refused fault
behind_name rest (Goes stage event) = rest stage event

-- the group that the tokens are, by the names of the inputs, the number of the instant, and what stood before
abbrev pub group : List (List ℕ) → ℕ → Stage → List Bool → List TraceToken → TraceGroup
group inputs instant stage event [] = ended instant stage
group inputs instant stage event (BadByte place ∷ more) = Refused (faults.BadByte place)
group inputs instant stage event (Semicolon behind ∷ more) = closed_group stage event behind
group inputs instant stage event (Name name ∷ more) =
    behind_name (λ s e. group inputs instant s e more) (met_name inputs instant stage event name)

-- a trace that is read: the text, the place from which it is left, and the number of the next instant, from 1
pub record Reading : Type 0 where
  pub text : List ℕ
  pub inputs : List (List ℕ)
  pub relations : List Relation
  pub at : ℕ
  pub instant : ℕ

-- the group from a place of a text on
abbrev pub group_from : List (List ℕ) → ℕ → List ℕ → ℕ → TraceGroup
group_from inputs instant text at =
    group inputs instant Fresh (replicate (length inputs) false) (tokens false at (drop at text))

abbrev pub next_group : Reading → TraceGroup
next_group r = group_from r.inputs r.instant r.text r.at
