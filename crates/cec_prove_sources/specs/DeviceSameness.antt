-- To believe: what it means that two devices show the same, and what a comparison of two says.
use Rattle.std.specs.Prelude.{◌≡◌, ◌≢◌, ℕ, Bool, List, [], ◌∷◌, ◌++◌}
use Rattle.base_types.specs.Items.{Item}
use Rattle.net_never.specs.Reached.{items_of}
use Rattle.cec_prove_sources.specs.Devices.{Device, FitsDevice}
use Rattle.cec_prove_sources.specs.TraceTexts.{IsTraceOver}
use Rattle.cec_prove_sources.specs.declared.questions.Comparison.{Comparison}
use Rattle.cec_prove_sources.specs.declared.questions.Comparison.TheVariants.{Same, Different, Open, OtherGiven}
use Rattle.cec_prove_sources.specs.declared.questions.Comparison.TheVariants.{OtherOutgoing, OtherRelations}
use Rattle.cec_prove_sources.specs.declared.questions.Layout.TheVariants.{LinePerInstant}

-- the inputs and the outputs have the same names, each in order, and the relations are the same
pub record SharesNames (d e : Device) : Type 0 where
  pub inputs : d.inputs ≡ e.inputs
  pub outputs : d.outputs ≡ e.outputs
  pub relations : d.relations ≡ e.relations

-- Over every list of items whose events fit, both devices show the same rows.
abbrev pub SameRows : Device → Device → Type 0
SameRows d e = (items : List Item) → FitsDevice d items
    → (rows : List (List Bool)) × d.Shows items rows × e.Shows items rows

-- These events fit, and the last rows that the devices show are not the same.
pub record TellsApart (d e : Device) (events : List (List Bool)) : Type 0 where
  pub items_fit : FitsDevice d (items_of events)
  pub left : List (List Bool)
  pub left_last : List Bool
  pub left_shows : d.Shows (items_of events) (left ++ left_last ∷ [])
  pub right : List (List Bool)
  pub right_last : List Bool
  pub right_shows : e.Shows (items_of events) (right ++ right_last ∷ [])
  pub differ : left_last ≢ right_last

pub record AreSameDevices (d e : Device) : Type 0 where
  pub names : SharesNames d e
  pub rows : SameRows d e

pub record AreDifferentDevices (d e : Device) (trace : List ℕ) : Type 0 where
  pub names : SharesNames d e
  pub events : List (List Bool)
  pub difference : TellsApart d e events
  pub is_trace : IsTraceOver LinePerInstant d.inputs d.relations events trace

-- The comparison of two devices. Other outputs come only where the inputs are the same.
abbrev pub IsDeviceComparison : Device → Device → Comparison → Type 0
IsDeviceComparison d e Same = AreSameDevices d e
IsDeviceComparison d e (Different trace) = AreDifferentDevices d e trace.items
IsDeviceComparison d e (Open depth) = SharesNames d e
IsDeviceComparison d e OtherGiven = d.inputs ≢ e.inputs
IsDeviceComparison d e OtherOutgoing = (d.inputs ≡ e.inputs) × (d.outputs ≢ e.outputs)
IsDeviceComparison d e OtherRelations = d.relations ≢ e.relations
