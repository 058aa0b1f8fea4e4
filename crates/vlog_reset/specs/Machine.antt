-- To believe: what a module with a reset does, step by step. A step is a rising edge of the clock, or a pulse of the
-- reset between two such edges. The reset acts on the registers alone. An asynchronous reset gives them their first
-- values as long as it is active, and a synchronous one at the rising edges at which it is active (IEEE 1364).
use Rattle.std.specs.Prelude.{◌≡◌, ℕ, Bool, true, not, ◌&&◌, ◌⊎◌, List, [], ◌∷◌, length, map, if◌then◌else◌}
use Rattle.base_types.specs.Items.{Item, Event, Reset}
use Rattle.vlog_text.specs.Machine.{IsInstant, initial_registers}
use Rattle.vlog_reset.specs.Trees.{Manner, ResetModule}

-- A rising edge of the clock, with the level of the reset's port and the values of the inputs. Or a pulse, in which the
-- reset becomes active and inactive again between two rising edges.
pub data ClockStep : Type 0 where
  Edge : (level : Bool) (given : List Bool) → ClockStep
  Pulse : ClockStep

-- whether the reset is active where its port has this level
abbrev pub is_active : Manner → Bool → Bool
is_active manner level = if manner.is_active_low then not level else level

-- ---- the values of the registers

-- at a rising edge, by those before it: of an asynchronous module the reset has acted already
abbrev pub registers_at : ResetModule → Bool → List Bool → List Bool
registers_at m active registers =
    if m.manner.is_asynchronous && active then initial_registers m.design else registers

-- after a rising edge, where the names have these values at the edge
abbrev pub registers_after : ResetModule → Bool → (List ℕ → Bool) → List Bool
registers_after m active v = if active then initial_registers m.design else map (λ r. v r.from) m.design.registers

-- after a pulse
abbrev pub registers_pulsed : ResetModule → List Bool → List Bool
registers_pulsed m registers = if m.manner.is_asynchronous then initial_registers m.design else registers

-- ---- runs

-- The valuations, one for each rising edge, are those of a run that begins with these values of the registers. At each
-- edge every assignment is met.
abbrev pub IsEdgeRun : ResetModule → List Bool → List ClockStep → List (List ℕ → Bool) → Type 0
IsEdgeRun m registers [] [] = Unit {0}
IsEdgeRun m registers [] (v ∷ vs) = ⊥
IsEdgeRun m registers (Edge level given ∷ steps) [] = ⊥
IsEdgeRun m registers (Edge level given ∷ steps) (v ∷ vs) =
    IsInstant m.design (registers_at m (is_active m.manner level) registers) given v
    × IsEdgeRun m (registers_after m (is_active m.manner level) v) steps vs
IsEdgeRun m registers (Pulse ∷ steps) vs = IsEdgeRun m (registers_pulsed m registers) steps vs

-- what is seen of a run: `see` of the valuation at each edge whose reset is inactive
abbrev pub seen_by : {X : Type 0} → ((List ℕ → Bool) → X) → Manner → List ClockStep → List (List ℕ → Bool) → List X
seen_by see manner [] vs = []
seen_by see manner (Edge level given ∷ steps) [] = []
seen_by see manner (Edge level given ∷ steps) (v ∷ vs) =
    if is_active manner level then seen_by see manner steps vs else see v ∷ seen_by see manner steps vs
seen_by see manner (Pulse ∷ steps) vs = seen_by see manner steps vs

-- ---- steps as items

-- An edge whose reset is inactive is an event, and one whose reset is active is a reset. A pulse is a reset if it
-- has an effect.
abbrev pub step_items : Manner → List ClockStep → List Item
step_items manner [] = []
step_items manner (Edge level given ∷ steps) =
    (if is_active manner level then Reset else Event given) ∷ step_items manner steps
step_items manner (Pulse ∷ steps) =
    if manner.is_asynchronous then Reset ∷ step_items manner steps else step_items manner steps

-- the first item is a reset
abbrev pub BeginsReset : List Item → Type 0
BeginsReset [] = Unit {0}
BeginsReset (Event inputs ∷ items) = ⊥
BeginsReset (Reset ∷ items) = Unit {0}

-- Where a run may begin: with any values of the registers, if the first item is a reset; or at power-up, if the text
-- gives the registers their first values then.
abbrev pub Begins : ResetModule → List Bool → List ClockStep → Type 0
Begins m registers steps =
    BeginsReset (step_items m.manner steps)
    ⊎ ((m.manner.is_initialized ≡ true) × (registers ≡ initial_registers m.design))

-- each edge has this number of values of inputs
abbrev pub HasWidth : ℕ → ClockStep → Type 0
HasWidth n (Edge level given) = length given ≡ n
HasWidth n Pulse = Unit {0}
