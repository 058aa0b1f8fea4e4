-- To believe: what is left in a sink of a text that is written to it, by how that ended.
use Rattle.std.specs.Prelude.{◌≡◌, ℕ, ◌⊎◌, List, [], Option, Some}
use Rattle.base_types.specs.SinkChanges.{SinkChange}
use Rattle.base_types.specs.Writing.{Appends, Stops, GainsFront}
use Rattle.cec_text_io.specs.declared.writing.Written.{Written}
use Rattle.cec_text_io.specs.declared.writing.Written.TheVariants.{Done, WriteFault, NoMemory}

-- The whole text, with no fault; a prefix of it, after a fault; nothing if memory ran out, or if there was no text to
-- write.
abbrev pub LeavesText : (List ℕ → Type 0) → SinkChange → Option Written → Type 0
LeavesText IsText s (Some Done) = (text : List ℕ) × IsText text
    × Appends s.before s.after s.faults_before s.faults_now text
LeavesText IsText s (Some WriteFault) = (text : List ℕ) × IsText text
    × Stops s.before s.after s.faults_before s.faults_now text
LeavesText IsText s others = Appends s.before s.after s.faults_before s.faults_now []

-- A text that is written piece by piece: if memory runs out between two pieces, the sink has a prefix of it.
abbrev pub LeavesPieces : (List ℕ → Type 0) → SinkChange → Option Written → Type 0
LeavesPieces IsText s (Some NoMemory) = Appends s.before s.after s.faults_before s.faults_now []
    ⊎ ((text : List ℕ) × IsText text × (s.faults_now ≡ s.faults_before) × GainsFront s.before s.after text)
LeavesPieces IsText s others = LeavesText IsText s others
