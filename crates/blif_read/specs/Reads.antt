-- Contract: what the reader answers of a text, by the reading that the text has.
use Rattle.std.specs.Prelude.{◌≡◌, ℕ, ◌<◌, ◌≤◌, List, length, Ok, Err}
use Rattle.base_types.specs.declared.bounds.TheConstants.Limits.{TEXT_BYTES}
use Rattle.blif_text.specs.declared.circuit.Blif.{Blif}
use Rattle.blif_read.specs.declared.fault.BlifFault.{BlifFault}
use Rattle.blif_read.specs.declared.fault.BlifFault.TheVariants as faults
use Rattle.blif_text.specs.Circuits.{reading, Line, TwoDrivers, NoDriver}
use Rattle.blif_text.specs.Plain.{plain_circuit}

-- the text has at most so many bytes, and describes this circuit
abbrev pub ReadsAs : List ℕ → Blif → Type 0
ReadsAs text blif = (length text ≤ TEXT_BYTES) × (reading text ≡ Ok (plain_circuit blif))

-- the text is too long, or this is its first fault; the reader has no other
abbrev pub ReadsFault : List ℕ → BlifFault → Type 0
ReadsFault text faults.TooLong = TEXT_BYTES < length text
ReadsFault text (faults.Line number) = (length text ≤ TEXT_BYTES) × (reading text ≡ Err (Line number))
ReadsFault text (faults.TwoDrivers name) = (length text ≤ TEXT_BYTES) × (reading text ≡ Err (TwoDrivers name))
ReadsFault text (faults.NoDriver name) = (length text ≤ TEXT_BYTES) × (reading text ≡ Err (NoDriver name))
ReadsFault text others = ⊥
