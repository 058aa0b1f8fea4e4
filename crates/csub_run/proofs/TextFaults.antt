-- Why a text has no machine.
use Rattle.std.proofs.Common.{ℕ, ◌≤◌, List, length, arith}
use Rattle.base_types.specs.declared.bounds.TheConstants.Limits.{TEXT_BYTES}
use Rattle.base_types.specs.declared.stop.Stop.{Stop}
use Rattle.base_types.specs.declared.stop.Stop.TheVariants.{Fault, NoMemory}
use Rattle.base_types.specs.Stops.{FaultIs}
use Rattle.net_ir.specs.Netlists.{Netlist}
use Rattle.csub_read.specs.declared.refusal.CFault.{CFault}
use Rattle.csub_read.specs.declared.refusal.CFault.TheVariants.{TooLong, Syntax, Twice, Undeclared, Unset}
use Rattle.csub_read.specs.Faults.{ReadsFault}
use Rattle.csub_read.proofs.Exports.{written-are-read}
use Rattle.csub_text.specs.Written.{Means}
use Rattle.csub_run.specs.Texts.{IsTextFault}

-- what the reader refuses of a text within the limit is its first fault
pub reader-faults : (text : List ℕ) (stop : Stop CFault) → length text ≤ TEXT_BYTES → FaultIs (ReadsFault text) stop → FaultIs (IsTextFault text) stop
reader-faults text (Fault TooLong) short is = absurd (omega (arith, short, is))
reader-faults text (Fault (Syntax at)) short is = is.1
reader-faults text (Fault (Twice name)) short is = is.1
reader-faults text (Fault (Undeclared name)) short is = is.1
reader-faults text (Fault (Unset name)) short is = is.1
reader-faults text NoMemory short is = tt

-- the text that is written of a net has no fault
pub written-faultless : (net : Netlist) (text : List ℕ) → Means text net → length text ≤ TEXT_BYTES → (fault : CFault) → IsTextFault text fault → ⊥
written-faultless net text means short TooLong is = is
written-faultless net text means short (Syntax at) is = (written-are-read text net means).refusals (Syntax at) (short, is)
written-faultless net text means short (Twice name) is = (written-are-read text net means).refusals (Twice name) (short, is)
written-faultless net text means short (Undeclared name) is = (written-are-read text net means).refusals (Undeclared name) (short, is)
written-faultless net text means short (Unset name) is = (written-are-read text net means).refusals (Unset name) (short, is)
