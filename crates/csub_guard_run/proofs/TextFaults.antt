-- Inner: why a text has no machine.
use Rattle.std.proofs.Common.{ℕ, ◌≤◌, List, length, arith}
use Rattle.base_types.specs.declared.bounds.TheConstants.Limits.{TEXT_BYTES}
use Rattle.base_types.specs.declared.stop.Stop.{Stop}
use Rattle.base_types.specs.declared.stop.Stop.TheVariants.{Fault, NoMemory}
use Rattle.base_types.specs.Stops.{FaultIs}
use Rattle.net_ir.specs.Netlists.{Netlist}
use Rattle.csub_guard_read.specs.declared.refusal.GuardedFault.{GuardedFault}
use Rattle.csub_guard_read.specs.declared.refusal.GuardedFault.TheVariants.{TooLong, Syntax, Twice, Undeclared, Again, Unset}
use Rattle.csub_guard_read.specs.Faults.{ReadsFault}
use Rattle.csub_guard_read.proofs.Exports.{described-are-read}
use Rattle.csub_guard_run.specs.Texts.{IsTextFault, Means}

-- what the reader refuses of a text within the limit is its first fault
pub reader-faults : (text : List ℕ) (stop : Stop GuardedFault) → length text ≤ TEXT_BYTES → FaultIs (ReadsFault text) stop
    → FaultIs (IsTextFault text) stop
reader-faults text (Fault TooLong) short is = absurd (omega (arith, short, is))
reader-faults text (Fault (Syntax at)) short is = is.1
reader-faults text (Fault (Twice name)) short is = is.1
reader-faults text (Fault (Undeclared name)) short is = is.1
reader-faults text (Fault (Again name)) short is = is.1
reader-faults text (Fault (Unset name)) short is = is.1
reader-faults text NoMemory short is = tt

-- the text that is written of a net has no fault
pub written-faultless : (text : List ℕ) (net : Netlist) → Means text net → length text ≤ TEXT_BYTES → (fault : GuardedFault) → IsTextFault text fault → ⊥
written-faultless text net means short TooLong is = is
written-faultless text net means short (Syntax at) is = (described-are-read text means.program means.describes).refusals (Syntax at) (short, is)
written-faultless text net means short (Twice name) is = (described-are-read text means.program means.describes).refusals (Twice name) (short, is)
written-faultless text net means short (Undeclared name) is = (described-are-read text means.program means.describes).refusals (Undeclared name) (short, is)
written-faultless text net means short (Again name) is = (described-are-read text means.program means.describes).refusals (Again name) (short, is)
written-faultless text net means short (Unset name) is = (described-are-read text means.program means.describes).refusals (Unset name) (short, is)
