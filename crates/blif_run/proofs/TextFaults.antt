-- What a text is read as, and why it has no machine.
use Rattle.std.proofs.Common.{◌≡◌, ℕ, ◌≤◌, List, length, Result, Ok, Err, sym, ◌∙◌, subst, arith}
use Rattle.std.specs.Prelude.{IfOk, OnOk}
use Rattle.base_types.specs.declared.bounds.TheConstants.Limits.{TEXT_BYTES}
use Rattle.base_types.specs.declared.stop.Stop.{Stop}
use Rattle.base_types.specs.declared.stop.Stop.TheVariants.{Fault, NoMemory}
use Rattle.base_types.specs.Stops.{FaultIs, IfFault}
use Rattle.net_ir.specs.Netlists.{Netlist}
use Rattle.net_ir.specs.Writing.{IsWritable}
use Rattle.blif_text.specs.Circuits.{Circuit, reading}
use Rattle.blif_read.specs.Reads.{ReadsFault}
use Rattle.blif_read.specs.declared.fault.BlifFault.{BlifFault}
use Rattle.blif_read.specs.declared.fault.BlifFault.TheVariants.{TooLong, Line, TwoDrivers, NoDriver, Loop}
use Rattle.blif_run.specs.Loops.{LoopFault, HasNoLoop}
use Rattle.blif_run.specs.Runners.{Runner}
use Rattle.blif_run.specs.Texts.{ReadsCircuit, IsTextFault, IsWritten}
use Rattle.blif_run.proofs.NetLoops.{written-circuit}

-- what the reader refuses of a text within the limit is its first fault
pub reader-faults : (text : List ℕ) (stop : Stop BlifFault) → length text ≤ TEXT_BYTES → FaultIs (ReadsFault text) stop → FaultIs (IsTextFault text) stop
reader-faults text (Fault TooLong) short is = absurd (omega (arith, short, is))
reader-faults text (Fault (Line number)) short is = is.1
reader-faults text (Fault (TwoDrivers name)) short is = is.1
reader-faults text (Fault (NoDriver name)) short is = is.1
reader-faults text (Fault _) short is = absurd is
reader-faults text NoMemory short is = tt

-- the machine of the circuit that a text describes, or its combinational cycle
pub machine-reads : (text : List ℕ) (circuit : Circuit) → reading text ≡ Ok circuit → (r : Result Runner (Stop BlifFault))
    → IfOk r (λ m. m.circuit ≡ circuit) → OnOk r (HasNoLoop circuit) → IfOk r (λ m. ReadsCircuit text m.circuit)
machine-reads text circuit reads (Ok m) is acyclic =
    subst (ReadsCircuit text) (sym is) (record { is_read = reads; acyclic = acyclic })
machine-reads text circuit reads (Err stop) is acyclic = tt

pub machine-faults : {T : Type 0} (text : List ℕ) (circuit : Circuit) → reading text ≡ Ok circuit → (r : Result T (Stop BlifFault))
    → IfFault r (LoopFault circuit) → IfFault r (IsTextFault text)
machine-faults text circuit reads (Ok m) is = tt
machine-faults text circuit reads (Err (Fault (Loop names))) is = (circuit, reads, is)
machine-faults text circuit reads (Err (Fault _)) is = absurd is
machine-faults text circuit reads (Err NoMemory) is = tt

-- the text that is written of a net has no fault
pub written-faultless : (net : Netlist) → IsWritable net → (text : List ℕ) → IsWritten text net → (fault : BlifFault) → IsTextFault text fault → ⊥
written-faultless net is text of (Line number) fault = let both = sym of.means.reads ∙ fault in cc both
written-faultless net is text of (TwoDrivers name) fault = let both = sym of.means.reads ∙ fault in cc both
written-faultless net is text of (NoDriver name) fault = let both = sym of.means.reads ∙ fault in cc both
written-faultless net is text of (Loop names) fault =
    (written-circuit net is text fault.0 of.spelled of.means fault.1).acyclic names.items fault.2
written-faultless net is text of _ fault = fault
