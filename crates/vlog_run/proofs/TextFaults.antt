-- What a text is read as, and why it has no machine.
use Rattle.std.proofs.Common.{◌≡◌, ℕ, ◌≤◌, List, length, Result, Ok, Err, sym, ap, subst, arith}
use Rattle.std.specs.Prelude.{IfOk, OnOk}
use Rattle.base_types.specs.declared.bounds.TheConstants.Limits.{TEXT_BYTES}
use Rattle.base_types.specs.declared.stop.Stop.{Stop}
use Rattle.base_types.specs.declared.stop.Stop.TheVariants.{Fault, NoMemory}
use Rattle.base_types.specs.Stops.{FaultIs, IfFault}
use Rattle.net_ir.specs.Netlists.{Netlist}
use Rattle.net_ir.specs.Writing.{IsWritable}
use Rattle.vlog_read.specs.Faults.{ReadsAs, ReadsFault}
use Rattle.vlog_read.specs.declared.refusal.VlogFault.{VlogFault}
use Rattle.vlog_read.specs.declared.refusal.VlogFault.TheVariants.{TooLong, Syntax, Twice, Port, Undeclared, TwoDrivers, NoDriver, Loop}
use Rattle.vlog_read.proofs.Exports.{described-are-read}
use Rattle.vlog_text.specs.Texts.{Describes}
use Rattle.vlog_text.specs.Trees.{VerilogModule}
use Rattle.vlog_text.specs.Views.{module_of}
use Rattle.vlog_text.specs.Written.{written, Means}
use Rattle.vlog_text.specs.declared.trees.Module.{Module as CodeModule}
use Rattle.vlog_text.proofs.Exports.{net_module, describes-net}
use Rattle.vlog_run.specs.Loops.{HasNoLoop, LoopFault}
use Rattle.vlog_run.specs.Runners.{Runner, module_in}
use Rattle.vlog_run.specs.Texts.{ReadsModule, IsTextFault, IsWritten}
use Rattle.vlog_run.specs.Tracing.{IsModuleOf}
use Rattle.vlog_run.proofs.NetLoops.{written-module}

-- what the reader refuses of a text within the limit is its first fault
pub reader-faults : (text : List ℕ) (stop : Stop VlogFault) → length text ≤ TEXT_BYTES → FaultIs (ReadsFault text) stop → FaultIs (IsTextFault text) stop
reader-faults text (Fault TooLong) short is = absurd (omega (arith, short, is))
reader-faults text (Fault (Syntax at)) short is = is.1
reader-faults text (Fault (Twice name)) short is = is.1
reader-faults text (Fault (Port name)) short is = is.1
reader-faults text (Fault (Undeclared name)) short is = is.1
reader-faults text (Fault (TwoDrivers name)) short is = is.1
reader-faults text (Fault (NoDriver name)) short is = is.1
reader-faults text (Fault _) short is = absurd is
reader-faults text NoMemory short is = tt

-- the machine of the module that a text describes, or its combinational cycle
pub machine-reads : (text : List ℕ) (code : CodeModule) → ReadsAs text (module_of code) → (r : Result Runner (Stop VlogFault))
    → IfOk r (λ m. m.code ≡ code) → OnOk r (HasNoLoop (module_of code)) → IfOk r (λ m. ReadsModule text (module_in m))
machine-reads text code reads (Ok m) is acyclic =
    subst (λ k. ReadsModule text (module_of k)) (sym is) (record { is_read = reads; acyclic = acyclic })
machine-reads text code reads (Err stop) is acyclic = tt

pub machine-faults : {T : Type 0} (text : List ℕ) (design : VerilogModule) → ReadsAs text design → (r : Result T (Stop VlogFault))
    → IfFault r (LoopFault design) → IfFault r (IsTextFault text)
machine-faults text design reads (Ok m) is = tt
machine-faults text design reads (Err (Fault (Loop names))) is = (design, reads, is)
machine-faults text design reads (Err (Fault _)) is = absurd is
machine-faults text design reads (Err NoMemory) is = tt

-- the module of the text that is written of a net
pub read-module : (net : Netlist) → IsWritable net → (text : List ℕ) (design : VerilogModule) → text ≡ written net → Means text net → ReadsAs text design
    → IsModuleOf net design
read-module net is text design spelled means reads =
    let same : net_module net ≡ design = reads.only (net_module net) (subst (λ t. Describes t (net_module net)) (sym spelled) (describes-net net is)) in
    written-module net is text design means (sym (reads.only means.design means.describes)) (sym (ap (λ (m : VerilogModule). m.assigns) same))

-- and it has no fault
pub written-faultless : (net : Netlist) → IsWritable net → (text : List ℕ) → length text ≤ TEXT_BYTES → IsWritten text net → (fault : VlogFault)
    → IsTextFault text fault → ⊥
written-faultless net is text short of (Loop names) fault =
    (read-module net is text fault.0 of.spelled of.means fault.1).acyclic names.items fault.2
written-faultless net is text short of (Syntax at) fault = (described-are-read text of.means.design of.means.describes).refusals (Syntax at) (short, fault)
written-faultless net is text short of (Twice name) fault = (described-are-read text of.means.design of.means.describes).refusals (Twice name) (short, fault)
written-faultless net is text short of (Port name) fault = (described-are-read text of.means.design of.means.describes).refusals (Port name) (short, fault)
written-faultless net is text short of (Undeclared name) fault =
    (described-are-read text of.means.design of.means.describes).refusals (Undeclared name) (short, fault)
written-faultless net is text short of (TwoDrivers name) fault =
    (described-are-read text of.means.design of.means.describes).refusals (TwoDrivers name) (short, fault)
written-faultless net is text short of (NoDriver name) fault =
    (described-are-read text of.means.design of.means.describes).refusals (NoDriver name) (short, fault)
written-faultless net is text short of _ fault = fault
