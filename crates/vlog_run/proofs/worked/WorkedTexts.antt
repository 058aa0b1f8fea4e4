-- Written by hand: what the first fault of a text says, row by row, and what it means that a text can be run, or is written of a netlist.
use Rattle.std.proofs.Common.{◌≡◌, ℕ, List, Vec, Global}
use Rattle.net_ir.specs.Netlists.{Netlist}
use Rattle.vlog_text.specs.Names as names
use Rattle.vlog_text.specs.Trees.{VerilogModule}
use Rattle.vlog_text.specs.Written.{written, Means}
use Rattle.vlog_read.specs.Faults.{ReadsAs, IsSyntaxFault, IsNameFault}
use Rattle.vlog_read.specs.declared.refusal.VlogFault.TheVariants.{Syntax, Twice, Port, Undeclared, TwoDrivers, NoDriver, Loop}
use Rattle.vlog_run.specs.Loops.{IsLoop, HasNoLoop}
use Rattle.vlog_run.specs.Texts.{IsTextFault, ReadsModule, IsWritten}

syntax : (text : List ℕ) (at : ℕ) → IsTextFault text (Syntax at) → IsSyntaxFault text at
syntax text at h = h

twice : (text name : List ℕ) → IsTextFault text (Twice name) → IsNameFault text (names.Twice name)
twice text name h = h

port : (text name : List ℕ) → IsTextFault text (Port name) → IsNameFault text (names.Port name)
port text name h = h

undeclared : (text name : List ℕ) → IsTextFault text (Undeclared name) → IsNameFault text (names.Undeclared name)
undeclared text name h = h

two_drivers : (text name : List ℕ) → IsTextFault text (TwoDrivers name) → IsNameFault text (names.TwoDrivers name)
two_drivers text name h = h

no_driver : (text name : List ℕ) → IsTextFault text (NoDriver name) → IsNameFault text (names.NoDriver name)
no_driver text name h = h

a_cycle : (text : List ℕ) (names : Vec (List ℕ) Global) → IsTextFault text (Loop names)
    → (design : VerilogModule) × ReadsAs text design × IsLoop design names.items
a_cycle text names h = h

what_can_be_run : (text : List ℕ) (design : VerilogModule) → ReadsModule text design → ReadsAs text design × HasNoLoop design
what_can_be_run text design h = (h.is_read, h.acyclic)

what_is_written : (text : List ℕ) (net : Netlist) → IsWritten text net → (text ≡ written net) × Means text net
what_is_written text net h = (h.spelled, h.means)
