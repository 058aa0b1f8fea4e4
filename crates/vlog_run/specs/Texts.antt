-- To believe: texts of structural Verilog as a language: which can be run, which fault is the first, and what is
-- written of a netlist.
use Rattle.std.specs.Prelude.{◌≡◌, ℕ, List}
use Rattle.net_ir.specs.Netlists.{Netlist}
use Rattle.vlog_read.specs.Faults.{ReadsAs, IsSyntaxFault, IsNameFault}
use Rattle.vlog_read.specs.declared.refusal.VlogFault.{VlogFault}
use Rattle.vlog_read.specs.declared.refusal.VlogFault.TheVariants.{Syntax, Twice, Port, Undeclared, TwoDrivers}
use Rattle.vlog_read.specs.declared.refusal.VlogFault.TheVariants.{NoDriver, Loop}
use Rattle.vlog_text.specs.Names as names
use Rattle.vlog_text.specs.Trees.{VerilogModule}
use Rattle.vlog_text.specs.Written.{written, Means}
use Rattle.vlog_run.specs.Loops.{IsLoop, HasNoLoop}

-- the text describes this module and no other one, and the module has no combinational cycle
pub record ReadsModule (text : List ℕ) (design : VerilogModule) : Type 0 where
  pub is_read : ReadsAs text design
  pub acyclic : HasNoLoop design

-- The first fault of a text, in the order of its reader; or it has none, and its assignments have this combinational
-- cycle.
abbrev pub IsTextFault : List ℕ → VlogFault → Type 0
IsTextFault text (Syntax at) = IsSyntaxFault text at
IsTextFault text (Twice name) = IsNameFault text (names.Twice name)
IsTextFault text (Port name) = IsNameFault text (names.Port name)
IsTextFault text (Undeclared name) = IsNameFault text (names.Undeclared name)
IsTextFault text (TwoDrivers name) = IsNameFault text (names.TwoDrivers name)
IsTextFault text (NoDriver name) = IsNameFault text (names.NoDriver name)
IsTextFault text (Loop names) = (design : VerilogModule) × ReadsAs text design × IsLoop design names.items
IsTextFault text others = ⊥

-- the text is the one that is written of a net, and means it
pub record IsWritten (text : List ℕ) (net : Netlist) : Type 0 where
  pub spelled : text ≡ written net
  pub means : Means text net
