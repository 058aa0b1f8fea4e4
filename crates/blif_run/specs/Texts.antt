-- To believe: BLIF texts as a language: which can be run, and which fault is the first.
use Rattle.std.specs.Prelude.{◌≡◌, ℕ, List, Ok, Err}
use Rattle.net_ir.specs.Netlists.{Netlist}
use Rattle.blif_text.specs.Circuits.{Circuit, reading}
use Rattle.blif_text.specs.Circuits as circuits
use Rattle.blif_text.specs.Written.{written, Means}
use Rattle.blif_run.specs.Loops.{IsLoop, HasNoLoop}
use Rattle.blif_read.specs.declared.fault.BlifFault.{BlifFault}
use Rattle.blif_read.specs.declared.fault.BlifFault.TheVariants.{Line, TwoDrivers, NoDriver, Loop}

-- the text describes this circuit, which has no combinational cycle
pub record ReadsCircuit (text : List ℕ) (circuit : Circuit) : Type 0 where
  pub is_read : reading text ≡ Ok circuit
  pub acyclic : HasNoLoop circuit

-- The first fault of a text, in the order of its reader; or it has none, and its tables have this combinational cycle.
abbrev pub IsTextFault : List ℕ → BlifFault → Type 0
IsTextFault text (Line number) = reading text ≡ Err (circuits.Line number)
IsTextFault text (TwoDrivers name) = reading text ≡ Err (circuits.TwoDrivers name)
IsTextFault text (NoDriver name) = reading text ≡ Err (circuits.NoDriver name)
IsTextFault text (Loop names) = (circuit : Circuit) × (reading text ≡ Ok circuit) × IsLoop circuit names.items
IsTextFault text others = ⊥

-- the text is the one that is written of a net, and means it
pub record IsWritten (text : List ℕ) (net : Netlist) : Type 0 where
  pub spelled : text ≡ written net
  pub means : Means text net
