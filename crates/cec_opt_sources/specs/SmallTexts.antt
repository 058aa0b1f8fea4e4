-- To believe: what the small netlist of a source keeps, and its texts.
use Rattle.std.specs.Prelude.{◌≡◌, ℕ, List, Option}
use Rattle.est_kernel.specs.Plain.{Program, program_of}
use Rattle.net_ir.specs.Netlists.{Netlist}
use Rattle.net_ir.specs.Runs.{netlist_of}
use Rattle.net_simp.specs.SimpleNets.{IsSimple}
use Rattle.net_opt.specs.Optimized.{Optimizes}
use Rattle.net_opt.specs.Shown.{EachIsShown}
use Rattle.blif_text.specs.Written as blif_texts
use Rattle.csub_text.specs.Written as c_texts
use Rattle.vlog_text.specs.Written as vlog_texts
use Rattle.est_front.specs.Sources.{StandsFor}
use Rattle.cec_compile.specs.Compiling.{StandsForNet}
use Rattle.cec_compile.specs.Meaning.{TextKeeps, CTextKeeps, VerilogTextKeeps}
use Rattle.cec_compile.specs.NetMeaning.{NetKeeps}
use Rattle.cec_compile.specs.Refusals.{Compiles}
use Rattle.cec_compile.specs.WireGroups.{SharesWires, is_shared}
use Rattle.cec_opt_sources.specs.declared.texts.SmallSource.{SmallSource}

-- The bytes stand for the program of the netlist, or of the text in BLIF, C or Verilog, which keeps what the program
-- means.

pub record StandsForSmallNet (text : List ℕ) (main : Option (List ℕ)) (net : Netlist) : Type 0 where
  pub program : Program
  pub source : StandsFor text main program
  pub compiles : Compiles program
  pub keeps : NetKeeps net program

pub record StandsForSmallBlif (text : List ℕ) (main : Option (List ℕ)) (written : List ℕ) : Type 0 where
  pub program : Program
  pub source : StandsFor text main program
  pub compiles : Compiles program
  pub keeps : TextKeeps written program

pub record StandsForSmallC (text : List ℕ) (main : Option (List ℕ)) (written : List ℕ) : Type 0 where
  pub program : Program
  pub source : StandsFor text main program
  pub compiles : Compiles program
  pub keeps : CTextKeeps written program

pub record StandsForSmallVerilog (text : List ℕ) (main : Option (List ℕ)) (written : List ℕ) : Type 0 where
  pub program : Program
  pub source : StandsFor text main program
  pub compiles : Compiles program
  pub keeps : VerilogTextKeeps written program

-- The source is compiled, with its wires shared where they can be, and the netlist is that of the compiled program,
-- optimized: it has its interface, follows it, has no more gates and no more latches, nothing is left to simplify, and
-- something shows each latch and each gate.
pub record IsSmallSource (bytes : List ℕ) (main : Option (List ℕ)) (small : SmallSource) : Type 0 where
  pub compiled : StandsForNet bytes main small.compiled
  pub shares : SharesWires (program_of small.compiled.graph.program) (is_shared small.compiled.graph)
  pub optimizes : Optimizes (netlist_of small.compiled.net) (netlist_of small.net)
  pub simple : IsSimple (netlist_of small.net)
  pub shown : EachIsShown (netlist_of small.net)

-- The text is that of such a netlist: it has a table for each gate, in the order of the gates.
pub record IsSmallBlifOf (bytes : List ℕ) (main : Option (List ℕ)) (written : List ℕ) : Type 0 where
  pub small : SmallSource
  pub is : IsSmallSource bytes main small
  pub text : written ≡ blif_texts.written (netlist_of small.net)

pub record IsSmallCOf (bytes : List ℕ) (main : Option (List ℕ)) (written : List ℕ) : Type 0 where
  pub small : SmallSource
  pub is : IsSmallSource bytes main small
  pub text : written ≡ c_texts.written (netlist_of small.net)

pub record IsSmallVerilogOf (bytes : List ℕ) (main : Option (List ℕ)) (written : List ℕ) : Type 0 where
  pub small : SmallSource
  pub is : IsSmallSource bytes main small
  pub text : written ≡ vlog_texts.written (netlist_of small.net)
