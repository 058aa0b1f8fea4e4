-- Inner: the module of a net's text.
use Rattle.std.specs.Prelude.{◌≡◌, ℕ, List}
use Rattle.net_ir.specs.Netlists.{Netlist}
use Rattle.vlog_text.specs.Trees.{VerilogModule}
use Rattle.vlog_text.specs.Written.{Means}
use Rattle.vlog_run.specs.Loops.{HasNoLoop}

-- a text that means the net describes this module, which has no combinational cycle
pub record IsModuleOf (net : Netlist) (design : VerilogModule) : Type 0 where
  pub text : List ℕ
  pub means : Means text net
  pub is : design ≡ means.design
  pub acyclic : HasNoLoop design
