-- Inner: all that a simplified netlist is, of the one that it is made from.
use Rattle.net_ir.specs.Netlists.{Netlist}
use Rattle.net_simp.specs.SameRuns.{SameParts, SameInstants, SameRuns}
use Rattle.net_simp.specs.SimpleNets.{IsSimple}

pub record Simplified (net new : Netlist) : Type 0 where
  pub parts : SameParts net new
  pub instants : SameInstants net new
  pub runs : SameRuns net new
  pub simple : IsSimple new
