-- Contract: the netlist of two netlists.
use Rattle.net_ir.specs.Netlists.{Netlist}
use Rattle.net_opt.specs.Optimized.{Optimizes}
use Rattle.net_pair.specs.Pairs.{IsPair}

-- A netlist is the optimized pair of two netlists that are optimized too.
pub record IsSmallPair (left right net : Netlist) : Type 0 where
  pub small_left : Netlist
  pub left_optimized : Optimizes left small_left
  pub small_right : Netlist
  pub right_optimized : Optimizes right small_right
  pub both : Netlist
  pub is_pair : IsPair small_left small_right both
  pub optimized : Optimizes both net
