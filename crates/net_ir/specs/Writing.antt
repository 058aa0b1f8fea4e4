-- Inner: what a writer of texts knows of a net.
use Rattle.std.specs.Prelude.{◌<◌, ◌^◌, IfSome, All}
use Rattle.net_ir.specs.Netlists.{Netlist, IsNet}

-- a net whose wires have numbers of their type
pub record IsWritable (net : Netlist) : Type 0 where
  pub is_net : IsNet net
  pub wires_fit : All (λ g. IfSome g.wire (λ w. w.0 < 2 ^ 32)) net.gates
