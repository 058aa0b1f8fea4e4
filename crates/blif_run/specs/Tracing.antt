-- Inner: the circuit of a net's text.
use Rattle.std.specs.Prelude.{◌≡◌, ℕ, List, Ok}
use Rattle.net_ir.specs.Netlists.{Netlist}
use Rattle.blif_text.specs.Circuits.{Circuit, reading}
use Rattle.blif_text.specs.Written.{Means}
use Rattle.blif_run.specs.Loops.{HasNoLoop}

-- a text that means the net describes this circuit, which has no combinational cycle
pub record IsCircuitOf (net : Netlist) (circuit : Circuit) : Type 0 where
  pub text : List ℕ
  pub means : Means text net
  pub reads : reading text ≡ Ok circuit
  pub acyclic : HasNoLoop circuit
