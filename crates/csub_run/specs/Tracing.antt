-- Inner: the program of a net's text.
use Rattle.std.specs.Prelude.{◌≡◌, ℕ, List}
use Rattle.net_ir.specs.Netlists.{Netlist}
use Rattle.csub_text.specs.Trees.{Program}
use Rattle.csub_text.specs.Written.{Means}

-- a text that means the net describes this program
pub record IsProgramOf (net : Netlist) (program : Program) : Type 0 where
  pub text : List ℕ
  pub means : Means text net
  pub is : program ≡ means.program
