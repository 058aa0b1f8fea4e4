-- Inner: the text that is written of a netlist in a language.
use Rattle.std.specs.Prelude.{◌≡◌, ℕ, List}
use Rattle.net_ir.specs.Netlists.{Netlist}

-- The text is the one that a language writes of a netlist, and means it there.
pub record IsWrittenIn (write : Netlist → List ℕ) (Means : List ℕ → Netlist → Type 0) (text : List ℕ) (net : Netlist) :
    Type 0 where
  pub spelled : text ≡ write net
  pub means : Means text net
