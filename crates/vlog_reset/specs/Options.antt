-- To believe: what a caller chooses for the text of a net.
use Rattle.std.specs.Prelude.{ℕ, Bool, List, Option}
use Rattle.vlog_reset.specs.Trees.{Manner}

-- the name of the module, if it is another than the net's; the name of the reset's port, and how it works; and whether
-- the signals' names get `i_` and `o_` in front
pub record ModuleOptions : Type 0 where
  pub name : Option (List ℕ)
  pub reset : List ℕ
  pub manner : Manner
  pub has_prefixes : Bool
