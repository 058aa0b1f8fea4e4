-- Contract: a text that describes a program is read as this program and no other. It is refused for its length
-- alone.
use Rattle.std.specs.Prelude.{◌≡◌, ℕ, ◌<◌, List, length}
use Rattle.base_types.specs.declared.bounds.TheConstants.Limits.{TEXT_BYTES}
use Rattle.net_ir.specs.Netlists.{Netlist}
use Rattle.csub_text.specs.Trees.{Program}
use Rattle.csub_text.specs.Texts.{Describes}
use Rattle.csub_text.specs.Written.{Means}
use Rattle.csub_read.specs.declared.refusal.CFault.{CFault}
use Rattle.csub_read.specs.declared.refusal.CFault.TheVariants as faults
use Rattle.csub_read.specs.Faults.{ReadsFault}

-- a refusal that does not lie in what the text says
abbrev pub LacksRoom : List ℕ → CFault → Type 0
LacksRoom text faults.TooLong = TEXT_BYTES < length text
LacksRoom text others = ⊥

-- No other program is described by the text, so none other is read, and it has no fault of its own.
pub record IsReadAs (text : List ℕ) (program : Program) : Type 0 where
  pub only : (other : Program) → Describes text other → other ≡ program
  pub refusals : (fault : CFault) → ReadsFault text fault → LacksRoom text fault

abbrev pub DescribedTextsAreRead : Type 0
DescribedTextsAreRead = (text : List ℕ) (program : Program) → Describes text program → IsReadAs text program

-- So the text of a net is read as the program by which it means the net.
abbrev pub WrittenTextsAreRead : Type 0
WrittenTextsAreRead = (text : List ℕ) (net : Netlist) (means : Means text net) → IsReadAs text means.program
