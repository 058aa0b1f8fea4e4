-- Contract: a text that describes a module is read as this module and no other. It is refused for its length alone.
use Rattle.std.specs.Prelude.{◌≡◌, ℕ, ◌<◌, List, length}
use Rattle.base_types.specs.declared.bounds.TheConstants.Limits.{TEXT_BYTES}
use Rattle.net_ir.specs.Netlists.{Netlist}
use Rattle.vlog_text.specs.Trees.{VerilogModule}
use Rattle.vlog_text.specs.Texts.{Describes}
use Rattle.vlog_text.specs.Written.{Means}
use Rattle.vlog_read.specs.declared.refusal.VlogFault.{VlogFault}
use Rattle.vlog_read.specs.declared.refusal.VlogFault.TheVariants as faults
use Rattle.vlog_read.specs.Faults.{ReadsFault}

-- a refusal that does not lie in what the text says
abbrev pub LacksRoom : List ℕ → VlogFault → Type 0
LacksRoom text faults.TooLong = TEXT_BYTES < length text
LacksRoom text others = ⊥

-- No other module is described by the text, so none other is read, and it has no fault of its own.
pub record IsReadAs (text : List ℕ) (design : VerilogModule) : Type 0 where
  pub only : (other : VerilogModule) → Describes text other → other ≡ design
  pub refusals : (fault : VlogFault) → ReadsFault text fault → LacksRoom text fault

abbrev pub DescribedTextsAreRead : Type 0
DescribedTextsAreRead = (text : List ℕ) (design : VerilogModule) → Describes text design → IsReadAs text design

-- So the text of a net is read as the module by which it means the net.
abbrev pub WrittenTextsAreRead : Type 0
WrittenTextsAreRead = (text : List ℕ) (net : Netlist) (means : Means text net) → IsReadAs text means.design
