-- To believe: texts of the C subset as a language: which fault is the first, and what is written of a netlist.
use Rattle.std.specs.Prelude.{◌≡◌, ℕ, List}
use Rattle.net_ir.specs.Netlists.{Netlist}
use Rattle.csub_read.specs.Faults.{IsSyntaxFault, IsNameFault}
use Rattle.csub_read.specs.declared.refusal.CFault.{CFault}
use Rattle.csub_read.specs.declared.refusal.CFault.TheVariants.{Syntax, Twice, Undeclared, Unset}
use Rattle.csub_text.specs.Names as names
use Rattle.csub_text.specs.Written.{written, Means}

-- the first fault of a text, in the order of its reader
abbrev pub IsTextFault : List ℕ → CFault → Type 0
IsTextFault text (Syntax at) = IsSyntaxFault text at
IsTextFault text (Twice name) = IsNameFault text (names.Twice name)
IsTextFault text (Undeclared name) = IsNameFault text (names.Undeclared name)
IsTextFault text (Unset name) = IsNameFault text (names.Unset name)
IsTextFault text others = ⊥

-- the text is the one that is written of a net, and means it
pub record IsWritten (text : List ℕ) (net : Netlist) : Type 0 where
  pub spelled : text ≡ written net
  pub means : Means text net
