-- Written by hand: what the first fault of a text says, row by row, and what it means that a text is written of a netlist.
use Rattle.std.proofs.Common.{◌≡◌, ℕ, List}
use Rattle.net_ir.specs.Netlists.{Netlist}
use Rattle.csub_text.specs.Names as names
use Rattle.csub_text.specs.Written.{written, Means}
use Rattle.csub_read.specs.Faults.{IsSyntaxFault, IsNameFault}
use Rattle.csub_read.specs.declared.refusal.CFault.TheVariants.{Syntax, Twice, Undeclared, Unset}
use Rattle.csub_run.specs.Texts.{IsTextFault, IsWritten}

syntax : (text : List ℕ) (at : ℕ) → IsTextFault text (Syntax at) → IsSyntaxFault text at
syntax text at h = h

twice : (text name : List ℕ) → IsTextFault text (Twice name) → IsNameFault text (names.Twice name)
twice text name h = h

undeclared : (text name : List ℕ) → IsTextFault text (Undeclared name) → IsNameFault text (names.Undeclared name)
undeclared text name h = h

unset : (text name : List ℕ) → IsTextFault text (Unset name) → IsNameFault text (names.Unset name)
unset text name h = h

what_is_written : (text : List ℕ) (net : Netlist) → IsWritten text net → (text ≡ written net) × Means text net
what_is_written text net h = (h.spelled, h.means)
