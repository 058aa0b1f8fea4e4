-- What is known of a program that was made of a source, with its own netlist.
use Rattle.std.proofs.Common.{ℕ, List, Option, sym, subst}
use Rattle.est_kernel.specs.Plain.{Program, program_of}
use Rattle.est_kernel.specs.WellFormed.{IsWellFormed}
use Rattle.net_ir.specs.Runs.{netlist_of}
use Rattle.cec_compile.specs.MadeNets.{IsMade}
use Rattle.cec_compile.specs.NetMeaning.{NetKeeps}
use Rattle.cec_compile.specs.declared.forms.TextForm.{TextForm}
use Rattle.cec_compile.specs.declared.made.Made.{Made}
use Rattle.cec_compile.proofs.Exports.{made_keeps}

pub made-fits : (form : TextForm) (text : List ℕ) (main : Option (List ℕ)) (made : Made) → IsMade form text main made
    → IsWellFormed (program_of made.program)
made-fits form text main made m = subst IsWellFormed (sym m.program) m.source.compiled.formed

pub made-keeps : (form : TextForm) (text : List ℕ) (main : Option (List ℕ)) (made : Made) → IsMade form text main made
    → NetKeeps (netlist_of made.net) (program_of made.program)
made-keeps form text main made m =
    subst (λ (p : Program). NetKeeps (netlist_of made.net) p) (sym m.program) (made_keeps form text main made m)
