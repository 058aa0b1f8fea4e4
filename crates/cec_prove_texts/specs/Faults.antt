-- To believe: why there is no comparison of two BLIF texts.
use Rattle.std.specs.Prelude.{ℕ, List}
use Rattle.net_ir.specs.Netlists.{Netlist}
use Rattle.cec_opt_texts.specs.Faults.{IsOptFault}
use Rattle.cec_opt_texts.specs.Optimized.{IsTextNet}
use Rattle.cec_prove_texts.specs.declared.fault.PairFault.{PairFault}
use Rattle.cec_prove_texts.specs.declared.fault.PairFault.TheVariants.{First, Second}

-- the first fault of the first text; or, where the first text has a netlist, that of the second text
abbrev pub IsPairFault : (first second : List ℕ) → PairFault → Type 0
IsPairFault first second (First fault) = IsOptFault first fault
IsPairFault first second (Second fault) = (net : Netlist) × IsTextNet first net × IsOptFault second fault
