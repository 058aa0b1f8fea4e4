-- To believe: what a line says about a BLIF text that is refused.
use Rattle.std.specs.Prelude.{ℕ, List, ◌++◌, codes, decimal}
use Rattle.blif_read.specs.declared.fault.BlifFault.{BlifFault}
use Rattle.blif_read.specs.declared.fault.BlifFault.TheVariants as faults
use Rattle.cec_text_io.specs.ErrorLines.{joined_names}

abbrev pub blif_fault_text : BlifFault → List ℕ
blif_fault_text faults.TooLong = codes "limit: text"
blif_fault_text (faults.Line number) = codes "line " ++ (decimal number ++ codes ": not in the profile")
blif_fault_text (faults.TwoDrivers name) = codes "two drivers: " ++ name
blif_fault_text (faults.NoDriver name) = codes "no driver: " ++ name
blif_fault_text faults.NoPause = codes "last output is not _paused"
blif_fault_text (faults.Model name) = codes "bad model: " ++ name
blif_fault_text (faults.Input name) = codes "bad input: " ++ name
blif_fault_text (faults.Output name) = codes "bad output: " ++ name
blif_fault_text (faults.Again name) = codes "output twice: " ++ name
blif_fault_text (faults.Loop names) = codes "loop: " ++ joined_names names.items
blif_fault_text faults.TooManyNets = codes "limit: nets"
blif_fault_text (faults.NoInput name) = codes "no input: " ++ name
