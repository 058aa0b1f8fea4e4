-- Inner: the stop of a call that makes a text of a source, which has no netlist.
use Rattle.base_types.specs.declared.stop.Stop.{Stop}
use Rattle.base_types.specs.declared.stop.Stop.TheVariants.{Fault, NoMemory}
use Rattle.cec_compile.specs.declared.refusal.Refusal.TheVariants as refusals
use Rattle.cec_cycles.specs.declared.findings.CycleRefusal.{CycleRefusal}
use Rattle.cec_cycles.specs.declared.findings.CycleRefusal.TheVariants as causes
use Rattle.cec_opt_faults.specs.declared.unmade.Unmade.{Unmade}
use Rattle.cec_opt_faults.specs.declared.unmade.Unmade.TheVariants.{NoNet}

-- running out of memory is no cause
abbrev pub no_source_net : {F : Type 0} → CycleRefusal → Stop (Unmade CycleRefusal F)
no_source_net (causes.Source refusals.NoMemory) = NoMemory
no_source_net others = Fault (NoNet others)
