-- To believe: why a source or a BLIF text has no Verilog with a reset. Where the fault is one of the names, there is a
-- netlist.
use Rattle.std.specs.Prelude.{ℕ, List, Option}
use Rattle.net_ir.specs.Netlists.{Netlist}
use Rattle.vlog_reset.specs.Faults.{IsResetFault}
use Rattle.vlog_reset.specs.Options.{ModuleOptions}
use Rattle.vlog_reset.specs.declared.fault.ResetFault.{ResetFault}
use Rattle.cec_cycles.specs.Constructive.{IsConstructiveNetOf, StandsForConstructiveNet}
use Rattle.cec_cycles.specs.declared.findings.CycleRefusal.{CycleRefusal}
use Rattle.cec_opt_faults.specs.Causes.{IsSourceCause, IsUnmade}
use Rattle.cec_opt_faults.specs.declared.unmade.Unmade.{Unmade}
use Rattle.cec_opt_sources.specs.declared.light.Coding.{Coding}
use Rattle.cec_opt_texts.specs.Faults.{IsGivenFault}
use Rattle.cec_opt_texts.specs.Optimized.{IsSmallNetOf}
use Rattle.cec_opt_texts.specs.Related.{GivenRelation}
use Rattle.blif_read.specs.declared.fault.BlifFault.{BlifFault}

-- ---- sources

-- the source has a netlist, and this is the first fault of the names of its module
pub record IsProgramModuleFault (text : List ℕ) (main : Option (List ℕ)) (coding : Coding) (o : ModuleOptions)
    (fault : ResetFault) : Type 0 where
  pub net : Netlist
  pub stands : StandsForConstructiveNet text main net
  pub made : IsConstructiveNetOf coding text main net
  pub is : IsResetFault o net fault

abbrev pub IsSourceResetFault : List ℕ → Option (List ℕ) → Coding → ModuleOptions → Unmade CycleRefusal ResetFault
    → Type 0
IsSourceResetFault text main coding o = IsUnmade (IsSourceCause text main) (IsProgramModuleFault text main coding o)

-- ---- BLIF texts

-- the text has an optimized netlist, and this is the first fault of the names of its module
pub record IsTextModuleNameFault (text : List ℕ) (given : List GivenRelation) (o : ModuleOptions) (fault : ResetFault) :
    Type 0 where
  pub net : Netlist
  pub small : IsSmallNetOf text given net
  pub is : IsResetFault o net fault

abbrev pub IsTextResetFault : List ℕ → List GivenRelation → ModuleOptions → Unmade BlifFault ResetFault → Type 0
IsTextResetFault text given o = IsUnmade (IsGivenFault text given) (IsTextModuleNameFault text given o)
