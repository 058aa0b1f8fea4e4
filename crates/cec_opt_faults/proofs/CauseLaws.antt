-- A cause of a call below is one of the call that makes a text.
use Rattle.std.proofs.Common.{ℕ, List, Option, Result, Ok, Err, arith}
use Rattle.base_types.specs.Stops.{FaultIs, IfFault}
use Rattle.base_types.specs.declared.stop.Stop.{Stop}
use Rattle.base_types.specs.declared.stop.Stop.TheVariants as stops
use Rattle.cec_compile.specs.declared.refusal.Refusal.TheVariants as refusals
use Rattle.cec_cycles.specs.Constructive.{IsRefusedConstructive}
use Rattle.cec_cycles.specs.declared.findings.CycleRefusal.{CycleRefusal}
use Rattle.cec_cycles.specs.declared.findings.CycleRefusal.TheVariants as causes
use Rattle.cec_opt_faults.specs.Causes.{IsSourceCause, IsUnmade}
use Rattle.cec_opt_faults.specs.Stops.{no_source_net}
use Rattle.cec_opt_faults.specs.declared.unmade.Unmade.{Unmade}
use Rattle.cec_opt_faults.specs.declared.unmade.Unmade.TheVariants.{NoNet, NoText}

pub unmade-source : {F : Type 0} (IsFault : F → Type 0) (source : List ℕ) (main : Option (List ℕ)) (refusal : CycleRefusal)
    → IsRefusedConstructive source main refusal → FaultIs (IsUnmade (IsSourceCause source main) IsFault) (no_source_net refusal)
unmade-source IsFault source main (causes.Source (refusals.Static fault)) is = (grind arith, is)
unmade-source IsFault source main (causes.Source (refusals.Cyclic cycle)) is = (grind arith, is)
unmade-source IsFault source main (causes.Source (refusals.Limit limit)) is = (grind arith, is)
unmade-source IsFault source main (causes.Source refusals.NoMemory) is = tt
unmade-source IsFault source main (causes.NotConstructive stuck) is = (grind arith, is)
unmade-source IsFault source main (causes.Undecided cycle) is = (grind arith, is)
unmade-source IsFault source main (causes.TooManyNets cycle) is = (grind arith, is)

-- where there is a netlist, the fault is one of its text
pub unmade-as : {C F Z : Type 0} (IsCause : C → Type 0) (Has IsFault : F → Type 0) (result : Result Z (Stop (Unmade C F)))
    → ((fault : F) → Has fault → IsFault fault) → IfFault result (IsUnmade (λ cause. ⊥) Has) → IfFault result (IsUnmade IsCause IsFault)
unmade-as IsCause Has IsFault (Ok made) f is = tt
unmade-as IsCause Has IsFault (Err (stops.Fault (NoNet cause))) f is = absurd is
unmade-as IsCause Has IsFault (Err (stops.Fault (NoText fault))) f is = f fault is
unmade-as IsCause Has IsFault (Err stops.NoMemory) f is = tt
