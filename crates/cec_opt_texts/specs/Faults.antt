-- To believe: the first fault of a BLIF text that must be optimized.
use Rattle.std.specs.Prelude.{◌≡◌, ℕ, List, Result, Ok, Err}
use Rattle.blif_text.specs.Circuits.{Circuit, reading}
use Rattle.blif_text.specs.Circuits as circuits
use Rattle.blif_read.specs.declared.fault.BlifFault.{BlifFault}
use Rattle.blif_read.specs.declared.fault.BlifFault.TheVariants.{TooLong, Line, TwoDrivers, NoDriver, NoInput}
use Rattle.blif_net.specs.Conversions.{IsNetOf}
use Rattle.blif_net.specs.Interfaces.{IsCircuitFault}
use Rattle.net_ir.specs.Netlists.{Netlist}
use Rattle.cec_opt_texts.specs.Related.{GivenRelation, numbered_relations}

-- the text is not of the profile, and this is its first fault; or its circuit has this one
abbrev pub IsOptFault : List ℕ → BlifFault → Type 0
IsOptFault text TooLong = ⊥
IsOptFault text (Line number) = reading text ≡ Err (circuits.Line number)
IsOptFault text (TwoDrivers name) = reading text ≡ Err (circuits.TwoDrivers name)
IsOptFault text (NoDriver name) = reading text ≡ Err (circuits.NoDriver name)
IsOptFault text (NoInput name) = ⊥
IsOptFault text others = (circuit : Circuit) × (reading text ≡ Ok circuit) × IsCircuitFault circuit others

-- The text has a netlist, and this is the first name of a relation that is none of its inputs.
pub record LacksInput (text : List ℕ) (given : List GivenRelation) (name : List ℕ) : Type 0 where
  pub circuit : Circuit
  pub reads : reading text ≡ Ok circuit
  pub net : Netlist
  pub is : IsNetOf circuit net
  pub lacks : numbered_relations circuit.inputs given ≡ Err name

-- the same where relations of the inputs are given
abbrev pub IsGivenFault : List ℕ → (given : List GivenRelation) → BlifFault → Type 0
IsGivenFault text given (NoInput name) = LacksInput text given name
IsGivenFault text given others = IsOptFault text others

-- no input has this name, which is the first such one of relations
abbrev pub IsNoInput : {X : Type 0} → Result X (List ℕ) → BlifFault → Type 0
IsNoInput found (NoInput name) = found ≡ Err name
IsNoInput found others = ⊥
