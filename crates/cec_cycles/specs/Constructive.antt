-- To believe: sources whose programs are constructive, with a cycle or without, and their texts.
use Rattle.std.specs.Prelude.{ℕ, ◌≤◌, ◌⊎◌, List, length, Option}
use Rattle.est_kernel.specs.Plain.{Program, given_count}
use Rattle.est_kernel.specs.WellFormed.{IsWellFormed}
use Rattle.net_ir.specs.Netlists.{Netlist}
use Rattle.est_front.specs.Sources.{StandsFor}
use Rattle.cec_compile.specs.Meaning.{TextKeeps, CTextKeeps, VerilogTextKeeps}
use Rattle.cec_compile.specs.NetMeaning.{NetKeeps}
use Rattle.cec_compile.specs.Refusals.{IsRefused, KeepsGraphLimits}
use Rattle.cec_compile.specs.declared.cycles.Cycle.{Cycle}
use Rattle.cec_compile.specs.declared.refusal.Refusal.{Refusal}
use Rattle.cec_compile.specs.declared.refusal.Refusal.TheVariants as refusals
use Rattle.cec_opt_sources.specs.LightNets.{IsCodedNetOf}
use Rattle.cec_opt_sources.specs.declared.light.Coding.{Coding}
use Rattle.cec_cycles.specs.Findings.{IsStuck}
use Rattle.cec_cycles.specs.declared.findings.CycleRefusal.{CycleRefusal}
use Rattle.cec_cycles.specs.declared.findings.CycleRefusal.TheVariants.{Source, NotConstructive, Undecided, TooManyNets}
use Rattle.cec_cycles.specs.declared.findings.Stuck.{Stuck}

-- The bytes stand for a program whose graph keeps the limits; its dependencies may have a cycle. The netlist, or
-- the text in BLIF, C or Verilog, keeps what the program means. The first of these names the program.

pub record StandsForConstructiveMade (text : List ℕ) (main : Option (List ℕ)) (program : Program) (net : Netlist) :
    Type 0 where
  pub source : StandsFor text main program
  pub formed : IsWellFormed program
  pub limits : KeepsGraphLimits program
  pub keeps : NetKeeps net program

pub record StandsForConstructiveNet (text : List ℕ) (main : Option (List ℕ)) (net : Netlist) : Type 0 where
  pub program : Program
  pub source : StandsFor text main program
  pub limits : KeepsGraphLimits program
  pub few : given_count program ≤ length program.signals
  pub keeps : NetKeeps net program

pub record StandsForConstructiveBlif (text : List ℕ) (main : Option (List ℕ)) (written : List ℕ) : Type 0 where
  pub program : Program
  pub source : StandsFor text main program
  pub limits : KeepsGraphLimits program
  pub keeps : TextKeeps written program

pub record StandsForConstructiveC (text : List ℕ) (main : Option (List ℕ)) (written : List ℕ) : Type 0 where
  pub program : Program
  pub source : StandsFor text main program
  pub limits : KeepsGraphLimits program
  pub keeps : CTextKeeps written program

pub record StandsForConstructiveVerilog (text : List ℕ) (main : Option (List ℕ)) (written : List ℕ) : Type 0 where
  pub program : Program
  pub source : StandsFor text main program
  pub limits : KeepsGraphLimits program
  pub keeps : VerilogTextKeeps written program

-- the bytes stand for a program whose dependency relation has this cycle
abbrev pub HasCycle : List ℕ → Option (List ℕ) → Cycle → Type 0
HasCycle text main cycle = IsRefused text main (refusals.Cyclic cycle)

-- without a cycle it is one of the small netlists, the lighter one or the one whose latches hold the state in a code
abbrev pub IsConstructiveNetOf : Coding → List ℕ → Option (List ℕ) → Netlist → Type 0
IsConstructiveNetOf coding text main net =
    IsCodedNetOf coding text main net ⊎ ((cycle : Cycle) × HasCycle text main cycle)

-- The bytes stand for a program that is not constructive. Its dependency relation has a cycle.
pub record StandsForStuck (text : List ℕ) (main : Option (List ℕ)) (stuck : Stuck) : Type 0 where
  pub program : Program
  pub source : StandsFor text main program
  pub limits : KeepsGraphLimits program
  pub is_stuck : IsStuck program stuck
  pub cycle : Cycle
  pub has_cycle : HasCycle text main cycle

-- the cause of another refusal than that for a cycle
abbrev pub IsOtherRefusal : List ℕ → Option (List ℕ) → Refusal → Type 0
IsOtherRefusal text main (refusals.Cyclic cycle) = ⊥
IsOtherRefusal text main others = IsRefused text main others

-- Why a source has no constructive netlist. It is undecided, or the netlist too large, only with a cycle.
abbrev pub IsRefusedConstructive : List ℕ → Option (List ℕ) → CycleRefusal → Type 0
IsRefusedConstructive text main (Source refusal) = IsOtherRefusal text main refusal
IsRefusedConstructive text main (NotConstructive stuck) = StandsForStuck text main stuck
IsRefusedConstructive text main (Undecided cycle) = HasCycle text main cycle
IsRefusedConstructive text main (TooManyNets cycle) = HasCycle text main cycle
