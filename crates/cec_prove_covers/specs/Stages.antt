-- Contract: what is known between the steps of a covering.
use Rattle.std.specs.Prelude.{◌≡◌, ◌≤◌, ℕ, Bool, true, false, List, length, take, Option, None}
use Rattle.std.specs.List.{list_all}
use Rattle.est_ast.specs.FlatTrees.{Flat}
use Rattle.est_cover.specs.declared.points.Point.{Point}
use Rattle.est_dismantle.specs.Expansions.{Expanded, expansion}
use Rattle.est_front.specs.Sources.{StandsFor}
use Rattle.est_front.specs.declared.analysis.Analysed.{Analysed}
use Rattle.est_kernel.specs.CodeLists.{AreCodesOf}
use Rattle.est_kernel.specs.Plain.{Program, program_of, term_of}
use Rattle.est_kernel.specs.StaticCodes.{NoInstantLoop}
use Rattle.est_kernel.specs.WellFormed.{HasNames, IsWellFormed}
use Rattle.net_ir.specs.Runs.{netlist_of}
use Rattle.cec_compile.specs.NetMeaning.{NetKeeps}
use Rattle.cec_compile.specs.Refusals.{KeepsGraphLimits}
use Rattle.cec_prove_sources.specs.Verdicts.{IsNone}
use Rattle.cec_prove_covers.specs.declared.coverings.Covering.{Covering}
use Rattle.cec_prove_covers.specs.declared.coverings.Covering.TheVariants.{Whole, Partly, NoAssumed}
use Rattle.cec_compile.specs.declared.made.Made.{Made}
use Rattle.cec_prove_covers.specs.Coverings.{AreReaches}
use Rattle.cec_prove_covers.specs.Lines.{Reach, covering_text, is_decided}

-- the bytes stand for a program whose graph keeps the limits, and None says that it has no signal of the name that is
-- assumed
pub record HasRoom (source : List ℕ) (main assumed : Option (List ℕ)) (room : Option ℕ) : Type 0 where
  pub program : Program
  pub stands : StandsFor source main program
  pub limits : KeepsGraphLimits program
  pub none : room ≡ None → IsNone program assumed

-- what lines say
abbrev pub IsWritten : List ℕ → Bool → Covering → Type 0
IsWritten text whole (Whole lines) = (lines.items ≡ text) × (whole ≡ true)
IsWritten text whole (Partly lines) = (lines.items ≡ text) × (whole ≡ false)
IsWritten text whole NoAssumed = ⊥

-- a program is that of a covered one
pub record IsCoveredProgram (flat : Flat) (p : Program) : Type 0 where
  pub expands : expansion flat ≡ Expanded p
  pub formed : IsWellFormed p
  pub names : HasNames p

-- the same with its static codes, where it has no instantaneous loop
pub record IsAnalysedCover (flat : Flat) (analysed : Analysed) : Type 0 where
  pub program : IsCoveredProgram flat (program_of analysed.program)
  pub no_loop : NoInstantLoop (term_of analysed.program.body)
  pub codes : AreCodesOf analysed.codes (term_of analysed.program.body)

-- a netlist keeps what the program of a covered one means
pub record IsCoveredNet (flat : Flat) (net : Made) : Type 0 where
  pub program : IsCoveredProgram flat (program_of net.program)
  pub keeps : NetKeeps (netlist_of net.net) (program_of net.program)

-- a text has the lines of the points before this number
pub record IsCoveringPart (source : List ℕ) (flat : Flat) (assumed : Option (List ℕ)) (points : List Point) (number : ℕ)
    (text : List ℕ) (whole : Bool) : Type 0 where
  pub reaches : List Reach
  pub low : number ≤ length points
  pub count : length reaches ≡ number
  pub known : AreReaches flat assumed 0 reaches
  pub written : text ≡ covering_text source (take number points) reaches
  pub each_decided : whole ≡ list_all is_decided reaches
