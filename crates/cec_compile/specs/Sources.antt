-- To believe: sources that compile, that are refused, or whose texts are too long.
use Rattle.std.specs.Prelude.{ℕ, ◌<◌, ◌≤◌, List, length, Option}
use Rattle.base_types.specs.declared.bounds.TheConstants.Limits.{SOURCE_BYTES, TEXT_BYTES}
use Rattle.est_kernel.specs.Plain.{Program}
use Rattle.est_front.specs.Sources.{StandsFor}
use Rattle.cec_compile.specs.declared.forms.TextForm.{TextForm}
use Rattle.cec_compile.specs.declared.forms.TextForm.TheVariants as forms
use Rattle.cec_compile.specs.declared.refusal.Refusal as refused
use Rattle.cec_compile.specs.Compiling.{IsVerilogOf}
use Rattle.cec_compile.specs.EncodedTexts.{IsEncodedBlifOf}
use Rattle.cec_compile.specs.GuardedTexts.{IsGuardedOf}
use Rattle.cec_compile.specs.Refusals.{Compiles, IsRefused}

-- The bytes stand for a program that compiles.
pub record IsSource (main : Option (List ℕ)) (bytes : List ℕ) : Type 0 where
  pub program : Program
  pub short : length bytes ≤ SOURCE_BYTES
  pub source : StandsFor bytes main program
  pub compiles : Compiles program

-- the bytes may be a source, but are refused
pub record IsRefusedSource (main : Option (List ℕ)) (refusal : refused.Refusal) (bytes : List ℕ) : Type 0 where
  pub short : length bytes ≤ SOURCE_BYTES
  pub refused : IsRefused bytes main refusal

-- Such a text is written of the source, and is too long to be read.
pub record HasLongText (IsOf : List ℕ → Option (List ℕ) → List ℕ → Type 0) (main : Option (List ℕ)) (bytes : List ℕ) :
    Type 0 where
  pub short : length bytes ≤ SOURCE_BYTES
  pub text : List ℕ
  pub written : IsOf bytes main text
  pub long : TEXT_BYTES < length text

-- no text of another form than these is too long
abbrev pub WritesLongText : TextForm → Option (List ℕ) → List ℕ → Type 0
WritesLongText forms.EncodedBlif main bytes = HasLongText IsEncodedBlifOf main bytes
WritesLongText forms.Guarded main bytes = HasLongText IsGuardedOf main bytes
WritesLongText forms.Verilog main bytes = HasLongText IsVerilogOf main bytes
WritesLongText others main bytes = ⊥
