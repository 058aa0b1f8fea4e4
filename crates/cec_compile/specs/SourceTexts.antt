-- To believe: what the text of a form of a source is.
use Rattle.std.specs.Prelude.{ℕ, List, Option}
use Rattle.cec_compile.specs.Compiling.{StandsForText, StandsForC, StandsForVerilog, IsBlifOf, IsCOf, IsVerilogOf}
use Rattle.cec_compile.specs.EncodedTexts.{StandsForEncoded, IsEncodedBlifOf}
use Rattle.cec_compile.specs.GuardedTexts.{StandsForGuarded, IsGuardedOf}
use Rattle.cec_compile.specs.declared.forms.TextForm.{TextForm}
use Rattle.cec_compile.specs.declared.forms.TextForm.TheVariants as forms

-- The bytes stand for a program that compiles, and the text keeps what it means; and it is that of a compiled program's
-- netlist. The main module's name is given where there is one.
abbrev pub IsSourceText : TextForm → Option (List ℕ) → List ℕ → List ℕ → Type 0
IsSourceText forms.Blif main source text = StandsForText source main text × IsBlifOf source main text
IsSourceText forms.EncodedBlif main source text =
    StandsForEncoded source main text × IsEncodedBlifOf source main text
IsSourceText forms.C main source text = StandsForC source main text × IsCOf source main text
IsSourceText forms.Guarded main source text = StandsForGuarded source main text × IsGuardedOf source main text
IsSourceText forms.Verilog main source text = StandsForVerilog source main text × IsVerilogOf source main text
