-- The texts of each form that are written of a compiled source.
use Rattle.std.proofs.Common.{◌≡◌, ℕ, ◌≤◌, List, length, Option, sym, ap, ◌∙◌, subst}
use Rattle.base_types.specs.declared.bounds.TheConstants.Limits.{SOURCE_BYTES}
use Rattle.est_kernel.specs.Plain.{Program}
use Rattle.net_ir.specs.Netlists.{Netlist}
use Rattle.net_ir.specs.Runs.{netlist_of}
use Rattle.blif_text.specs.Written as blif_texts
use Rattle.csub_text.specs.Written as c_texts
use Rattle.vlog_text.specs.Written as verilog_texts
use Rattle.cec_text_io.specs.NetWriting.{IsWrittenIn}
use Rattle.cec_compile.specs.declared.passes.Compiled.{Compiled}
use Rattle.cec_compile.specs.declared.forms.TextForm.{TextForm}
use Rattle.cec_compile.specs.declared.forms.TextForm.TheVariants as forms
use Rattle.cec_compile.specs.declared.made.Made.{Made}
use Rattle.cec_compile.specs.Compiling.{IsBlifOf, IsCOf, IsVerilogOf, IsCompiled, StandsForNet}
use Rattle.cec_compile.specs.MadeNets.{IsNetIn, IsMade, IsWrittenOf}
use Rattle.cec_compile.specs.NetMeaning.{NetKeeps}
use Rattle.cec_compile.specs.SourceTexts.{IsSourceText}
use Rattle.cec_compile.specs.Sources.{IsSource}
use Rattle.cec_compile.specs.WireGroups.{SharesWires, is_shared}
use Rattle.cec_compile.proofs.EncodedNets.{encoded_stands}
use Rattle.cec_compile.proofs.Joined.{text_stands, c_text_stands, verilog_text_stands}

-- ---- the text of each form

abbrev pub IsBlifText : List ℕ → Netlist → Type 0
IsBlifText = IsWrittenIn blif_texts.written blif_texts.Means

abbrev pub IsCText : List ℕ → Netlist → Type 0
IsCText = IsWrittenIn c_texts.written c_texts.Means

abbrev pub IsVerilogText : List ℕ → Netlist → Type 0
IsVerilogText = IsWrittenIn verilog_texts.written verilog_texts.Means

own_blif : (bytes : List ℕ) (main : Option (List ℕ)) (text : List ℕ) → (c : Compiled) → (s : StandsForNet bytes main c)
    → SharesWires s.program (is_shared c.graph) → (net : Netlist) → net ≡ netlist_of c.net → text ≡ blif_texts.written net → IsBlifOf bytes main text
own_blif bytes main text c s shares net own w = record { made = c; compiled = s; shares = shares; text = w ∙ ap blif_texts.written own }

own_c : (bytes : List ℕ) (main : Option (List ℕ)) (text : List ℕ) → (c : Compiled) → (s : StandsForNet bytes main c)
    → SharesWires s.program (is_shared c.graph) → (net : Netlist) → net ≡ netlist_of c.net → text ≡ c_texts.written net → IsCOf bytes main text
own_c bytes main text c s shares net own w = record { made = c; compiled = s; shares = shares; text = w ∙ ap c_texts.written own }

own_verilog : (bytes : List ℕ) (main : Option (List ℕ)) (text : List ℕ) → (c : Compiled) → (s : StandsForNet bytes main c)
    → SharesWires s.program (is_shared c.graph) → (net : Netlist) → net ≡ netlist_of c.net → text ≡ verilog_texts.written net → IsVerilogOf bytes main text
own_verilog bytes main text c s shares net own w = record { made = c; compiled = s; shares = shares; text = w ∙ ap verilog_texts.written own }

-- ---- the text that is written is what is asked for

pub blif_answers : (bytes : List ℕ) (main : Option (List ℕ)) (text : List ℕ) → IsWrittenOf forms.Blif IsBlifText bytes main text
    → IsSourceText forms.Blif main bytes text
blif_answers bytes main text w =
    let m = w.is_made in (
      text_stands bytes main m.compiled text m.source m.shares m.follows (subst (blif_texts.Means text) m.net w.written.means),
      own_blif bytes main text m.compiled m.source m.shares (netlist_of w.made.net) m.net w.written.spelled,
    )

pub encoded_answers : (bytes : List ℕ) (main : Option (List ℕ)) (text : List ℕ) → IsWrittenOf forms.EncodedBlif IsBlifText bytes main text
    → IsSourceText forms.EncodedBlif main bytes text
encoded_answers bytes main text w =
    let m = w.is_made in (
      encoded_stands bytes main m.compiled (netlist_of w.made.net) text m.source m.shares m.follows m.net w.written.means,
      record { made = m.compiled; compiled = m.source; shares = m.shares; net = netlist_of w.made.net; encoded = m.net; text = w.written.spelled },
    )

pub c_answers : (bytes : List ℕ) (main : Option (List ℕ)) (text : List ℕ) → IsWrittenOf forms.C IsCText bytes main text
    → IsSourceText forms.C main bytes text
c_answers bytes main text w =
    let m = w.is_made in (
      c_text_stands bytes main m.compiled text m.source m.shares m.follows (subst (c_texts.Means text) m.net w.written.means),
      own_c bytes main text m.compiled m.source m.shares (netlist_of w.made.net) m.net w.written.spelled,
    )

pub verilog_answers : (bytes : List ℕ) (main : Option (List ℕ)) (text : List ℕ) → IsWrittenOf forms.Verilog IsVerilogText bytes main text
    → IsSourceText forms.Verilog main bytes text
verilog_answers bytes main text w =
    let m = w.is_made in (
      verilog_text_stands bytes main m.compiled text m.source m.shares m.follows (subst (verilog_texts.Means text) m.net w.written.means),
      own_verilog bytes main text m.compiled m.source m.shares (netlist_of w.made.net) m.net w.written.spelled,
    )

-- ---- what is made of a source

pub made_source : (form : TextForm) (bytes : List ℕ) (main : Option (List ℕ)) (made : Made) → length bytes ≤ SOURCE_BYTES → IsMade form bytes main made
    → IsSource main bytes
made_source form bytes main made short m =
    record { program = m.source.program; short = short; source = m.source.source; compiles = m.source.compiled.compiles }

-- the netlist keeps what the program means
pub made_keeps : (form : TextForm) (bytes : List ℕ) (main : Option (List ℕ)) (made : Made) → (m : IsMade form bytes main made)
    → NetKeeps (netlist_of made.net) m.source.program
made_keeps form bytes main made m = net_keeps form m.compiled m.source.program (netlist_of made.net) m.source.compiled m.net
  where
    net_keeps : (f : TextForm) (c : Compiled) (p : Program) (net : Netlist) → IsCompiled c p → IsNetIn f c p net → NetKeeps net p
    net_keeps forms.Blif c p net h own = subst (λ n. NetKeeps n p) (sym own) h.keeps
    net_keeps forms.EncodedBlif c p net h e = e.keeps
    net_keeps forms.C c p net h own = subst (λ n. NetKeeps n p) (sym own) h.keeps
    net_keeps forms.Guarded c p net h own = subst (λ n. NetKeeps n p) (sym own) h.keeps
    net_keeps forms.Verilog c p net h own = subst (λ n. NetKeeps n p) (sym own) h.keeps
