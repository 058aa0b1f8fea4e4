-- An optimized netlist keeps what the program means whose netlist it is made of, and so do its texts.
use Rattle.std.proofs.Common.{◌≡◌, ℕ, ◌≤◌, List, length, Option, ◌∙◌}
use Rattle.est_kernel.specs.Plain.{Program, given_count}
use Rattle.net_ir.specs.Netlists.{Netlist}
use Rattle.net_ir.specs.Runs.{netlist_of}
use Rattle.net_opt.specs.Optimized.{Optimizes}
use Rattle.blif_text.specs.Written.{Means}
use Rattle.csub_text.specs.Written as c_texts
use Rattle.vlog_text.specs.Written as vlog_texts
use Rattle.cec_compile.specs.declared.passes.Compiled.{Compiled}
use Rattle.cec_compile.specs.Compiling.{StandsForNet}
use Rattle.cec_compile.specs.NetMeaning.{NetKeeps}
use Rattle.cec_compile.proofs.Exports.{given-few, inputs_wide, widths, text_keeps, c_text_keeps, verilog_text_keeps}
use Rattle.cec_opt_sources.specs.declared.texts.SmallSource.{SmallSource}
use Rattle.cec_opt_sources.specs.SmallTexts.{StandsForSmallNet, StandsForSmallBlif, StandsForSmallC, StandsForSmallVerilog, IsSmallSource}

pub optimized_keeps : (net new : Netlist) (p : Program) → given_count p ≡ length net.inputs → Optimizes net new → NetKeeps net p → NetKeeps new p
optimized_keeps net new p wide o keeps = record {
  name = o.replaces.interface.name ∙ keeps.name;
  inputs = o.replaces.interface.inputs ∙ keeps.inputs;
  outputs = o.replaces.interface.outputs ∙ keeps.outputs;
  runs = λ items fits.
      let found = keeps.runs items fits in
      (found.0, found.1, o.replaces.followed.runs items (widths p (length net.inputs) wide items fits) ∙ found.2);
}

pub small_stands : (bytes : List ℕ) (main : Option (List ℕ)) (small : SmallSource) → IsSmallSource bytes main small
    → StandsForSmallNet bytes main (netlist_of small.net)
small_stands bytes main small is =
    let s = is.compiled in
    record {
      program = s.program;
      source = s.source;
      compiles = s.compiled.compiles;
      keeps = optimized_keeps (netlist_of small.compiled.net) (netlist_of small.net) s.program
          (inputs_wide small.compiled s.program s.compiled) is.optimizes s.compiled.keeps;
    }

few : (bytes : List ℕ) (main : Option (List ℕ)) (made : Compiled) → (s : StandsForNet bytes main made) → given_count s.program ≤ length s.program.signals
few bytes main made s = given-few s.program s.compiled.formed

-- ---- texts of a netlist that keeps what the program means

pub net_blif : (bytes : List ℕ) (main : Option (List ℕ)) (c : Compiled) (net : Netlist) (written : List ℕ) → (s : StandsForNet bytes main c)
    → NetKeeps net s.program → Means written net → StandsForSmallBlif bytes main written
net_blif bytes main c net written s keeps means = record {
  program = s.program;
  source = s.source;
  compiles = s.compiled.compiles;
  keeps = text_keeps written net s.program (few bytes main c s) keeps means;
}

pub net_c : (bytes : List ℕ) (main : Option (List ℕ)) (c : Compiled) (net : Netlist) (written : List ℕ) → (s : StandsForNet bytes main c)
    → NetKeeps net s.program → c_texts.Means written net → StandsForSmallC bytes main written
net_c bytes main c net written s keeps means = record {
  program = s.program;
  source = s.source;
  compiles = s.compiled.compiles;
  keeps = c_text_keeps written net s.program (few bytes main c s) keeps means;
}

pub net_verilog : (bytes : List ℕ) (main : Option (List ℕ)) (c : Compiled) (net : Netlist) (written : List ℕ) → (s : StandsForNet bytes main c)
    → NetKeeps net s.program → vlog_texts.Means written net → StandsForSmallVerilog bytes main written
net_verilog bytes main c net written s keeps means = record {
  program = s.program;
  source = s.source;
  compiles = s.compiled.compiles;
  keeps = verilog_text_keeps written net s.program (few bytes main c s) keeps means;
}

-- ---- texts of a small netlist

pub blif_stands : (bytes : List ℕ) (main : Option (List ℕ)) (small : SmallSource) (written : List ℕ) → IsSmallSource bytes main small
    → Means written (netlist_of small.net) → StandsForSmallBlif bytes main written
unfolding small_stands
blif_stands bytes main small written is means =
    net_blif bytes main small.compiled (netlist_of small.net) written is.compiled (small_stands bytes main small is).keeps means

pub c_stands : (bytes : List ℕ) (main : Option (List ℕ)) (small : SmallSource) (written : List ℕ) → IsSmallSource bytes main small
    → c_texts.Means written (netlist_of small.net) → StandsForSmallC bytes main written
unfolding small_stands
c_stands bytes main small written is means =
    net_c bytes main small.compiled (netlist_of small.net) written is.compiled (small_stands bytes main small is).keeps means

pub verilog_stands : (bytes : List ℕ) (main : Option (List ℕ)) (small : SmallSource) (written : List ℕ) → IsSmallSource bytes main small
    → vlog_texts.Means written (netlist_of small.net) → StandsForSmallVerilog bytes main written
unfolding small_stands
verilog_stands bytes main small written is means =
    net_verilog bytes main small.compiled (netlist_of small.net) written is.compiled (small_stands bytes main small is).keeps means
