-- The lighter one of two optimized netlists keeps what the program means, and so do its texts.
use Rattle.std.proofs.Common.{◌≡◌, ℕ, List, length, Option, Bool, true, false, if◌then◌else◌, sym, ap, ◌∙◌, subst}
use Rattle.std.specs.Prelude.{nat_lt}
use Rattle.est_kernel.specs.Plain.{Program, given_count}
use Rattle.net_ir.specs.Netlists.{Netlist}
use Rattle.net_ir.specs.Runs.{netlist_of}
use Rattle.blif_text.specs.Written.{Means}
use Rattle.csub_text.specs.Written as c_texts
use Rattle.vlog_text.specs.Written as vlog_texts
use Rattle.cec_compile.specs.declared.passes.Compiled.{Compiled}
use Rattle.cec_compile.specs.Compiling.{IsCompiled, StandsForNet}
use Rattle.cec_compile.specs.NetMeaning.{NetKeeps}
use Rattle.cec_compile.proofs.Exports.{inputs_wide}
use Rattle.cec_opt_sources.specs.LightNets.{IsEncodedNetOf, IsEncodedSmall, IsLightNetOf, IsLightOf, IsLightSource, lighter, weight}
use Rattle.cec_opt_sources.specs.SmallTexts.{StandsForSmallNet, StandsForSmallBlif, StandsForSmallC, StandsForSmallVerilog}
use Rattle.cec_opt_sources.proofs.Related.{under_keeps}
use Rattle.cec_opt_sources.proofs.SmallNets.{net_blif, net_c, net_verilog}

-- what both netlists keep, the lighter one keeps
chosen : (P : Netlist → Type 0) (b : Bool) (plain encoded : Netlist) → P plain → P encoded → P (if b then encoded else plain)
chosen P true plain encoded p e = e
chosen P false plain encoded p e = p

encoded_keeps : (c : Compiled) (p : Program) (net : Netlist) → IsCompiled c p → IsEncodedSmall c p net → NetKeeps net p
encoded_keeps c p net h e =
    under_keeps e.coded net p (inputs_wide c p h ∙ ap length (sym e.codes_state.inputs)) e.small.optimizes e.codes_state.keeps

light_keeps : (c : Compiled) (p : Program) (net : Netlist) → IsCompiled c p → IsLightOf c p net → NetKeeps net p
light_keeps c p net h l =
    let plain = under_keeps (netlist_of c.net) l.plain p (inputs_wide c p h) l.small.optimizes h.keeps in
    subst (λ (n : Netlist). NetKeeps n p) (sym l.is)
    (chosen (λ (n : Netlist). NetKeeps n p) (nat_lt (weight l.encoded) (weight l.plain)) l.plain l.encoded plain
    (encoded_keeps c p l.encoded h l.encoded_small))

pub light_stands : (bytes : List ℕ) (main : Option (List ℕ)) (c : Compiled) (net : Netlist) → IsLightSource bytes main c net
    → StandsForSmallNet bytes main net
light_stands bytes main c net is =
    let s = is.stands in
    record { program = s.program; source = s.source; compiles = s.compiled.compiles; keeps = light_keeps c s.program net s.compiled is.light }

pub encoded_stands : (bytes : List ℕ) (main : Option (List ℕ)) (net : Netlist) → IsEncodedNetOf bytes main net → StandsForSmallNet bytes main net
encoded_stands bytes main net is =
    let s = is.stands in
    record {
      program = s.program;
      source = s.source;
      compiles = s.compiled.compiles;
      keeps = encoded_keeps is.compiled s.program net s.compiled is.small;
    }

-- ---- texts of the lighter one

pub light_blif : (bytes : List ℕ) (main : Option (List ℕ)) (net : Netlist) (written : List ℕ) → IsLightNetOf bytes main net → Means written net
    → StandsForSmallBlif bytes main written
light_blif bytes main net written is means =
    let s = is.1.stands in net_blif bytes main is.0 net written s (light_keeps is.0 s.program net s.compiled is.1.light) means

pub light_c : (bytes : List ℕ) (main : Option (List ℕ)) (net : Netlist) (written : List ℕ) → IsLightNetOf bytes main net → c_texts.Means written net
    → StandsForSmallC bytes main written
light_c bytes main net written is means =
    let s = is.1.stands in net_c bytes main is.0 net written s (light_keeps is.0 s.program net s.compiled is.1.light) means

pub light_verilog : (bytes : List ℕ) (main : Option (List ℕ)) (net : Netlist) (written : List ℕ) → IsLightNetOf bytes main net → vlog_texts.Means written net
    → StandsForSmallVerilog bytes main written
light_verilog bytes main net written is means =
    let s = is.1.stands in net_verilog bytes main is.0 net written s (light_keeps is.0 s.program net s.compiled is.1.light) means
