-- What a netlist of a constructive program keeps, and its texts.
use Rattle.std.proofs.Common.{◌≡◌, ◌≤◌, ℕ, List, length, Option, subst, sym}
use Rattle.est_kernel.specs.Plain.{Program, given_count}
use Rattle.est_kernel.specs.WellFormed.{IsWellFormed}
use Rattle.net_ir.specs.Netlists.{Netlist}
use Rattle.net_relations.specs.Under.{OptimizesUnder}
use Rattle.net_loops.specs.CheckedNets.{IsCheckedNet}
use Rattle.blif_text.specs.Written.{Means}
use Rattle.csub_text.specs.Written as c_texts
use Rattle.vlog_text.specs.Written as vlog_texts
use Rattle.cec_compile.specs.Compiling.{StandsForNet}
use Rattle.cec_compile.specs.Meaning.{IsEvent}
use Rattle.cec_compile.specs.NetMeaning.{NetKeeps}
use Rattle.cec_compile.specs.declared.passes.Compiled.{Compiled}
use Rattle.est_front.proofs.Exports.{one_program}
use Rattle.cec_compile.proofs.Exports.{given-few, text_keeps, c_text_keeps, verilog_text_keeps}
use Rattle.cec_opt_sources.specs.LightNets.{IsCodedNetOf}
use Rattle.cec_opt_sources.specs.declared.light.Coding.{Coding}
use Rattle.cec_opt_sources.specs.declared.light.Coding.TheVariants.{Lighter, Encoded}
use Rattle.cec_opt_sources.specs.SmallTexts.{StandsForSmallNet}
use Rattle.cec_opt_sources.proofs.Exports.{under_keeps}
use Rattle.cec_prove_sources.proofs.Exports.{each-event, inputs-count}
use Rattle.cec_cycles.specs.Alarms.{NeverAlarms}
use Rattle.cec_cycles.specs.Constructive.{StandsForConstructiveMade, StandsForConstructiveNet}
use Rattle.cec_cycles.specs.Constructive.{StandsForConstructiveBlif, StandsForConstructiveC, StandsForConstructiveVerilog}

-- a netlist whose check never raises the alarm keeps what the program means
quiet-keeps : (p : Program) (net check : Netlist) → IsCheckedNet p net check → NeverAlarms p check → NetKeeps net p
quiet-keeps p net check is never = record {
  name = is.name;
  inputs = is.inputs;
  outputs = is.outputs;
  runs = λ items are. is.runs items (each-event (IsEvent p) (λ event. length event ≡ given_count p) (λ event e. e.wide) items are) (never items are);
}

-- and so does the optimized one
pub small-keeps : (p : Program) (net check small : Netlist) → IsWellFormed p → IsCheckedNet p net check → NeverAlarms p check
    → OptimizesUnder p.relations net small → NetKeeps small p
small-keeps p net check small fits is never o =
    let keeps = quiet-keeps p net check is never in
    under_keeps net small p (sym (inputs-count net p fits keeps)) o keeps

-- the small netlist of a source without a cycle
small-stands : (text : List ℕ) (main : Option (List ℕ)) (c : Compiled) (net : Netlist) → StandsForNet text main c → StandsForSmallNet text main net
    → StandsForConstructiveNet text main net
small-stands text main c net s small =
    let same : s.program ≡ small.program = one_program text main s.program small.program s.source small.source in
    record {
      program = small.program;
      source = small.source;
      limits = small.compiles.limits;
      few = subst (λ (p : Program). given_count p ≤ length p.signals) same (given-few s.program s.compiled.formed);
      keeps = small.keeps;
    }

pub coded-stands : (coding : Coding) (text : List ℕ) (main : Option (List ℕ)) (net : Netlist) → IsCodedNetOf coding text main net
    → StandsForSmallNet text main net → StandsForConstructiveNet text main net
coded-stands Lighter text main net light small = small-stands text main light.0 net light.1.stands small
coded-stands Encoded text main net encoded small = small-stands text main encoded.compiled net encoded.stands small

-- the netlist of a source whose program is named
pub made-net : (text : List ℕ) (main : Option (List ℕ)) (program : Program) (net : Netlist) → StandsForConstructiveMade text main program net
    → StandsForConstructiveNet text main net
made-net text main program net s = record {
  program = program;
  source = s.source;
  limits = s.limits;
  few = given-few program s.formed;
  keeps = s.keeps;
}

-- ---- texts

pub constructive_blif : (text : List ℕ) (main : Option (List ℕ)) (net : Netlist) (written : List ℕ) → StandsForConstructiveNet text main net
    → Means written net → StandsForConstructiveBlif text main written
constructive_blif text main net written s means = record {
  program = s.program;
  source = s.source;
  limits = s.limits;
  keeps = text_keeps written net s.program s.few s.keeps means;
}

pub constructive_c : (text : List ℕ) (main : Option (List ℕ)) (net : Netlist) (written : List ℕ) → StandsForConstructiveNet text main net
    → c_texts.Means written net → StandsForConstructiveC text main written
constructive_c text main net written s means = record {
  program = s.program;
  source = s.source;
  limits = s.limits;
  keeps = c_text_keeps written net s.program s.few s.keeps means;
}

pub constructive_verilog : (text : List ℕ) (main : Option (List ℕ)) (net : Netlist) (written : List ℕ) → StandsForConstructiveNet text main net
    → vlog_texts.Means written net → StandsForConstructiveVerilog text main written
constructive_verilog text main net written s means = record {
  program = s.program;
  source = s.source;
  limits = s.limits;
  keeps = verilog_text_keeps written net s.program s.few s.keeps means;
}
