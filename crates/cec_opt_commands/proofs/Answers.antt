-- The text that is written of an optimized netlist is what is asked for.
use Rattle.std.proofs.Common.{ℕ, List, Option, Result, Ok, Err, inl, inr}
use Rattle.std.specs.Prelude.{IfOk}
use Rattle.base_types.specs.declared.stop.Stop.{Stop}
use Rattle.est_kernel.specs.Plain.{Program}
use Rattle.net_ir.specs.Netlists.{Netlist}
use Rattle.net_ir.specs.Runs.{netlist_of}
use Rattle.est_front.specs.Sources.{StandsFor}
use Rattle.cec_compile.specs.NetMeaning.{NetKeeps}
use Rattle.cec_compile.specs.Refusals.{KeepsGraphLimits}
use Rattle.cec_compile.specs.declared.cycles.Cycle.{Cycle}
use Rattle.cec_cycles.proofs.Exports.{constructive_blif, constructive_c, constructive_verilog}
use Rattle.cec_cycles.specs.Constructive.{HasCycle, IsConstructiveNetOf, StandsForConstructiveNet}
use Rattle.cec_opt_sources.specs.declared.light.Coding.TheVariants.{Lighter}
use Rattle.cec_opt_sources.proofs.Exports.{light_blif, light_c, light_verilog}
use Rattle.cec_opt_sources.specs.LightNets.{IsLightNetOf}
use Rattle.cec_opt_texts.proofs.Exports.{blif-keeps, c-keeps, verilog-keeps}
use Rattle.cec_opt_texts.specs.Optimized.{IsSmallNetOf, IsTextNet}
use Rattle.cec_opt_texts.specs.Related.{GivenRelation}
use Rattle.blif_read.specs.declared.fault.BlifFault.{BlifFault}
use Rattle.cec_opt_commands.specs.Answers.{IsAnswer, IsSourceAnswer, TellsAny, TellsNets, TellsText}
use Rattle.cec_opt_commands.specs.Outcomes.{IsConstructible}
use Rattle.cec_opt_commands.specs.Words.{Write}
use Rattle.cec_opt_commands.specs.NetTexts.{IsWritten}
use Rattle.cec_opt_commands.specs.declared.words.Form.{Form}
use Rattle.cec_opt_commands.specs.declared.words.Form.TheVariants.{Blif, C, Verilog}

pub small_answers : (form : Form) (text : List ℕ) (given : List GivenRelation) (written : List ℕ) (net : Netlist) → IsSmallNetOf text given net
    → IsWritten form written net → IsAnswer (Write form) text given written
small_answers Blif text given written net small w =
    record { keeps = blif-keeps text given written net small w.means; net = net; small = small; spelled = w.spelled }
small_answers C text given written net small w =
    record { keeps = c-keeps text given written net small w.means; net = net; small = small; spelled = w.spelled }
small_answers Verilog text given written net small w =
    record { keeps = verilog-keeps text given written net small w.means; net = net; small = small; spelled = w.spelled }

-- an optimized netlist of a text is one of a netlist of the text
pub text_net : (text : List ℕ) (given : List GivenRelation) (net : Netlist) → (small : IsSmallNetOf text given net) → IsTextNet text small.small.made
text_net text given net s = record { circuit = s.circuit; reads = s.reads; is = s.small.is }

-- the lines of the netlist of a text
pub text_lines : {Z : Type 0} (items : Z → List ℕ) (text : List ℕ) (given : List GivenRelation) (net : Netlist) (result : Result Z (Stop BlifFault))
    → IsTextNet text net → IfOk result (λ z. TellsNets given net (items z)) → IfOk result (λ z. TellsText text given (items z))
text_lines items text given net (Ok z) of_text tells = record { net = net; of_text = of_text; tells = tells }
text_lines items text given net (Err stop) of_text tells = tt

-- ---- sources

pub light_answers : (form : Form) (source : List ℕ) (main : Option (List ℕ)) (written : List ℕ) (net : Netlist) → IsLightNetOf source main net
    → IsWritten form written net → IsSourceAnswer (Write form) source main written
light_answers Blif source main written net light w =
    inl (record { stands = light_blif source main net written light w.means; net = net; light = light; spelled = w.spelled })
light_answers C source main written net light w =
    inl (record { stands = light_c source main net written light w.means; net = net; light = light; spelled = w.spelled })
light_answers Verilog source main written net light w =
    inl (record { stands = light_verilog source main net written light w.means; net = net; light = light; spelled = w.spelled })

cyclic_answers : (form : Form) (source : List ℕ) (main : Option (List ℕ)) (written : List ℕ) (net : Netlist) (cycle : Cycle)
    → StandsForConstructiveNet source main net → HasCycle source main cycle → IsWritten form written net → IsSourceAnswer (Write form) source main written
cyclic_answers Blif source main written net cycle stands has w =
    inr (record { stands = constructive_blif source main net written stands w.means; cycle = cycle; has_cycle = has; net = net; spelled = w.spelled })
cyclic_answers C source main written net cycle stands has w =
    inr (record { stands = constructive_c source main net written stands w.means; cycle = cycle; has_cycle = has; net = net; spelled = w.spelled })
cyclic_answers Verilog source main written net cycle stands has w =
    inr (record { stands = constructive_verilog source main net written stands w.means; cycle = cycle; has_cycle = has; net = net; spelled = w.spelled })

pub constructive_answers : (form : Form) (source : List ℕ) (main : Option (List ℕ)) (written : List ℕ) (net : Netlist)
    → StandsForConstructiveNet source main net → IsConstructiveNetOf Lighter source main net → IsWritten form written net
    → IsSourceAnswer (Write form) source main written
constructive_answers form source main written net stands (inl light) w = light_answers form source main written net light w
constructive_answers form source main written net stands (inr has) w = cyclic_answers form source main written net has.0 stands has.1 w

keeps_constructive : (source : List ℕ) (main : Option (List ℕ)) (net : Netlist) (p : Program) → StandsFor source main p → KeepsGraphLimits p → NetKeeps net p
    → IsConstructible main source
keeps_constructive source main net p stands limits keeps = record {
  program = p;
  stands = stands;
  limits = limits;
  constructive = λ items are. let runs = keeps.runs items are in (runs.0, runs.1);
}

pub constructible : (source : List ℕ) (main : Option (List ℕ)) (net : Netlist) → StandsForConstructiveNet source main net → IsConstructible main source
constructible source main net s = keeps_constructive source main net s.program s.source s.limits s.keeps

pub told_constructible : (source : List ℕ) (main : Option (List ℕ)) (lines : List ℕ) → TellsAny source main lines → IsConstructible main source
told_constructible source main lines (inl tells) =
    let s = tells.light.stands in
    keeps_constructive source main (netlist_of tells.compiled.net) s.program s.source s.compiled.compiles.limits s.compiled.keeps
told_constructible source main lines (inr tells) = constructible source main tells.net tells.stands
