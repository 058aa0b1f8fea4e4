use Rattle.std.proofs.Common.{subst}
use Rattle.std.proofs.lemmas.Result.{IfOk-weaker}
use Rattle.std.specs.Prelude.{option_map}
use Rattle.est_kernel.specs.Plain.{program_of}
use Rattle.net_ir.specs.Runs.{netlist_of}
use Rattle.cec_compile.specs.Refusals.{IsRefused}
use Rattle.cec_compile.specs.declared.cycles.Cycle.{Cycle}
use Rattle.cec_cycles.specs.Constructive.{HasCycle, StandsForConstructiveMade}
use Rattle.cec_cycles.proofs.sources.cyclic_made.Goals as goal

pub made_along-requires-clause-cyclic : goal.made_along-requires-clause-cyclic
made_along-requires-clause-cyclic c = subst (IsRefused c.args.text.now (option_map (λ m. m.now) c.args.main)) c.in-Cyclic.is c.requires.refused

pub returns-in-Cyclic-clause-cyclic : goal.returns-in-Cyclic-clause-cyclic
returns-in-Cyclic-clause-cyclic c =
    let text = c.args.text.now in
    let main = option_map (λ m. m.now) c.args.main in
    IfOk-weaker c.made_along.result (λ made. StandsForConstructiveMade text main (program_of made.program) (netlist_of made.net))
    (λ made. (cycle : Cycle) × HasCycle text main cycle)
    (λ made stands. (c.in-Cyclic.cycle, subst (IsRefused text main) c.in-Cyclic.is c.requires.refused)) c.made_along.ensures.compiles
