use Rattle.std.specs.Prelude.{option_map}
use Rattle.net_ir.specs.Runs.{netlist_of}
use Rattle.cec_opt_faults.proofs.Exports.{unmade-source}
use Rattle.cec_opt_embed.specs.Faults.{IsProgramNameFault}
use Rattle.cec_opt_embed.proofs.SourceTexts.{source-fault, source-net}
use Rattle.cec_opt_embed.proofs.sources.embedded_source_net.Goals as goal

pub returns-in-Ok-clause-compiles : goal.returns-in-Ok-clause-compiles
returns-in-Ok-clause-compiles g c =
    source-net c.args.text.now (option_map (λ m. m.now) c.args.main) c.args.name.now (netlist_of c.in-Ok.net) c.named_net.result
    c.in-Ok.ensures.compiles c.in-Ok.ensures.made c.named_net.ensures.named

pub returns-in-Ok-clause-fault : goal.returns-in-Ok-clause-fault
returns-in-Ok-clause-fault g c =
    source-fault c.args.text.now (option_map (λ m. m.now) c.args.main) c.args.name.now (netlist_of c.in-Ok.net) c.named_net.result
    c.in-Ok.ensures.compiles c.named_net.ensures.fault

pub returns-in-Err-clause-fault : goal.returns-in-Err-clause-fault
returns-in-Err-clause-fault g c =
    let main = option_map (λ m. m.now) c.args.main in
    rw c.no_source_net.ensures
    (unmade-source (IsProgramNameFault c.args.text.now main c.args.name.now) c.args.text.now main c.in-Err.refusal c.in-Err.ensures.refuses)
