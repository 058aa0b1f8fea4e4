use Rattle.std.specs.Prelude.{option_map}
use Rattle.net_ir.specs.Runs.{netlist_of}
use Rattle.vlog_reset.specs.Views.{options_of}
use Rattle.cec_opt_faults.proofs.Exports.{unmade-source}
use Rattle.cec_opt_reset.specs.Faults.{IsProgramModuleFault}
use Rattle.cec_opt_reset.proofs.SourceTexts.{source-fault, source-text}
use Rattle.cec_opt_reset.proofs.sources.reset_verilog_of.Goals as goal

pub returns-in-Ok-clause-compiles : goal.returns-in-Ok-clause-compiles
returns-in-Ok-clause-compiles g c =
    source-text (λ t. t.items) c.args.text.now (option_map (λ m. m.now) c.args.main) c.args.coding (options_of c.args.options) (netlist_of c.in-Ok.net)
    c.net_text.result c.in-Ok.ensures.compiles c.in-Ok.ensures.made c.net_text.ensures.text c.net_text.ensures.means

pub returns-in-Ok-clause-fault : goal.returns-in-Ok-clause-fault
returns-in-Ok-clause-fault g c =
    source-fault c.args.text.now (option_map (λ m. m.now) c.args.main) c.args.coding (options_of c.args.options) (netlist_of c.in-Ok.net)
    c.net_text.result c.in-Ok.ensures.compiles c.in-Ok.ensures.made c.net_text.ensures.fault

pub returns-in-Err-clause-fault : goal.returns-in-Err-clause-fault
returns-in-Err-clause-fault g c =
    let main = option_map (λ m. m.now) c.args.main in
    rw c.no_source_net.ensures
    (unmade-source (IsProgramModuleFault c.args.text.now main c.args.coding (options_of c.args.options)) c.args.text.now main c.in-Err.refusal
    c.in-Err.ensures.refuses)
