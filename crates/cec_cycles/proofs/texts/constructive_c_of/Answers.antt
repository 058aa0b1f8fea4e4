use Rattle.std.specs.Prelude.{option_map}
use Rattle.net_ir.specs.Runs.{netlist_of}
use Rattle.cec_cycles.proofs.Keeping.{constructive_c}
use Rattle.cec_cycles.proofs.texts.constructive_c_of.Goals as goal

pub returns-in-Ok-clause-compiles : goal.returns-in-Ok-clause-compiles
returns-in-Ok-clause-compiles g c =
    constructive_c c.args.text.now (option_map (λ m. m.now) c.args.main) (netlist_of c.in_ok-net.net) c.in-Ok.written.items
    c.in_ok-net.ensures.compiles c.in-Ok.ensures.means
