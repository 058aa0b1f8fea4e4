use Rattle.std.proofs.Common.{subst}
use Rattle.std.specs.Prelude.{option_map}
use Rattle.est_kernel.specs.Plain.{program_of}
use Rattle.net_ir.specs.Runs.{netlist_of}
use Rattle.cec_cycles.specs.Findings.{IsFinding}
use Rattle.cec_cycles.proofs.Refused.{built-made, built-stuck}
use Rattle.cec_cycles.proofs.sources.made_along.Goals as goal

pub returns-in-Ok-Constructive-clause-compiles : goal.returns-in-Ok-Constructive-clause-compiles
returns-in-Ok-Constructive-clause-compiles c =
    let graph = c.in-Ok.graph in
    built-made c.args.text.now (option_map (λ m. m.now) c.args.main) graph (netlist_of c.in-Ok-Constructive.net) c.in-Ok.ensures.built
    (subst (IsFinding (program_of graph.program)) c.in-Ok-Constructive.field-0-is c.in-Ok-Constructive.ensures)

pub returns-in-Ok-NotConstructive-clause-refuses : goal.returns-in-Ok-NotConstructive-clause-refuses
returns-in-Ok-NotConstructive-clause-refuses c =
    let graph = c.in-Ok.graph in
    built-stuck c.args.text.now (option_map (λ m. m.now) c.args.main) graph c.in-Ok-NotConstructive.stuck c.args.cycle c.in-Ok.ensures.built
    (subst (IsFinding (program_of graph.program)) c.in-Ok-NotConstructive.field-0-is c.in-Ok-NotConstructive.ensures) c.requires.cyclic
