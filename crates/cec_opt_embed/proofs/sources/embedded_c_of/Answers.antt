use Rattle.std.specs.Prelude.{option_map}
use Rattle.net_ir.specs.Runs.{netlist_of}
use Rattle.cec_opt_embed.proofs.SourceTexts.{source-stands}
use Rattle.cec_opt_embed.proofs.sources.embedded_c_of.Goals as goal

pub returns-clause-compiles : goal.returns-clause-compiles
returns-clause-compiles g c =
    source-stands c.args.text.now (option_map (λ m. m.now) c.args.main) c.args.name.now c.args.layout (netlist_of c.in_ok-net.net)
    c.in_ok-written.written.items c.in_ok-net.ensures.compiles c.in_ok-written.ensures.text c.in_ok-written.ensures.means
