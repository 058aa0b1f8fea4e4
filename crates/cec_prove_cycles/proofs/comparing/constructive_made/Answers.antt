use Rattle.std.proofs.Common.{sym, subst}
use Rattle.std.specs.Prelude.{option_map}
use Rattle.net_ir.specs.Runs.{netlist_of}
use Rattle.cec_compile.specs.declared.forms.TextForm.TheVariants.{Blif}
use Rattle.cec_compile.proofs.Exports.{made_keeps}
use Rattle.cec_cycles.specs.Constructive.{StandsForConstructiveMade}
use Rattle.cec_prove_cycles.proofs.comparing.constructive_made.Goals as goal

pub returns-in-Ok-clause-compiles : goal.returns-in-Ok-clause-compiles
returns-in-Ok-clause-compiles g c =
    let text = c.args.text.now in
    let main = option_map (λ m. m.now) c.args.main in
    let made = c.in-Ok.made in
    let m = c.in-Ok.ensures.made in
    subst (λ p. StandsForConstructiveMade text main p (netlist_of made.net)) (sym m.program) (record {
      source = m.source.source;
      formed = m.source.compiled.formed;
      limits = m.source.compiled.compiles.limits;
      keeps = made_keeps Blif text main made m;
    })
