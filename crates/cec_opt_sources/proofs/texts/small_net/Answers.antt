use Rattle.std.specs.Prelude.{option_map}
use Rattle.cec_opt_sources.proofs.SmallNets.{small_stands}
use Rattle.cec_opt_sources.proofs.texts.small_net.Goals as goal

pub returns-clause-made : goal.returns-clause-made
returns-clause-made g c = record {
  compiled = c.in_ok-compiled.ensures.compiles;
  shares = c.in_ok-compiled.ensures.shares;
  optimizes = c.in_ok-net.ensures.optimizes;
  simple = c.in_ok-net.ensures.simple;
  shown = c.in_ok-net.ensures.shown;
}

pub returns-clause-compiles : goal.returns-clause-compiles
returns-clause-compiles g c =
    small_stands c.args.text.now (option_map (λ m. m.now) c.args.main)
    (record { compiled = c.in_ok-compiled.compiled; net = c.in_ok-net.net }) (returns-clause-made g c)
