use Rattle.std.proofs.Common.{◌≡◌, subst}
use Rattle.std.specs.Prelude.{option_map}
use Rattle.net_ir.specs.declared.netlist.Net.{Net}
use Rattle.net_ir.specs.Runs.{netlist_of}
use Rattle.blif_text.specs.Written.{Means, written}
use Rattle.cec_opt_sources.proofs.SmallNets.{blif_stands}
use Rattle.cec_opt_sources.proofs.texts.small_blif_of.Goals as goal

pub returns-clause-compiles : goal.returns-clause-compiles
returns-clause-compiles g c =
    blif_stands c.args.text.now (option_map (λ m. m.now) c.args.main) c.in_ok-small.small c.in_ok-written.written.items
    c.in_ok-small.ensures.made
    (subst (λ (n : Net). Means c.in_ok-written.written.items (netlist_of n)) c.net_alone-net.ensures c.in_ok-written.ensures.means)

pub returns-clause-made : goal.returns-clause-made
returns-clause-made g c = record {
  small = c.in_ok-small.small;
  is = c.in_ok-small.ensures.made;
  text = subst (λ (n : Net). c.in_ok-written.written.items ≡ written (netlist_of n)) c.net_alone-net.ensures c.in_ok-written.ensures.text;
}
