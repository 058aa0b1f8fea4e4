-- Inner: the text of a net that has one means the net.
use Rattle.std.proofs.Common.{refl}
use Rattle.net_ir.specs.Netlists.{Netlist}
use Rattle.net_ir.specs.Writing.{IsWritable}
use Rattle.vlog_reset.specs.Faults.{IsResettable}
use Rattle.vlog_reset.specs.Options.{ModuleOptions}
use Rattle.vlog_reset.specs.Texts.{Describes}
use Rattle.vlog_reset.specs.Written.{Means, body_text, reset_module, written}
use Rattle.vlog_reset.proofs.NetRuns.{one-run, runs-from, shows-net}
use Rattle.vlog_reset.proofs.NetSound.{sound-net, spelled-net}
use Rattle.vlog_reset.proofs.Spelling.{kinds-module}

describes-net : (o : ModuleOptions) (net : Netlist) → IsWritable net → IsResettable o net → Describes (written o net) (reset_module o net)
describes-net o net is fits = record {
  body = body_text (reset_module o net);
  framed = refl;
  tokens = kinds-module (reset_module o net) (spelled-net o net is fits);
  sound = sound-net o net is fits;
}

pub Means-written : (o : ModuleOptions) (net : Netlist) → IsWritable net → IsResettable o net → Means (written o net) net o
Means-written o net is fits = record {
  verilog = reset_module o net;
  describes = describes-net o net is fits;
  name = refl;
  clock = refl;
  reset = refl;
  manner = refl;
  inputs = refl;
  outputs = refl;
  registers = refl;
  runs = runs-from o net is fits;
  one_run = one-run o net is;
  shows = shows-net o net is;
}
