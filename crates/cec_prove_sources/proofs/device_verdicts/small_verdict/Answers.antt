use Rattle.std.proofs.Common.{map}
use Rattle.std.proofs.lemmas.Result.{IfOk-weaker}
use Rattle.base_types.specs.Relations.{relation_of}
use Rattle.net_ir.specs.Runs.{netlist_of}
use Rattle.cec_prove_sources.specs.DeviceVerdicts.{IsDeviceVerdict}
use Rattle.cec_prove_sources.specs.NetDevices.{net_device}
use Rattle.cec_prove_sources.specs.Views.{plain_question}
use Rattle.cec_prove_sources.proofs.Rendering.{renders-verdict, small-related, small-renders}
use Rattle.cec_prove_sources.proofs.device_verdicts.small_verdict.Goals as goal

pub device_verdict-requires : goal.device_verdict-requires
device_verdict-requires c =
    let relations = map relation_of c.args.relations.now in
    record { fits = small-related relations (netlist_of c.args.net.now) (netlist_of c.in_ok-small.small) c.in_ok-small.ensures.optimizes c.requires.fits }

pub returns : goal.returns
returns c =
    let relations = map relation_of c.args.relations.now in
    let old = netlist_of c.args.net.now in
    let new = netlist_of c.in_ok-small.small in
    let q = plain_question c.args.question in
    IfOk-weaker c.device_verdict.result (IsDeviceVerdict (net_device relations new) q) (IsDeviceVerdict (net_device relations old) q)
    (renders-verdict (net_device relations new) (net_device relations old) (small-renders relations old new c.in_ok-small.ensures.optimizes) q)
    c.device_verdict.ensures
