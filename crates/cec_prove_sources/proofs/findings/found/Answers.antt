use Rattle.std.proofs.Common.{ap, map}
use Rattle.base_types.specs.Relations.{relation_of}
use Rattle.est_kernel.specs.Plain.{program_of}
use Rattle.net_ir.specs.Runs.{netlist_of}
use Rattle.cec_prove_sources.specs.DeviceFindings.{IsDeviceFinding}
use Rattle.cec_prove_sources.specs.Findings.{IsFinding}
use Rattle.cec_prove_sources.specs.Views.{plain_question}
use Rattle.cec_prove_sources.proofs.Joint.{asks-device, of-program, program-finding, related-as}
use Rattle.cec_prove_sources.proofs.findings.found.Goals as goal

pub device_finding-requires-clause-fits : goal.device_finding-requires-clause-fits
device_finding-requires-clause-fits c =
    related-as (netlist_of c.args.net.now) (program_of c.args.program.now) (map relation_of c.deref.result.now) (ap (map relation_of) c.deref.ensures.value)
    c.requires.fits c.requires.keeps

pub device_finding-requires-clause-asks : goal.device_finding-requires-clause-asks
device_finding-requires-clause-asks c =
    let asked = c.args.asked in
    asks-device (netlist_of c.args.net.now) (program_of c.args.program.now) (map relation_of c.deref.result.now) (plain_question asked.question) asked.place
    asked.assumed c.requires.keeps c.requires.asks

pub returns : goal.returns
returns c =
    let net = netlist_of c.args.net.now in
    let p = program_of c.args.program.now in
    let layout = c.args.asked.layout in
    let q = plain_question c.args.asked.question in
    of-program (λ d. IsDeviceFinding layout d q) (IsFinding layout p q) net (map relation_of c.deref.result.now) p.relations c.device_finding.result
    (ap (map relation_of) c.deref.ensures.value) (program-finding net p c.requires.fits c.requires.keeps layout q) c.device_finding.ensures
