use Rattle.std.proofs.Common.{◌∙◌, ap, map, subst}
use Rattle.base_types.specs.Relations.{relation_of}
use Rattle.net_ir.specs.Runs.{netlist_of}
use Rattle.sat_kernel.specs.Clauses.{plain_assumed}
use Rattle.net_search.specs.Decisions.{IsDecision}
use Rattle.cec_prove_sources.specs.Views.{plain_question}
use Rattle.cec_prove_sources.proofs.NetShows.{device-holds}
use Rattle.cec_prove_sources.proofs.device_findings.device_finding.Goals as goal

pub returns-in-Never : goal.returns-in-Never
returns-in-Never c =
    let net = netlist_of c.args.net.now in
    let asked = c.args.asked in
    device-holds (map relation_of c.args.relations.now) net (plain_question asked.question) asked.place asked.assumed _ _ c.requires.fits c.requires.asks
    (ap plain_assumed c.deref.ensures.value ∙ c.in_ok-allowed.ensures) c.bad_literal-bad.ensures
    (subst (IsDecision net (plain_assumed c.deref.result.now) c.bad_literal-bad.result) c.in-Never.is c.in_ok-decide.ensures)
