use Rattle.std.proofs.Common.{◌≡◌, IfOk, sym, subst}
use Rattle.std.proofs.lemmas.Result.{IfOk-weaker}
use Rattle.net_ir.specs.Runs.{netlist_of}
use Rattle.csub_guard_blocks.specs.Blocks.{guarded_text}
use Rattle.csub_guard_blocks.specs.Owners.{owners}
use Rattle.csub_guard_writer.specs.Meaning.{GuardedMeans}
use Rattle.csub_guard_writer.specs.Regions.{region_by}
use Rattle.csub_guard_writer.proofs.Means.{means-guarded}
use Rattle.csub_guard_writer.proofs.writer.write_guarded.Goals as goal

written : (c : goal.After-write_blocks) → IfOk c.write_blocks.result
    (λ t. t.items ≡ guarded_text (netlist_of c.args.net.now) (owners (netlist_of c.args.net.now) (region_by (netlist_of c.args.net.now) c.args.regions.now)))
written c =
    let net = netlist_of c.args.net.now in
    subst (λ o. IfOk c.write_blocks.result (λ t. t.items ≡ guarded_text net o)) c.in_ok-owners.ensures.are c.write_blocks.ensures

pub returns-clause-text : goal.returns-clause-text
returns-clause-text c = written c

pub returns-clause-means : goal.returns-clause-means
returns-clause-means c =
    let net = netlist_of c.args.net.now in
    IfOk-weaker c.write_blocks.result
    (λ t. t.items ≡ guarded_text net (owners net (region_by net c.args.regions.now))) (λ t. GuardedMeans t.items net c.args.regions.now)
    (λ t e. subst (λ items. GuardedMeans items net c.args.regions.now) (sym e) (means-guarded net c.look_at_wires.ensures c.args.regions.now)) (written c)
