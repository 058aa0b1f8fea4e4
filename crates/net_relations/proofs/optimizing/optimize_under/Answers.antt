use Rattle.std.proofs.Common.{◌≡◌, length, map, All, arith, subst}
use Rattle.std.proofs.lemmas.Result.{IfOk-weaker}
use Rattle.base_types.specs.Relations.{relation_of}
use Rattle.net_ir.specs.Runs.{netlist_of}
use Rattle.net_ir.specs.declared.netlist.Net.{Net}
use Rattle.net_opt.specs.Optimized.{Optimizes}
use Rattle.net_relations.specs.Implications.{IsKept, IsStrippedNet}
use Rattle.net_relations.specs.Under.{OptimizesUnder}
use Rattle.net_relations.proofs.Widening.{optimizes-twice, optimizes-under}
use Rattle.net_relations.proofs.optimizing.optimize_under.Goals as goal

pub returns-then-is_empty-clause-optimizes : goal.returns-then-is_empty-clause-optimizes
returns-then-is_empty-clause-optimizes c =
    optimizes-under (map relation_of c.args.relations.now) (netlist_of c.args.net.now) (netlist_of c.in_ok-small.small) c.in_ok-small.ensures.optimizes

pub returns-clause-optimizes : goal.returns-clause-optimizes
returns-clause-optimizes c =
    let relations = map relation_of c.args.relations.now in
    let old = netlist_of c.args.net.now in
    let small = netlist_of c.in_ok-small.small in
    let stripped = netlist_of c.in_ok-stripped.stripped in
    let known = c.in_ok-known.known.items in
    let count : c.len.result ≡ length c.args.net.now.inputs.items = omega (arith, c.len.ensures, c.args.net.now.inputs.ok.0) in
    let kept = subst (λ n. All (IsKept relations n) known) count c.in_ok-known.ensures in
    let less = subst (λ list. IsStrippedNet small list stripped) c.deref.ensures.value c.in_ok-stripped.ensures in
    IfOk-weaker c.optimize-2.result (λ (new : Net). Optimizes stripped (netlist_of new)) (λ (new : Net). OptimizesUnder relations old (netlist_of new))
    (λ (new : Net) (last : Optimizes stripped (netlist_of new)).
    optimizes-twice relations known old small stripped (netlist_of new) c.in_ok-small.small.is_net c.in_ok-small.ensures.optimizes kept less last)
    c.optimize-2.ensures.optimizes
